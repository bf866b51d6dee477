use Rattle.vx_base.proofs.Defaults.{default_fits, dtype_even}
use Rattle.vx_base.specs.DTypes.{dtype_meaning}
use Rattle.vx_pack.specs.Pieces.{pieces_rows}
use Rattle.vx_pack.proofs.FittingPieces.{pieces_fit}
use Rattle.vx_pack.proofs.packed_texts.pack_texts.Goals as goal

pub finished_texts-requires : goal.finished_texts-requires
finished_texts-requires c =
    let k = dtype_meaning c.args.dtype.now in (
      pieces_rows k c.args.pieces.now,
      record {
        kind = c.requires.values;
        fits = pieces_fit k c.args.pieces.now (default_fits k (dtype_even c.args.dtype.now)) c.requires.pieces.each;
        pushed = c.in_ok-texts.ensures;
        valid = c.in_ok-validity.ensures;
      },
    )

pub returns-clause-ok : goal.returns-clause-ok
returns-clause-ok c =
    let k = dtype_meaning c.args.dtype.now in
    c.finished_texts.ensures.ok (pieces_rows k c.args.pieces.now) (record {
      kind = c.requires.values;
      fits = pieces_fit k c.args.pieces.now (default_fits k (dtype_even c.args.dtype.now)) c.requires.pieces.each;
      pushed = c.in_ok-texts.ensures;
      valid = c.in_ok-validity.ensures;
    })

pub returns-clause-err : goal.returns-clause-err
returns-clause-err c =
    let k = dtype_meaning c.args.dtype.now in
    c.finished_texts.ensures.err (pieces_rows k c.args.pieces.now) (record {
      kind = c.requires.values;
      fits = pieces_fit k c.args.pieces.now (default_fits k (dtype_even c.args.dtype.now)) c.requires.pieces.each;
      pushed = c.in_ok-texts.ensures;
      valid = c.in_ok-validity.ensures;
    })
