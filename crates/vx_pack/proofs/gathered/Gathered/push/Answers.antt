use Rattle.std.proofs.Common.{◌≡◌, ◌∙◌, false, true, sym}
use Rattle.std.proofs.lemmas.List.Elements.{All-append}
use Rattle.vx_base.proofs.Defaults.{default_fits, dtype_even}
use Rattle.vx_base.specs.DTypes.{dtype_meaning}
use Rattle.vx_base.specs.Kinds.{Fits}
use Rattle.vx_base.specs.Rows.{is_present}
use Rattle.vx_pack.specs.Pieces.{piece_rows}
use Rattle.vx_pack.proofs.FittingPieces.{piece_fits}
use Rattle.vx_pack.proofs.GatheredRows.{told_more}
use Rattle.vx_pack.proofs.gathered.Gathered.push.Goals as goal

pub returns-in_ok-push_present : goal.returns-in_ok-push_present
returns-in_ok-push_present c = λ rs h.
    let k = dtype_meaning c.args.dtype.now in
    let more = piece_rows k c.args.piece in
    record {
      values = c.in_ok-push.ensures rs h.values;
      present = λ yes. told_more is_present rs more c.args.self.now.present c.push_present.new.bits (h.present yes) c.in_ok-push_present.ensures;
      fits =
          All-append (Fits k) rs more h.fits (piece_fits k c.args.piece (default_fits k (dtype_even c.args.dtype.now)) c.requires.piece);
    }

pub returns-else-is_nullable : goal.returns-else-is_nullable
returns-else-is_nullable c = λ rs h.
    let k = dtype_meaning c.args.dtype.now in
    let more = piece_rows k c.args.piece in
    record {
      values = c.in_ok-push.ensures rs h.values;
      present = λ yes. let wrong : false ≡ true = sym c.if-is_nullable.false ∙ c.is_nullable.ensures ∙ yes in absurd (cc);
      fits =
          All-append (Fits k) rs more h.fits (piece_fits k c.args.piece (default_fits k (dtype_even c.args.dtype.now)) c.requires.piece);
    }
