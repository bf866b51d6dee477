use Rattle.std.proofs.Common.{inl}
use Rattle.std.proofs.lemmas.Result.{MatchResult-weaker, err_from_is_err_and}
use Rattle.vx_base.specs.DTypes.{dtype_meaning}
use Rattle.vx_tree.specs.Parts.{valid_of}
use Rattle.vx_pack.specs.Pieces.{pieces_rows}
use Rattle.vx_pack.proofs.PackedSteps.{numbers_formed, numbers_packed, numbers_read}
use Rattle.vx_pack.proofs.pack_rows.pack_numbers.Goals as goal

pub returns-in_err-bytes-clause-err : goal.returns-in_err-bytes-clause-err
returns-in_err-bytes-clause-err c =
    let p = err_from_is_err_and c.from_residual.result c.from_residual.ensures.1 in
    rw (p.1, p.2) (inl c.in_err-bytes.ensures)

pub primitive-requires : goal.primitive-requires
primitive-requires c =
    let k = dtype_meaning c.args.dtype.now in
    let bytes = c.in_ok-bytes.bytes in
    let numbers = numbers_read k c.args.ptype c.requires.kind.0 c.args.pieces.now c.args.len bytes c.requires.kind.1 c.requires.pieces
    c.in_ok-bytes.ensures in
    numbers_formed k c.args.ptype (pieces_rows k c.args.pieces.now) bytes (valid_of c.in_ok-validity.validity) numbers
    c.in_ok-validity.ensures

pub returns-clause-ok : goal.returns-clause-ok
returns-clause-ok c =
    let k = dtype_meaning c.args.dtype.now in
    let bytes = c.in_ok-bytes.bytes in
    let numbers = numbers_read k c.args.ptype c.requires.kind.0 c.args.pieces.now c.args.len bytes c.requires.kind.1 c.requires.pieces
    c.in_ok-bytes.ensures in
    MatchResult-weaker c.primitive.result c.primitive.ensures
    (λ a is. numbers_packed k c.args.ptype c.requires.kind.0 (pieces_rows k c.args.pieces.now) bytes
    (valid_of c.in_ok-validity.validity) a c.requires.kind.1
    numbers c.in_ok-validity.ensures is) (λ e m. tt)
