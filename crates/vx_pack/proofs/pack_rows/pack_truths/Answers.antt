use Rattle.std.proofs.Common.{◌∙◌}
use Rattle.std.proofs.lemmas.Result.{MatchResult-weaker}
use Rattle.vx_base.specs.DTypes.{dtype_meaning}
use Rattle.vx_tree.specs.Parts.{valid_of}
use Rattle.vx_pack.specs.Pieces.{pieces_rows}
use Rattle.vx_pack.proofs.PackedSteps.{truths_formed, truths_packed}
use Rattle.vx_pack.proofs.pack_rows.pack_truths.Goals as goal

pub bools-requires : goal.bools-requires
bools-requires c =
    let k = dtype_meaning c.args.dtype.now in
    truths_formed k (pieces_rows k c.args.pieces.now) c.in_ok-bits.bits.bits (valid_of c.in_ok-validity.validity)
    (c.in_ok-bits.ensures.bits ∙ c.in_ok-truth_bits.ensures) c.in_ok-validity.ensures

pub returns-clause-ok : goal.returns-clause-ok
returns-clause-ok c =
    let k = dtype_meaning c.args.dtype.now in
    MatchResult-weaker c.bools.result c.bools.ensures
    (λ a is. truths_packed k c.requires.kind.0 (pieces_rows k c.args.pieces.now) c.in_ok-bits.bits.offset c.in_ok-bits.bits.bits
    (valid_of c.in_ok-validity.validity) a c.requires.kind.1 c.in_ok-bits.ensures.offset
    (c.in_ok-bits.ensures.bits ∙ c.in_ok-truth_bits.ensures) c.in_ok-validity.ensures is) (λ e m. tt)
