use Rattle.std.proofs.Common.{◌≡◌, ◌%◌, length, ap, ◌∙◌, arith}
use Rattle.vx_base.specs.Integers.{numbers}
use Rattle.vx_base.specs.declared.ptypes.PType.TheVariants.{U64}
use Rattle.vx_base.proofs.NumberLists.{length_numbers}
use Rattle.vx_base.proofs.Refused.{Gives-weaker}
use Rattle.vx_canonical.proofs.JoinedListViews.{counts_written}
use Rattle.vx_canonical.proofs.layouts.list_view.wide_array.Goals as goal

pub primitive-requires : goal.primitive-requires
primitive-requires c =
    let bytes = c.in_ok-bytes.bytes in
    let whole : length bytes % 8 ≡ 0 = ap (λ bs. length bs % 8) c.in_ok-bytes.ensures ∙ c.requires in
    (tt, omega (arith, whole, length_numbers U64 bytes))

pub returns : goal.returns
returns c = λ counts same.
    Gives-weaker c.primitive.result _ _ (λ a e. counts_written counts c.in_ok-bytes.bytes a e (ap (numbers U64) c.in_ok-bytes.ensures ∙ same)) c.primitive.ensures
