use Rattle.std.proofs.Common.{◌≡◌, ◌*◌, length, map, subst, ◌∙◌, ap}
use Rattle.vx_base.specs.Integers.{byte_width, numbers, number_nth}
use Rattle.vx_base.specs.Kinds.{integer_type}
use Rattle.vx_tree.specs.Meaning.{kind_of}
use Rattle.vx_lists.specs.ListViews.CountBytes.{HoldCounts}
use Rattle.vx_lists.specs.ListViews.{counts_in}
use Rattle.vx_lists.proofs.ListViews.RepeatedCounts.{HoldCounts-repeated}
use Rattle.vx_lists.proofs.list_view.counts.repeated_bytes.Goals as goal

pub returns : goal.returns
returns c =
    let a = c.args.array.now in
    let p = c.as_ptype-ptype.result in
    let ptype : p ≡ integer_type (kind_of a) = c.as_ptype-ptype.ensures ∙ ap integer_type c.dtype.ensures in
    let gathered = c.in_ok-gather_numbers.ensures.ok ∙ ap (map (number_nth (numbers p c.as_slice.result.now))) c.repeated-selection.ensures in
    let long = c.in_ok-gather_numbers.ensures.len ∙ ap (λ ps. length ps * byte_width p) c.repeated-selection.ensures in
    subst (λ q. HoldCounts q c.in_ok-gather_numbers.field-0 (counts_in a)) ptype
    (HoldCounts-repeated a c.count_at.result c.requires.alike c.count_at.ensures.value p c.as_slice.result.now c.in_ok-gather_numbers.field-0 c.len.result c.len.ensures
    (ap (numbers p) c.as_slice.ensures.value ∙ c.in_ok-first.ensures.ok) gathered long)
