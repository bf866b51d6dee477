use Rattle.std.proofs.Common.{◌≡◌, replicate, refl, sym, subst, ◌∙◌, ap}
use Rattle.std.specs.Prelude.{pos, ◌≤ℤ◌}
use Rattle.std.specs.List.{All}
use Rattle.vx_base.specs.Integers.{numbers}
use Rattle.vx_tree.specs.Formed.{WellFormed}
use Rattle.vx_tree.specs.Parts.{tree_of, valid_of}
use Rattle.vx_tree.specs.Tree.{primitive}
use Rattle.vx_lists.specs.ListViews.{counts_in}
use Rattle.vx_lists.proofs.ListViews.CountArrays.{number_bytes_read, counts_read}
use Rattle.vx_lists.proofs.ListViews.CountBytes.{held_are_counts}
use Rattle.vx_lists.proofs.ListViews.RepeatedCounts.{counts_in-repeated}
use Rattle.vx_lists.proofs.list_view.counts.counts_of.Goals as goal

pub read_counts-requires : goal.read_counts-requires
read_counts-requires c =
    let a = c.args.array.now in
    let ptype = c.in-Primitive.ptype in
    let bytes = c.in-Primitive.bytes in
    let validity = valid_of c.in-Primitive.validity in
    let parts : a ≡ primitive ptype bytes validity = sym c.layout.ensures.parts ∙ ap tree_of c.in-Primitive.is in
    let formed : WellFormed (primitive ptype bytes validity) = subst WellFormed (ap tree_of c.in-Primitive.is) c.layout.ensures.formed in
    subst (λ bs. All (λ z. pos 0 ≤ℤ z) (numbers ptype bs)) (sym c.as_slice.ensures.value) (held_are_counts ptype bytes (counts_in a) (number_bytes_read a ptype bytes validity parts formed c.requires))

pub returns-in-Primitive : goal.returns-in-Primitive
returns-in-Primitive c =
    let a = c.args.array.now in
    let ptype = c.in-Primitive.ptype in
    let bytes = c.in-Primitive.bytes in
    let validity = valid_of c.in-Primitive.validity in
    let parts : a ≡ primitive ptype bytes validity = sym c.layout.ensures.parts ∙ ap tree_of c.in-Primitive.is in
    counts_read a ptype bytes validity c.in_ok-read_counts.field-0.items parts c.requires (c.in_ok-read_counts.ensures ∙ ap (numbers ptype) c.as_slice.ensures.value)

pub returns-then-is_repeated : goal.returns-then-is_repeated
returns-then-is_repeated c =
    c.in_ok-vec.ensures.items_if_clones_equal (λ y h. h) ∙ ap (λ n. replicate n c.count_at.result) c.len.ensures
    ∙ counts_in-repeated c.args.array.now c.count_at.result (c.if-is_repeated.ensures.alike refl) c.count_at.ensures.value
