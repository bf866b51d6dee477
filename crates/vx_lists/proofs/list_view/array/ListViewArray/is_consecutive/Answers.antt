use Rattle.std.proofs.Common.{◌≡◌, ◌∙◌, ap}
use Rattle.vx_tree.specs.Tree.{primitive, non_nullable}
use Rattle.vx_lists.specs.ListViews.{offsets_of, sizes_of}
use Rattle.vx_lists.proofs.list_view.array.ListViewArray.is_consecutive.Goals as goal

pub returns-in-Some-Some : goal.returns-in-Some-Some
returns-in-Some-Some c =
    let p = c.in-Some-Some in
    let offsets : offsets_of c.args.self.now ≡ primitive p.offset_type p.offsets.now non_nullable = ap offsets_of c.parts-parts.ensures.same ∙ p.ensures in
    let sizes : sizes_of c.args.self.now ≡ primitive p.size_type p.sizes.now non_nullable = ap sizes_of c.parts-parts.ensures.same ∙ p.ensures' in
    rw (offsets, sizes) c.are_number_rows_consecutive.ensures
