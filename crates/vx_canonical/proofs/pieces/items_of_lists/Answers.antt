use Rattle.std.proofs.Common.{◌≡◌, ◌∙◌, ap, map, sym}
use Rattle.vx_base.specs.DTypes.{dtype_meaning, is_nullable}
use Rattle.vx_base.specs.Kinds.{fixed_lists}
use Rattle.vx_base.specs.ValueRows.{option_row}
use Rattle.vx_tree.specs.Extents.{elements_extent, rows_extent}
use Rattle.vx_canonical.proofs.Counted.{sized_extent}
use Rattle.vx_canonical.proofs.pieces.items_of_lists.Goals as goal

pub returns-in_ok-items_of-in-FixedSizeList : goal.returns-in_ok-items_of-in-FixedSizeList
returns-in_ok-items_of-in-FixedSizeList c =
    let parts = c.in-FixedSizeList in
    let k = dtype_meaning c.deref-in-FixedSizeList.result.now in
    let rs = map option_row c.args.values.now in
    let kind : dtype_meaning c.args.dtype.now ≡ fixed_lists k parts.field-1 (is_nullable parts.field-2) =
    ap dtype_meaning parts.is ∙ ap (λ d. fixed_lists (dtype_meaning d) parts.field-1 (is_nullable parts.field-2)) (sym c.deref-in-FixedSizeList.ensures) in
    ap (rows_extent k) c.in_ok-items_of-in-FixedSizeList.ensures ∙ sized_extent k parts.field-1 rs ∙ sym (ap (λ j. elements_extent (rows_extent j rs)) kind)
