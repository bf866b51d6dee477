use Rattle.std.proofs.Common.{◌≡◌, ◌∷◌, [], ◌∙◌, map, true, ap, sym}
use Rattle.vx_base.proofs.Defaults.{dtype_even}
use Rattle.vx_base.specs.Defaults.{is_even}
use Rattle.vx_base.specs.ValueRows.{option_row}
use Rattle.vx_tree.specs.Extents.{rows_extent}
use Rattle.vx_canonical.proofs.Counted.{row_extent}
use Rattle.vx_canonical.proofs.pieces.piece_of_row.Goals as goal

pub returns : goal.returns
returns c =
    let s = c.args.scalar.now in
    let v = c.value.result.now in
    let even : is_even s.kind ≡ true = ap is_even (sym c.dtype.ensures.value) ∙ dtype_even c.dtype.result.now in
    let values = c.in_ok-values.ensures.items ∙ ap (λ w. w ∷ []) c.in_ok-share.ensures in
    (λ i. rows_extent (c.dtype.ensures.value i) (map option_row (values i))) ∙ row_extent s.kind v s.row c.value.ensures even
