use Rattle.std.proofs.Common.{◌≡◌, length, map, sym, ◌∙◌, ap}
use Rattle.std.proofs.lemmas.List.{length-map}
use Rattle.vx_base.specs.Rows.{whole}
use Rattle.vx_tree.specs.Tree.{bools, non_nullable, by_array}
use Rattle.vx_tree.specs.Meaning.{tree_len, rows, valid_mask}
use Rattle.vx_tree.specs.Operations.{masked}
use Rattle.vx_uses.proofs.reader.nullable_column.Goals as goal

pub returns-clause-rows : goal.returns-clause-rows
returns-clause-rows g c =
    let zs = map g.T.Number.value c.args.numbers in
    let bits = c.into_array.ensures.value ∙ c.in_ok-valid.ensures.parts in
    let fits = c.faultless_validities_fit.ensures (by_array c.into_array.result) (length c.args.numbers) c.in_ok-column.ensures.refuses in
    let count : length zs ≡ length c.args.valid.bits = length-map c.args.numbers g.T.Number.value ∙ sym fits.len ∙ ap tree_len bits in
    let mask : valid_mask (by_array c.into_array.result) (length zs) ≡ c.args.valid.bits =
    ap (λ m. valid_mask (by_array m) (length zs)) bits ∙ ap (valid_mask (by_array (bools c.args.valid.offset c.args.valid.bits non_nullable))) count ∙ c.masks_stand_at_their_places.ensures.bits c.args.valid.offset c.args.valid.bits in
    ap rows c.into_array-2.ensures.value
    ∙ c.rows_of_numbers.ensures.masked g.T.NativePType.PTYPE zs (by_array c.into_array.result) c.in_ok-column.column c.in_ok-column.ensures.parts
    ∙ ap (λ m. masked m (map whole zs)) mask
