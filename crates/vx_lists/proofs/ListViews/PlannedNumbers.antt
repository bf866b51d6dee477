-- The numbers of a rebuilt list view fit their types, and its elements are those to take.
use Rattle.std.proofs.Common.{◌≡◌, ℕ, ◌^◌, ◌<◌, ◌≤◌, Bool, true, false, List, [], ◌∷◌, length, map, Option, refl, sym, ◌∙◌, ap, arith}
use Rattle.std.specs.Prelude.{pos, ◌≤ℤ◌, slice_index_or}
use Rattle.std.proofs.lemmas.Int.{ints}
use Rattle.std.proofs.lemmas.List.FromFn.{length-range_with_len}
use Rattle.vx_base.specs.Integers.{Holds, greatest}
use Rattle.vx_base.specs.declared.ptypes.PType.{PType}
use Rattle.vx_base.specs.declared.ptypes.PType.TheVariants.{U8, U16, U32, U64, I8, I16, I32, I64}
use Rattle.vx_lists.specs.ListViews.Layout.{ListLayout, layout, rows_of, IsWellFormed, size_of, canonical, position_rows, valid_sizes, IsPlan}
use Rattle.vx_lists.proofs.ListViews.TidyLayouts.{map-is_some-lists_at, same_layouts}
use Rattle.vx_lists.proofs.ListViews.MappedLayouts.{canonical-position_rows}

-- what a type holds, it holds below too
pub Holds-below : (t : PType) (n total : ℕ) → n ≤ total → pos total ≤ℤ greatest t → Holds t (pos n)
Holds-below U8 n total below fits = (omega (arith, ints), omega (arith, ints))
Holds-below U16 n total below fits = (omega (arith, ints), omega (arith, ints))
Holds-below U32 n total below fits = (omega (arith, ints), omega (arith, ints))
Holds-below U64 n total below fits = (omega (arith, ints), omega (arith, ints))
Holds-below I8 n total below fits = (omega (arith, ints), omega (arith, ints))
Holds-below I16 n total below fits = (omega (arith, ints), omega (arith, ints))
Holds-below I32 n total below fits = (omega (arith, ints), omega (arith, ints))
Holds-below I64 n total below fits = (omega (arith, ints), omega (arith, ints))

-- and fits a usize
pub greatest_small : (p : PType) (n : ℕ) → pos n ≤ℤ greatest p → n < 2 ^ 64
greatest_small U8 n h = omega (arith, ints)
greatest_small U16 n h = omega (arith, ints)
greatest_small U32 n h = omega (arith, ints)
greatest_small U64 n h = omega (arith, ints)
greatest_small I8 n h = omega (arith, ints)
greatest_small I16 n h = omega (arith, ints)
greatest_small I32 n h = omega (arith, ints)
greatest_small I64 n h = omega (arith, ints)

pub map-size_of-position_rows : (offsets sizes : List ℕ) (mask : List Bool) → length sizes ≡ length offsets → length mask ≡ length offsets → map size_of (position_rows offsets sizes mask) ≡ valid_sizes sizes mask
map-size_of-position_rows [] [] mask sizes_len mask_len = refl
map-size_of-position_rows [] (size ∷ sizes) mask sizes_len mask_len = absurd (omega arith)
map-size_of-position_rows (offset ∷ offsets) [] mask sizes_len mask_len = absurd (omega arith)
map-size_of-position_rows (offset ∷ offsets) (size ∷ sizes) [] sizes_len mask_len = absurd (omega arith)
map-size_of-position_rows (offset ∷ offsets) (size ∷ sizes) (true ∷ mask) sizes_len mask_len =
    let first = length-range_with_len offset size in
    let rest = map-size_of-position_rows offsets sizes mask (omega arith) (omega arith) in
    cc
map-size_of-position_rows (offset ∷ offsets) (size ∷ sizes) (false ∷ mask) sizes_len mask_len = ap (λ rest. 0 ∷ rest) (map-size_of-position_rows offsets sizes mask (omega arith) (omega arith))

-- the elements at the positions of a plan make the canonical layout
pub planned_is_canonical : {X : Type 0} (l : ListLayout X) (d : X) (new_offsets new_sizes positions : List ℕ) (new_elements : List X) → IsWellFormed l → IsPlan (position_rows l.offsets l.sizes l.mask) new_offsets new_sizes positions → new_elements ≡ map (λ i. slice_index_or l.elements i d) positions → layout new_offsets new_sizes l.mask new_elements ≡ canonical (rows_of l)
planned_is_canonical l d new_offsets new_sizes positions new_elements well plan taken =
    let rows : List (Option (List ℕ)) = position_rows l.offsets l.sizes l.mask in
    let by_positions = canonical-position_rows l d well in
    let elements : new_elements ≡ (canonical (rows_of l)).elements =
    taken ∙ ap (map (λ i. slice_index_or l.elements i d)) plan.positions_are ∙ sym (ap (λ m. m.elements) by_positions) in
    same_layouts (layout new_offsets new_sizes l.mask new_elements) (canonical (rows_of l))
    (plan.offsets_are ∙ sym (ap (λ m. m.offsets) by_positions))
    (plan.sizes_are ∙ sym (ap (λ m. m.sizes) by_positions))
    (sym (map-is_some-lists_at l.elements l.offsets l.sizes l.mask well.sizes_len well.mask_len))
    elements
