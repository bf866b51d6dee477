-- Rows follow a function of the elements, so laying out positions is enough.
use Rattle.std.proofs.Common.{◌≡◌, ℕ, zero, suc, ◌+◌, ◌<◌, ◌≤◌, Bool, true, false, List, [], ◌∷◌, ◌++◌, length, take, drop, map, get_or, Option, Some, None, refl, sym, ◌∙◌, ap, add-zero, zero-add, arith}
use Rattle.std.specs.List.{flat_map, range_with_len}
use Rattle.std.specs.Prelude.{is_some, slice_index_or}
use Rattle.std.proofs.lemmas.List.{length-map, map-append, take-map, drop-map}
use Rattle.std.proofs.lemmas.List.FromFn.{fill_by_all}
use Rattle.vx_lists.specs.ListViews.Layout.{ListLayout, lists_at, rows_of, IsWellFormed, items_of, size_of, starts_from, canonical, map_rows, map_layout, numbered, position_rows}
use Rattle.vx_lists.proofs.ListViews.TidyLayouts.{same_layouts}

-- another value in each element's place
module _ {X Y : Type 0} (f : X → Y) where
  lists_at-map : (elements : List X) (offsets sizes : List ℕ) (mask : List Bool) → lists_at (map f elements) offsets sizes mask ≡ map_rows f (lists_at elements offsets sizes mask)
  lists_at-map elements [] sizes mask = refl
  lists_at-map elements (offset ∷ offsets) [] mask = refl
  lists_at-map elements (offset ∷ offsets) (size ∷ sizes) [] = refl
  lists_at-map elements (offset ∷ offsets) (size ∷ sizes) (true ∷ mask) =
      let first : take size (drop offset (map f elements)) ≡ map f (take size (drop offset elements)) = ap (take size) (drop-map f offset elements) ∙ take-map f size (drop offset elements) in
      let rest = lists_at-map elements offsets sizes mask in
      cc
  lists_at-map elements (offset ∷ offsets) (size ∷ sizes) (false ∷ mask) = ap (λ rest. None ∷ rest) (lists_at-map elements offsets sizes mask)

  sizes-map_rows : (rows : List (Option (List X))) → map size_of (map_rows f rows) ≡ map size_of rows
  sizes-map_rows [] = refl
  sizes-map_rows (None ∷ rows) = ap (λ rest. 0 ∷ rest) (sizes-map_rows rows)
  sizes-map_rows (Some xs ∷ rows) = let first = length-map xs f in let rest = sizes-map_rows rows in cc

  mask-map_rows : (rows : List (Option (List X))) → map is_some (map_rows f rows) ≡ map is_some rows
  mask-map_rows [] = refl
  mask-map_rows (None ∷ rows) = ap (λ rest. false ∷ rest) (mask-map_rows rows)
  mask-map_rows (Some xs ∷ rows) = ap (λ rest. true ∷ rest) (mask-map_rows rows)

  items-map_rows : (rows : List (Option (List X))) → flat_map items_of (map_rows f rows) ≡ map f (flat_map items_of rows)
  items-map_rows [] = refl
  items-map_rows (None ∷ rows) = items-map_rows rows
  items-map_rows (Some xs ∷ rows) = ap (λ rest. map f xs ++ rest) (items-map_rows rows) ∙ sym (map-append f xs (flat_map items_of rows))

  pub canonical-map_rows : (rows : List (Option (List X))) → canonical (map_rows f rows) ≡ map_layout f (canonical rows)
  canonical-map_rows rows = same_layouts (canonical (map_rows f rows)) (map_layout f (canonical rows)) (ap (starts_from 0) (sizes-map_rows rows)) (sizes-map_rows rows) (mask-map_rows rows) (items-map_rows rows)

pub rows_of-map_layout : {X Y : Type 0} (f : X → Y) (l : ListLayout X) → rows_of (map_layout f l) ≡ map_rows f (rows_of l)
rows_of-map_layout f l = lists_at-map f l.elements l.offsets l.sizes l.mask

-- the elements are found at their positions
pub canonical-numbered : {X : Type 0} (l : ListLayout X) (d : X) → canonical (rows_of l) ≡ map_layout (λ i. slice_index_or l.elements i d) (canonical (rows_of (numbered l)))
canonical-numbered l d =
    let all : l.elements ≡ map (λ i. slice_index_or l.elements i d) (range_with_len 0 (length l.elements)) = fill_by_all (λ i. slice_index_or l.elements i d) l.elements (length l.elements) d refl (λ k inside. refl) in
    ap (λ elements. canonical (lists_at elements l.offsets l.sizes l.mask)) all
    ∙ ap canonical (rows_of-map_layout (λ i. slice_index_or l.elements i d) (numbered l))
    ∙ canonical-map_rows (λ i. slice_index_or l.elements i d) (rows_of (numbered l))

-- ---- within the elements, a row's positions are those from its offset on

take-range_with_len : (size first count : ℕ) → size ≤ count → take size (range_with_len first count) ≡ range_with_len first size
take-range_with_len zero first count fits = refl
take-range_with_len (suc size) first zero fits = absurd (omega arith)
take-range_with_len (suc size) first (suc count) fits = ap (λ rest. first ∷ rest) (take-range_with_len size (first + 1) count (omega arith))

pub take-drop-range_with_len : (offset size first count : ℕ) → offset + size ≤ count → take size (drop offset (range_with_len first count)) ≡ range_with_len (first + offset) size
take-drop-range_with_len zero size first count fits = take-range_with_len size first count (omega arith) ∙ ap (λ n. range_with_len n size) (sym (add-zero first))
take-drop-range_with_len (suc offset) size first zero fits = absurd (omega arith)
take-drop-range_with_len (suc offset) size first (suc count) fits =
    let start : first + 1 + offset ≡ first + suc offset = omega arith in
    take-drop-range_with_len offset size (first + 1) count (omega arith) ∙ ap (λ n. range_with_len n size) start

lists_at-range_with_len : (count : ℕ) (offsets sizes : List ℕ) (mask : List Bool) → length sizes ≡ length offsets → length mask ≡ length offsets → ((i : ℕ) → i < length offsets → get_or offsets i 0 + get_or sizes i 0 ≤ count) → lists_at (range_with_len 0 count) offsets sizes mask ≡ position_rows offsets sizes mask
lists_at-range_with_len count [] sizes mask sizes_len mask_len within = refl
lists_at-range_with_len count (offset ∷ offsets) [] mask sizes_len mask_len within = absurd (omega arith)
lists_at-range_with_len count (offset ∷ offsets) (size ∷ sizes) [] sizes_len mask_len within = absurd (omega arith)
lists_at-range_with_len count (offset ∷ offsets) (size ∷ sizes) (true ∷ mask) sizes_len mask_len within =
    let first : take size (drop offset (range_with_len 0 count)) ≡ range_with_len offset size = take-drop-range_with_len offset size 0 count (within 0 (omega arith)) ∙ ap (λ n. range_with_len n size) (zero-add offset) in
    let rest = lists_at-range_with_len count offsets sizes mask (omega arith) (omega arith) (λ i inside. within (suc i) (omega arith)) in
    cc
lists_at-range_with_len count (offset ∷ offsets) (size ∷ sizes) (false ∷ mask) sizes_len mask_len within =
    ap (λ rest. None ∷ rest) (lists_at-range_with_len count offsets sizes mask (omega arith) (omega arith) (λ i inside. within (suc i) (omega arith)))

pub canonical-position_rows : {X : Type 0} (l : ListLayout X) (d : X) → IsWellFormed l → canonical (rows_of l) ≡ map_layout (λ i. slice_index_or l.elements i d) (canonical (position_rows l.offsets l.sizes l.mask))
canonical-position_rows l d well =
    let positions = lists_at-range_with_len (length l.elements) l.offsets l.sizes l.mask well.sizes_len well.mask_len well.within in
    canonical-numbered l d ∙ ap (λ (rows : List (Option (List ℕ))). map_layout (λ i. slice_index_or l.elements i d) (canonical rows)) positions
