-- A column of lists: where each list lies among the elements, and the one layout that its rows fix.
use Rattle.std.specs.Prelude.{◌≡◌, ℕ, ◌+◌, ◌-◌, ◌<◌, ◌≤◌, Bool, false, if◌then◌else◌, List, [], ◌∷◌, ◌++◌, length, take, drop, map, sum}
use Rattle.std.specs.Prelude.{slice_index, slice_index_or, Option, Some, None, is_some}
use Rattle.std.specs.List.{flat_map, range_with_len}
use Rattle.std.specs.Option.{option_map}

-- the parts of a column of lists
pub record ListLayout (X : Type 0) : Type 0 where
  pub offsets : List ℕ
  pub sizes : List ℕ
  pub mask : List Bool
  pub elements : List X

abbrev pub layout : {X : Type 0} → List ℕ → List ℕ → List Bool → List X → ListLayout X
layout offsets sizes mask elements = record { offsets = offsets; sizes = sizes; mask = mask; elements = elements }

-- ---- the rows of a layout

-- one row: the `size` elements from `offset` on where the row is present, else null
abbrev pub list_at : {X : Type 0} → List X → ℕ → ℕ → Bool → Option (List X)
list_at elements offset size present = if present then Some (take size (drop offset elements)) else None

-- a row for each offset with its size and its place in the mask
abbrev pub lists_at : {X : Type 0} → List X → List ℕ → List ℕ → List Bool → List (Option (List X))
lists_at elements [] sizes mask = []
lists_at elements (offset ∷ offsets) [] mask = []
lists_at elements (offset ∷ offsets) (size ∷ sizes) [] = []
lists_at elements (offset ∷ offsets) (size ∷ sizes) (present ∷ mask) =
    list_at elements offset size present ∷ lists_at elements offsets sizes mask

-- the rows that a layout has
abbrev pub rows_of : {X : Type 0} → ListLayout X → List (Option (List X))
rows_of l = lists_at l.elements l.offsets l.sizes l.mask

-- as many sizes and mask entries as offsets, and every row's end, a null row's too, within the elements
pub record IsWellFormed {X : Type 0} (l : ListLayout X) : Type 0 where
  pub sizes_len : length l.sizes ≡ length l.offsets
  pub mask_len : length l.mask ≡ length l.offsets
  pub within : (i : ℕ) → i < length l.offsets → slice_index l.offsets i + slice_index l.sizes i ≤ length l.elements

-- a layout stands for the rows that it has
pub record StandsFor {X : Type 0} (l : ListLayout X) (rows : List (Option (List X))) : Type 0 where
  pub well_formed : IsWellFormed l
  pub same : rows_of l ≡ rows

-- ---- the canonical layout of rows

-- the elements of a row; a null row has none
abbrev pub items_of : {X : Type 0} → Option (List X) → List X
items_of None = []
items_of (Some xs) = xs

-- how many elements a row has, 0 where it is null
abbrev pub size_of : {X : Type 0} → Option (List X) → ℕ
size_of row = length (items_of row)

-- where lists of these sizes start when they lie end to end, the first at `start`
abbrev pub starts_from : ℕ → List ℕ → List ℕ
starts_from start [] = []
starts_from start (size ∷ sizes) = start ∷ starts_from (start + size) sizes

-- the present lists end to end: each row has its own size and starts where the rows before it end
abbrev pub canonical : {X : Type 0} → List (Option (List X)) → ListLayout X
canonical rows = layout (starts_from 0 (map size_of rows)) (map size_of rows) (map is_some rows) (flat_map items_of rows)

-- each row, null rows counted, ends where the next one starts
abbrev pub LieEndToEnd : List ℕ → List ℕ → Type 0
LieEndToEnd offsets sizes =
    (i : ℕ) → i + 1 < length offsets → slice_index offsets i + slice_index sizes i ≡ slice_index offsets (i + 1)

-- the rows start at 0 and are consecutive, null rows have size 0, and no element lies past the last end
pub record IsTidy {X : Type 0} (l : ListLayout X) : Type 0 where
  pub first : slice_index l.offsets 0 ≡ 0
  pub consecutive : LieEndToEnd l.offsets l.sizes
  pub nulls_empty : (i : ℕ) → i < length l.mask → slice_index_or l.mask i false ≡ false → slice_index l.sizes i ≡ 0
  pub none_past : length l.elements ≡ slice_index l.offsets (length l.offsets - 1) + slice_index l.sizes (length l.offsets - 1)

-- ---- rebuilding by positions

-- the sizes of the present rows, and 0 for each null row
abbrev pub valid_sizes : List ℕ → List Bool → List ℕ
valid_sizes [] mask = []
valid_sizes (size ∷ sizes) [] = []
valid_sizes (size ∷ sizes) (present ∷ mask) = (if present then size else 0) ∷ valid_sizes sizes mask

-- how many elements the present rows have in all
abbrev pub valid_total : List ℕ → List Bool → ℕ
valid_total sizes mask = sum (valid_sizes sizes mask)

-- a layout whose elements are the positions of the elements of another
abbrev pub numbered : {X : Type 0} → ListLayout X → ListLayout ℕ
numbered l = layout l.offsets l.sizes l.mask (range_with_len 0 (length l.elements))

-- the positions of each row's elements
abbrev pub position_rows : List ℕ → List ℕ → List Bool → List (Option (List ℕ))
position_rows [] sizes mask = []
position_rows (offset ∷ offsets) [] mask = []
position_rows (offset ∷ offsets) (size ∷ sizes) [] = []
position_rows (offset ∷ offsets) (size ∷ sizes) (present ∷ mask) =
    (if present then Some (range_with_len offset size) else None) ∷ position_rows offsets sizes mask

-- another value in each element's place
abbrev pub map_rows : {X Y : Type 0} → (X → Y) → List (Option (List X)) → List (Option (List Y))
map_rows f rows = map (option_map (map f)) rows

abbrev pub map_layout : {X Y : Type 0} → (X → Y) → ListLayout X → ListLayout Y
map_layout f l = layout l.offsets l.sizes l.mask (map f l.elements)

-- the positions of the elements of lists, one list after another
abbrev pub joined_positions : List ℕ → List ℕ → List ℕ
joined_positions [] sizes = []
joined_positions (offset ∷ offsets) [] = []
joined_positions (offset ∷ offsets) (size ∷ sizes) = range_with_len offset size ++ joined_positions offsets sizes

-- offsets, sizes and positions to take that make the canonical layout of these rows of positions
pub record IsPlan (rows : List (Option (List ℕ))) (offsets sizes positions : List ℕ) : Type 0 where
  pub offsets_are : offsets ≡ (canonical rows).offsets
  pub sizes_are : sizes ≡ (canonical rows).sizes
  pub positions_are : positions ≡ (canonical rows).elements
