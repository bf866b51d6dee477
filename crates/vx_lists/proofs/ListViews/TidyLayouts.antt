-- A tidy layout is the canonical one of its rows.
use Rattle.std.proofs.Common.{◌≡◌, ℕ, zero, suc, ◌+◌, ◌-◌, ◌<◌, ◌≤◌, Bool, true, false, List, [], ◌∷◌, ◌++◌, length, take, drop, map, get_or, sum, Option, Some, None, refl, sym, ◌∙◌, ap, zero-add, add-one, arith}
use Rattle.std.specs.List.{flat_map}
use Rattle.std.specs.Prelude.{is_some}
use Rattle.std.proofs.Math.Seq.{take-add}
use Rattle.std.proofs.lemmas.List.{length-take-le, length-drop, drop-drop, take_all}
use Rattle.std.proofs.lemmas.Bool.{false≢true}
use Rattle.vx_lists.specs.ListViews.Layout.{ListLayout, layout, lists_at, rows_of, IsWellFormed, IsTidy, items_of, size_of, starts_from, canonical, valid_sizes, valid_total}
use Rattle.vx_lists.proofs.ListViews.CanonicalRows.{sum-cons, length-starts_from, length-flat_map-items_of}

-- offsets that go on from one another are where lists end to end start
consecutive_starts : (start : ℕ) (offsets sizes : List ℕ) → length sizes ≡ length offsets → (0 < length offsets → get_or offsets 0 0 ≡ start) → ((i : ℕ) → suc i < length offsets → get_or offsets i 0 + get_or sizes i 0 ≡ get_or offsets (suc i) 0) → offsets ≡ starts_from start sizes
consecutive_starts start [] [] same_len first next = refl
consecutive_starts start [] (size ∷ sizes) same_len first next = absurd (omega arith)
consecutive_starts start (offset ∷ offsets) [] same_len first next = absurd (omega arith)
consecutive_starts start (offset ∷ offsets) (size ∷ sizes) same_len first next =
    let here : offset ≡ start = first (omega arith) in
    let rest : offsets ≡ starts_from (start + size) sizes = consecutive_starts (start + size) offsets sizes (omega arith) (λ some. sym (next 0 (omega arith)) ∙ ap (λ n. n + size) here) (λ i inside. next (suc i) (omega arith)) in
    cc

-- where the last of such lists ends
starts_from_end : (start size : ℕ) (sizes : List ℕ) → get_or (starts_from start (size ∷ sizes)) (length sizes) 0 + get_or (size ∷ sizes) (length sizes) 0 ≡ start + sum (size ∷ sizes)
starts_from_end start size [] = omega (arith, sum-cons size [])
starts_from_end start size (next ∷ sizes) = starts_from_end (start + size) next sizes ∙ omega (arith, sum-cons size (next ∷ sizes))

abbrev pub AreNullsEmpty : List ℕ → List Bool → Type 0
AreNullsEmpty sizes mask = (i : ℕ) → i < length mask → get_or mask i false ≡ false → get_or sizes i 0 ≡ 0

module _ {X : Type 0} (elements : List X) where
  pub map-is_some-lists_at : (offsets sizes : List ℕ) (mask : List Bool) → length sizes ≡ length offsets → length mask ≡ length offsets → map is_some (lists_at elements offsets sizes mask) ≡ mask
  map-is_some-lists_at [] sizes [] sizes_len mask_len = refl
  map-is_some-lists_at [] sizes (present ∷ mask) sizes_len mask_len = absurd (omega arith)
  map-is_some-lists_at (offset ∷ offsets) [] mask sizes_len mask_len = absurd (omega arith)
  map-is_some-lists_at (offset ∷ offsets) (size ∷ sizes) [] sizes_len mask_len = absurd (omega arith)
  map-is_some-lists_at (offset ∷ offsets) (size ∷ sizes) (true ∷ mask) sizes_len mask_len = ap (λ rest. true ∷ rest) (map-is_some-lists_at offsets sizes mask (omega arith) (omega arith))
  map-is_some-lists_at (offset ∷ offsets) (size ∷ sizes) (false ∷ mask) sizes_len mask_len = ap (λ rest. false ∷ rest) (map-is_some-lists_at offsets sizes mask (omega arith) (omega arith))

  -- within the elements a present row has its own size
  pub map-size_of-lists_at : (offsets sizes : List ℕ) (mask : List Bool) → length sizes ≡ length offsets → length mask ≡ length offsets → ((i : ℕ) → i < length offsets → get_or offsets i 0 + get_or sizes i 0 ≤ length elements) → map size_of (lists_at elements offsets sizes mask) ≡ valid_sizes sizes mask
  map-size_of-lists_at [] [] mask sizes_len mask_len within = refl
  map-size_of-lists_at [] (size ∷ sizes) mask sizes_len mask_len within = absurd (omega arith)
  map-size_of-lists_at (offset ∷ offsets) [] mask sizes_len mask_len within = absurd (omega arith)
  map-size_of-lists_at (offset ∷ offsets) (size ∷ sizes) [] sizes_len mask_len within = absurd (omega arith)
  map-size_of-lists_at (offset ∷ offsets) (size ∷ sizes) (true ∷ mask) sizes_len mask_len within =
      let fits : offset + size ≤ length elements = within 0 (omega arith) in
      let first : length (take size (drop offset elements)) ≡ size = length-take-le size (drop offset elements) (omega (arith, length-drop offset elements)) in
      let rest = map-size_of-lists_at offsets sizes mask (omega arith) (omega arith) (λ i inside. within (suc i) (omega arith)) in
      cc
  map-size_of-lists_at (offset ∷ offsets) (size ∷ sizes) (false ∷ mask) sizes_len mask_len within =
      ap (λ rest. 0 ∷ rest) (map-size_of-lists_at offsets sizes mask (omega arith) (omega arith) (λ i inside. within (suc i) (omega arith)))

  flat_map-items_of-lists_at : (start : ℕ) (sizes : List ℕ) (mask : List Bool) → length mask ≡ length sizes → AreNullsEmpty sizes mask → flat_map items_of (lists_at elements (starts_from start sizes) sizes mask) ≡ take (sum sizes) (drop start elements)
  flat_map-items_of-lists_at start [] [] same_len nulls = refl
  flat_map-items_of-lists_at start [] (present ∷ mask) same_len nulls = absurd (omega arith)
  flat_map-items_of-lists_at start (size ∷ sizes) [] same_len nulls = absurd (omega arith)
  flat_map-items_of-lists_at start (size ∷ sizes) (true ∷ mask) same_len nulls =
      let rest = flat_map-items_of-lists_at (start + size) sizes mask (omega arith) (λ i inside null. nulls (suc i) (omega arith) null) in
      let whole : take (size + sum sizes) (drop start elements) ≡ take size (drop start elements) ++ take (sum sizes) (drop size (drop start elements)) = take-add size (sum sizes) (drop start elements) in
      let further : drop size (drop start elements) ≡ drop (start + size) elements = drop-drop size start elements in
      let total : sum (size ∷ sizes) ≡ size + sum sizes = sum-cons size sizes in
      cc
  flat_map-items_of-lists_at start (size ∷ sizes) (false ∷ mask) same_len nulls =
      let rest = flat_map-items_of-lists_at (start + size) sizes mask (omega arith) (λ i inside null. nulls (suc i) (omega arith) null) in
      let empty : size ≡ 0 = nulls 0 (omega arith) refl in
      let unmoved : start + size ≡ start = omega arith in
      let total : sum (size ∷ sizes) ≡ sum sizes = omega (arith, sum-cons size sizes) in
      cc

-- where null rows are empty, every size is that of a present row
valid_sizes-empty_nulls : (sizes : List ℕ) (mask : List Bool) → length mask ≡ length sizes → AreNullsEmpty sizes mask → valid_sizes sizes mask ≡ sizes
valid_sizes-empty_nulls [] mask same_len nulls = refl
valid_sizes-empty_nulls (size ∷ sizes) [] same_len nulls = absurd (omega arith)
valid_sizes-empty_nulls (size ∷ sizes) (true ∷ mask) same_len nulls = ap (λ rest. size ∷ rest) (valid_sizes-empty_nulls sizes mask (omega arith) (λ i inside null. nulls (suc i) (omega arith) null))
valid_sizes-empty_nulls (size ∷ sizes) (false ∷ mask) same_len nulls =
    let rest = valid_sizes-empty_nulls sizes mask (omega arith) (λ i inside null. nulls (suc i) (omega arith) null) in
    let empty : size ≡ 0 = nulls 0 (omega arith) refl in
    cc

-- the elements end where the last list does
elements_end : (n : ℕ) (offsets sizes : List ℕ) → offsets ≡ starts_from 0 sizes → n ≡ get_or offsets (length offsets - 1) 0 + get_or sizes (length offsets - 1) 0 → n ≡ sum sizes
elements_end n offsets [] starts none_past = rw starts at none_past
elements_end n offsets (size ∷ sizes) starts none_past =
    let last : length offsets - 1 ≡ length sizes = omega (arith, ap length starts, length-starts_from (0 + size) sizes) in
    none_past ∙ ap (λ k. get_or offsets k 0 + get_or (size ∷ sizes) k 0) last ∙ ap (λ os. get_or os (length sizes) 0 + get_or (size ∷ sizes) (length sizes) 0) starts ∙ starts_from_end 0 size sizes ∙ zero-add (sum (size ∷ sizes))

same_parts : {X : Type 0} {offsets offsets' sizes sizes' : List ℕ} {mask mask' : List Bool} {elements elements' : List X} → offsets ≡ offsets' → sizes ≡ sizes' → mask ≡ mask' → elements ≡ elements' → layout offsets sizes mask elements ≡ layout offsets' sizes' mask' elements'
same_parts offsets_same sizes_same mask_same elements_same = cc

pub same_layouts : {X : Type 0} (l m : ListLayout X) → l.offsets ≡ m.offsets → l.sizes ≡ m.sizes → l.mask ≡ m.mask → l.elements ≡ m.elements → l ≡ m
same_layouts l m offsets_same sizes_same mask_same elements_same = same_parts offsets_same sizes_same mask_same elements_same

pub map-size_of-rows_of : {X : Type 0} (l : ListLayout X) → IsWellFormed l → map size_of (rows_of l) ≡ valid_sizes l.sizes l.mask
map-size_of-rows_of l well = map-size_of-lists_at l.elements l.offsets l.sizes l.mask well.sizes_len well.mask_len well.within

pub canonical_len : {X : Type 0} (l : ListLayout X) → IsWellFormed l → length (canonical (rows_of l)).elements ≡ valid_total l.sizes l.mask
canonical_len l well = length-flat_map-items_of (rows_of l) ∙ ap sum (map-size_of-rows_of l well)

pub tidy_same : {X : Type 0} (l : ListLayout X) → IsWellFormed l → IsTidy l → l ≡ canonical (rows_of l)
tidy_same l well tidy =
    let starts : l.offsets ≡ starts_from 0 l.sizes = consecutive_starts 0 l.offsets l.sizes well.sizes_len (λ _. tidy.first) (λ i inside. let next = tidy.consecutive i (omega arith) in rw add-one at next) in
    let ended : length l.elements ≡ sum l.sizes = elements_end (length l.elements) l.offsets l.sizes starts tidy.none_past in
    let same_len : length l.mask ≡ length l.sizes = well.mask_len ∙ sym well.sizes_len in
    let mask = map-is_some-lists_at l.elements l.offsets l.sizes l.mask well.sizes_len well.mask_len in
    let sizes : l.sizes ≡ map size_of (rows_of l) = sym (map-size_of-rows_of l well ∙ valid_sizes-empty_nulls l.sizes l.mask same_len tidy.nulls_empty) in
    let elements = flat_map-items_of-lists_at l.elements 0 l.sizes l.mask same_len tidy.nulls_empty in
    let whole : take (sum l.sizes) l.elements ≡ l.elements = take_all (sum l.sizes) l.elements (omega arith) in
    let rows : rows_of l ≡ lists_at l.elements (starts_from 0 l.sizes) l.sizes l.mask = ap (λ offsets. lists_at l.elements offsets l.sizes l.mask) starts in
    same_layouts l (canonical (rows_of l))
    (starts ∙ ap (starts_from 0) sizes)
    sizes
    (sym mask)
    (sym whole ∙ sym elements ∙ ap (flat_map items_of) (sym rows))

-- and the canonical one is tidy
starts_from_next : (start : ℕ) (sizes : List ℕ) (i : ℕ) → suc i < length sizes → get_or (starts_from start sizes) i 0 + get_or sizes i 0 ≡ get_or (starts_from start sizes) (suc i) 0
starts_from_next start [] i inside = absurd (omega arith)
starts_from_next start (size ∷ []) i inside = absurd (omega arith)
starts_from_next start (size ∷ next ∷ sizes) zero inside = refl
starts_from_next start (size ∷ next ∷ sizes) (suc i) inside = starts_from_next (start + size) (next ∷ sizes) i (omega arith)

null_size : {X : Type 0} (rows : List (Option (List X))) (i : ℕ) → i < length (map is_some rows) → get_or (map is_some rows) i false ≡ false → get_or (map size_of rows) i 0 ≡ 0
null_size [] i inside null = absurd (omega arith)
null_size (None ∷ rows) zero inside null = refl
null_size (Some xs ∷ rows) zero inside null = absurd (false≢true (sym null))
null_size (None ∷ rows) (suc i) inside null = null_size rows i (omega arith) null
null_size (Some xs ∷ rows) (suc i) inside null = null_size rows i (omega arith) null

last_end : (sizes : List ℕ) → sum sizes ≡ get_or (starts_from 0 sizes) (length (starts_from 0 sizes) - 1) 0 + get_or sizes (length (starts_from 0 sizes) - 1) 0
last_end [] = refl
last_end (size ∷ sizes) =
    let last : length (starts_from 0 (size ∷ sizes)) - 1 ≡ length sizes = omega (arith, length-starts_from 0 (size ∷ sizes)) in
    sym (ap (λ k. get_or (starts_from 0 (size ∷ sizes)) k 0 + get_or (size ∷ sizes) k 0) last ∙ starts_from_end 0 size sizes ∙ zero-add (sum (size ∷ sizes)))

first_start : (sizes : List ℕ) → get_or (starts_from 0 sizes) 0 0 ≡ 0
first_start [] = refl
first_start (size ∷ sizes) = refl

pub canonical_tidy : {X : Type 0} (rows : List (Option (List X))) → IsTidy (canonical rows)
canonical_tidy rows = record {
  first = first_start (map size_of rows);
  consecutive = λ i inside. rw add-one (starts_from_next 0 (map size_of rows) i (omega (arith, length-starts_from 0 (map size_of rows))));
  nulls_empty = λ i inside null. null_size rows i inside null;
  none_past = length-flat_map-items_of rows ∙ last_end (map size_of rows);
}
