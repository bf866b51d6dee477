-- The canonical layout has the rows that it was made of.
use Rattle.std.proofs.Common.{◌≡◌, ℕ, zero, suc, ◌+◌, ◌<◌, ◌≤◌, List, [], ◌∷◌, ◌++◌, length, take, drop, map, get_or, sum, Option, Some, None, refl, sym, ◌∙◌, ap, add-zero, zero-add, arith}
use Rattle.std.specs.List.{flat_map}
use Rattle.std.specs.Prelude.{is_some}
use Rattle.std.proofs.lemmas.List.{append_assoc, length-append, length-map, take_at, drop_at}
use Rattle.std.proofs.lemmas.List.Sums.{sum_by-cons}
use Rattle.vx_lists.specs.ListViews.Layout.{lists_at, rows_of, IsWellFormed, StandsFor, items_of, size_of, starts_from, canonical}

pub length-starts_from : (start : ℕ) (sizes : List ℕ) → length (starts_from start sizes) ≡ length sizes
length-starts_from start [] = refl
length-starts_from start (size ∷ sizes) = ap suc (length-starts_from (start + size) sizes)

pub sum-cons : (n : ℕ) (ns : List ℕ) → sum (n ∷ ns) ≡ n + sum ns
sum-cons n ns = sum_by-cons (λ (x : ℕ). x) n ns

-- a list starts after the sizes before it
pub get_or-starts_from : (start : ℕ) (sizes : List ℕ) (i : ℕ) → i < length sizes → get_or (starts_from start sizes) i 0 ≡ start + sum (take i sizes)
get_or-starts_from start [] i inside = absurd (omega arith)
get_or-starts_from start (size ∷ sizes) zero inside = sym (add-zero start)
get_or-starts_from start (size ∷ sizes) (suc i) inside = get_or-starts_from (start + size) sizes i (omega arith) ∙ omega (arith, sum-cons size (take i sizes))

-- and ends within the sum of all sizes
pub starts_from_within : (start : ℕ) (sizes : List ℕ) (i : ℕ) → i < length sizes → get_or (starts_from start sizes) i 0 + get_or sizes i 0 ≤ start + sum sizes
starts_from_within start [] i inside = absurd (omega arith)
starts_from_within start (size ∷ sizes) zero inside = omega (arith, sum-cons size sizes)
starts_from_within start (size ∷ sizes) (suc i) inside = omega (arith, sum-cons size sizes, starts_from_within (start + size) sizes i (omega arith))

pub length-flat_map-items_of : {X : Type 0} (rows : List (Option (List X))) → length (flat_map items_of rows) ≡ sum (map size_of rows)
length-flat_map-items_of [] = refl
length-flat_map-items_of (row ∷ rows) = length-append (items_of row) (flat_map items_of rows) ∙ ap (λ n. size_of row + n) (length-flat_map-items_of rows) ∙ sym (sum-cons (size_of row) (map size_of rows))

-- whatever elements stand in front
lists_at-canonical : {X : Type 0} (front : List X) (rows : List (Option (List X))) → lists_at (front ++ flat_map items_of rows) (starts_from (length front) (map size_of rows)) (map size_of rows) (map is_some rows) ≡ rows
lists_at-canonical front [] = refl
lists_at-canonical front (None ∷ rows) =
    let unmoved = ap (λ start. lists_at (front ++ flat_map items_of rows) (starts_from start (map size_of rows)) (map size_of rows) (map is_some rows)) (add-zero (length front)) in
    ap (λ rest. None ∷ rest) (unmoved ∙ lists_at-canonical front rows)
lists_at-canonical front (Some xs ∷ rows) =
    let regrouped : front ++ (xs ++ flat_map items_of rows) ≡ (front ++ xs) ++ flat_map items_of rows = sym (append_assoc front xs (flat_map items_of rows)) in
    let start_is : length front + length xs ≡ length (front ++ xs) = sym (length-append front xs) in
    let first : take (length xs) (drop (length front) (front ++ (xs ++ flat_map items_of rows))) ≡ xs =
    ap (take (length xs)) (drop_at front (xs ++ flat_map items_of rows) (length front) refl) ∙ take_at xs (flat_map items_of rows) (length xs) refl in
    let rest : lists_at (front ++ (xs ++ flat_map items_of rows)) (starts_from (length front + length xs) (map size_of rows)) (map size_of rows) (map is_some rows) ≡ rows =
    ap (λ elements. lists_at elements (starts_from (length front + length xs) (map size_of rows)) (map size_of rows) (map is_some rows)) regrouped
    ∙ ap (λ start. lists_at ((front ++ xs) ++ flat_map items_of rows) (starts_from start (map size_of rows)) (map size_of rows) (map is_some rows)) start_is
    ∙ lists_at-canonical (front ++ xs) rows in
    cc

pub rows_of-canonical : {X : Type 0} (rows : List (Option (List X))) → rows_of (canonical rows) ≡ rows
rows_of-canonical rows = lists_at-canonical [] rows

pub canonical_well_formed : {X : Type 0} (rows : List (Option (List X))) → IsWellFormed (canonical rows)
canonical_well_formed rows = record {
  sizes_len = sym (length-starts_from 0 (map size_of rows));
  mask_len = length-map rows is_some ∙ sym (length-map rows size_of) ∙ sym (length-starts_from 0 (map size_of rows));
  within = λ i inside. omega (arith, length-flat_map-items_of rows, starts_from_within 0 (map size_of rows) i (omega (arith, length-starts_from 0 (map size_of rows))));
}

pub canonical_stands_for : {X : Type 0} (rows : List (Option (List X))) → StandsFor (canonical rows) rows
canonical_stands_for rows = record { well_formed = canonical_well_formed rows; same = rows_of-canonical rows }

-- so it tells rows apart
pub canonical_injective : {X : Type 0} (rows others : List (Option (List X))) → canonical rows ≡ canonical others → rows ≡ others
canonical_injective rows others same = sym (rows_of-canonical rows) ∙ ap rows_of same ∙ rows_of-canonical others

pub canonical_offset : {X : Type 0} (rows : List (Option (List X))) (i : ℕ) → i < length rows → get_or (canonical rows).offsets i 0 ≡ sum (take i (map size_of rows))
canonical_offset rows i inside = get_or-starts_from 0 (map size_of rows) i (omega (arith, length-map rows size_of)) ∙ zero-add (sum (take i (map size_of rows)))
