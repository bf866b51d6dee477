-- Valid rows laid end to end, one row after another.
use Rattle.std.proofs.Common.{◌≡◌, ◌⊎◌, ⊎_elim, ℕ, zero, suc, ◌+◌, ◌-◌, ◌<◌, ◌≤◌, Bool, true, false, cond, List, [], ◌∷◌, ◌++◌, length, take, replicate, get_or, sum, min, refl, sym, ◌∙◌, ap, zero-add, add-one, arith}
use Rattle.std.specs.Prelude.{count_by}
use Rattle.std.specs.List.{flat_map, range_with_len}
use Rattle.std.proofs.lemmas.List.{append_assoc, append-nil, length-append, length-take, take_all}
use Rattle.std.proofs.lemmas.List.Concat.{flat_map-append}
use Rattle.std.proofs.lemmas.List.FromFn.{length-range_with_len}
use Rattle.std.proofs.lemmas.List.Sums.{sum_by_more, sum_by-take-le, get_or-le-sum_by}
use Rattle.vx_base.proofs.MaskCounts.{all_true_from_count}
use Rattle.vx_base.proofs.Runs.{range_append}
use Rattle.vx_base.specs.Selections.{run_positions}
use Rattle.vx_lists.specs.ListViews.Layout.{items_of, position_rows, joined_positions, starts_from, valid_sizes, valid_total}
use Rattle.vx_lists.proofs.ListViews.CanonicalRows.{sum-cons, get_or-starts_from}

-- ---- the total of the valid sizes

cond_same : (b : Bool) (n : ℕ) → cond b n n ≡ n
cond_same true n = refl
cond_same false n = refl

pub get_or-valid_sizes : (sizes : List ℕ) (mask : List Bool) (i : ℕ) → get_or (valid_sizes sizes mask) i 0 ≡ cond (get_or mask i false) (get_or sizes i 0) 0
get_or-valid_sizes [] mask i = sym (cond_same (get_or mask i false) 0)
get_or-valid_sizes (size ∷ sizes) [] i = refl
get_or-valid_sizes (size ∷ sizes) (present ∷ mask) zero = refl
get_or-valid_sizes (size ∷ sizes) (present ∷ mask) (suc i) = get_or-valid_sizes sizes mask i

pub length-valid_sizes : (sizes : List ℕ) (mask : List Bool) → length mask ≡ length sizes → length (valid_sizes sizes mask) ≡ length sizes
length-valid_sizes [] mask same_len = refl
length-valid_sizes (size ∷ sizes) [] same_len = absurd (omega arith)
length-valid_sizes (size ∷ sizes) (present ∷ mask) same_len = ap suc (length-valid_sizes sizes mask (omega arith))

-- each of them is within their total
pub valid_size-le : (sizes : List ℕ) (mask : List Bool) (i size : ℕ) → length mask ≡ length sizes → i < length sizes → size ≡ get_or (valid_sizes sizes mask) i 0 → size ≤ valid_total sizes mask
valid_size-le sizes mask i size same_len inside here =
    let within : get_or (valid_sizes sizes mask) i 0 ≤ valid_total sizes mask = get_or-le-sum_by (λ (x : ℕ). x) (valid_sizes sizes mask) i 0 (omega (arith, length-valid_sizes sizes mask same_len)) in
    omega arith

-- where no row is null all sizes are valid
valid_sizes-all : (sizes : List ℕ) → valid_sizes sizes (replicate (length sizes) true) ≡ sizes
valid_sizes-all [] = refl
valid_sizes-all (size ∷ sizes) = ap (λ rest. size ∷ rest) (valid_sizes-all sizes)

pub valid_sizes-all_true : (sizes : List ℕ) (mask : List Bool) → count_by (λ b. b) mask ≡ length mask → length mask ≡ length sizes → valid_sizes sizes mask ≡ sizes
valid_sizes-all_true sizes mask counted same_len = ap (valid_sizes sizes) (all_true_from_count mask counted ∙ ap (λ n. replicate n true) same_len) ∙ valid_sizes-all sizes

-- ---- where lists start

starts_more : (sizes : List ℕ) (i at : ℕ) → i < length sizes → at ≡ sum (take i sizes) → at + get_or sizes i 0 ≡ sum (take (i + 1) sizes)
starts_more sizes i at inside at_is = ap (λ n. n + get_or sizes i 0) at_is ∙ sym (sum_by_more (λ (x : ℕ). x) sizes i 0 inside)

sum-take-le : (sizes : List ℕ) (i : ℕ) → sum (take i sizes) ≤ sum sizes
sum-take-le sizes i = sum_by-take-le (λ (x : ℕ). x) sizes i

-- the next list starts where this one ends, within them all
pub next_start : (sizes : List ℕ) (i at : ℕ) → i < length sizes → at ≡ sum (take i sizes) → (at ≡ get_or (starts_from 0 sizes) i 0) × (at ≤ sum sizes) × (at + get_or sizes i 0 ≡ sum (take (i + 1) sizes)) × (at + get_or sizes i 0 ≤ sum sizes)
next_start sizes i at inside at_is =
    let more = starts_more sizes i at inside at_is in
    (at_is ∙ sym (get_or-starts_from 0 sizes i inside ∙ zero-add (sum (take i sizes))), omega (arith, sum-take-le sizes i), more, omega (arith, more, sum-take-le sizes (i + 1)))

-- ---- the positions of the elements of lists

-- those of the valid rows alone
pub joined_positions-valid : (offsets sizes : List ℕ) (mask : List Bool) → flat_map items_of (position_rows offsets sizes mask) ≡ joined_positions offsets (valid_sizes sizes mask)
joined_positions-valid [] sizes mask = refl
joined_positions-valid (offset ∷ offsets) [] mask = refl
joined_positions-valid (offset ∷ offsets) (size ∷ sizes) [] = refl
joined_positions-valid (offset ∷ offsets) (size ∷ sizes) (true ∷ mask) = ap (λ rest. range_with_len offset size ++ rest) (joined_positions-valid offsets sizes mask)
joined_positions-valid (offset ∷ offsets) (size ∷ sizes) (false ∷ mask) = joined_positions-valid offsets sizes mask

pub length-joined_positions : (offsets sizes : List ℕ) → length sizes ≡ length offsets → length (joined_positions offsets sizes) ≡ sum sizes
length-joined_positions [] [] same_len = refl
length-joined_positions [] (size ∷ sizes) same_len = absurd (omega arith)
length-joined_positions (offset ∷ offsets) [] same_len = absurd (omega arith)
length-joined_positions (offset ∷ offsets) (size ∷ sizes) same_len =
    length-append (range_with_len offset size) (joined_positions offsets sizes)
    ∙ omega (arith, length-range_with_len offset size, length-joined_positions offsets sizes (omega arith), sum-cons size sizes)

joined_positions-next : (offsets sizes : List ℕ) (i : ℕ) → length sizes ≡ length offsets → i < length offsets
    → joined_positions (take (suc i) offsets) (take (suc i) sizes) ≡ joined_positions (take i offsets) (take i sizes) ++ range_with_len (get_or offsets i 0) (get_or sizes i 0)
joined_positions-next [] sizes i same_len inside = absurd (omega arith)
joined_positions-next (offset ∷ offsets) [] i same_len inside = absurd (omega arith)
joined_positions-next (offset ∷ offsets) (size ∷ sizes) zero same_len inside = append-nil (range_with_len offset size)
joined_positions-next (offset ∷ offsets) (size ∷ sizes) (suc i) same_len inside =
    ap (λ rest. range_with_len offset size ++ rest) (joined_positions-next offsets sizes i (omega arith) (omega arith))
    ∙ sym (append_assoc (range_with_len offset size) (joined_positions (take i offsets) (take i sizes)) (range_with_len (get_or offsets i 0) (get_or sizes i 0)))

pub joined_positions-more : (offsets sizes : List ℕ) (i : ℕ) → length sizes ≡ length offsets → i < length offsets
    → joined_positions (take (i + 1) offsets) (take (i + 1) sizes) ≡ joined_positions (take i offsets) (take i sizes) ++ range_with_len (get_or offsets i 0) (get_or sizes i 0)
joined_positions-more offsets sizes i same_len inside = rw add-one (joined_positions-next offsets sizes i same_len inside)

-- ---- those that are pushed, and a range that may grow

pub record ArePushed (offsets sizes : List ℕ) (rows : ℕ) (pushed : List ℕ) (start end : ℕ) : Type 0 where
  pub forward : start ≤ end
  pub joined : pushed ++ range_with_len start (end - start) ≡ joined_positions (take rows offsets) (take rows sizes)

module _ (offsets sizes : List ℕ) (i : ℕ) (pushed : List ℕ) (start end : ℕ) (same_len : length sizes ≡ length offsets) (inside : i < length offsets) (so_far : ArePushed offsets sizes i pushed start end) where
  -- a list that begins where the range ends, or has no element, makes it longer
  ArePushed-grown : (end' : ℕ) → end' ≡ end + get_or sizes i 0 → (get_or offsets i 0 ≡ end) ⊎ (get_or sizes i 0 ≡ 0) → ArePushed offsets sizes (i + 1) pushed start end'
  ArePushed-grown end' grown meets =
      let offset : ℕ = get_or offsets i 0 in
      let size : ℕ = get_or sizes i 0 in
      let low : start ≤ end = so_far.forward in
      let here : range_with_len end size ≡ range_with_len offset size = ⊎_elim (λ (at : offset ≡ end). ap (λ k. range_with_len k size) (sym at)) (λ (none : size ≡ 0). ap (range_with_len end) none ∙ sym (ap (range_with_len offset) none)) meets in
      let place : start + (end - start) ≡ end = omega arith in
      let count : end' - start ≡ (end - start) + size = omega arith in
      let longer : range_with_len start (end' - start) ≡ range_with_len start (end - start) ++ range_with_len offset size =
      ap (range_with_len start) count ∙ sym (range_append start (end - start) size) ∙ ap (λ k. range_with_len start (end - start) ++ range_with_len k size) place ∙ ap (λ ps. range_with_len start (end - start) ++ ps) here in
      record {
        forward = omega arith;
        joined = ap (λ ps. pushed ++ ps) longer ∙ sym (append_assoc pushed (range_with_len start (end - start)) (range_with_len offset size))
            ∙ ap (λ ps. ps ++ range_with_len offset size) so_far.joined ∙ sym (joined_positions-more offsets sizes i same_len inside);
      }

  pub ArePushed-grow : (pushed' : List ℕ) (start' end' : ℕ) → pushed' ≡ pushed → start' ≡ start → end' ≡ end + get_or sizes i 0 → (get_or offsets i 0 ≡ end) ⊎ (get_or sizes i 0 ≡ 0) → ArePushed offsets sizes (i + 1) pushed' start' end'
  ArePushed-grow pushed' start' end' same_pushed same_start grown meets = rw (same_pushed, same_start) (ArePushed-grown end' grown meets)

  -- any other begins a range, once that one is pushed
  ArePushed-begun : (pushed' : List ℕ) (end' : ℕ) → pushed' ≡ pushed ++ range_with_len start (end - start) → end' ≡ get_or offsets i 0 + get_or sizes i 0 → ArePushed offsets sizes (i + 1) pushed' (get_or offsets i 0) end'
  ArePushed-begun pushed' end' more end_is =
      let offset : ℕ = get_or offsets i 0 in
      let size : ℕ = get_or sizes i 0 in
      let count : end' - offset ≡ size = omega arith in
      record {
        forward = omega arith;
        joined = ap (λ ps. ps ++ range_with_len offset (end' - offset)) (more ∙ so_far.joined)
            ∙ ap (λ n. joined_positions (take i offsets) (take i sizes) ++ range_with_len offset n) count ∙ sym (joined_positions-more offsets sizes i same_len inside);
      }

  pub ArePushed-next : (pushed' : List ℕ) (start' end' : ℕ) → pushed' ≡ pushed ++ range_with_len start (end - start) → start' ≡ get_or offsets i 0 → end' ≡ get_or offsets i 0 + get_or sizes i 0 → ArePushed offsets sizes (i + 1) pushed' start' end'
  ArePushed-next pushed' start' end' more same_start end_is = rw same_start (ArePushed-begun pushed' end' more end_is)

module _ (offsets sizes : List ℕ) (rows : ℕ) (pushed : List ℕ) (start end : ℕ) (same_len : length sizes ≡ length offsets) (so_far : ArePushed offsets sizes rows pushed start end) where
  -- they are no more than the lists have elements
  pub length-pushed : length pushed + (end - start) ≤ sum sizes
  length-pushed =
      let same : length (take rows sizes) ≡ length (take rows offsets) = length-take rows sizes ∙ ap (min rows) same_len ∙ sym (length-take rows offsets) in
      omega (arith, ap length so_far.joined, length-append pushed (range_with_len start (end - start)), length-range_with_len start (end - start), length-joined_positions (take rows offsets) (take rows sizes) same, sum-take-le sizes rows)

  pub ArePushed-all : length offsets ≤ rows → pushed ++ range_with_len start (end - start) ≡ joined_positions offsets sizes
  ArePushed-all all =
      so_far.joined ∙ ap (λ os. joined_positions os (take rows sizes)) (take_all rows offsets all) ∙ ap (joined_positions offsets) (take_all rows sizes (omega arith))

-- ---- one run of them more

pub runs_push : (runs runs' : List (ℕ × ℕ)) (start end : ℕ) → runs' ≡ runs ++ (start, end) ∷ [] → flat_map run_positions runs' ≡ flat_map run_positions runs ++ range_with_len start (end - start)
runs_push runs runs' start end pushed =
    ap (flat_map run_positions) pushed ∙ flat_map-append run_positions runs ((start, end) ∷ [])
    ∙ ap (λ ps. flat_map run_positions runs ++ ps) (append-nil (range_with_len start (end - start)))
