-- The sizes of valid rows, run by run.
use Rattle.std.proofs.Common.{◌≡◌, ℕ, ◌+◌, ◌-◌, ◌*◌, ◌/◌, ◌^◌, ◌<◌, ◌≤◌, Bool, true, false, cond, List, [], ◌∷◌, ◌++◌, length, get_or, map, take, drop, replicate, sum, refl, sym, ◌∙◌, ap, subst, ◌⊎◌, ⊎_elim, inl, inr, zero-add, arith}
use Rattle.std.specs.Prelude.{pos, ◌≤ℤ◌, ◌||◌, slice_range}
use Rattle.std.specs.List.{All, filter, flat_map, range_with_len, sum_by}
use borrow.Rule.Slice.PartMut.{put_mid}
use Rattle.std.proofs.Math.Nat.{mul-le-mul_right, add-mul, div-le_self}
use Rattle.std.proofs.lemmas.Bool.{cases_lt}
use Rattle.std.proofs.lemmas.Slice.{take-put_mid_below, drop-put_mid, between-put_mid}
use Rattle.std.proofs.lemmas.List.{length-map, get_or-map, take-map, drop-map, take_all, take_more, take-append-drop, drop-take, ext_get_or, get_or-drop, get_or-take, length-append, length-replicate, length-take-le, length-drop}
use Rattle.std.proofs.lemmas.List.Elements.{All-from_get_or, All-take, filter_passes}
use Rattle.std.proofs.lemmas.List.Concat.{flat_map-append}
use Rattle.std.proofs.lemmas.List.FromFn.{length-range_with_len, length-map-range_with_len, get_or-map-range_with_len}
use Rattle.std.proofs.lemmas.List.Sums.{sum_by-cons, sum_by-append, sum-map, count_by-le-length}
use Rattle.vx_base.specs.Bits.{bool_at}
use Rattle.vx_base.specs.Integers.{byte_width, number_of, number_at, numbers, greatest, Holds}
use Rattle.vx_base.specs.MaskRuns.{is_in_run, is_in_runs, marked, AreRuns}
use Rattle.vx_base.specs.Selections.{run_positions}
use Rattle.vx_base.specs.Trues.{trues}
use Rattle.vx_base.specs.declared.ptypes.PType.{PType}
use Rattle.vx_base.proofs.ListParts.{length_part}
use Rattle.vx_base.proofs.MaskRuns.{run_in, run_before, run_past, or_true, or_false, is_in_runs-push, bool_at-marked, length-marked, marked-none, marked_from_trues}
use Rattle.vx_base.proofs.NumberLists.{whole, length_numbers, get_numbers, numbers_between, numbers_long}
use Rattle.vx_base.proofs.Runs.{part_by_places, runs_more, All-run, in_run}
use Rattle.vx_base.proofs.TrueRuns.{length_trues}
use Rattle.vx_base.proofs.Zeroes.{zeroes-of_bytes}
use Rattle.vx_lists.specs.ListViews.CountBytes.{count_of, counts_of, AreCountBytes, HoldCounts}
use Rattle.vx_lists.specs.ListViews.Layout.{valid_sizes, valid_total}
use Rattle.vx_lists.proofs.ListViews.PlannedNumbers.{Holds-below}
use Rattle.vx_lists.proofs.ListViews.PlannedRows.{get_or-valid_sizes, length-valid_sizes, valid_size-le}

-- ---- the total of the valid sizes, by the positions of the valid rows

kept_more : {X : Type 0} (f : X → ℕ) (kept : Bool) (x : X) (xs : List X) → sum_by f (cond kept (x ∷ xs) xs) ≡ cond kept (f x) 0 + sum_by f xs
kept_more f true x xs = sum_by-cons f x xs
kept_more f false x xs = omega arith

-- what is kept sums up as all does where the rest counts for nothing
sum_by-kept : {X : Type 0} (f : X → ℕ) (p : X → Bool) (xs : List X) → sum_by f (filter p xs) ≡ sum_by (λ x. cond (p x) (f x) 0) xs
sum_by-kept f p [] = refl
sum_by-kept f p (x ∷ xs) =
    kept_more f (p x) x (filter p xs) ∙ ap (λ n. cond (p x) (f x) 0 + n) (sum_by-kept f p xs) ∙ sym (sum_by-cons (λ y. cond (p y) (f y) 0) x xs)

valid_sizes-by_rows : (sizes : List ℕ) (mask : List Bool) → length mask ≡ length sizes → valid_sizes sizes mask ≡ map (λ k. cond (bool_at mask k) (get_or sizes k 0) 0) (range_with_len 0 (length mask))
valid_sizes-by_rows sizes mask same_len =
    let here : ℕ → ℕ = λ k. cond (bool_at mask k) (get_or sizes k 0) 0 in
    let count : length (valid_sizes sizes mask) ≡ length mask = length-valid_sizes sizes mask same_len ∙ sym same_len in
    ext_get_or 0 (valid_sizes sizes mask) (map here (range_with_len 0 (length mask))) (count ∙ sym (length-map-range_with_len here 0 (length mask))) (λ k l.
    get_or-valid_sizes sizes mask k ∙ sym (get_or-map-range_with_len here 0 (length mask) k k 0 (omega (arith, count)) (zero-add k)))

pub valid_total-by_positions : (sizes : List ℕ) (mask : List Bool) → length mask ≡ length sizes → valid_total sizes mask ≡ sum_by (λ k. get_or sizes k 0) (trues mask)
valid_total-by_positions sizes mask same_len =
    ap sum (valid_sizes-by_rows sizes mask same_len) ∙ sum-map (λ k. cond (bool_at mask k) (get_or sizes k 0) 0) (range_with_len 0 (length mask))
    ∙ sym (sum_by-kept (λ k. get_or sizes k 0) (bool_at mask) (range_with_len 0 (length mask)))

-- ---- the counts of a run

pub counts_of-part : (t : PType) (bs part : List ℕ) (start end : ℕ) → numbers t part ≡ slice_range (numbers t bs) start end → counts_of t part ≡ slice_range (counts_of t bs) start end
counts_of-part t bs part start end same =
    ap (map count_of) same ∙ sym (take-map count_of (end - start) (drop start (numbers t bs))) ∙ ap (take (end - start)) (sym (drop-map count_of start (numbers t bs)))

All-part : {X : Type 0} (P : X → Type 0) (xs : List X) (start end : ℕ) → All P xs → All P (slice_range xs start end)
All-part P xs start end all = All-take P (end - start) (drop start xs) (λ k d l. subst P (sym (get_or-drop start xs k d)) (all (start + k) d (omega (arith, length-drop start xs))))

pub counts_read : (t : PType) (bs part : List ℕ) (start end : ℕ) → numbers t part ≡ slice_range (numbers t bs) start end → AreCountBytes t bs → AreCountBytes t part
counts_read t bs part start end same counts = subst (All (λ z. pos 0 ≤ℤ z)) (sym same) (All-part (λ z. pos 0 ≤ℤ z) (numbers t bs) start end counts)

pub length-counts_part : (t : PType) (bs part : List ℕ) (start end : ℕ) → numbers t part ≡ slice_range (numbers t bs) start end → start ≤ end → end ≤ length (numbers t bs) → length (numbers t part) ≡ end - start
length-counts_part t bs part start end same le within = ap length same ∙ length_part (numbers t bs) start end le within

-- bytes hold at most as many counts as they are
pub counts_few : (t : PType) (bs : List ℕ) → length (numbers t bs) ≤ length bs
counts_few t bs = omega (arith, length_numbers t bs, div-le_self (length bs) (byte_width t))

-- ---- their total, run by run

-- the total of the sizes in these runs, which is bounded by the number of rows
pub record IsRunsTotal (sizes : List ℕ) (runs : List (ℕ × ℕ)) (total : ℕ) : Type 0 where
  pub total_is : total ≡ sum_by (λ k. get_or sizes k 0) (flat_map run_positions runs)
  pub bounded : total ≤ (2 ^ 64 - 1) * length (flat_map run_positions runs)

pub IsRunsTotal-more : (sizes : List ℕ) (runs : List (ℕ × ℕ)) (i start end total here total' : ℕ) → i < length runs → get_or runs i (0, 0) ≡ (start, end) → start ≤ end → end ≤ length sizes → IsRunsTotal sizes (take i runs) total
    → here ≡ sum (slice_range sizes start end) → here ≤ (2 ^ 64 - 1) * (end - start) → total' ≡ total + here → IsRunsTotal sizes (take (i + 1) runs) total'
IsRunsTotal-more sizes runs i start end total here total' inside run_is le within so_far here_is small added =
    let f : ℕ → ℕ = λ k. get_or sizes k 0 in
    let before : List ℕ = flat_map run_positions (take i runs) in
    let more : flat_map run_positions (take (i + 1) runs) ≡ before ++ run_positions (start, end) = runs_more run_positions runs i (0, 0) inside ∙ ap (λ run. before ++ run_positions run) run_is in
    let part : sum (slice_range sizes start end) ≡ sum_by f (run_positions (start, end)) = ap sum (part_by_places sizes 0 start end le within) ∙ sum-map f (run_positions (start, end)) in
    let whole_sum : sum_by f (flat_map run_positions (take (i + 1) runs)) ≡ sum_by f before + sum_by f (run_positions (start, end)) = ap (sum_by f) more ∙ sum_by-append f before (run_positions (start, end)) in
    let rows : length (flat_map run_positions (take (i + 1) runs)) ≡ length before + (end - start) = ap length more ∙ length-append before (run_positions (start, end)) ∙ ap (λ n. length before + n) (length-range_with_len start (end - start)) in
    record {
      total_is = omega (arith, whole_sum, part, so_far.total_is, added, here_is);
      bounded = omega (arith, rows, so_far.bounded, added, small);
    }

-- so many rows lie in the first runs at most
rows_of_runs : (runs : List (ℕ × ℕ)) (i : ℕ) → length (flat_map run_positions (take i runs)) ≤ length (flat_map run_positions runs)
rows_of_runs runs i =
    let parts : flat_map run_positions runs ≡ flat_map run_positions (take i runs) ++ flat_map run_positions (drop i runs) =
    ap (flat_map run_positions) (sym (take-append-drop i runs)) ∙ flat_map-append run_positions (take i runs) (drop i runs) in
    omega (arith, ap length parts, length-append (flat_map run_positions (take i runs)) (flat_map run_positions (drop i runs)))

pub IsRunsTotal-small : (sizes : List ℕ) (mask : List Bool) (runs : List (ℕ × ℕ)) (i total : ℕ) → flat_map run_positions runs ≡ trues mask → IsRunsTotal sizes (take i runs) total → total ≤ (2 ^ 64 - 1) * length mask
IsRunsTotal-small sizes mask runs i total valid so_far =
    omega (arith, so_far.bounded, rows_of_runs runs i, ap length valid, length_trues mask, count_by-le-length (λ b. b) mask)

pub IsRunsTotal-all : (sizes : List ℕ) (mask : List Bool) (runs : List (ℕ × ℕ)) (i total : ℕ) → length mask ≡ length sizes → flat_map run_positions runs ≡ trues mask → length runs ≤ i → IsRunsTotal sizes (take i runs) total → total ≡ valid_total sizes mask
IsRunsTotal-all sizes mask runs i total same_len valid all so_far =
    let f : ℕ → ℕ = λ k. get_or sizes k 0 in
    so_far.total_is ∙ ap (λ rs. sum_by f (flat_map run_positions rs)) (take_all i runs all) ∙ ap (sum_by f) valid ∙ sym (valid_total-by_positions sizes mask same_len)

-- ---- each size in a run is a valid one

true_in_run : (mask : List Bool) (runs : List (ℕ × ℕ)) (i start end k : ℕ) → flat_map run_positions runs ≡ trues mask → i < length runs → get_or runs i (0, 0) ≡ (start, end) → start ≤ k → k < end → bool_at mask k ≡ true
true_in_run mask runs i start end k valid inside run_is low high =
    let P : ℕ → Type 0 = λ k. bool_at mask k ≡ true in
    let each : All P (flat_map run_positions runs) = subst (All P) (sym valid) (filter_passes (bool_at mask) (range_with_len 0 (length mask))) in
    in_run P (start, end) k (subst (λ run. All P (run_positions run)) run_is (All-run P run_positions runs i (0, 0) inside each)) low high

-- so a type that holds their total holds it
pub sizes_held : (t : PType) (sizes : List ℕ) (mask : List Bool) (runs : List (ℕ × ℕ)) (i start end : ℕ) → length mask ≡ length sizes → flat_map run_positions runs ≡ trues mask → i < length runs → get_or runs i (0, 0) ≡ (start, end) → start ≤ end → end ≤ length sizes
    → pos (valid_total sizes mask) ≤ℤ greatest t → All (λ n. Holds t (pos n)) (slice_range sizes start end)
sizes_held t sizes mask runs i start end same_len valid inside run_is le within held = All-from_get_or (λ n. Holds t (pos n)) (slice_range sizes start end) 0 (λ k l.
    let small : k < end - start = omega (arith, length_part sizes start end le within) in
    let part : get_or (slice_range sizes start end) k 0 ≡ get_or sizes (start + k) 0 = get_or-take (end - start) (drop start sizes) k 0 small ∙ get_or-drop start sizes k 0 in
    let true_there : bool_at mask (start + k) ≡ true = true_in_run mask runs i start end (start + k) valid inside run_is (omega arith) (omega arith) in
    let size : get_or (slice_range sizes start end) k 0 ≡ get_or (valid_sizes sizes mask) (start + k) 0 = part ∙ sym (get_or-valid_sizes sizes mask (start + k) ∙ ap (λ b. cond b (get_or sizes (start + k) 0) 0) true_there) in
    Holds-below t (get_or (slice_range sizes start end) k 0) (valid_total sizes mask) (valid_size-le sizes mask (start + k) (get_or (slice_range sizes start end) k 0) same_len (omega arith) size) held)

-- ---- numbers in place of others

module _ (t : PType) (xs ys : List ℕ) (n start end : ℕ) (long : length xs ≡ n * byte_width t) (le : start ≤ end) (within : end ≤ n) (size : length ys ≡ (end - start) * byte_width t) where
  abbrev width : ℕ
  width = byte_width t

  abbrev put : List ℕ
  put = put_mid (start * width) (end * width - start * width) xs ys

  room : start * width ≤ length xs
  room = let low : start * width ≤ n * width = mul-le-mul_right width (omega arith) in omega arith

  span : start * width ≤ end * width
  span = mul-le-mul_right width le

  exact : length ys ≡ end * width - start * width
  exact = size ∙ omega (arith, add-mul start (end - start) width, ap (λ m. m * width) (parts))
    where
      parts : start + (end - start) ≡ end
      parts = omega arith

  end_room : end * width ≤ length xs
  end_room = let low : end * width ≤ n * width = mul-le-mul_right width within in omega arith

  pub length-put : length put ≡ length xs
  length-put =
      let rest : List ℕ = drop (end * width - start * width) (drop (start * width) xs) in
      length-append (take (start * width) xs) (ys ++ rest)
      ∙ omega (arith, exact, span, end_room, room, length-append ys rest, length-take-le (start * width) xs room, length-drop (start * width) xs, length-drop (end * width - start * width) (drop (start * width) xs))

  number_below : (k : ℕ) → k < start → number_at t put k ≡ number_at t xs k
  number_below k l =
      let some : k + 1 ≤ start = omega arith in
      let ends : (k + 1) * width ≤ start * width = mul-le-mul_right width some in
      let front : take (k * width + width) put ≡ take (k * width + width) xs = take-put_mid_below (start * width) (end * width - start * width) xs ys (k * width + width) (omega arith) room in
      ap (number_of t) (sym (drop-take (k * width) width put) ∙ ap (drop (k * width)) front ∙ drop-take (k * width) width xs)

  number_past : (k : ℕ) → end ≤ k → number_at t put k ≡ number_at t xs k
  number_past k l =
      let starts : end * width ≤ k * width = mul-le-mul_right width l in
      let back : drop (k * width) put ≡ drop (k * width) xs = drop-put_mid (start * width) (end * width - start * width) xs ys (k * width) (omega (arith, span, starts)) room exact in
      ap (λ bs. number_of t (take width bs)) back

  numbers_within : slice_range (numbers t put) start end ≡ numbers t ys
  numbers_within =
      sym (numbers_between t put start end le (omega (arith, length-put, end_room)))
      ∙ ap (numbers t) (between-put_mid (start * width) (end * width - start * width) xs ys (end * width) room exact)

  numbers_old : length (numbers t xs) ≡ n
  numbers_old = length_numbers t xs ∙ ap (λ m. m / width) long ∙ whole t n

  numbers_new : length (numbers t put) ≡ n
  numbers_new = length_numbers t put ∙ ap (λ m. m / width) (length-put ∙ long) ∙ whole t n

  number_kept : (k : ℕ) → k < n → (k < start) ⊎ (end ≤ k) → get_or (numbers t put) k (pos 0) ≡ get_or (numbers t xs) k (pos 0)
  number_kept k l out =
      let new : k < length put / width = omega (arith, length_numbers t put, numbers_new) in
      let old : k < length xs / width = omega (arith, length_numbers t xs, numbers_old) in
      get_numbers t put k (pos 0) new ∙ ⊎_elim (number_below k) (number_past k) out ∙ sym (get_numbers t xs k (pos 0) old)

  -- sizes are written over zeroes, run by run
  module _ (sizes : List ℕ) (runs runs' : List (ℕ × ℕ)) (count : n ≡ length sizes) (more : runs' ≡ runs ++ (start, end) ∷ []) (old : HoldCounts t xs (valid_sizes sizes (marked n runs))) (part : HoldCounts t ys (slice_range sizes start end)) where
    marked_sizes : (rs : List (ℕ × ℕ)) (k : ℕ) → k < n → get_or (map pos (valid_sizes sizes (marked n rs))) k (pos 0) ≡ pos (cond (is_in_runs rs k) (get_or sizes k 0) 0)
    marked_sizes rs k l =
        let long_enough : k < length (valid_sizes sizes (marked n rs)) = omega (arith, length-valid_sizes sizes (marked n rs) (length-marked n rs ∙ count)) in
        get_or-map pos (valid_sizes sizes (marked n rs)) k 0 (pos 0) long_enough
        ∙ ap pos (get_or-valid_sizes sizes (marked n rs) k ∙ ap (λ b. cond b (get_or sizes k 0) 0) (bool_at-marked n rs k l))

    in_more : (k : ℕ) → is_in_runs runs' k ≡ (is_in_runs runs k || is_in_run (start, end) k)
    in_more k = ap (λ rs. is_in_runs rs k) more ∙ is_in_runs-push runs (start, end) k

    put_kept : (k : ℕ) → k < n → (k < start) ⊎ (end ≤ k) → is_in_run (start, end) k ≡ false → get_or (numbers t put) k (pos 0) ≡ get_or (map pos (valid_sizes sizes (marked n runs'))) k (pos 0)
    put_kept k l out none =
        let same : is_in_runs runs' k ≡ is_in_runs runs k = in_more k ∙ ap (λ b. is_in_runs runs k || b) none ∙ or_false (is_in_runs runs k) in
        number_kept k l out ∙ ap (λ zs. get_or zs k (pos 0)) old.are ∙ marked_sizes runs k l
        ∙ ap (λ b. pos (cond b (get_or sizes k 0) 0)) (sym same) ∙ sym (marked_sizes runs' k l)

    put_within : (k : ℕ) → k < n → start ≤ k → k < end → get_or (numbers t put) k (pos 0) ≡ get_or (map pos (valid_sizes sizes (marked n runs'))) k (pos 0)
    put_within k l low high =
        let place : start + (k - start) ≡ k = omega arith in
        let small : k - start < end - start = omega arith in
        let here : is_in_runs runs' k ≡ true = in_more k ∙ ap (λ b. is_in_runs runs k || b) (run_in (start, end) k low high) ∙ or_true (is_in_runs runs k) in
        let read : get_or (slice_range (numbers t put) start end) (k - start) (pos 0) ≡ get_or (numbers t put) k (pos 0) =
        get_or-take (end - start) (drop start (numbers t put)) (k - start) (pos 0) small ∙ get_or-drop start (numbers t put) (k - start) (pos 0) ∙ ap (λ m. get_or (numbers t put) m (pos 0)) place in
        let size_is : get_or (slice_range sizes start end) (k - start) 0 ≡ get_or sizes k 0 =
        get_or-take (end - start) (drop start sizes) (k - start) 0 small ∙ get_or-drop start sizes (k - start) 0 ∙ ap (λ m. get_or sizes m 0) place in
        sym read ∙ ap (λ zs. get_or zs (k - start) (pos 0)) (numbers_within ∙ part.are)
        ∙ get_or-map pos (slice_range sizes start end) (k - start) 0 (pos 0) (omega (arith, length_part sizes start end le (omega arith)))
        ∙ ap pos (size_is ∙ ap (λ b. cond b (get_or sizes k 0) 0) (sym here)) ∙ sym (marked_sizes runs' k l)

    put_at : (k : ℕ) → k < n → get_or (numbers t put) k (pos 0) ≡ get_or (map pos (valid_sizes sizes (marked n runs'))) k (pos 0)
    put_at k l = elim (cases_lt k start) [
      | inl below ↦ put_kept k l (inl below) (run_before (start, end) k below)
      | inr low ↦ elim (cases_lt k end) [
        | inl high ↦ put_within k l low high
        | inr past ↦ put_kept k l (inr past) (run_past (start, end) k past)
      ]
    ]

    pub HoldCounts-put : HoldCounts t put (valid_sizes sizes (marked n runs'))
    HoldCounts-put =
        let count_of_sizes : length (valid_sizes sizes (marked n runs')) ≡ n = length-valid_sizes sizes (marked n runs') (length-marked n runs' ∙ count) ∙ sym count in
        record {
          are = ext_get_or (pos 0) (numbers t put) (map pos (valid_sizes sizes (marked n runs'))) (numbers_new ∙ sym (length-map (valid_sizes sizes (marked n runs')) pos ∙ count_of_sizes)) (λ k l. put_at k (omega (arith, numbers_new)));
          whole = length-put ∙ long ∙ ap (λ m. m * width) (sym count_of_sizes);
        }

-- none is written yet
valid_sizes-none : (sizes : List ℕ) → valid_sizes sizes (replicate (length sizes) false) ≡ replicate (length sizes) 0
valid_sizes-none [] = refl
valid_sizes-none (size ∷ sizes) = ap (λ rest. 0 ∷ rest) (valid_sizes-none sizes)

pub HoldCounts-zeroes : (t : PType) (sizes zeroes : List ℕ) (n : ℕ) → n ≡ length sizes → zeroes ≡ replicate {A = ℕ} (n * byte_width t) 0 → HoldCounts t zeroes (valid_sizes sizes (marked n []))
HoldCounts-zeroes t sizes zeroes n count same =
    let none : valid_sizes sizes (marked n []) ≡ replicate n 0 = ap (valid_sizes sizes) (marked-none n ∙ ap (λ m. replicate m false) count) ∙ valid_sizes-none sizes ∙ ap (λ m. replicate m 0) (sym count) in
    record {
      are = zeroes-of_bytes t n (n * byte_width t) zeroes same refl ∙ ap (map pos) (sym none);
      whole = ap length same ∙ length-replicate {A = ℕ} (n * byte_width t) 0 ∙ ap (λ m. m * byte_width t) (sym (ap length none ∙ length-replicate n 0));
    }

-- ---- one run more of the sizes, written over what is so far

module _ (t : PType) (sizes xs : List ℕ) (mask : List Bool) (runs : List (ℕ × ℕ)) (i width : ℕ) (wide : width ≡ byte_width t) (same_len : length mask ≡ length sizes) (are : AreRuns (length mask) runs) (inside : i < length runs) (old : HoldCounts t xs (valid_sizes sizes (marked (length mask) (take i runs)))) where
  abbrev run : ℕ × ℕ
  run = get_or runs i (0, 0)

  long : length xs ≡ length mask * byte_width t
  long = old.whole ∙ ap (λ m. m * byte_width t) (length-valid_sizes sizes (marked (length mask) (take i runs)) (length-marked (length mask) (take i runs) ∙ same_len) ∙ sym same_len)

  ordered : run.0 ≤ run.1
  ordered = let some : run.0 < run.1 = are.filled i (0, 0) inside in omega arith

  end_within : run.1 ≤ length mask
  end_within = are.within i (0, 0) inside

  plain_room : run.1 * byte_width t ≤ length xs
  plain_room = let low : run.1 * byte_width t ≤ length mask * byte_width t = mul-le-mul_right (byte_width t) end_within in omega (arith, long)

  pub run_room : (run.0 * width ≤ run.1 * width) × (run.1 * width ≤ length xs)
  run_room = (mul-le-mul_right width ordered, subst (λ w. run.1 * w ≤ length xs) (sym wide) plain_room)

  pub length-run : length (slice_range xs (run.0 * width) (run.1 * width)) ≡ (run.1 - run.0) * byte_width t
  length-run = subst (λ w. length (slice_range xs (run.0 * w) (run.1 * w)) ≡ (run.1 - run.0) * byte_width t) (sym wide) (numbers_long t xs run.0 run.1 ordered plain_room)

  pub run_put : (ys : List ℕ) → HoldCounts t ys (slice_range sizes run.0 run.1) → HoldCounts t (put_mid (run.0 * width) (run.1 * width - run.0 * width) xs ys) (valid_sizes sizes (marked (length mask) (take (i + 1) runs)))
  run_put ys part =
      let size : length ys ≡ (run.1 - run.0) * byte_width t = part.whole ∙ ap (λ m. m * byte_width t) (length_part sizes run.0 run.1 ordered (omega (arith, end_within, same_len))) in
      let put = HoldCounts-put t xs ys (length mask) run.0 run.1 long ordered end_within size sizes (take i runs) (take (i + 1) runs) same_len (take_more runs i (0, 0) inside) old part in
      subst (λ w. HoldCounts t (put_mid (run.0 * w) (run.1 * w - run.0 * w) xs ys) (valid_sizes sizes (marked (length mask) (take (i + 1) runs)))) (sym wide) put

-- all are written
pub HoldCounts-all : (t : PType) (sizes out : List ℕ) (mask : List Bool) (runs : List (ℕ × ℕ)) (i : ℕ) → AreRuns (length mask) runs → flat_map run_positions runs ≡ trues mask → length runs ≤ i → HoldCounts t out (valid_sizes sizes (marked (length mask) (take i runs))) → HoldCounts t out (valid_sizes sizes mask)
HoldCounts-all t sizes out mask runs i are valid all written =
    subst (λ m. HoldCounts t out (valid_sizes sizes m)) (ap (marked (length mask)) (take_all i runs all) ∙ marked_from_trues mask runs are valid) written
