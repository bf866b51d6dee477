-- What lies in the runs of a selection.
use Rattle.std.proofs.Common.{ℕ, zero, suc, ◌+◌, ◌-◌, ◌*◌, ◌<◌, ◌≤◌, ◌≡◌, List, [], ◌∷◌, ◌++◌, length, get_or, take, drop, map, refl, sym, ◌∙◌, ap, subst, append-nil, arith}
use Rattle.std.specs.Prelude.{slice_range}
use Rattle.std.specs.List.{All, flat_map, range_with_len}
use Rattle.std.proofs.Math.Nat.{mul-le-mul_right}
use Rattle.std.proofs.lemmas.List.{take-append-drop, drop-take, take-take, drop-drop, get_or-append-add, get_or_append_left, get_or-take, get_or-drop, get_or_default, same_lists, length-append, take_more}
use Rattle.std.proofs.lemmas.List.FromFn.{length-range_with_len, get_or-range_with_len, length-map-range_with_len, get_or-map-range_with_len}
use Rattle.vx_base.proofs.ListParts.{length_part}
use Rattle.std.proofs.lemmas.Grind.{flat_map-append}
use Rattle.vx_base.specs.Selections.{run_positions, list_positions, bytes_of_position}

-- ---- parts that meet

pub parts_meet : {X : Type 0} (xs : List X) (a b c : ℕ) → a ≤ b → b ≤ c → slice_range xs a b ++ slice_range xs b c ≡ slice_range xs a c
parts_meet xs a b c le more =
    let all : c - a ≡ (b - a) + (c - b) = omega arith in
    let place : a + (b - a) ≡ b = omega arith in
    let front : take (b - a) (take (c - a) (drop a xs)) ≡ take (b - a) (drop a xs) = take-take (b - a) (c - a) (drop a xs) (omega arith) in
    let back : drop (b - a) (take (c - a) (drop a xs)) ≡ take (c - b) (drop b xs) = rw all (drop-take (b - a) (c - b) (drop a xs) ∙ ap (take (c - b)) (drop-drop (b - a) a xs ∙ ap (λ n. drop n xs) place)) in
    rw (front, back) at (take-append-drop (b - a) (take (c - a) (drop a xs)))

-- the bytes of a run, number by number, are one part
pub bytes_of_run : (width : ℕ) (bs : List ℕ) (start n : ℕ) → flat_map (bytes_of_position width bs) (range_with_len start n) ≡ slice_range bs (start * width) ((start + n) * width)
bytes_of_run width bs start zero =
    let none : (start + 0) * width - start * width ≡ 0 = omega arith in
    rw none refl
bytes_of_run width bs start (suc n) =
    let seam : start * width + width ≡ (start + 1) * width = omega arith in
    let end : (start + 1 + n) * width ≡ (start + suc n) * width = ap (λ m. m * width) (omega arith) in
    let room : (start + 1) * width ≤ (start + 1 + n) * width = mul-le-mul_right width (omega arith) in
    ap (λ rest. slice_range bs (start * width) (start * width + width) ++ rest) (bytes_of_run width bs (start + 1) n)
    ∙ ap (λ m. slice_range bs (start * width) m ++ slice_range bs ((start + 1) * width) ((start + 1 + n) * width)) seam
    ∙ parts_meet bs (start * width) ((start + 1) * width) ((start + 1 + n) * width) (omega arith) room
    ∙ ap (λ m. slice_range bs (start * width) m) end

-- a part of a list, place by place
pub part_by_places : {X : Type 0} (xs : List X) (d : X) (start end : ℕ) → start ≤ end → end ≤ length xs → slice_range xs start end ≡ map (λ k. get_or xs k d) (range_with_len start (end - start))
part_by_places {X} xs d start end le within = same_lists _ _ (size ∙ sym (length-map-range_with_len (λ k. get_or xs k d) start (end - start))) each
  where
    size : length (slice_range xs start end) ≡ end - start
    size = length_part xs start end le within

    each : (k : ℕ) (e : X) → k < length (slice_range xs start end) → get_or (slice_range xs start end) k e ≡ get_or (map (λ k. get_or xs k d) (range_with_len start (end - start))) k e
    each k e l =
        let small : k < end - start = omega (arith, size) in
        get_or-take (end - start) (drop start xs) k e small ∙ get_or-drop start xs k e ∙ get_or_default xs (start + k) e d (omega arith)
        ∙ sym (get_or-map-range_with_len (λ k. get_or xs k d) start (end - start) k (start + k) e small refl)

-- ---- what holds of each position

pub All-left : {X : Type 0} (P : X → Type 0) (xs ys : List X) → All P (xs ++ ys) → All P xs
All-left P xs ys all = λ k d l. subst P (get_or_append_left xs ys d k l) (all k d (omega (arith, length-append xs ys)))

pub All-right : {X : Type 0} (P : X → Type 0) (xs ys : List X) → All P (xs ++ ys) → All P ys
All-right P xs ys all = λ k d l. subst P (get_or-append-add xs ys k d) (all (length xs + k) d (omega (arith, length-append xs ys)))

-- each run has what all of them have
pub All-run : {X Y : Type 0} (P : Y → Type 0) (f : X → List Y) (xs : List X) (i : ℕ) (d : X) → i < length xs → All P (flat_map f xs) → All P (f (get_or xs i d))
All-run P f [] i d l all = absurd (omega arith)
All-run P f (x ∷ xs) zero d l all = All-left P (f x) (flat_map f xs) all
All-run P f (x ∷ xs) (suc i) d l all = All-run P f xs i d (omega arith) (All-right P (f x) (flat_map f xs) all)

-- and so does each position of a run
pub in_run : (P : ℕ → Type 0) (run : ℕ × ℕ) (k : ℕ) → All P (run_positions run) → run.0 ≤ k → k < run.1 → P k
in_run P run k all low high =
    let inside : k - run.0 < run.1 - run.0 = omega arith in
    let place : run.0 + (k - run.0) ≡ k = omega arith in
    subst P (get_or-range_with_len run.0 (run.1 - run.0) (k - run.0) 0 inside ∙ place) (all (k - run.0) 0 (omega (arith, length-range_with_len run.0 (run.1 - run.0))))

-- ---- one run more

pub runs_more : {X Y : Type 0} (f : X → List Y) (xs : List X) (i : ℕ) (d : X) → i < length xs → flat_map f (take (i + 1) xs) ≡ flat_map f (take i xs) ++ f (get_or xs i d)
runs_more f xs i d l =
    ap (flat_map f) (take_more xs i d l) ∙ flat_map-append f (take i xs) (get_or xs i d ∷ []) ∙ ap (λ ys. flat_map f (take i xs) ++ ys) (append-nil (f (get_or xs i d)))

-- ---- the elements of lists of one size

pub range_append : (a n m : ℕ) → range_with_len a n ++ range_with_len (a + n) m ≡ range_with_len a (n + m)
range_append a zero m =
    let start : a + 0 ≡ a = omega arith in
    let count : 0 + m ≡ m = omega arith in
    rw (start, count) refl
range_append a (suc n) m =
    let start : a + suc n ≡ a + 1 + n = omega arith in
    let count : suc n + m ≡ suc (n + m) = omega arith in
    rw (start, count) (ap (λ ks. a ∷ ks) (range_append (a + 1) n m))

-- those of lists one after another are one run
pub list_positions_of_run : (size start n : ℕ) → flat_map (list_positions size) (range_with_len start n) ≡ range_with_len (start * size) (n * size)
list_positions_of_run size start zero =
    let none : 0 * size ≡ 0 = omega arith in
    rw none refl
list_positions_of_run size start (suc n) =
    let next : (start + 1) * size ≡ start * size + size = omega arith in
    let count : size + n * size ≡ suc n * size = omega arith in
    ap (λ ks. range_with_len (start * size) size ++ ks) (list_positions_of_run size (start + 1) n)
    ∙ ap (λ a. range_with_len (start * size) size ++ range_with_len a (n * size)) next
    ∙ range_append (start * size) size (n * size) ∙ ap (range_with_len (start * size)) count

pub list_run : (size : ℕ) (run : ℕ × ℕ) → run.0 < run.1 → run_positions (run.0 * size, run.1 * size) ≡ flat_map (list_positions size) (run_positions run)
list_run size run l =
    let parts : run.1 ≡ run.0 + (run.1 - run.0) = omega arith in
    let whole : (run.0 + (run.1 - run.0)) * size ≡ run.0 * size + (run.1 - run.0) * size = omega arith in
    let end : run.1 * size ≡ run.0 * size + (run.1 - run.0) * size = ap (λ n. n * size) parts ∙ whole in
    let count : run.1 * size - run.0 * size ≡ (run.1 - run.0) * size = omega arith in
    ap (range_with_len (run.0 * size)) count ∙ sym (list_positions_of_run size run.0 (run.1 - run.0))
