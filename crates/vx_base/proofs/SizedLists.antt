-- The elements of lists of one size.
use Rattle.std.proofs.Common.{ℕ, zero, suc, ◌+◌, ◌-◌, ◌*◌, ◌^◌, ◌<◌, ◌≤◌, ◌≡◌, List, [], ◌∷◌, ◌++◌, length, get_or, sym, ◌∙◌, ap, subst, refl, arith}
use Rattle.std.specs.Prelude.{slice_range}
use Rattle.std.specs.List.{All, flat_map, range_with_len}
use Rattle.std.proofs.lemmas.List.{length-append}
use Rattle.std.proofs.lemmas.List.FromFn.{length-range_with_len}
use Rattle.std.proofs.lemmas.Grind.{flat_map-append}
use Rattle.vx_base.proofs.Runs.{All-left, All-run, in_run, bytes_of_run, list_positions_of_run}
use Rattle.vx_base.specs.Selections.{run_positions, list_positions, bytes_of_position}

-- how many there are
pub lists_long : (k : ℕ) (ps : List ℕ) → length (flat_map (list_positions k) ps) ≡ length ps * k
lists_long k [] = omega arith
lists_long k (p ∷ ps) = omega (arith, length-append (range_with_len (p * k) k) (flat_map (list_positions k) ps), length-range_with_len (p * k) k, lists_long k ps)

-- where there is one, there is a list
pub some_lists : (k : ℕ) (ps : List ℕ) → 0 < length (flat_map (list_positions k) ps) → 0 < length ps
some_lists k [] some = some
some_lists k (p ∷ ps) some = omega arith

-- the elements of a list are a run
pub list_is_run : (n k : ℕ) → run_positions (k * n, k * n + n) ≡ list_positions n k
list_is_run n k =
    let size : k * n + n - k * n ≡ n = omega arith in
    ap (range_with_len (k * n)) size

-- ---- what is picked of each list is one part

picked_twice : {X Y Z : Type 0} (f : Y → List Z) (g : X → List Y) (h : X → List Z) → ((x : X) → flat_map f (g x) ≡ h x) → (xs : List X) → flat_map f (flat_map g xs) ≡ flat_map h xs
picked_twice f g h each [] = refl
picked_twice f g h each (x ∷ xs) =
    flat_map-append f (g x) (flat_map g xs) ∙ ap (λ zs. zs ++ flat_map f (flat_map g xs)) (each x) ∙ ap (λ zs. h x ++ zs) (picked_twice f g h each xs)

-- the elements of elements are those of longer lists
pub lists_of_lists : (m n : ℕ) (ps : List ℕ) → flat_map (list_positions m) (flat_map (list_positions n) ps) ≡ flat_map (list_positions (n * m)) ps
lists_of_lists m n ps = picked_twice (list_positions m) (list_positions n) (list_positions (n * m)) each ps
  where
    each : (k : ℕ) → flat_map (list_positions m) (list_positions n k) ≡ list_positions (n * m) k
    each k =
        let start : k * n * m ≡ k * (n * m) = omega arith in
        list_positions_of_run m (k * n) n ∙ ap (λ a. range_with_len a (n * m)) start

-- the bytes of the numbers of lists are those of longer numbers
pub bytes_of_lists : (width : ℕ) (bs : List ℕ) (n : ℕ) (ps : List ℕ) → flat_map (bytes_of_position width bs) (flat_map (list_positions n) ps) ≡ flat_map (bytes_of_position (n * width) bs) ps
bytes_of_lists width bs n ps = picked_twice (bytes_of_position width bs) (list_positions n) (bytes_of_position (n * width) bs) each ps
  where
    each : (k : ℕ) → flat_map (bytes_of_position width bs) (list_positions n k) ≡ bytes_of_position (n * width) bs k
    each k =
        let start : k * n * width ≡ k * (n * width) = omega arith in
        let end : (k * n + n) * width ≡ k * (n * width) + n * width = omega arith in
        bytes_of_run width bs (k * n) n ∙ ap (λ a. slice_range bs a ((k * n + n) * width)) start ∙ ap (slice_range bs (k * (n * width))) end

-- ---- where each element ends within, so does each list,

list_within : (n w m k : ℕ) → All (λ p. p * w + w ≤ m) (list_positions n k) → k * (n * w) + n * w ≤ m
list_within zero w m k all =
    let none : k * (0 * w) + 0 * w ≡ 0 = omega arith in
    omega arith
list_within (suc n) w m k all =
    let P : ℕ → Type 0 = λ p. p * w + w ≤ m in
    let last : (k * suc n + n) * w + w ≤ m = in_run P (k * suc n, k * suc n + suc n) (k * suc n + n) (subst (All P) (sym (list_is_run (suc n) k)) all) (omega arith) (omega arith) in
    let whole : (k * suc n + n) * w + w ≡ k * (suc n * w) + suc n * w = omega arith in
    omega arith

pub lists_within : (n w m : ℕ) (ps : List ℕ) → All (λ p. p * w + w ≤ m) (flat_map (list_positions n) ps) → All (λ k. k * (n * w) + n * w ≤ m) ps
lists_within n w m ps all = λ i d l. list_within n w m (get_or ps i d) (All-run (λ p. p * w + w ≤ m) (list_positions n) ps i d l all)

-- and a list has no more than all
pub list_fits : (n w m : ℕ) (ps : List ℕ) → All (λ p. p * w + w ≤ m) (flat_map (list_positions n) ps) → 0 < length ps → n * w ≤ m
list_fits n w m ps all some =
    let first : get_or ps 0 0 * (n * w) + n * w ≤ m = lists_within n w m ps all 0 0 some in
    omega arith

pub size_fits : (n w : ℕ) (ps : List ℕ) → All (λ p. p * w + w < 2 ^ 64) (flat_map (list_positions n) ps) → 0 < length (flat_map (list_positions n) ps) → n * w < 2 ^ 64
size_fits n w ps all some =
    let within : All (λ p. p * w + w ≤ 2 ^ 64 - 1) (flat_map (list_positions n) ps) = λ i d l. omega (arith, all i d l) in
    let fits : n * w ≤ 2 ^ 64 - 1 = list_fits n w (2 ^ 64 - 1) ps within (some_lists n ps some) in
    omega arith

-- the end of a list whose elements are below a number is no greater
pub list_below : (n m k : ℕ) → All (λ p. p < m) (list_positions n k) → k * n + n ≤ m
list_below zero m k all =
    let none : k * 0 + 0 ≡ 0 = omega arith in
    omega arith
list_below (suc n) m k all =
    let last : k * suc n + n < m = in_run (λ p. p < m) (k * suc n, k * suc n + suc n) (k * suc n + n) (subst (All (λ p. p < m)) (sym (list_is_run (suc n) k)) all) (omega arith) (omega arith) in
    omega arith

-- and no list is longer than all that there is
pub no_list_longer : (n m : ℕ) (ps : List ℕ) → All (λ p. p < m) (flat_map (list_positions n) ps) → m < n → length ps ≡ 0
no_list_longer n m [] all longer = refl
no_list_longer n m (k ∷ ps) all longer =
    let end = list_below n m k (All-left (λ p. p < m) (list_positions n k) (flat_map (list_positions n) ps) all) in
    absurd (omega (arith, end, longer))
