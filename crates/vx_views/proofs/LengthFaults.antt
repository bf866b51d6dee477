-- The first fault, found row by row.
use Rattle.std.proofs.Common.{◌≡◌, ◌≢◌, ℕ, ℤ, pos, ◌+◌, ◌-◌, ◌<◌, ◌≤◌, Bool, true, false, IsTrue, List, [], ◌∷◌, length, map, get_or, take, sum, if◌then◌else◌, int_lt, nat_le, ◌==◌, Option, Some, None, IsSome, IfNone, IfSome, unsigned_abs, refl, sym, ◌∙◌, ap, arith}
use Rattle.std.specs.Int.{is_negative}
use Rattle.std.proofs.lemmas.Bool.{lt-leb}
use Rattle.std.proofs.lemmas.Bool.Decides.{nat_tests}
use Rattle.std.proofs.lemmas.List.{length-map}
use Rattle.std.proofs.lemmas.List.Sums.{sum_by-take-le}
use Rattle.vx_base.specs.Refusals.{first_fault, negative, value_too_long, lengths_not_exact, falling_offsets}
use Rattle.vx_views.specs.BuildFaults.{last_offset, lengths_of, negative_at, falling_at, too_long_at, sum_fault, first_negative, first_falling, first_too_long}
use Rattle.vx_base.specs.Integers.{number_nth}
use Rattle.vx_views.proofs.CutOpen.{sum_more}
use Rattle.vx_base.proofs.FirstFaults.{first_fault-none_at}
use Rattle.vx_views.proofs.FirstFaults.{first_fault-here, if-some}
use Rattle.vx_views.proofs.NoFaults.{length_at, length-lengths_of, number_of_item}

pub first_negative-here : (numbers : List ℤ) (k : ℕ) → first_fault (negative_at numbers) k ≡ None → IsTrue (is_negative (number_nth numbers k)) → k < length numbers → first_negative numbers ≡ Some (negative k)
first_negative-here numbers k before below h =
    first_fault-here (negative_at numbers) (length numbers) k (Some (negative k)) before (ap (λ b. if b then Some (negative k) else None) below) refl h

pub first_falling-here : (offsets : List ℤ) (k : ℕ) → first_fault (falling_at offsets) k ≡ None → int_lt (number_nth offsets k) (number_nth offsets (k - 1)) ≡ true → k < length offsets → first_falling offsets ≡ Some (falling_offsets k)
first_falling-here offsets k before below h =
    first_fault-here (falling_at offsets) (length offsets) k (Some (falling_offsets k)) before (ap (λ b. if b then Some (falling_offsets k) else None) below) refl h

pub first_too_long-here : (limit : ℕ) (numbers : List ℤ) (k n : ℕ) → first_fault (too_long_at limit numbers) k ≡ None → number_nth numbers k ≡ pos n → limit < n → k < length numbers → first_too_long limit numbers ≡ Some (value_too_long k)
first_too_long-here limit numbers k n before is over h =
    first_fault-here (too_long_at limit numbers) (length numbers) k (Some (value_too_long k)) before
    (ap (λ z. if nat_le (unsigned_abs z) limit then None else Some (value_too_long k)) is ∙ ap (λ b. if b then None else Some (value_too_long k)) (lt-leb n limit over)) refl h

not_equal : (m n : ℕ) → m ≢ n → (m == n) ≡ false
not_equal m n h = grind (arith, nat_tests)

pub sum_fault-here : (heap_len : ℕ) (numbers : List ℤ) → sum (lengths_of numbers) ≢ heap_len → sum_fault heap_len numbers ≡ Some lengths_not_exact
sum_fault-here heap_len numbers h = ap (λ b. if b then None else Some lengths_not_exact) (not_equal (sum (lengths_of numbers)) heap_len h)

-- a row whose number is not negative has a length
pub is_length : (numbers : List ℤ) (k : ℕ) (found : Option ℕ) → first_negative numbers ≡ None → k < length numbers → IfNone found (IsTrue (is_negative (number_nth numbers k))) → IsSome found
is_length numbers k (Some n) natural h none = refl
is_length numbers k None natural h none =
    let not_below : is_negative (number_nth numbers k) ≡ false = if-some (is_negative (number_nth numbers k)) (negative k) (first_fault-none_at (negative_at numbers) (length numbers) k natural h) in
    let both : false ≡ true = sym not_below ∙ none in
    absurd (cc)

-- and that is it
pub length_is : (numbers : List ℤ) (k n : ℕ) (found : Option ℕ) → found ≡ Some n → IfSome found (λ m. number_nth numbers k ≡ pos m) → number_nth numbers k ≡ pos n
length_is numbers k n None e some = cc
length_is numbers k n (Some m) e some =
    let same : m ≡ n = cc in
    some ∙ ap pos same

-- the sum goes up by the length of a row
pub sum_next : (numbers : List ℤ) (k n : ℕ) → number_nth numbers k ≡ pos n → k < length numbers → sum (take (k + 1) (lengths_of numbers)) ≡ sum (take k (lengths_of numbers)) + n
sum_next numbers k n is h =
    let k_in : k < length (lengths_of numbers) = omega (arith, length-lengths_of numbers) in
    omega (arith, sum_more (lengths_of numbers) k k_in, length_at numbers k h, ap unsigned_abs is)

pub sum_next-le : (numbers : List ℤ) (k n : ℕ) → number_nth numbers k ≡ pos n → k < length numbers → sum (take k (lengths_of numbers)) + n ≤ sum (lengths_of numbers)
sum_next-le numbers k n is h = omega (arith, sum_next numbers k n is h, sum_by-take-le (λ (x : ℕ). x) (lengths_of numbers) (k + 1))

-- a test on two items is the test on their integers
pub falls-at : {X : Type 0} (value : X → ℤ) (items : List X) (row : ℕ) (x before : X) (z y : ℤ) (falls : Bool) → 0 < row → row < length items → x ≡ get_or items row x → before ≡ get_or items (row - 1) before → z ≡ value x → y ≡ value before → int_lt z y ≡ falls
    → int_lt (number_nth (map value items) row) (number_nth (map value items) (row - 1)) ≡ falls
falls-at value items row x before z y falls some h is_x is_before is_z is_y test =
    ap (λ n. int_lt n (number_nth (map value items) (row - 1))) (number_of_item value items row x z h is_x is_z)
    ∙ ap (int_lt z) (number_of_item value items (row - 1) before y (omega arith) is_before is_y)
    ∙ test

-- the last of the offsets, read as a length
pub last_offset-is : {X : Type 0} (value : X → ℤ) (items : List X) (x : X) (n : ℕ) (found : Option ℕ) → 0 < length items → x ≡ get_or items (length items - 1) x → found ≡ Some n → IfSome found (λ m. value x ≡ pos m) → last_offset (map value items) ≡ n
last_offset-is value items x n found h is_x e some =
    let long : length (map value items) ≡ length items = length-map items value in
    let item : number_nth (map value items) (length items - 1) ≡ value x = number_of_item value items (length items - 1) x (value x) (omega arith) is_x refl in
    ap unsigned_abs (ap (λ k. number_nth (map value items) (k - 1)) long ∙ item ∙ length_is (value x ∷ []) 0 n found e some)
