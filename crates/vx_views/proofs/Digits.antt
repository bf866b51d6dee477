-- The order of numbers is the bytewise order of their bytes, highest first.
use Rattle.std.proofs.Common.{◌≡◌, ℕ, suc, ◌+◌, ◌*◌, ◌^◌, ◌<◌, ◌≤◌, List, [], ◌∷◌, length, refl, sym, ◌∙◌, ap, arith}
use Rattle.std.proofs.Math.Nat.{mul-le-mul_right, pow-suc}
use Rattle.std.specs.Int.{w32, w64, from_be_bytes}
use Rattle.std.specs.declared.cmp.Ordering.{Ordering}
use Rattle.std.specs.declared.cmp.Ordering.TheVariants.{Less, Equal, Greater}
use Rattle.std.specs.Ordering.{MatchOrdering, ordering_then, nat_cmp}
use Rattle.std.specs.Cmp.{nat_cmp_is}
use Rattle.std.proofs.lemmas.Cmp.{ranked}
use Rattle.vx_views.specs.Order.{bytewise}
use Rattle.vx_views.specs.Views.{AreBytes}
use Rattle.vx_views.proofs.FourBytes.{four, four_is, eight, eight_is}

-- the number whose digits in base 256 are these, the highest first
abbrev pub number_of : List ℕ → ℕ
number_of [] = 0
number_of (x ∷ xs) = x * 256 ^ length xs + number_of xs

-- two numbers of a high digit and a rest below m compare by the digit and then by the rest
ranked_by_parts : (o p : Ordering) (m x y r s : ℕ) → MatchOrdering o (x < y) (x ≡ y) (y < x) → MatchOrdering p (r < s) (r ≡ s) (s < r) → r < m → s < m
    → MatchOrdering (ordering_then o p) (x * m + r < y * m + s) (x * m + r ≡ y * m + s) (y * m + s < x * m + r)
ranked_by_parts Less p m x y r s h k small other = let le : suc x * m ≤ y * m = mul-le-mul_right m h in omega arith
ranked_by_parts Greater p m x y r s h k small other = let le : suc y * m ≤ x * m = mul-le-mul_right m h in omega arith
ranked_by_parts Equal Less m x y r s h k small other = let e : x * m ≡ y * m = ap (λ n. n * m) h in omega arith
ranked_by_parts Equal Equal m x y r s h k small other = let e : x * m ≡ y * m = ap (λ n. n * m) h in omega arith
ranked_by_parts Equal Greater m x y r s h k small other = let e : x * m ≡ y * m = ap (λ n. n * m) h in omega arith

pub compare_by_parts : (m x y r s : ℕ) → r < m → s < m → nat_cmp (x * m + r) (y * m + s) ≡ ordering_then (nat_cmp x y) (nat_cmp r s)
compare_by_parts m x y r s small other =
    sym (nat_cmp_is _ _ _ (ranked_by_parts (nat_cmp x y) (nat_cmp r s) m x y r s (ranked x y _ refl) (ranked r s _ refl) small other))

pub number_of-lt : (xs : List ℕ) → AreBytes xs → number_of xs < 256 ^ length xs
number_of-lt [] h = omega arith
number_of-lt (x ∷ xs) h =
    let rest : number_of xs < 256 ^ length xs = number_of-lt xs (λ (i : ℕ). h (suc i)) in
    let first : x < 256 = h 0 in
    let top : suc x * 256 ^ length xs ≤ 256 * 256 ^ length xs = mul-le-mul_right (256 ^ length xs) first in
    let power : 256 ^ suc (length xs) ≡ 256 ^ length xs * 256 = pow-suc 256 (length xs) in
    rw power (omega arith)

-- numbers of as many digits compare as their digits do
pub compare_digits : (xs ys : List ℕ) → AreBytes xs → AreBytes ys → length xs ≡ length ys → nat_cmp (number_of xs) (number_of ys) ≡ bytewise xs ys
compare_digits [] [] h k e = refl
compare_digits [] (y ∷ ys) h k e = absurd (omega arith)
compare_digits (x ∷ xs) [] h k e = absurd (omega arith)
compare_digits (x ∷ xs) (y ∷ ys) h k e =
    let same : length xs ≡ length ys = omega arith in
    let few : number_of xs < 256 ^ length ys = subst_length same (number_of-lt xs (λ (i : ℕ). h (suc i))) in
    let others : number_of ys < 256 ^ length ys = number_of-lt ys (λ (i : ℕ). k (suc i)) in
    ap (λ n. nat_cmp (x * 256 ^ n + number_of xs) (y * 256 ^ length ys + number_of ys)) same
    ∙ compare_by_parts (256 ^ length ys) x y (number_of xs) (number_of ys) few others
    ∙ ap (ordering_then (nat_cmp x y)) (compare_digits xs ys (λ (i : ℕ). h (suc i)) (λ (i : ℕ). k (suc i)) same)
  where
    subst_length : length xs ≡ length ys → number_of xs < 256 ^ length xs → number_of xs < 256 ^ length ys
    subst_length same small = rw (← same) small

-- words of as many bytes, given that each is the number of its bytes
compare_numbers : (word : List ℕ → ℕ) (n : ℕ) → ((xs : List ℕ) → length xs ≡ n → word xs ≡ number_of xs) → (xs ys : List ℕ) → AreBytes xs → AreBytes ys → length xs ≡ n → length ys ≡ n → nat_cmp (word xs) (word ys) ≡ bytewise xs ys
compare_numbers word n digits xs ys h k e f = ap (λ m. nat_cmp m (word ys)) (digits xs e) ∙ ap (nat_cmp (number_of xs)) (digits ys f) ∙ compare_digits xs ys h k (e ∙ sym f)

four_digits : (xs : List ℕ) → length xs ≡ 4 → from_be_bytes w32 xs ≡ number_of xs
four_digits xs e = let sum : from_be_bytes w32 xs ≡ number_of (four xs) = omega arith in sum ∙ ap number_of (four_is xs e)

eight_digits : (xs : List ℕ) → length xs ≡ 8 → from_be_bytes w64 xs ≡ number_of xs
eight_digits xs e = let sum : from_be_bytes w64 xs ≡ number_of (eight xs) = omega arith in sum ∙ ap number_of (eight_is xs e)

pub compare_four : (xs ys : List ℕ) → AreBytes xs → AreBytes ys → length xs ≡ 4 → length ys ≡ 4 → nat_cmp (from_be_bytes w32 xs) (from_be_bytes w32 ys) ≡ bytewise xs ys
compare_four = compare_numbers (from_be_bytes w32) 4 four_digits

pub compare_eight : (xs ys : List ℕ) → AreBytes xs → AreBytes ys → length xs ≡ 8 → length ys ≡ 8 → nat_cmp (from_be_bytes w64 xs) (from_be_bytes w64 ys) ≡ bytewise xs ys
compare_eight = compare_numbers (from_be_bytes w64) 8 eight_digits
