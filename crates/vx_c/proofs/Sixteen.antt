-- Sixteen bytes are those of the number that they make.
use Rattle.std.proofs.Common.{◌≡◌, ℕ, zero, suc, ◌+◌, ◌*◌, ◌/◌, ◌%◌, ◌<◌, ◌^◌, List, [], ◌∷◌, length, get_or, refl, sym, ◌∙◌, ap, arith}
use Rattle.std.specs.Int.{w128, from_le_bytes, to_le_bytes, bytes_low_first}
use native.Mathlib.Nat.{div-div-eq-div-mul, pow-suc}

-- the number of some bytes, the lowest first
abbrev number : List ℕ → ℕ
number [] = 0
number (b ∷ bs) = b + number bs * 256

-- so many bytes of a number, the lowest first
abbrev bytes : ℕ → ℕ → List ℕ
bytes zero n = []
bytes (suc k) n = n % 256 ∷ bytes k (n / 256)

number-bytes : (bs : List ℕ) → ((i : ℕ) → get_or bs i 0 < 256) → bytes (length bs) (number bs) ≡ bs
number-bytes [] small = refl
number-bytes (b ∷ bs) small =
    let here = small 0 in
    let low : (b + number bs * 256) % 256 ≡ b = omega (arith, here) in
    let high : (b + number bs * 256) / 256 ≡ number bs = omega (arith, here) in
    λ j. low j ∷ (ap (bytes (length bs)) high ∙ number-bytes bs (λ i. small (suc i))) j

read : (bs : List ℕ) → length bs ≡ 16 → from_le_bytes w128 bs ≡ number bs
read [] len = absurd (omega (arith, len))
read (a ∷ []) len = absurd (omega (arith, len))
read (a ∷ b ∷ []) len = absurd (omega (arith, len))
read (a ∷ b ∷ c ∷ []) len = absurd (omega (arith, len))
read (a ∷ b ∷ c ∷ d ∷ []) len = absurd (omega (arith, len))
read (a ∷ b ∷ c ∷ d ∷ e ∷ []) len = absurd (omega (arith, len))
read (a ∷ b ∷ c ∷ d ∷ e ∷ f ∷ []) len = absurd (omega (arith, len))
read (a ∷ b ∷ c ∷ d ∷ e ∷ f ∷ g ∷ []) len = absurd (omega (arith, len))
read (a ∷ b ∷ c ∷ d ∷ e ∷ f ∷ g ∷ h ∷ []) len = absurd (omega (arith, len))
read (a ∷ b ∷ c ∷ d ∷ e ∷ f ∷ g ∷ h ∷ i ∷ []) len = absurd (omega (arith, len))
read (a ∷ b ∷ c ∷ d ∷ e ∷ f ∷ g ∷ h ∷ i ∷ k ∷ []) len = absurd (omega (arith, len))
read (a ∷ b ∷ c ∷ d ∷ e ∷ f ∷ g ∷ h ∷ i ∷ k ∷ l ∷ []) len = absurd (omega (arith, len))
read (a ∷ b ∷ c ∷ d ∷ e ∷ f ∷ g ∷ h ∷ i ∷ k ∷ l ∷ m ∷ []) len = absurd (omega (arith, len))
read (a ∷ b ∷ c ∷ d ∷ e ∷ f ∷ g ∷ h ∷ i ∷ k ∷ l ∷ m ∷ n ∷ []) len = absurd (omega (arith, len))
read (a ∷ b ∷ c ∷ d ∷ e ∷ f ∷ g ∷ h ∷ i ∷ k ∷ l ∷ m ∷ n ∷ o ∷ []) len = absurd (omega (arith, len))
read (a ∷ b ∷ c ∷ d ∷ e ∷ f ∷ g ∷ h ∷ i ∷ k ∷ l ∷ m ∷ n ∷ o ∷ p ∷ []) len = absurd (omega (arith, len))
read (a ∷ b ∷ c ∷ d ∷ e ∷ f ∷ g ∷ h ∷ i ∷ k ∷ l ∷ m ∷ n ∷ o ∷ p ∷ q ∷ []) len = omega arith
read (a ∷ b ∷ c ∷ d ∷ e ∷ f ∷ g ∷ h ∷ i ∷ k ∷ l ∷ m ∷ n ∷ o ∷ p ∷ q ∷ r ∷ bs) len = absurd (omega (arith, len))

-- the bytes from one on, each of a smaller quotient
next : (n i : ℕ) → n / 256 ^ suc i / 256 ≡ n / 256 ^ suc (suc i)
next n i = div-div-eq-div-mul n (256 ^ suc i) 256 ∙ ap (λ x. n / x) (sym (pow-suc 256 (suc i)))

low-bytes : (i k n : ℕ) → bytes_low_first (suc i) k n ≡ bytes k (n / 256 ^ suc i)
low-bytes i zero n = refl
low-bytes i (suc k) n = λ j. (n / 256 ^ suc i % 256) ∷ (low-bytes (suc i) k n ∙ ap (bytes k) (sym (next n i))) j

written : (n : ℕ) → to_le_bytes w128 n ≡ bytes 16 n
written n = ap (λ bs. n % 256 ∷ bs) (low-bytes 0 15 n)

pub le_bytes_16 : (bs : List ℕ) → length bs ≡ 16 → ((i : ℕ) → get_or bs i 0 < 256) → to_le_bytes w128 (from_le_bytes w128 bs) ≡ bs
le_bytes_16 bs len small =
    ap (to_le_bytes w128) (read bs len) ∙ written (number bs) ∙ ap (λ k. bytes k (number bs)) (sym len) ∙ number-bytes bs small
