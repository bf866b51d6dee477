-- The last bytes of a value, loaded as one number: a shift takes away those in front.
use Rattle.std.proofs.Common.{◌≡◌, ℕ, zero, suc, ◌+◌, ◌-◌, ◌*◌, ◌/◌, ◌^◌, ◌<◌, ◌≤◌, List, [], ◌∷◌, ◌++◌, length, take, drop, replicate, refl, sym, ◌∙◌, ap, subst, arith, length-append, length-drop}
use Rattle.std.specs.Prelude.{slice_range, slice_index_or}
use Rattle.std.specs.Int.{w16, w32, w64, from_le_bytes, to_le_bytes}
use Rattle.std.proofs.lemmas.Nat.{le_bytes_4, le_bytes_8}
use Rattle.std.proofs.lemmas.List.{append_assoc, length-replicate, drop-drop, take_all, take-append-drop}
use Rattle.vx_views.specs.Views.{padded, AreBytes}
use Rattle.vx_views.proofs.FourBytes.{bytes-append}
use Rattle.vx_views.proofs.Padding.{length_padded, padded_zero, padded_cons, padded_nil, take_padded, drop_padded, bytes-drop}

bytes-zeroes : (n : ℕ) → AreBytes (replicate n 0)
bytes-zeroes zero i = omega arith
bytes-zeroes (suc n) zero = omega arith
bytes-zeroes (suc n) (suc i) = bytes-zeroes n i

-- a value that is no longer, and its zeroes
padded_short : (n k : ℕ) (v : List ℕ) → length v + k ≡ n → v ++ replicate k 0 ≡ padded n v
padded_short n k [] e = ap (λ (m : ℕ). replicate m 0) (omega arith) ∙ sym (padded_nil n)
padded_short zero k (x ∷ v) e = absurd (omega arith)
padded_short (suc n) k (x ∷ v) e = ap (λ (rest : List ℕ). x ∷ rest) (padded_short n k v (omega arith)) ∙ sym (padded_cons n x v)

-- a value that is as long or longer
pub padded_long : (n : ℕ) (v : List ℕ) → n ≤ length v → take n v ≡ padded n v
padded_long zero v h = sym (padded_zero v)
padded_long (suc n) [] h = absurd (omega arith)
padded_long (suc n) (x ∷ v) h = ap (λ (rest : List ℕ). x ∷ rest) (padded_long n v (omega arith)) ∙ sym (padded_cons n x v)

-- the number of eight bytes without the lowest of them
shifted_number : (bs : List ℕ) (k : ℕ) → length bs ≡ 8 → AreBytes bs → k ≤ 4 → from_le_bytes w64 bs / 2 ^ (8 * k) ≡ from_le_bytes w64 (drop k bs ++ replicate k 0)
shifted_number (a ∷ b ∷ c ∷ d ∷ e ∷ f ∷ g ∷ h ∷ []) zero len are few = omega arith
shifted_number (a ∷ b ∷ c ∷ d ∷ e ∷ f ∷ g ∷ h ∷ []) (suc zero) len are few = omega (arith, are 0)
shifted_number (a ∷ b ∷ c ∷ d ∷ e ∷ f ∷ g ∷ h ∷ []) (suc (suc zero)) len are few = omega (arith, are 0, are 1)
shifted_number (a ∷ b ∷ c ∷ d ∷ e ∷ f ∷ g ∷ h ∷ []) (suc (suc (suc zero))) len are few = omega (arith, are 0, are 1, are 2)
shifted_number (a ∷ b ∷ c ∷ d ∷ e ∷ f ∷ g ∷ h ∷ []) (suc (suc (suc (suc zero)))) len are few = omega (arith, are 0, are 1, are 2, are 3)
shifted_number (a ∷ b ∷ c ∷ d ∷ e ∷ f ∷ g ∷ h ∷ []) (suc (suc (suc (suc (suc k))))) len are few = absurd (omega arith)
shifted_number _ k len are few = absurd (omega arith)

-- the same of four bytes, as a number of eight
shifted_half : (bs : List ℕ) (k : ℕ) → length bs ≡ 4 → AreBytes bs → k ≤ 4 → from_le_bytes w32 bs / 2 ^ (8 * k) ≡ from_le_bytes w64 (drop k bs ++ replicate (4 + k) 0)
shifted_half (a ∷ b ∷ c ∷ d ∷ []) zero len are few = omega arith
shifted_half (a ∷ b ∷ c ∷ d ∷ []) (suc zero) len are few = omega (arith, are 0)
shifted_half (a ∷ b ∷ c ∷ d ∷ []) (suc (suc zero)) len are few = omega (arith, are 0, are 1)
shifted_half (a ∷ b ∷ c ∷ d ∷ []) (suc (suc (suc zero))) len are few = omega (arith, are 0, are 1, are 2)
shifted_half (a ∷ b ∷ c ∷ d ∷ []) (suc (suc (suc (suc zero)))) len are few = omega (arith, are 0, are 1, are 2, are 3)
shifted_half (a ∷ b ∷ c ∷ d ∷ []) (suc (suc (suc (suc (suc k))))) len are few = absurd (omega arith)
shifted_half _ k len are few = absurd (omega arith)

-- the bytes of a number that is that of these bytes and then zeroes
bytes_of : (rest : List ℕ) (zeroes number : ℕ) → length rest + zeroes ≡ 8 → AreBytes rest → number ≡ from_le_bytes w64 (rest ++ replicate zeroes 0) → to_le_bytes w64 number ≡ padded 8 rest
bytes_of rest zeroes number len are same =
    le_bytes_8 (rest ++ replicate zeroes 0) number (omega (arith, length-append rest (replicate zeroes 0), length-replicate {A = ℕ} zeroes 0))
    (bytes-append rest (replicate zeroes 0) are (bytes-zeroes zeroes)) same
    ∙ padded_short 8 zeroes rest len

-- the end of a value from a place on, and of that what stands from its fifth byte on
end_of : (v bs : List ℕ) (n : ℕ) → n ≤ length v → bs ≡ slice_range v (length v - n) (length v - n + n) → bs ≡ drop (length v - n) v
end_of v bs n within is = is ∙ take_all (length v - n + n - (length v - n)) (drop (length v - n) v) (omega (arith, length-drop (length v - n) v))

from_fifth : (v bs : List ℕ) (n k : ℕ) → bs ≡ drop (length v - n) v → length v - n + k ≡ 4 → drop k bs ≡ drop 4 v
from_fifth v bs n k is e = ap (drop k) is ∙ drop-drop k (length v - n) v ∙ ap (λ (m : ℕ). drop m v) e

-- ---- the eight bytes from the fifth on

pub rest_of_long : (v : List ℕ) → 12 ≤ length v → slice_range v 4 (4 + 8) ≡ padded 8 (drop 4 v)
rest_of_long v long = padded_long 8 (drop 4 v) (omega (arith, length-drop 4 v))

pub rest_by_eight : (v bs : List ℕ) (last : ℕ) → bs ≡ slice_range v (length v - 8) (length v - 8 + 8) → last ≡ from_le_bytes w64 bs → 8 ≤ length v → length v < 12 → AreBytes v
    → to_le_bytes w64 (last / 2 ^ (8 * (12 - length v))) ≡ padded 8 (drop 4 v)
rest_by_eight v bs last is number low high are =
    let k = 12 - length v in
    let end = end_of v bs 8 low is in
    let len : length bs ≡ 8 = ap length end ∙ omega (arith, length-drop (length v - 8) v) in
    let rest : drop k bs ≡ drop 4 v = from_fifth v bs 8 k end (omega arith) in
    bytes_of (drop 4 v) k (last / 2 ^ (8 * k)) (omega (arith, length-drop 4 v)) (bytes-drop 4 v are)
    (ap (λ (n : ℕ). n / 2 ^ (8 * k)) number
    ∙ shifted_number bs k len (subst AreBytes (sym end) (bytes-drop (length v - 8) v are)) (omega arith)
    ∙ ap (λ (xs : List ℕ). from_le_bytes w64 (xs ++ replicate k 0)) rest)

pub rest_by_four : (v bs : List ℕ) (last : ℕ) → bs ≡ slice_range v (length v - 4) (length v - 4 + 4) → last ≡ from_le_bytes w32 bs → 4 ≤ length v → length v < 8 → AreBytes v
    → to_le_bytes w64 (last / 2 ^ (8 * (8 - length v))) ≡ padded 8 (drop 4 v)
rest_by_four v bs last is number low high are =
    let k = 8 - length v in
    let end = end_of v bs 4 low is in
    let len : length bs ≡ 4 = ap length end ∙ omega (arith, length-drop (length v - 4) v) in
    let rest : drop k bs ≡ drop 4 v = from_fifth v bs 4 k end (omega arith) in
    bytes_of (drop 4 v) (4 + k) (last / 2 ^ (8 * k)) (omega (arith, length-drop 4 v)) (bytes-drop 4 v are)
    (ap (λ (n : ℕ). n / 2 ^ (8 * k)) number
    ∙ shifted_half bs k len (subst AreBytes (sym end) (bytes-drop (length v - 4) v are)) (omega arith)
    ∙ ap (λ (xs : List ℕ). from_le_bytes w64 (xs ++ replicate (4 + k) 0)) rest)

pub rest_of_short : (v : List ℕ) → length v < 4 → replicate 8 0 ≡ padded 8 (drop 4 v)
rest_of_short [] h = sym (padded_nil 8)
rest_of_short (a ∷ []) h = sym (padded_nil 8)
rest_of_short (a ∷ b ∷ []) h = sym (padded_nil 8)
rest_of_short (a ∷ b ∷ c ∷ []) h = sym (padded_nil 8)
rest_of_short (a ∷ b ∷ c ∷ d ∷ v) h = absurd (omega arith)

-- the prefix and those eight are all twelve
pub twelve_of : (v : List ℕ) → padded 4 v ++ padded 8 (drop 4 v) ≡ padded 12 v
twelve_of v = ap (λ (front : List ℕ). front ++ padded 8 (drop 4 v)) (sym (take_padded 4 12 v (omega arith)))
    ∙ ap (λ (rest : List ℕ). take 4 (padded 12 v) ++ rest) (sym (drop_padded 4 8 12 v refl))
    ∙ take-append-drop 4 (padded 12 v)

halves_of : (v rest : List ℕ) → rest ≡ padded 8 v → take 4 rest ++ take 4 (drop 4 rest) ≡ rest
halves_of v rest is =
    ap (λ (end : List ℕ). take 4 rest ++ end) (take_all 4 (drop 4 rest) (omega (arith, length-drop 4 rest, ap length is, length_padded 8 v)))
    ∙ take-append-drop 4 rest

pub joined_halves : (a b v rest : List ℕ) → rest ≡ padded 8 v → a ++ b ++ take 4 rest ++ take 4 (drop 4 rest) ≡ a ++ (b ++ rest)
joined_halves a b v rest is =
    append_assoc (a ++ b) (take 4 rest) (take 4 (drop 4 rest)) ∙ ap (λ (end : List ℕ). a ++ b ++ end) (halves_of v rest is) ∙ append_assoc a b rest

-- ---- a value of at most three bytes

pub padded_none : (v : List ℕ) → length v < 1 → replicate 4 0 ≡ padded 4 v
padded_none [] h = sym (padded_nil 4)
padded_none (a ∷ v) h = absurd (omega arith)

pub padded_one : (v : List ℕ) → length v ≡ 1 → AreBytes v → to_le_bytes w32 (slice_index_or v 0 0) ≡ padded 4 v
padded_one (a ∷ []) e are =
    le_bytes_4 (a ∷ replicate 3 0) a refl (bytes-append (a ∷ []) (replicate 3 0) are (bytes-zeroes 3)) (omega arith)
    ∙ padded_short 4 3 (a ∷ []) refl
padded_one _ e are = absurd (omega arith)

-- the first two bytes and the last two, which may be the same or share one
pub padded_by_two : (v first last : List ℕ) (x y : ℕ) → x ≡ from_le_bytes w16 first → y ≡ from_le_bytes w16 last → first ≡ slice_range v 0 (0 + 2) → last ≡ slice_range v (length v - 2) (length v - 2 + 2) → 2 ≤ length v → length v < 4 → AreBytes v
    → to_le_bytes w32 (x + y / 2 ^ (8 * (4 - length v)) * 65536) ≡ padded 4 v
padded_by_two (a ∷ b ∷ []) first last x y p q f l low high are =
    rw (p, q, f, l) (
    le_bytes_4 (a ∷ b ∷ replicate 2 0) _ refl (bytes-append (a ∷ b ∷ []) (replicate 2 0) are (bytes-zeroes 2)) (omega (arith, are 0, are 1))
    ∙ padded_short 4 2 (a ∷ b ∷ []) refl
    )
padded_by_two (a ∷ b ∷ c ∷ []) first last x y p q f l low high are =
    rw (p, q, f, l) (
    le_bytes_4 (a ∷ b ∷ c ∷ replicate 1 0) _ refl (bytes-append (a ∷ b ∷ c ∷ []) (replicate 1 0) are (bytes-zeroes 1)) (omega (arith, are 0, are 1, are 2))
    ∙ padded_short 4 1 (a ∷ b ∷ c ∷ []) refl
    )
padded_by_two _ first last x y p q f l low high are = absurd (omega arith)
