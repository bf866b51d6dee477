-- Bits of words of 64.
use Rattle.std.proofs.Common.{ℕ, zero, suc, ◌+◌, ◌-◌, ◌*◌, ◌/◌, ◌%◌, ◌^◌, ◌<◌, ◌≤◌, ◌≡◌, eqb, List, [], ◌∷◌, length, get_or, sym, ◌∙◌, ap, inl, inr, arith}
use Rattle.std.specs.Int.{bit_at, w64, from_le_bytes, to_le_bytes}
use Rattle.std.specs.Prelude.{bit_and, bit_or}
use Rattle.std.proofs.Math.ListN.{get_or-eq_default}
use Rattle.std.proofs.lemmas.Bool.{cases_lt}
use Rattle.std.proofs.lemmas.Nat.{one_shl, from_le_bytes-to_le_bytes_8}
use borrow.Rule.Slice.PartMut.{put_mid}
use Rattle.std.proofs.lemmas.Nat.Bits.{bit_at_or, bit_at_and, bit_at_ones, bit_at_ones_above, bit_at-zero, bit_at-lt, bit_at_cat_low, bit_at_cat_high}
use Rattle.vx_base.specs.Bits.{bit_of, Written}
use Rattle.vx_base.proofs.Filling.{written_part}
use Rattle.vx_base.proofs.Packing.{eight_from, eight_at}
use Rattle.vx_base.proofs.PackedBytes.{bit_at-shr, bit_at-shl_low, bit_at-shl_high, bit_at-low}

-- the number of bytes, the first of them the lowest
abbrev number_of : List ℕ → ℕ
number_of [] = 0
number_of (b ∷ bs) = number_of bs * 2 ^ 8 + b

number_bits : (bs : List ℕ) (i : ℕ) → ((j : ℕ) → get_or bs j 0 < 256) → bit_at (number_of bs) i ≡ bit_at (get_or bs (i / 8) 0) (i % 8)
number_bits [] i fit = bit_at-zero i ∙ sym (bit_at-zero (i % 8))
number_bits (b ∷ bs) i fit = elim (cases_lt i 8) [
  | inl low ↦
      let q : i / 8 ≡ 0 = omega arith in
      let r : i % 8 ≡ i = omega arith in
      rw (q, r) (bit_at_cat_low (number_of bs) 8 b i low)
  | inr high ↦
      let q : i / 8 ≡ suc ((i - 8) / 8) = omega arith in
      let r : i % 8 ≡ (i - 8) % 8 = omega arith in
      rw (q, r) (bit_at_cat_high (number_of bs) 8 b i (fit 0) high ∙ number_bits bs (i - 8) (λ j. fit (suc j)))
]

-- each bit of the word of eight bytes
pub word_bits : (bs : List ℕ) (at i : ℕ) → ((j : ℕ) → get_or bs j 0 < 256) → i < 64
    → eqb (bit_at (from_le_bytes w64 (eight_from (λ n. get_or bs n 0) at)) i) 1 ≡ bit_of bs (8 * at + i)
word_bits bs at i fit h =
    let q : (8 * at + i) / 8 ≡ at + i / 8 = omega arith in
    let r : (8 * at + i) % 8 ≡ i % 8 = omega arith in
    let number : from_le_bytes w64 (eight_from f at) ≡ number_of (eight_from f at) = omega arith in
    let byte : get_or (eight_from f at) (i / 8) 0 ≡ get_or bs (at + i / 8) 0 = eight_at f at (i / 8) 0 (omega arith) in
    let bit : bit_at (number_of (eight_from f at)) i ≡ bit_at (get_or bs (at + i / 8) 0) (i % 8) =
    number_bits (eight_from f at) i small ∙ ap (λ (b : ℕ). bit_at b (i % 8)) byte in
    rw (q, r, number) (ap (λ (b : ℕ). eqb b 1) bit)
  where
    f : ℕ → ℕ
    f n = get_or bs n 0

    small : (j : ℕ) → get_or (eight_from f at) j 0 < 256
    small j = elim (cases_lt j 8) [
      | inl within ↦ rw (eight_at f at j 0 within) (fit (at + j))
      | inr past ↦ rw (get_or-eq_default (eight_from f at) 0 past) (omega arith)
    ]

-- ---- words that are written

-- a bit of the bits from a place on
pub bits_seen : (bs : List ℕ) (place word : ℕ) → ((i : ℕ) → i < 64 → eqb (bit_at word i) 1 ≡ bit_of bs (8 * (place / 8) + i)) → (i : ℕ) → i < 64 - place % 8
    → eqb (bit_at (word / 2 ^ (place % 8)) i) 1 ≡ bit_of bs (place + i)
bits_seen bs place word seen i h =
    let whole : 8 * (place / 8) + (place % 8 + i) ≡ place + i = omega arith in
    rw (bit_at-shr word (place % 8) i, ← whole) (seen (place % 8 + i) (omega arith))

-- `n & ((1 << count) - 1)` has the low bits of n, and no other
pub low_kept : (n count i : ℕ) → count < 8 → i < count → bit_at (bit_and n (1 * 2 ^ count % 2 ^ 8 - 1)) i ≡ bit_at n i
low_kept n count i h l = rw (one_shl count 8 h) (omega (arith, bit_at_and n (2 ^ count - 1) i, bit_at_ones count i l, bit_at-lt n i))

pub low_cleared : (n count i : ℕ) → count < 8 → count ≤ i → bit_at (bit_and n (1 * 2 ^ count % 2 ^ 8 - 1)) i ≡ 0
low_cleared n count i h l = rw (one_shl count 8 h) (omega (arith, bit_at_and n (2 ^ count - 1) i, bit_at_ones_above count i l))

-- a bit of a byte of a word
pub byte_of_word : (word first j i : ℕ) → first ≤ j → i < 8 → eqb (bit_at (word / 2 ^ (8 * (j - first)) % 256) i) 1 ≡ eqb (bit_at word (8 * j + i - 8 * first)) 1
byte_of_word word first j i le h =
    let place : 8 * (j - first) + i ≡ 8 * j + i - 8 * first = omega arith in
    ap (λ (b : ℕ). eqb b 1) (bit_at-low 8 (word / 2 ^ (8 * (j - first))) i h ∙ bit_at-shr word (8 * (j - first)) i ∙ ap (bit_at word) place)

small_bytes : (word j : ℕ) → get_or (to_le_bytes w64 word) j 0 < 256
small_bytes word zero = omega arith
small_bytes word (suc zero) = omega arith
small_bytes word (suc (suc zero)) = omega arith
small_bytes word (suc (suc (suc zero))) = omega arith
small_bytes word (suc (suc (suc (suc zero)))) = omega arith
small_bytes word (suc (suc (suc (suc (suc zero))))) = omega arith
small_bytes word (suc (suc (suc (suc (suc (suc zero)))))) = omega arith
small_bytes word (suc (suc (suc (suc (suc (suc (suc zero))))))) = omega arith
small_bytes word (suc (suc (suc (suc (suc (suc (suc (suc j)))))))) = omega arith

-- a bit of the eight bytes of a word
bit_of_whole : (word k : ℕ) → word < 2 ^ 64 → k < 64 → bit_of (to_le_bytes w64 word) k ≡ eqb (bit_at word k) 1
bit_of_whole word k small h =
    let place : k ≡ 8 * 0 + k = omega arith in
    ap (bit_of (to_le_bytes w64 word)) place ∙ sym (word_bits (to_le_bytes w64 word) 0 k (small_bytes word) h) ∙ ap (λ (n : ℕ). eqb (bit_at n k) 1) (from_le_bytes-to_le_bytes_8 word small)

-- all eight are written
pub whole_written : (old bytes : List ℕ) (first word : ℕ) → bytes ≡ to_le_bytes w64 word → word < 2 ^ 64 → first + 8 ≤ length old
    → Written old (put_mid first (first + 8 - first) old bytes) (8 * first) (8 * (first + 8)) (λ k. eqb (bit_at word (k - 8 * first)) 1)
whole_written old bytes first word are small room =
    written_part old bytes first (first + 8) (λ k. eqb (bit_at word (k - 8 * first)) 1) (omega arith) room (ap length are ∙ omega arith)
    (λ k h. let place : k ≡ 8 * first + k - 8 * first = omega arith in
    ap (λ (bs : List ℕ). bit_of bs k) are ∙ bit_of_whole word k small (omega arith) ∙ ap (λ (n : ℕ). eqb (bit_at word n) 1) place)

-- the bits of a word after those of a byte that stay
module _ (old new : List ℕ) (at last word low : ℕ)
    (kept : (i : ℕ) → i < at % 8 → bit_at low i ≡ bit_at (get_or old (at / 8) 0) i)
    (cleared : (i : ℕ) → at % 8 ≤ i → bit_at low i ≡ 0)
    (before : (k : ℕ) → k < 8 * (at / 8) → bit_of new k ≡ bit_of old k)
    (written : (k : ℕ) → 8 * (at / 8) ≤ k → k < 8 * last → bit_of new k ≡ eqb (bit_at (bit_or (word * 2 ^ (at % 8) % 2 ^ 64) low) (k - 8 * (at / 8))) 1) where
  pub word_before : at < 8 * last → (k : ℕ) → k < at → bit_of new k ≡ bit_of old k
  word_before room k h = elim (cases_lt k (8 * (at / 8))) [
    | inl early ↦ before k early
    | inr late ↦
        let q : k / 8 ≡ at / 8 = omega arith in
        let r : k % 8 ≡ k - 8 * (at / 8) = omega arith in
        let none : bit_at (word * 2 ^ (at % 8) % 2 ^ 64) (k - 8 * (at / 8)) ≡ 0 = bit_at-low 64 (word * 2 ^ (at % 8)) (k - 8 * (at / 8)) (omega arith) ∙ bit_at-shl_low word (at % 8) (k - 8 * (at / 8)) (omega arith) in
        let bit : bit_at (bit_or (word * 2 ^ (at % 8) % 2 ^ 64) low) (k - 8 * (at / 8)) ≡ bit_at (get_or old (at / 8) 0) (k - 8 * (at / 8)) =
        omega (arith, bit_at_or (word * 2 ^ (at % 8) % 2 ^ 64) low (k - 8 * (at / 8)), none, kept (k - 8 * (at / 8)) (omega arith)) in
        written k late (omega arith) ∙ ap (λ (b : ℕ). eqb b 1) bit ∙ sym (ap (λ (b : ℕ). eqb (bit_at (get_or old b 0) (k % 8)) 1) q ∙ ap (λ (b : ℕ). eqb (bit_at (get_or old (at / 8) 0) b) 1) r)
  ]

  pub word_after : (k : ℕ) → at ≤ k → k < 8 * last → k < at + 56 → bit_of new k ≡ eqb (bit_at word (k - at)) 1
  word_after k h room near =
      let place : k - 8 * (at / 8) - at % 8 ≡ k - at = omega arith in
      let some : bit_at (word * 2 ^ (at % 8) % 2 ^ 64) (k - 8 * (at / 8)) ≡ bit_at word (k - at) =
      bit_at-low 64 (word * 2 ^ (at % 8)) (k - 8 * (at / 8)) (omega arith) ∙ bit_at-shl_high word (at % 8) (k - 8 * (at / 8)) (omega arith) ∙ ap (bit_at word) place in
      let bit : bit_at (bit_or (word * 2 ^ (at % 8) % 2 ^ 64) low) (k - 8 * (at / 8)) ≡ bit_at word (k - at) =
      omega (arith, bit_at_or (word * 2 ^ (at % 8) % 2 ^ 64) low (k - 8 * (at / 8)), some, cleared (k - 8 * (at / 8)) (omega arith)) in
      written k (omega arith) room ∙ ap (λ (b : ℕ). eqb b 1) bit
