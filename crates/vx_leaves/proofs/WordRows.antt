-- Rows that words tell.
use Rattle.std.proofs.Common.{ℕ, ◌+◌, ◌-◌, ◌/◌, ◌%◌, ◌^◌, ◌<◌, ◌≤◌, ◌≡◌, Bool, true, false, eqb, List, length, get_or, replicate, refl, sym, ◌∙◌, ap, inl, inr, arith}
use Rattle.std.specs.Prelude.{bit_and, count_by}
use Rattle.std.specs.Int.{bit_at}
use Rattle.std.proofs.lemmas.Bool.{false≢true, cases_lt}
use Rattle.std.proofs.lemmas.List.Sums.{count_by-le-length}
use Rattle.std.proofs.lemmas.Nat.Bits.{bit_at_and, bit_at_ones, bit_at-lt, bit_at-zero}
use Rattle.vx_base.specs.Bits.{bit_of, bool_at}
use Rattle.vx_base.specs.Booleans.{IsMixed}
use Rattle.vx_base.proofs.MaskCounts.{all_true_from_count, all_false_from_count}
use Rattle.vx_base.proofs.PackedBytes.{bit_at-shr}

-- `word & (MAX >> (64 - count))` has the first bits of the word
pub first_bits : (word count i : ℕ) → count ≤ 64 → i < count → bit_at (bit_and word ((2 ^ 64 - 1) / 2 ^ (64 - count))) i ≡ bit_at word i
first_bits word count i most inside =
    let one : bit_at ((2 ^ 64 - 1) / 2 ^ (64 - count)) i ≡ 1 = bit_at-shr (2 ^ 64 - 1) (64 - count) i ∙ bit_at_ones 64 (64 - count + i) (omega arith) in
    omega (arith, bit_at_and word ((2 ^ 64 - 1) / 2 ^ (64 - count)) i, one, bit_at-lt word i)

-- the bits of a byte from a place on
pub byte_seen : (bs : List ℕ) (place i : ℕ) → i < 8 - place % 8 → eqb (bit_at (get_or bs (place / 8) 0 / 2 ^ (place % 8)) i) 1 ≡ bit_of bs (place + i)
byte_seen bs place i inside =
    let q : (place + i) / 8 ≡ place / 8 = omega arith in
    let r : (place + i) % 8 ≡ place % 8 + i = omega arith in
    rw (q, r) (ap (λ (b : ℕ). eqb b 1) (bit_at-shr (get_or bs (place / 8) 0) (place % 8) i))

-- the words of one boolean
pub bit_of_all : (i : ℕ) → i < 64 → eqb (bit_at (2 ^ 64 - 1) i) 1 ≡ true
bit_of_all i inside = ap (λ (b : ℕ). eqb b 1) (bit_at_ones 64 i inside)

pub bit_of_none : (i : ℕ) → eqb (bit_at 0 i) 1 ≡ false
bit_of_none i = ap (λ (b : ℕ). eqb b 1) (bit_at-zero i)

-- a word that is all ones tells that each row is valid
pub full_on : (mask : List Bool) (n held word : ℕ) → word ≡ 2 ^ 64 - 1 → held ≤ 64 → ((i : ℕ) → i < held → eqb (bit_at word i) 1 ≡ bool_at mask (n + i)) → (i : ℕ) → n ≤ i → i < n + held → bool_at mask i ≡ true
full_on mask n held word full most bits i low high =
    let k : ℕ = i - n in
    let at : n + k ≡ i = omega arith in
    ap (bool_at mask) (sym at) ∙ sym (bits k (omega arith)) ∙ ap (λ (w : ℕ). eqb (bit_at w k) 1) full ∙ bit_of_all k (omega arith)

-- booleans that are not mixed are all alike
pub unmixed : (mask : List Bool) (b : Bool) → (IsMixed mask → ⊥) → (b ≡ true → count_by (λ b. b) mask ≡ length mask) → (count_by (λ b. b) mask ≡ length mask → b ≡ true) → replicate (length mask) b ≡ mask
unmixed mask true other all all_by = sym (all_true_from_count mask (all refl))
unmixed mask false other all all_by = elim (cases_lt (count_by (λ b. b) mask) (length mask)) [
  | inl less ↦ elim (cases_lt 0 (count_by (λ b. b) mask)) [
    | inl some ↦ absurd (other (some, less))
    | inr none ↦ sym (all_false_from_count mask (omega arith))
  ]
  | inr full ↦
      let most : count_by (λ b. b) mask ≤ length mask = count_by-le-length (λ b. b) mask in
      absurd (false≢true (all_by (omega arith)))
]
