-- A bit that is cleared first, and then set where a value is true.
use Rattle.std.proofs.Common.{ℕ, ◌+◌, ◌*◌, ◌/◌, ◌%◌, ◌^◌, ◌<◌, ◌≤◌, ◌≡◌, ◌≢◌, Bool, true, eqb, List, length, get_or, set, take, refl, sym, ◌∙◌, ap, inl, inr, arith}
use Rattle.std.specs.Int.{w8, bit_not}
use Rattle.std.specs.Prelude.{bit_and, bit_or}
use Rattle.std.proofs.lemmas.List.{get_or-set_same, get_or-set_other, get_or-take, same_lists, length-set}
use Rattle.std.proofs.lemmas.Bool.{cases_eq}
use Rattle.std.proofs.lemmas.Nat.{mod_below}
use Rattle.std.proofs.lemmas.Nat.Bits.{bit_at_set_same, bit_at_set_other, bit_at_clear_other}
use Rattle.vx_base.specs.Bits.{bit_of, unpacked}
use Rattle.vx_base.proofs.PackedBits.{length_unpacked, get_unpacked, unpacked-same}

-- the bit of a mask for place k of its byte, and the byte of place k without it
abbrev mask_at : ℕ → ℕ
mask_at k = 1 * 2 ^ (k % 8) % 2 ^ 8

abbrev cleared_at : List ℕ → ℕ → ℕ
cleared_at bs k = bit_and (get_or bs (k / 8) 0) (bit_not w8 (mask_at k))

other_bit : (j k : ℕ) → j ≢ k → j / 8 ≡ k / 8 → j % 8 ≢ k % 8
other_bit j k ne e = λ s. ne (omega (arith, e, s))

-- the byte that is chosen sets bit k
pub bit_of-reset_same : (bs : List ℕ) (k : ℕ) → k / 8 < length bs → bit_of (set bs (k / 8) (bit_or (cleared_at bs k) (mask_at k))) k ≡ true
bit_of-reset_same bs k h = rw get_or-set_same (ap (λ (b : ℕ). eqb b 1) (bit_at_set_same w8 (cleared_at bs k) (k % 8) (mod_below k 8 (omega arith))))

-- and no other
pub bit_of-reset_other : (bs : List ℕ) (k j : ℕ) → k / 8 < length bs → j ≢ k → bit_of (set bs (k / 8) (bit_or (cleared_at bs k) (mask_at k))) j ≡ bit_of bs j
bit_of-reset_other bs k j h ne = elim (cases_eq (j / 8) (k / 8)) [
  | inl e ↦ rw (e, get_or-set_same) (ap (λ (b : ℕ). eqb b 1) (bit_at_set_other w8 (cleared_at bs k) (k % 8) (mod_below k 8 (omega arith)) (j % 8) (other_bit j k ne e)
      ∙ bit_at_clear_other w8 (get_or bs (k / 8) 0) (k % 8) (mod_below k 8 (omega arith)) (j % 8) (mod_below j 8 (omega arith)) (other_bit j k ne e)))
  | inr apart ↦ rw get_or-set_other
]

-- bit i of a run of bits that begins at any place is written
pub unpacked_put : (bs cs : List ℕ) (start len i : ℕ) (value : Bool) → i < len → bit_of cs (start + i) ≡ value → ((j : ℕ) → j ≢ start + i → bit_of cs j ≡ bit_of bs j)
    → unpacked cs start len ≡ set (unpacked bs start len) i value
unpacked_put bs cs start len i value within e h =
    same_lists _ _ (length_unpacked cs start len ∙ sym (length-set (unpacked bs start len) i value ∙ length_unpacked bs start len)) each
  where
    each : (k : ℕ) (d : Bool) → k < length (unpacked cs start len) → get_or (unpacked cs start len) k d ≡ get_or (set (unpacked bs start len) i value) k d
    each k d l =
        let small : k < len = omega (arith, length_unpacked cs start len) in
        let there : i < length (unpacked bs start len) = omega (arith, length_unpacked bs start len) in
        let left : get_or (unpacked cs start len) k d ≡ bit_of cs (start + k) = get_unpacked cs start len k d small in
        elim (cases_eq k i) [
          | inl same ↦ left ∙ ap (λ (x : ℕ). bit_of cs (start + x)) same ∙ e ∙ sym (rw same (get_or-set_same (unpacked bs start len) i value d there))
          | inr apart ↦ left ∙ h (start + k) (λ s. apart (omega (arith, s))) ∙ sym (get_or-set_other (unpacked bs start len) i k value d apart ∙ get_unpacked bs start len k d small)
        ]

-- the bytes that hold some bits are enough of them
pub unpacked_take : (bs cs : List ℕ) (start len n : ℕ) → start + len ≤ 8 * n → cs ≡ take n bs → unpacked cs start len ≡ unpacked bs start len
unpacked_take bs cs start len n within e = unpacked-same cs bs start start len each
  where
    each : (j : ℕ) → j < len → bit_of cs (start + j) ≡ bit_of bs (start + j)
    each j l =
        let inside : (start + j) / 8 < n = omega arith in
        rw (e, get_or-take n bs ((start + j) / 8) 0 inside) refl
