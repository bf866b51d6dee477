-- Packed bits: a write to one bit, and a part of the bits.
use Rattle.std.proofs.Common.{ℕ, ◌+◌, ◌-◌, ◌*◌, ◌/◌, ◌%◌, ◌^◌, ◌<◌, ◌≤◌, ◌≡◌, ◌≢◌, Bool, true, false, eqb, List, [], ◌∷◌, ◌++◌, length, get_or, set, drop, refl, sym, ◌∙◌, ap, zero-add, inl, inr, arith}
use Rattle.std.specs.Int.{w8, bit_not}
use Rattle.std.specs.Prelude.{bit_and, bit_or, slice_range}
use Rattle.std.proofs.lemmas.List.{get_or-set_same, get_or-set_other, same_lists, get_or-take, get_or-drop, length-set, get_or_append_left}
use Rattle.std.proofs.lemmas.List.FromFn.{length-map-range_with_len, get_or-map-range_with_len, map-range_with_len_more}
use Rattle.std.proofs.lemmas.Bool.{cases_eq}
use Rattle.std.proofs.lemmas.Nat.{mod_below}
use Rattle.std.proofs.lemmas.Nat.Bits.{bit_at_set_same, bit_at_set_other, bit_at_clear_same, bit_at_clear_other, shr_and_one}
use Rattle.vx_base.proofs.ListParts.{map_range_same, part_of_map_range}
use Rattle.vx_base.specs.Bits.{bit_of, unpacked, bool_at}

-- two places in one byte differ in their bit
other_bit : (j k : ℕ) → j ≢ k → j / 8 ≡ k / 8 → j % 8 ≢ k % 8
other_bit j k ne e = λ s. ne (omega (arith, e, s))

-- `bytes[k / 8] |= 1 << k % 8` sets bit k
pub bit_of-set_same : (bs : List ℕ) (k : ℕ) → k / 8 < length bs → bit_of (set bs (k / 8) (bit_or (get_or bs (k / 8) 0) (1 * 2 ^ (k % 8) % 2 ^ 8))) k ≡ true
bit_of-set_same bs k h = rw get_or-set_same (ap (λ (b : ℕ). eqb b 1) (bit_at_set_same w8 (get_or bs (k / 8) 0) (k % 8) (mod_below k 8 (omega arith))))

-- and no other
pub bit_of-set_other : (bs : List ℕ) (k j : ℕ) → k / 8 < length bs → j ≢ k → bit_of (set bs (k / 8) (bit_or (get_or bs (k / 8) 0) (1 * 2 ^ (k % 8) % 2 ^ 8))) j ≡ bit_of bs j
bit_of-set_other bs k j h ne = elim (cases_eq (j / 8) (k / 8)) [
  | inl e ↦ rw (e, get_or-set_same) (ap (λ (b : ℕ). eqb b 1) (bit_at_set_other w8 (get_or bs (k / 8) 0) (k % 8) (mod_below k 8 (omega arith)) (j % 8) (other_bit j k ne e)))
  | inr apart ↦ rw get_or-set_other
]

-- `bytes[k / 8] &= !(1 << k % 8)` clears bit k
pub bit_of-clear_same : (bs : List ℕ) (k : ℕ) → k / 8 < length bs → bit_of (set bs (k / 8) (bit_and (get_or bs (k / 8) 0) (bit_not w8 (1 * 2 ^ (k % 8) % 2 ^ 8)))) k ≡ false
bit_of-clear_same bs k h = rw get_or-set_same (ap (λ (b : ℕ). eqb b 1) (bit_at_clear_same w8 (get_or bs (k / 8) 0) (k % 8) (mod_below k 8 (omega arith))))

-- and no other
pub bit_of-clear_other : (bs : List ℕ) (k j : ℕ) → k / 8 < length bs → j ≢ k → bit_of (set bs (k / 8) (bit_and (get_or bs (k / 8) 0) (bit_not w8 (1 * 2 ^ (k % 8) % 2 ^ 8)))) j ≡ bit_of bs j
bit_of-clear_other bs k j h ne = elim (cases_eq (j / 8) (k / 8)) [
  | inl e ↦ rw (e, get_or-set_same) (ap (λ (b : ℕ). eqb b 1) (bit_at_clear_other w8 (get_or bs (k / 8) 0) (k % 8) (mod_below k 8 (omega arith)) (j % 8) (mod_below j 8 (omega arith)) (other_bit j k ne e)))
  | inr apart ↦ rw get_or-set_other
]

-- two runs of bits are the same where each bit is
pub unpacked-same : (bs cs : List ℕ) (from at len : ℕ) → ((j : ℕ) → j < len → bit_of bs (from + j) ≡ bit_of cs (at + j)) → unpacked bs from len ≡ unpacked cs at len
unfolding unpacked
unpacked-same bs cs from at len h = map_range_same (bit_of bs) (bit_of cs) from at len h

-- how many bits there are, and each of them
pub length_unpacked : (bs : List ℕ) (from len : ℕ) → length (unpacked bs from len) ≡ len
unfolding unpacked
length_unpacked bs from len = length-map-range_with_len (bit_of bs) from len

pub unpacked_none : (bs : List ℕ) (from : ℕ) → unpacked bs from 0 ≡ []
unfolding unpacked
unpacked_none bs from = refl

pub get_unpacked : (bs : List ℕ) (from len k : ℕ) (d : Bool) → k < len → get_or (unpacked bs from len) k d ≡ bit_of bs (from + k)
unfolding unpacked
get_unpacked bs from len k d h = get_or-map-range_with_len (bit_of bs) from len k (from + k) d h refl

pub ruleset unpacked_bits = (length_unpacked, unpacked_none, get_unpacked)

-- the bits up to a place, where each stays
pub unpacked_kept : (bs cs : List ℕ) (len : ℕ) → ((j : ℕ) → j < len → bit_of cs j ≡ bit_of bs j) → unpacked cs 0 len ≡ unpacked bs 0 len
unpacked_kept bs cs len h = unpacked-same cs bs 0 0 len (λ j l. rw zero-add (h j l))

-- one more bit, which nothing else follows
pub unpacked_push : (bs cs : List ℕ) (len : ℕ) (value : Bool) → bit_of cs len ≡ value → ((j : ℕ) → j < len → bit_of cs j ≡ bit_of bs j)
    → unpacked cs 0 (len + 1) ≡ unpacked bs 0 len ++ value ∷ []
unfolding unpacked
unpacked_push bs cs len value e h =
    let last : unpacked cs 0 (len + 1) ≡ unpacked cs 0 len ++ bit_of cs len ∷ [] = map-range_with_len_more (bit_of cs) 0 len len (zero-add len) in
    let rest : unpacked cs 0 len ≡ unpacked bs 0 len = unpacked_kept bs cs len h in
    rw (last, rest, e)

-- one bit written
pub unpacked_set : (bs cs : List ℕ) (len i : ℕ) (value : Bool) → i < len → bit_of cs i ≡ value → ((j : ℕ) → j ≢ i → bit_of cs j ≡ bit_of bs j)
    → unpacked cs 0 len ≡ set (unpacked bs 0 len) i value
unpacked_set bs cs len i value within e h =
    same_lists _ _ (length_unpacked cs 0 len ∙ sym (length-set (unpacked bs 0 len) i value ∙ length_unpacked bs 0 len)) each
  where
    each : (k : ℕ) (d : Bool) → k < length (unpacked cs 0 len) → get_or (unpacked cs 0 len) k d ≡ get_or (set (unpacked bs 0 len) i value) k d
    each k d l =
        let small : k < len = omega (arith, length_unpacked cs 0 len) in
        let there : i < length (unpacked bs 0 len) = omega (arith, length_unpacked bs 0 len) in
        let left : get_or (unpacked cs 0 len) k d ≡ bit_of cs k = get_unpacked cs 0 len k d small ∙ ap (bit_of cs) (zero-add k) in
        elim (cases_eq k i) [
          | inl same ↦ left ∙ ap (bit_of cs) same ∙ e ∙ sym (rw same (get_or-set_same (unpacked bs 0 len) i value d there))
          | inr apart ↦ left ∙ h k apart ∙ sym (get_or-set_other (unpacked bs 0 len) i k value d apart ∙ get_unpacked bs 0 len k d small ∙ ap (bit_of bs) (zero-add k))
        ]

-- a bit of the bytes stays where bytes are added
pub bit_of-append : (bs cs : List ℕ) (k : ℕ) → k / 8 < length bs → bit_of (bs ++ cs) k ≡ bit_of bs k
bit_of-append bs cs k h = rw get_or_append_left

-- a bit of the bytes from a place on
pub bit_of-drop : (bs : List ℕ) (a b k : ℕ) → a ≤ b → b ≤ length bs → k / 8 < b - a → bit_of (slice_range bs a b) k ≡ bit_of bs (a * 8 + k)
bit_of-drop bs a b k le within h =
    let place : (a * 8 + k) / 8 ≡ a + k / 8 = omega arith in
    let bit : (a * 8 + k) % 8 ≡ k % 8 = omega arith in
    let byte : get_or (slice_range bs a b) (k / 8) 0 ≡ get_or bs (a + k / 8) 0 = get_or-take (b - a) (drop a bs) (k / 8) 0 h ∙ get_or-drop a bs (k / 8) 0 in
    rw (place, bit, byte)

-- a part of a run of bits
pub unpacked_part : (bs cs : List ℕ) (from len at start end : ℕ) → start ≤ end → end ≤ len
    → ((j : ℕ) → j < end - start → bit_of cs (at + j) ≡ bit_of bs (from + start + j))
    → unpacked cs at (end - start) ≡ slice_range (unpacked bs from len) start end
unfolding unpacked
unpacked_part bs cs from len at start end le within h =
    map_range_same (bit_of cs) (bit_of bs) at (from + start) (end - start) h ∙ sym (part_of_map_range (bit_of bs) from len start end le within)

-- what a read of a bit gives
pub value_read : (bs : List ℕ) (from len i : ℕ) → i < len → eqb (bit_and (get_or bs ((from + i) / 8) 0 / 2 ^ ((from + i) % 8)) 1) 1 ≡ bool_at (unpacked bs from len) i
value_read bs from len i h = ap (λ (b : ℕ). eqb b 1) (shr_and_one (get_or bs ((from + i) / 8) 0) ((from + i) % 8)) ∙ sym (get_unpacked bs from len i false h)

-- a run of bits whose first bytes are left out
pub unpacked_rest : (bs cs : List ℕ) (from len start end : ℕ) → start ≤ end → end ≤ len → from + len ≤ 8 * length bs → cs ≡ slice_range bs ((from + start) / 8) (length bs)
    → unpacked cs ((from + start) % 8) (end - start) ≡ slice_range (unpacked bs from len) start end
unpacked_rest bs cs from len start end le within room e = unpacked_part bs cs from len ((from + start) % 8) start end le within each
  where
    each : (j : ℕ) → j < end - start → bit_of cs ((from + start) % 8 + j) ≡ bit_of bs (from + start + j)
    each j l =
        let whole : (from + start) / 8 * 8 + ((from + start) % 8 + j) ≡ from + start + j = omega arith in
        rw e (bit_of-drop bs ((from + start) / 8) (length bs) ((from + start) % 8 + j) (omega arith) (omega arith) (omega arith) ∙ ap (bit_of bs) whole)

-- the same bits, where whole bytes before the first bit are left out
pub unpacked_dropped : (bs cs : List ℕ) (from len : ℕ) → from + len ≤ 8 * length bs → cs ≡ slice_range bs (from / 8) (length bs) → unpacked cs (from % 8) len ≡ unpacked bs from len
unpacked_dropped bs cs from len room e = unpacked-same cs bs (from % 8) from len each
  where
    each : (j : ℕ) → j < len → bit_of cs (from % 8 + j) ≡ bit_of bs (from + j)
    each j l =
        let whole : from / 8 * 8 + (from % 8 + j) ≡ from + j = omega arith in
        rw e (bit_of-drop bs (from / 8) (length bs) (from % 8 + j) (omega arith) (omega arith) (omega arith) ∙ ap (bit_of bs) whole)
