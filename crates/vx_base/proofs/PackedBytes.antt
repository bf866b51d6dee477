-- Eight bits at once, at any place.
use Rattle.std.proofs.Common.{ℕ, zero, suc, ◌+◌, ◌-◌, ◌*◌, ◌/◌, ◌%◌, ◌^◌, ◌<◌, ◌≤◌, ◌≡◌, Bool, true, false, cond, eqb, List, length, get_or, take, drop, min, refl, sym, ◌∙◌, ap, add-zero, zero-add, inl, inr, arith}
use Rattle.std.specs.Int.{bit_at}
use Rattle.std.specs.Prelude.{bit_and, bit_or, ◌&&◌, count_by, count_ones}
use Rattle.std.proofs.lemmas.Bool.{cases_lt}
use Rattle.std.proofs.lemmas.Nat.{shr-shr, shr_split, pow_pos, or_lt, shr_le, mod_below}
use Rattle.std.proofs.lemmas.Nat.Bits.{bit_at_or, bit_at_and, bit_at-lt, bit_at-zero, bit_at_above, bit_at_cat_low, bit_at_cat_high, same_from_bits_below}
use Rattle.std.proofs.lemmas.Simd.{bit_mask_l, mask_l-lt, ones-mask_l}
use Rattle.std.proofs.lemmas.List.{map-id, length-map, get_or-map, same_lists}
use Rattle.std.proofs.lemmas.Slice.Zip.{length-zip, get_or-zip}
use Rattle.std.specs.List.{zip}
use Rattle.std.proofs.Math.Seq.{take-add}
use Rattle.std.proofs.lemmas.List.Sums.{sum_by-append}
use lib.Lanes.{mask_l}
use Rattle.vx_base.specs.Bits.{bit_of, both, byte_from, unpacked}
use Rattle.vx_base.proofs.PackedBits.{get_unpacked, length_unpacked, unpacked_part}

-- a bit after `>> s`, after `<< s` and in the low w
pub bit_at-shr : (n s i : ℕ) → bit_at (n / 2 ^ s) i ≡ bit_at n (s + i)
bit_at-shr n s i = ap (λ (m : ℕ). m % 2) (shr-shr n s i)

pub bit_at-shl_low : (n s i : ℕ) → i < s → bit_at (n * 2 ^ s) i ≡ 0
bit_at-shl_low n s i h = ap (λ (m : ℕ). bit_at m i) (sym (add-zero (n * 2 ^ s))) ∙ bit_at_cat_low n s 0 i h ∙ bit_at-zero i

pub bit_at-shl_high : (n s i : ℕ) → s ≤ i → bit_at (n * 2 ^ s) i ≡ bit_at n (i - s)
bit_at-shl_high n s i h = ap (λ (m : ℕ). bit_at m i) (sym (add-zero (n * 2 ^ s))) ∙ bit_at_cat_high n s 0 i (pow_pos s) h

pub bit_at-low : (w n i : ℕ) → i < w → bit_at (n % 2 ^ w) i ≡ bit_at n i
bit_at-low w n i h = sym (bit_at_cat_low (n / 2 ^ w) w (n % 2 ^ w) i h) ∙ ap (λ (m : ℕ). bit_at m i) (shr_split n w)

-- a bit as the number that a mask holds
bit_at-cond : (n i : ℕ) → cond (eqb (bit_at n i) 1) 1 0 ≡ bit_at n i
bit_at-cond n i = by_bit (bit_at n i) (bit_at-lt n i)
  where
    by_bit : (b : ℕ) → b < 2 → cond (eqb b 1) 1 0 ≡ b
    by_bit zero h = refl
    by_bit (suc zero) h = refl
    by_bit (suc (suc b)) h = absurd (omega arith)

-- two bytes joined at a bit that is not the first of the second
joined_low : (lo hi s i : ℕ) → s < 8 → i < 8 → s + i < 8 → bit_at (bit_or (lo / 2 ^ s) (hi * 2 ^ (8 - s) % 2 ^ 8)) i ≡ bit_at lo (s + i)
joined_low lo hi s i below within h =
    let none : bit_at (hi * 2 ^ (8 - s) % 2 ^ 8) i ≡ 0 = bit_at-low 8 (hi * 2 ^ (8 - s)) i within ∙ bit_at-shl_low hi (8 - s) i (omega arith) in
    omega (arith, bit_at_or (lo / 2 ^ s) (hi * 2 ^ (8 - s) % 2 ^ 8) i, bit_at-shr lo s i, none)

joined_high : (lo hi s i : ℕ) → lo < 2 ^ 8 → s < 8 → i < 8 → 8 ≤ s + i → bit_at (bit_or (lo / 2 ^ s) (hi * 2 ^ (8 - s) % 2 ^ 8)) i ≡ bit_at hi (s + i - 8)
joined_high lo hi s i small below within h =
    let none : bit_at (lo / 2 ^ s) i ≡ 0 = bit_at-shr lo s i ∙ bit_at_above lo 8 (s + i) small h in
    let place : i - (8 - s) ≡ s + i - 8 = omega arith in
    let some : bit_at (hi * 2 ^ (8 - s) % 2 ^ 8) i ≡ bit_at hi (s + i - 8) = bit_at-low 8 (hi * 2 ^ (8 - s)) i within ∙ bit_at-shl_high hi (8 - s) i (omega arith) ∙ ap (bit_at hi) place in
    omega (arith, bit_at_or (lo / 2 ^ s) (hi * 2 ^ (8 - s) % 2 ^ 8) i, none, some)

-- a byte with the eight bits from a place on
pub is_byte_from : (bs : List ℕ) (place r : ℕ) → r < 2 ^ 8 → ((i : ℕ) → i < 8 → bit_at r i ≡ bit_at (get_or bs ((place + i) / 8) 0) ((place + i) % 8)) → r ≡ byte_from bs place
is_byte_from bs place r small h =
    let bound : mask_l (unpacked bs place 8) < 2 ^ 8 = rw length_unpacked at (mask_l-lt (unpacked bs place 8)) in
    same_from_bits_below 8 r (mask_l (unpacked bs place 8)) small bound
    (λ i l. h i l ∙ sym (bit_mask_l (unpacked bs place 8) i ∙ ap (λ (b : Bool). cond b 1 0) (get_unpacked bs place 8 i false l) ∙ bit_at-cond (get_or bs ((place + i) / 8) 0) ((place + i) % 8)))

-- the byte at a place that begins one
pub byte_from-whole : (bs : List ℕ) (place : ℕ) → ((i : ℕ) → get_or bs i 0 < 256) → place % 8 ≡ 0 → get_or bs (place / 8) 0 ≡ byte_from bs place
byte_from-whole bs place fit e = is_byte_from bs place (get_or bs (place / 8) 0) (fit (place / 8)) each
  where
    each : (i : ℕ) → i < 8 → bit_at (get_or bs (place / 8) 0) i ≡ bit_at (get_or bs ((place + i) / 8) 0) ((place + i) % 8)
    each i l =
        let q : (place + i) / 8 ≡ place / 8 = omega arith in
        let r : (place + i) % 8 ≡ i = omega arith in
        rw (q, r)

-- the byte at any other place
pub byte_from-joined : (bs : List ℕ) (place : ℕ) → ((i : ℕ) → get_or bs i 0 < 256)
    → bit_or (get_or bs (place / 8) 0 / 2 ^ (place % 8)) (get_or bs (place / 8 + 1) 0 * 2 ^ (8 - place % 8) % 2 ^ 8) ≡ byte_from bs place
byte_from-joined bs place fit =
    is_byte_from bs place (bit_or (get_or bs (place / 8) 0 / 2 ^ (place % 8)) (get_or bs (place / 8 + 1) 0 * 2 ^ (8 - place % 8) % 2 ^ 8)) small each
  where
    shift : place % 8 < 8
    shift = mod_below place 8 (omega arith)

    small : bit_or (get_or bs (place / 8) 0 / 2 ^ (place % 8)) (get_or bs (place / 8 + 1) 0 * 2 ^ (8 - place % 8) % 2 ^ 8) < 2 ^ 8
    small = or_lt 8 (get_or bs (place / 8) 0 / 2 ^ (place % 8)) (get_or bs (place / 8 + 1) 0 * 2 ^ (8 - place % 8) % 2 ^ 8)
        (omega (arith, shr_le (get_or bs (place / 8) 0) (place % 8), fit (place / 8))) (mod_below (get_or bs (place / 8 + 1) 0 * 2 ^ (8 - place % 8)) (2 ^ 8) (pow_pos 8))

    each : (i : ℕ) → i < 8 → bit_at (bit_or (get_or bs (place / 8) 0 / 2 ^ (place % 8)) (get_or bs (place / 8 + 1) 0 * 2 ^ (8 - place % 8) % 2 ^ 8)) i ≡ bit_at (get_or bs ((place + i) / 8) 0) ((place + i) % 8)
    each i l = elim (cases_lt (place % 8 + i) 8) [
      | inl low ↦
          let q : (place + i) / 8 ≡ place / 8 = omega arith in
          let r : (place + i) % 8 ≡ place % 8 + i = omega arith in
          rw (q, r) (joined_low (get_or bs (place / 8) 0) (get_or bs (place / 8 + 1) 0) (place % 8) i shift l low)
      | inr high ↦
          let q : (place + i) / 8 ≡ place / 8 + 1 = omega arith in
          let r : (place + i) % 8 ≡ place % 8 + i - 8 = omega arith in
          rw (q, r) (joined_high (get_or bs (place / 8) 0) (get_or bs (place / 8 + 1) 0) (place % 8) i (fit (place / 8)) shift l high)
    ]

-- eight bits more are counted
pub count_more : (bs : List ℕ) (from len n : ℕ) → n + 8 ≤ len
    → count_by (λ b. b) (take (n + 8) (unpacked bs from len)) ≡ count_by (λ b. b) (take n (unpacked bs from len)) + count_ones (byte_from bs (from + n))
count_more bs from len n h =
    let eight : n + 8 - n ≡ 8 = omega arith in
    let part = unpacked_part bs bs from len (from + n) n (n + 8) (omega arith) h (λ j l. refl) in
    let ones : count_ones (byte_from bs (from + n)) ≡ count_by (λ b. b) (unpacked bs (from + n) 8) =
    ap (λ (bits : List Bool). count_ones (mask_l bits)) (sym (map-id (unpacked bs (from + n) 8))) ∙ ones-mask_l (λ b. b) (unpacked bs (from + n) 8) in
    let split = sum_by-append (λ (b : Bool). cond b 1 0) (take n (unpacked bs from len)) (take 8 (drop n (unpacked bs from len))) in
    rw (take-add n 8 (unpacked bs from len), split, ones) (ap (λ (bits : List Bool). count_by (λ b. b) (take n (unpacked bs from len)) + count_by (λ b. b) bits) (sym (rw eight at part)))

-- ---- `&` of two runs of bits, a byte at a time

-- a bit of the byte from a place on
pub bit_of-byte_from : (bs : List ℕ) (place i : ℕ) → i < 8 → eqb (bit_at (byte_from bs place) i) 1 ≡ bit_of bs (place + i)
bit_of-byte_from bs place i h =
    ap (λ (n : ℕ). eqb n 1) (bit_mask_l (unpacked bs place 8) i ∙ ap (λ (b : Bool). cond b 1 0) (get_unpacked bs place 8 i false h)) ∙ by_bool (bit_of bs (place + i))
  where
    by_bool : (b : Bool) → eqb (cond b 1 0) 1 ≡ b
    by_bool true = refl
    by_bool false = refl

-- a bit of `x & y`
pub bit_of-and : (x y i : ℕ) → eqb (bit_at (bit_and x y) i) 1 ≡ (eqb (bit_at x i) 1 && eqb (bit_at y i) 1)
bit_of-and x y i = ap (λ (n : ℕ). eqb n 1) (bit_at_and x y i) ∙ by_bits (bit_at x i) (bit_at y i) (bit_at-lt x i) (bit_at-lt y i)
  where
    by_bits : (a b : ℕ) → a < 2 → b < 2 → eqb (min a b) 1 ≡ (eqb a 1 && eqb b 1)
    by_bits zero zero h g = refl
    by_bits zero (suc zero) h g = refl
    by_bits (suc zero) zero h g = refl
    by_bits (suc zero) (suc zero) h g = refl
    by_bits (suc (suc a)) b h g = absurd (omega arith)
    by_bits zero (suc (suc b)) h g = absurd (omega arith)
    by_bits (suc zero) (suc (suc b)) h g = absurd (omega arith)

-- the whole of `&`
pub and_all : (ls rs out : List ℕ) (from at len : ℕ) → ((k : ℕ) → k < len → bit_of out k ≡ (bit_of ls (from + k) && bit_of rs (at + k)))
    → unpacked out 0 len ≡ both (unpacked ls from len) (unpacked rs at len)
and_all ls rs out from at len h = same_lists _ _ long each
  where
    xs : List Bool
    xs = unpacked ls from len

    ys : List Bool
    ys = unpacked rs at len

    pairs : length (zip xs ys) ≡ len
    pairs = omega (arith, length-zip xs ys, length_unpacked ls from len, length_unpacked rs at len)

    long : length (unpacked out 0 len) ≡ length (both xs ys)
    long = length_unpacked out 0 len ∙ sym (length-map (zip xs ys) (λ (p : Bool × Bool). p.0 && p.1) ∙ pairs)

    each : (k : ℕ) (d : Bool) → k < length (unpacked out 0 len) → get_or (unpacked out 0 len) k d ≡ get_or (both xs ys) k d
    each k d l =
        let small : k < len = omega (arith, length_unpacked out 0 len) in
        let pair = get_or-zip xs ys k (false, false) (omega (arith, length_unpacked ls from len)) (omega (arith, length_unpacked rs at len)) in
        get_unpacked out 0 len k d small ∙ ap (bit_of out) (zero-add k) ∙ h k small
        ∙ sym (get_or-map (λ (p : Bool × Bool). p.0 && p.1) (zip xs ys) k (false, false) d (omega (arith, pairs)) ∙ ap (λ (p : Bool × Bool). p.0 && p.1) pair
        ∙ rw (get_unpacked ls from len k false small, get_unpacked rs at len k false small))
