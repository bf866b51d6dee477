-- Booleans that are packed eight to a byte.
use Rattle.std.proofs.Common.{ℕ, zero, suc, ◌+◌, ◌-◌, ◌*◌, ◌/◌, ◌%◌, ◌^◌, ◌<◌, ◌≤◌, ◌≡◌, Bool, true, false, cond, eqb, List, ◌++◌, length, replicate, take, drop, get_or, refl, sym, ◌∙◌, ap, zero-add, inl, inr, arith, length-append}
use Rattle.std.specs.Int.{bit_at}
use Rattle.std.proofs.lemmas.List.{get_or-take, get_or-drop, get_or-append_right, get_or_append_left, get_or_past, get_or_default, get_or-replicate, length-replicate, length-take, same_lists, ext_get_or}
use Rattle.std.proofs.lemmas.Bool.{cases_lt}
use Rattle.std.proofs.lemmas.Nat.Bits.{bit_at-lt, same_from_bits_below}
use Rattle.std.proofs.lemmas.List.FromFn.{get_or-map-range_with_len, length-map-range_with_len}
use Rattle.std.proofs.lemmas.Simd.{bit_mask_l, mask_l-lt}
use Rattle.std.proofs.Math.Pow.{pow_mono}
use lib.Lanes.{mask_l}
use Rattle.vx_base.specs.Bits.{bit_of, unpacked, bool_at, byte_of}
use Rattle.vx_base.proofs.PackedBits.{length_unpacked, get_unpacked}
use Rattle.vx_pack.specs.BitBytes.{bits_bytes}

-- the eight booleans of a byte, or fewer
abbrev eight : List Bool → ℕ → List Bool
eight bits j = take 8 (drop (8 * j) bits)

is_one : (b : Bool) → eqb (cond b 1 0) 1 ≡ b
is_one true = refl
is_one false = refl

length-bits_bytes : (bits : List Bool) → length (bits_bytes bits) ≡ (length bits + 7) / 8
length-bits_bytes bits = length-map-range_with_len (λ j. byte_of (eight bits j)) 0 ((length bits + 7) / 8)

bit_packed : (bits : List Bool) (k : ℕ) → k < length bits → bit_of (bits_bytes bits) k ≡ bool_at bits k
bit_packed bits k inside =
    let byte : get_or (bits_bytes bits) (k / 8) 0 ≡ byte_of (eight bits (k / 8)) =
    get_or-map-range_with_len (λ j. byte_of (eight bits j)) 0 ((length bits + 7) / 8) (k / 8) (k / 8) 0 (omega (arith, inside)) (zero-add (k / 8)) in
    let small : k % 8 < 8 = omega arith in
    let place : 8 * (k / 8) + k % 8 ≡ k = omega arith in
    ap (λ (b : ℕ). eqb (bit_at b (k % 8)) 1) byte ∙ ap (λ (n : ℕ). eqb n 1) (bit_mask_l (eight bits (k / 8)) (k % 8))
    ∙ is_one (get_or (eight bits (k / 8)) (k % 8) false)
    ∙ get_or-take 8 (drop (8 * (k / 8)) bits) (k % 8) false small ∙ get_or-drop (8 * (k / 8)) bits (k % 8) false ∙ ap (bool_at bits) place

-- ---- that begin at a bit of the first byte

length-after : (b : ℕ) (bits : List Bool) → length (replicate b false ++ bits) ≡ b + length bits
length-after b bits = length-append (replicate b false) bits ∙ ap (λ n. n + length bits) (length-replicate {A = Bool} b false)

pub length-begun : (b : ℕ) (bits : List Bool) → length (bits_bytes (replicate b false ++ bits)) ≡ (b + length bits + 7) / 8
length-begun b bits = length-bits_bytes (replicate b false ++ bits) ∙ ap (λ n. (n + 7) / 8) (length-after b bits)

pub unpacked-begun : (b : ℕ) (bits : List Bool) → unpacked (bits_bytes (replicate b false ++ bits)) b (length bits) ≡ bits
unpacked-begun b bits =
    let before : List Bool = replicate b false in
    let bs = bits_bytes (before ++ bits) in
    let long = length_unpacked bs b (length bits) in
    same_lists (unpacked bs b (length bits)) bits long (λ i d l.
    let inside : i < length bits = omega (arith, l, long) in
    let place : b + i - b ≡ i = omega arith in
    get_unpacked bs b (length bits) i d inside ∙ bit_packed (before ++ bits) (b + i) (omega (arith, length-after b bits, inside))
    ∙ get_or-append_right before bits b (b + i) false (length-replicate {A = Bool} b false) (omega arith) ∙ ap (λ k. get_or bits k false) place
    ∙ get_or_default bits i false d inside)

-- ---- the bytes with these bits and no others

-- a bit, as a number
bit_number : (n i : ℕ) (b : Bool) → eqb (bit_at n i) 1 ≡ b → bit_at n i ≡ cond b 1 0
bit_number n i b is = by_bit (bit_at n i) (bit_at-lt n i) ∙ ap (λ (x : Bool). cond x 1 0) is
  where
    by_bit : (m : ℕ) → m < 2 → m ≡ cond (eqb m 1) 1 0
    by_bit zero small = refl
    by_bit (suc zero) small = refl
    by_bit (suc (suc m)) small = absurd (omega arith)

byte_exact : (bits : List Bool) (byte : ℕ) → length bits ≤ 8 → byte < 2 ^ 8 → ((i : ℕ) → i < 8 → eqb (bit_at byte i) 1 ≡ bool_at bits i) → byte ≡ byte_of bits
byte_exact bits byte few small each =
    let bound : mask_l bits < 2 ^ 8 = omega (arith, mask_l-lt bits, pow_mono few) in
    same_from_bits_below 8 byte (mask_l bits) small bound (λ i l. bit_number byte i (bool_at bits i) (each i l) ∙ sym (bit_mask_l bits i))

-- bytes with these bits, as many as they need, and no other bit set
pub bytes_exact : (cs : List ℕ) (bits : List Bool) → length cs ≡ (length bits + 7) / 8 → ((j : ℕ) → get_or cs j 0 < 256)
    → ((k : ℕ) → k < 8 * length cs → bit_of cs k ≡ bool_at bits k) → cs ≡ bits_bytes bits
bytes_exact cs bits long small each =
    ext_get_or 0 cs (bits_bytes bits) (long ∙ sym (length-bits_bytes bits)) (λ j inside.
    byte_exact (eight bits j) (get_or cs j 0) (few j) (small j) (λ i l.
    let q : (8 * j + i) / 8 ≡ j = omega (arith, l) in
    let r : (8 * j + i) % 8 ≡ i = omega (arith, l) in
    (λ h. eqb (bit_at (get_or cs (sym q h) 0) (sym r h)) 1) ∙ each (8 * j + i) (omega (arith, l, inside))
    ∙ sym (get_or-take 8 (drop (8 * j) bits) i false l ∙ get_or-drop (8 * j) bits i false))
    ∙ sym (get_or-map-range_with_len (λ m. byte_of (eight bits m)) 0 ((length bits + 7) / 8) j j 0 (omega (arith, inside, long)) (zero-add j)))
  where
    few : (j : ℕ) → length (eight bits j) ≤ 8
    few j = omega (arith, length-take 8 (drop (8 * j) bits))

-- those of bits from a place on, where no bit before them is set and none after them
pub bytes_of_bits : (bs cs : List ℕ) (b n : ℕ) → length cs ≡ (b + n + 7) / 8 → ((j : ℕ) → get_or cs j 0 < 256)
    → ((k : ℕ) → k < b → bit_of cs k ≡ false) → ((k : ℕ) → b ≤ k → k < b + n → bit_of cs k ≡ bit_of bs k) → ((k : ℕ) → b + n ≤ k → bit_of cs k ≡ false)
    → cs ≡ bits_bytes (replicate b false ++ unpacked bs b n)
bytes_of_bits bs cs b n long small before within after =
    bytes_exact cs (replicate b false ++ bits) (long ∙ sym (ap (λ m. (m + 7) / 8) (length-after b bits ∙ ap (λ m. b + m) (length_unpacked bs b n)))) small each
  where
    bits : List Bool
    bits = unpacked bs b n

    before-len : length (replicate b false) ≡ b
    before-len = length-replicate {A = Bool} b false

    each : (k : ℕ) → k < 8 * length cs → bit_of cs k ≡ bool_at (replicate b false ++ bits) k
    each k l = elim (cases_lt k b) [
      | inl early ↦ before k early ∙ sym (get_or_append_left (replicate b false) bits false k (omega (arith, early, before-len)) ∙ get_or-replicate b k false false early)
      | inr late ↦
          let past = get_or-append_right (replicate b false) bits b k false before-len late in
          elim (cases_lt k (b + n)) [
            | inl inside ↦
                let place : b + (k - b) ≡ k = omega (arith, late) in
                within k late inside ∙ sym (past ∙ get_unpacked bs b n (k - b) false (omega (arith, late, inside)) ∙ ap (bit_of bs) place)
            | inr outside ↦ after k outside ∙ sym (past ∙ get_or_past bits (k - b) false (omega (arith, late, outside, length_unpacked bs b n)))
          ]
    ]

-- a bit of the first bytes
pub bit_of-cut : (bs : List ℕ) (n k : ℕ) → k / 8 < n → bit_of (take n bs) k ≡ bit_of bs k
bit_of-cut bs n k inside = ap (λ (b : ℕ). eqb (bit_at b (k % 8)) 1) (get_or-take n bs (k / 8) 0 inside)

-- ---- the bytes of bits that begin with a byte

-- they hold these bits
pub exact_bits : (bs cs : List ℕ) (first n : ℕ) → first ≡ 0 → cs ≡ bits_bytes (replicate first false ++ unpacked bs first n)
    → unpacked cs 0 n ≡ unpacked bs first n
exact_bits bs cs zero n none is =
    let bits = unpacked bs 0 n in
    ap (λ (xs : List ℕ). unpacked xs 0 n) is ∙ ap (λ m. unpacked (bits_bytes bits) 0 m) (sym (length_unpacked bs 0 n)) ∙ unpacked-begun 0 bits
exact_bits bs cs (suc k) n none is = absurd (omega (arith, none))

-- and no others
pub exact_bytes : (bs cs : List ℕ) (first n : ℕ) → first ≡ 0 → cs ≡ bits_bytes (replicate first false ++ unpacked bs first n)
    → cs ≡ bits_bytes (unpacked cs 0 n)
exact_bytes bs cs zero n none is = is ∙ ap bits_bytes (sym (exact_bits bs cs zero n none is))
exact_bytes bs cs (suc k) n none is = absurd (omega (arith, none))

-- there are as many as they need
pub exact_len : (bs cs : List ℕ) (first n : ℕ) → first ≡ 0 → cs ≡ bits_bytes (replicate first false ++ unpacked bs first n) → n ≤ 8 * length cs
exact_len bs cs first n none is =
    omega (arith, ap length is ∙ length-begun first (unpacked bs first n), length_unpacked bs first n)
