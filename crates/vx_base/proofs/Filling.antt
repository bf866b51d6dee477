-- Runs of bits that are written.
use Rattle.std.proofs.Common.{ℕ, zero, suc, ◌+◌, ◌-◌, ◌*◌, ◌/◌, ◌%◌, ◌^◌, ◌<◌, ◌≤◌, ◌≡◌, ◌≢◌, Bool, true, false, eqb, List, ◌++◌, length, get_or, set, take, drop, map, append-nil, replicate, refl, sym, ◌∙◌, ap, zero-add, inl, inr, arith}
use Rattle.std.specs.Prelude.{bit_and, bit_or}
use Rattle.std.specs.Int.{w8, bit_at, bit_not}
use Rattle.std.proofs.lemmas.Bool.{cases_lt, cases_eq}
use Rattle.std.proofs.lemmas.Nat.{mod_below}
use Rattle.std.proofs.lemmas.Nat.Bits.{bit_at-zero, bit_at-lt, bit_at_or, bit_at_and, bit_at_not, bit_at_ones, bit_at_ones_above}
use Rattle.std.proofs.lemmas.List.{get_or-set_same, get_or-set_other, same_lists, get_or_append_left, get_or-append_right, get_or-replicate, get_or-take, get_or-drop, length-append, length-take-le, length-replicate, length-drop}
use Rattle.std.proofs.lemmas.List.FromFn.{length-map-range_with_len, get_or-map-range_with_len}
use Rattle.std.proofs.lemmas.Slice.{take-put_mid, take-put_mid_below, drop-put_mid}
use borrow.Rule.Slice.PartMut.{put_mid}
use Rattle.vx_base.specs.Bits.{bit_of, bool_at, byte_like, unpacked, Written, Filled}
use Rattle.vx_base.specs.Selections.{run_positions}
use Rattle.vx_base.proofs.PackedBits.{get_unpacked, length_unpacked}
use Rattle.vx_base.proofs.PackedBytes.{bit_at-shr, bit_at-shl_low, bit_at-shl_high, bit_at-low}

pub written_none : (bs : List ℕ) (start : ℕ) (f : ℕ → Bool) → Written bs bs start start f
written_none bs start f = (λ k h l. absurd (omega arith), λ k h. refl, λ k h. refl)

-- one bit more
pub written_bit : (old out new : List ℕ) (start i : ℕ) (f : ℕ → Bool) → start ≤ i → Written old out start i f → bit_of new i ≡ f i → ((j : ℕ) → j ≢ i → bit_of new j ≡ bit_of out j)
    → Written old new start (i + 1) f
written_bit old out new start i f le before here others = (
  λ k h l. elim (cases_lt k i) [
    | inl small ↦ others k (λ e. absurd (omega arith)) ∙ before.0 k h small
    | inr large ↦ let same : k ≡ i = omega arith in ap (bit_of new) same ∙ here ∙ ap f (sym same)
  ],
  λ k h. others k (λ e. absurd (omega arith)) ∙ before.1 k h,
  λ k h. others k (λ e. absurd (omega arith)) ∙ before.2 k (omega arith),
)

-- one byte more
pub written_byte : (old out : List ℕ) (start j byte : ℕ) (f : ℕ → Bool) → start ≤ 8 * j → j < length out → ((i : ℕ) → i < 8 → eqb (bit_at byte i) 1 ≡ f (8 * j + i))
    → Written old out start (8 * j) f → Written old (set out j byte) start (8 * (j + 1)) f
written_byte old out start j byte f le within bits before = (
  λ k h l. elim (cases_lt k (8 * j)) [
    | inl small ↦ other k (omega arith) ∙ before.0 k h small
    | inr large ↦ here k large l
  ],
  λ k h. other k (omega arith) ∙ before.1 k h,
  λ k h. other k (omega arith) ∙ before.2 k (omega arith),
)
  where
    other : (k : ℕ) → k / 8 ≢ j → bit_of (set out j byte) k ≡ bit_of out k
    other k apart = rw get_or-set_other

    here : (k : ℕ) → 8 * j ≤ k → k < 8 * (j + 1) → bit_of (set out j byte) k ≡ f k
    here k h l =
        let place : k / 8 ≡ j = omega arith in
        let same : 8 * j + k % 8 ≡ k = omega arith in
        rw (place, get_or-set_same) (bits (k % 8) (omega arith) ∙ ap f same)

-- the bits of the bytes of a part
pub written_part : (old ys : List ℕ) (first last : ℕ) (f : ℕ → Bool) → first ≤ last → last ≤ length old → length ys ≡ last - first
    → ((k : ℕ) → k < 8 * (last - first) → bit_of ys k ≡ f (8 * first + k)) → Written old (put_mid first (last - first) old ys) (8 * first) (8 * last) f
written_part old ys first last f le within size bits = (
  λ k h l.
      let place : (k - 8 * first) / 8 ≡ k / 8 - first = omega arith in
      let bit : (k - 8 * first) % 8 ≡ k % 8 = omega arith in
      let whole : 8 * first + (k - 8 * first) ≡ k = omega arith in
      let front : length (take first old) ≡ first = length-take-le first old (omega arith) in
      let byte : get_or new (k / 8) 0 ≡ get_or ys (k / 8 - first) 0 =
      sym (get_or-take last new (k / 8) 0 (omega arith)) ∙ ap (λ (bs : List ℕ). get_or bs (k / 8) 0) (take-put_mid first (last - first) old ys last (omega arith) (omega arith))
      ∙ get_or-append_right (take first old) ys first (k / 8) 0 front (omega arith) in
      rw byte ((rw (place, bit) at (bits (k - 8 * first) (omega arith))) ∙ ap f whole),
  λ k h.
      let byte : get_or new (k / 8) 0 ≡ get_or old (k / 8) 0 =
      sym (get_or-take first new (k / 8) 0 (omega arith)) ∙ ap (λ (bs : List ℕ). get_or bs (k / 8) 0) (take-put_mid_below first (last - first) old ys first (omega arith) (omega arith))
      ∙ get_or-take first old (k / 8) 0 (omega arith) in
      rw byte,
  λ k h.
      let place : last + (k / 8 - last) ≡ k / 8 = omega arith in
      let same : (bs : List ℕ) → get_or bs (k / 8) 0 ≡ get_or (drop last bs) (k / 8 - last) 0 =
      λ bs. sym (get_or-drop last bs (k / 8 - last) 0 ∙ ap (λ (n : ℕ). get_or bs n 0) place) in
      let byte : get_or new (k / 8) 0 ≡ get_or old (k / 8) 0 =
      same new ∙ ap (λ (bs : List ℕ). get_or bs (k / 8 - last) 0) (drop-put_mid first (last - first) old ys last (omega arith) (omega arith) size) ∙ sym (same old) in
      rw byte,
)
  where
    new : List ℕ
    new = put_mid first (last - first) old ys

-- a run at the end
pub written_end : (old mid new : List ℕ) (len count : ℕ) (f : ℕ → Bool) (tail : List Bool) → ((k : ℕ) → k < len → bit_of mid k ≡ bit_of old k) → ((k : ℕ) → k < len → bit_of new k ≡ bit_of mid k)
    → ((k : ℕ) → len ≤ k → k < len + count → bit_of new k ≡ f k)
    → length tail ≡ count → ((i : ℕ) (d : Bool) → i < count → get_or tail i d ≡ f (len + i)) → unpacked new 0 (len + count) ≡ unpacked old 0 len ++ tail
written_end old mid new len count f tail kept before written size bits = same_lists _ _ long each
  where
    front : length (unpacked old 0 len) ≡ len
    front = length_unpacked old 0 len

    long : length (unpacked new 0 (len + count)) ≡ length (unpacked old 0 len ++ tail)
    long = omega (arith, length_unpacked new 0 (len + count), length-append (unpacked old 0 len) tail, size, front)

    each : (k : ℕ) (d : Bool) → k < length (unpacked new 0 (len + count)) → get_or (unpacked new 0 (len + count)) k d ≡ get_or (unpacked old 0 len ++ tail) k d
    each k d l =
        let small : k < len + count = omega (arith, length_unpacked new 0 (len + count)) in
        let left : get_or (unpacked new 0 (len + count)) k d ≡ bit_of new k = get_unpacked new 0 (len + count) k d small ∙ ap (bit_of new) (zero-add k) in
        elim (cases_lt k len) [
          | inl early ↦ left ∙ before k early ∙ kept k early ∙ sym (get_or_append_left (unpacked old 0 len) tail d k (omega (arith, front)) ∙ get_unpacked old 0 len k d early ∙ ap (bit_of old) (zero-add k))
          | inr from ↦
              let place : len + (k - len) ≡ k = omega arith in
              left ∙ written k from small ∙ sym (get_or-append_right (unpacked old 0 len) tail len k d front from ∙ bits (k - len) d (omega arith) ∙ ap f place)
        ]

-- the booleans of a run at the end
pub run_written : (bits : List Bool) (old new : List ℕ) (run : ℕ × ℕ) (at : ℕ) → ((k : ℕ) → k < at → bit_of new k ≡ bit_of old k)
    → ((k : ℕ) → at ≤ k → k < at + (run.1 - run.0) → bit_of new k ≡ bool_at bits (run.0 + (k - at)))
    → unpacked new 0 (at + (run.1 - run.0)) ≡ unpacked old 0 at ++ map (bool_at bits) (run_positions run)
run_written bits old new run at before written =
    written_end old old new at (run.1 - run.0) (λ k. bool_at bits (run.0 + (k - at))) (map (bool_at bits) (run_positions run)) (λ k h. refl) before written
    (length-map-range_with_len (bool_at bits) run.0 (run.1 - run.0))
    (λ i d h. get_or-map-range_with_len (bool_at bits) run.0 (run.1 - run.0) i (run.0 + (at + i - at)) d h (omega arith))

-- and of one that has none
pub run_of_none : (bits : List Bool) (bs : List ℕ) (run : ℕ × ℕ) (at : ℕ) → run.1 ≤ run.0 → unpacked bs 0 at ≡ unpacked bs 0 at ++ map (bool_at bits) (run_positions run)
run_of_none bits bs run at le =
    let none : run.1 - run.0 ≡ 0 = omega arith in
    sym (rw none (append-nil (unpacked bs 0 at)))

-- ---- equal bits

pub like_bit : (value : Bool) (i : ℕ) → i < 8 → eqb (bit_at (byte_like value) i) 1 ≡ value
like_bit false i h = ap (λ (n : ℕ). eqb n 1) (bit_at-zero i)
like_bit true zero h = refl
like_bit true (suc zero) h = refl
like_bit true (suc (suc zero)) h = refl
like_bit true (suc (suc (suc zero))) h = refl
like_bit true (suc (suc (suc (suc zero)))) h = refl
like_bit true (suc (suc (suc (suc (suc zero))))) h = refl
like_bit true (suc (suc (suc (suc (suc (suc zero)))))) h = refl
like_bit true (suc (suc (suc (suc (suc (suc (suc zero))))))) h = refl
like_bit true (suc (suc (suc (suc (suc (suc (suc (suc i)))))))) h = absurd (omega arith)

-- ---- bits of one byte

-- `(MAX >> (8 - count)) << place`
abbrev mask_of : ℕ → ℕ → ℕ
mask_of place count = (2 ^ 8 - 1) / 2 ^ (8 - count) * 2 ^ place % 2 ^ 8

mask_before : (place count i : ℕ) → place < 8 → i < place → bit_at (mask_of place count) i ≡ 0
mask_before place count i p h = bit_at-low 8 ((2 ^ 8 - 1) / 2 ^ (8 - count) * 2 ^ place) i (omega arith) ∙ bit_at-shl_low ((2 ^ 8 - 1) / 2 ^ (8 - count)) place i h

mask_from : (place count i : ℕ) → i < 8 → place ≤ i → bit_at (mask_of place count) i ≡ bit_at (2 ^ 8 - 1) (8 - count + (i - place))
mask_from place count i p h =
    bit_at-low 8 ((2 ^ 8 - 1) / 2 ^ (8 - count) * 2 ^ place) i p ∙ bit_at-shl_high ((2 ^ 8 - 1) / 2 ^ (8 - count)) place i h ∙ bit_at-shr (2 ^ 8 - 1) (8 - count) (i - place)

mask_within : (place count i : ℕ) → i < 8 → place ≤ i → i < place + count → count ≤ 8 → bit_at (mask_of place count) i ≡ 1
mask_within place count i p h l c = mask_from place count i p h ∙ bit_at_ones 8 (8 - count + (i - place)) (omega arith)

mask_after : (place count i : ℕ) → i < 8 → place + count ≤ i → bit_at (mask_of place count) i ≡ 0
mask_after place count i p h = mask_from place count i p (omega arith) ∙ bit_at_ones_above 8 (8 - count + (i - place)) (omega arith)

-- a byte whose bits are written from a place on
filled_byte : (old : List ℕ) (start end byte : ℕ) (value : Bool) → start ≤ end → end ≤ 8 * (start / 8) + 8 → start / 8 < length old
    → ((i : ℕ) → i < 8 → bit_at (mask_of (start % 8) (end - start)) i ≡ 1 → eqb (bit_at byte i) 1 ≡ value)
    → ((i : ℕ) → i < 8 → bit_at (mask_of (start % 8) (end - start)) i ≡ 0 → bit_at byte i ≡ bit_at (get_or old (start / 8) 0) i)
    → Filled old (set old (start / 8) byte) start end value
filled_byte old start end byte value le one within written kept = (
  λ k h l.
      let place : k / 8 ≡ start / 8 = omega arith in
      rw (place, get_or-set_same) (written (k % 8) (mod_below k 8 (omega arith)) (mask_within (start % 8) (end - start) (k % 8) (mod_below k 8 (omega arith)) (omega arith) (omega arith) (omega arith))),
  λ k h. other k (λ e. mask_before (start % 8) (end - start) (k % 8) (mod_below start 8 (omega arith)) (omega arith)),
  λ k h. other k (λ e. mask_after (start % 8) (end - start) (k % 8) (mod_below k 8 (omega arith)) (omega arith)),
)
  where
    other : (k : ℕ) → (k / 8 ≡ start / 8 → bit_at (mask_of (start % 8) (end - start)) (k % 8) ≡ 0) → bit_of (set old (start / 8) byte) k ≡ bit_of old k
    other k none = elim (cases_eq (k / 8) (start / 8)) [
      | inl e ↦ rw (e, get_or-set_same) (ap (λ (b : ℕ). eqb b 1) (kept (k % 8) (mod_below k 8 (omega arith)) (none e)))
      | inr apart ↦ rw get_or-set_other
    ]

-- `bytes[start / 8] |= mask`
pub filled_true : (old : List ℕ) (start end : ℕ) → start ≤ end → end ≤ 8 * (start / 8) + 8 → start / 8 < length old
    → Filled old (set old (start / 8) (bit_or (get_or old (start / 8) 0) (mask_of (start % 8) (end - start)))) start end true
filled_true old start end le one within = filled_byte old start end (bit_or byte mask) true le one within
    (λ i h m. let bit : bit_at (bit_or byte mask) i ≡ 1 = omega (arith, bit_at_or byte mask i, m, bit_at-lt byte i) in ap (λ (b : ℕ). eqb b 1) bit)
    (λ i h m. omega (arith, bit_at_or byte mask i, m, bit_at-lt byte i))
  where
    byte : ℕ
    byte = get_or old (start / 8) 0

    mask : ℕ
    mask = mask_of (start % 8) (end - start)

-- `bytes[start / 8] &= !mask`
pub filled_false : (old : List ℕ) (start end : ℕ) → start ≤ end → end ≤ 8 * (start / 8) + 8 → start / 8 < length old
    → Filled old (set old (start / 8) (bit_and (get_or old (start / 8) 0) (bit_not w8 (mask_of (start % 8) (end - start))))) start end false
filled_false old start end le one within = filled_byte old start end (bit_and byte (bit_not w8 mask)) false le one within
    (λ i h m. let bit : bit_at (bit_and byte (bit_not w8 mask)) i ≡ 0 = omega (arith, bit_at_and byte (bit_not w8 mask) i, flipped i h, m, bit_at-lt byte i) in ap (λ (b : ℕ). eqb b 1) bit)
    (λ i h m. omega (arith, bit_at_and byte (bit_not w8 mask) i, flipped i h, m, bit_at-lt byte i))
  where
    byte : ℕ
    byte = get_or old (start / 8) 0

    mask : ℕ
    mask = mask_of (start % 8) (end - start)

    flipped : (i : ℕ) → i < 8 → bit_at (bit_not w8 mask) i ≡ 1 - bit_at mask i
    flipped i h = bit_at_not w8 mask i (mod_below ((2 ^ 8 - 1) / 2 ^ (8 - (end - start)) * 2 ^ (start % 8)) (2 ^ 8) (omega arith)) h

-- ---- lists of bits

-- the booleans of the bytes
pub filled_list : (old new : List ℕ) (start end len : ℕ) (value : Bool) → start ≤ end → end ≤ len → Filled old new start end value
    → unpacked new 0 len ≡ take start (unpacked old 0 len) ++ replicate (end - start) value ++ drop end (unpacked old 0 len)
filled_list old new start end len value le within f = same_lists _ _ long each
  where
    xs : List Bool
    xs = unpacked old 0 len

    size : length xs ≡ len
    size = length_unpacked old 0 len

    first : length (take start xs) ≡ start
    first = length-take-le start xs (omega (arith, size))

    second : length (take start xs ++ replicate (end - start) value) ≡ end
    second = omega (arith, length-append (take start xs) (replicate (end - start) value), length-replicate (end - start) value, first)

    long : length (unpacked new 0 len) ≡ length (take start xs ++ replicate (end - start) value ++ drop end xs)
    long = omega (arith, length_unpacked new 0 len, length-append (take start xs ++ replicate (end - start) value) (drop end xs), length-drop end xs, second, size)

    each : (k : ℕ) (d : Bool) → k < length (unpacked new 0 len) → get_or (unpacked new 0 len) k d ≡ get_or (take start xs ++ replicate (end - start) value ++ drop end xs) k d
    each k d l =
        let small : k < len = omega (arith, length_unpacked new 0 len) in
        let left : get_or (unpacked new 0 len) k d ≡ bit_of new k = get_unpacked new 0 len k d small ∙ ap (bit_of new) (zero-add k) in
        let was : get_or xs k d ≡ bit_of old k = get_unpacked old 0 len k d small ∙ ap (bit_of old) (zero-add k) in
        elim (cases_lt k start) [
          | inl before ↦ left ∙ f.1 k before ∙ sym (get_or_append_left (take start xs ++ replicate (end - start) value) (drop end xs) d k (omega (arith, second))
              ∙ get_or_append_left (take start xs) (replicate (end - start) value) d k (omega (arith, first)) ∙ get_or-take start xs k d before ∙ was)
          | inr from ↦ elim (cases_lt k end) [
            | inl inside ↦ left ∙ f.0 k from inside ∙ sym (get_or_append_left (take start xs ++ replicate (end - start) value) (drop end xs) d k (omega (arith, second))
                ∙ get_or-append_right (take start xs) (replicate (end - start) value) start k d first from ∙ get_or-replicate (end - start) (k - start) value d (omega arith))
            | inr after ↦
                let whole : end + (k - end) ≡ k = omega arith in
                left ∙ f.2 k after ∙ sym (get_or-append_right (take start xs ++ replicate (end - start) value) (drop end xs) end k d second after
                ∙ get_or-drop end xs (k - end) d ∙ ap (λ (n : ℕ). get_or xs n d) whole ∙ was)
          ]
        ]

-- a run of all of them
pub filled_all : (old new : List ℕ) (len : ℕ) (value : Bool) → Filled old new 0 len value → unpacked new 0 len ≡ replicate len value
filled_all old new len value f = same_lists _ _ (length_unpacked new 0 len ∙ sym (length-replicate len value)) each
  where
    each : (k : ℕ) (d : Bool) → k < length (unpacked new 0 len) → get_or (unpacked new 0 len) k d ≡ get_or (replicate len value) k d
    each k d l =
        let small : k < len = omega (arith, length_unpacked new 0 len) in
        get_unpacked new 0 len k d small ∙ ap (bit_of new) (zero-add k) ∙ f.0 k (omega arith) small ∙ sym (get_or-replicate len k value d small)
