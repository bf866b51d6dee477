-- Booleans that are packed eight to a byte.
use Rattle.std.proofs.Common.{ℕ, zero, suc, ◌+◌, ◌*◌, ◌/◌, ◌%◌, ◌^◌, ◌<◌, ◌≤◌, ◌≡◌, ◌≢◌, ◌⊎◌, ◌-◌, Bool, true, false, cond, eqb, List, [], ◌∷◌, ◌++◌, length, map, get_or, set, take, drop, refl, sym, ◌∙◌, ap, zero-add, inl, inr, arith}
use Rattle.std.specs.Int.{bit_at, w64, from_le_bytes}
use Rattle.std.specs.Prelude.{bit_and, bit_or, ◌&&◌, count_by, count_ones, slice_range}
use lib.Count.{ones_cat}
use Rattle.std.proofs.lemmas.Bool.{cases_lt}
use Rattle.std.proofs.lemmas.Simd.{bit_mask_l}
use Rattle.std.proofs.lemmas.List.{get_or-take, get_or-drop, get_or-map, get_or_append_left, get_or-append_right, take_all, length-take-le, length-drop, length-append, length-map, get_or_default, get_or-set_same, get_or-set_other, same_lists}
use Rattle.std.proofs.lemmas.Slice.Zip.{length-zip, get_or-zip}
use Rattle.std.specs.List.{range_with_len, zip}
use Rattle.std.specs.Simd.{first_chunks}
use lib.Lanes.{mask_l}
use mir.Val.{bool_byte}
use Rattle.vx_base.specs.Bits.{bit_of, byte_from, unpacked, bool_at}
use Rattle.vx_base.proofs.Chunks.{whole_chunk}
use Rattle.vx_base.proofs.Runs.{part_by_places}
use Rattle.vx_base.proofs.PackedBytes.{bit_of-and, bit_of-byte_from, byte_from-whole, byte_from-joined, count_more}
use Rattle.vx_base.proofs.PackedBits.{get_unpacked, length_unpacked, unpacked_none, unpacked_part, unpacked-same}
use Rattle.vx_base.proofs.SameBits.{byte_of_part, same_byte}

byte_of_bool : (b : Bool) → bool_byte b ≡ cond b 1 0
byte_of_bool true = refl
byte_of_bool false = refl

-- eight booleans as one number
pub eight : (bs : List Bool) → length bs ≡ 8
    → bool_byte (get_or bs 0 false) + 2 * bool_byte (get_or bs 1 false) + 4 * bool_byte (get_or bs 2 false) + 8 * bool_byte (get_or bs 3 false)
    + 16 * bool_byte (get_or bs 4 false) + 32 * bool_byte (get_or bs 5 false) + 64 * bool_byte (get_or bs 6 false) + 128 * bool_byte (get_or bs 7 false) ≡ mask_l bs
eight (a ∷ b ∷ c ∷ d ∷ e ∷ f ∷ g ∷ h ∷ []) long =
    omega (arith, byte_of_bool a, byte_of_bool b, byte_of_bool c, byte_of_bool d, byte_of_bool e, byte_of_bool f, byte_of_bool g, byte_of_bool h)
eight (a ∷ b ∷ c ∷ d ∷ e ∷ f ∷ g ∷ h ∷ i ∷ is) long = absurd (omega arith)
eight [] long = absurd (omega arith)
eight (a ∷ []) long = absurd (omega arith)
eight (a ∷ b ∷ []) long = absurd (omega arith)
eight (a ∷ b ∷ c ∷ []) long = absurd (omega arith)
eight (a ∷ b ∷ c ∷ d ∷ []) long = absurd (omega arith)
eight (a ∷ b ∷ c ∷ d ∷ e ∷ []) long = absurd (omega arith)
eight (a ∷ b ∷ c ∷ d ∷ e ∷ f ∷ []) long = absurd (omega arith)
eight (a ∷ b ∷ c ∷ d ∷ e ∷ f ∷ g ∷ []) long = absurd (omega arith)

-- eight values from a place on
abbrev pub eight_from : {X : Type 0} → (ℕ → X) → ℕ → List X
eight_from f n = f n ∷ f (n + 1) ∷ f (n + 2) ∷ f (n + 3) ∷ f (n + 4) ∷ f (n + 5) ∷ f (n + 6) ∷ f (n + 7) ∷ []

pub eight_at : {X : Type 0} → (f : ℕ → X) (n i : ℕ) (d : X) → i < 8 → get_or (eight_from f n) i d ≡ f (n + i)
eight_at f n zero d h = ap f (omega arith)
eight_at f n (suc zero) d h = refl
eight_at f n (suc (suc zero)) d h = refl
eight_at f n (suc (suc (suc zero))) d h = refl
eight_at f n (suc (suc (suc (suc zero)))) d h = refl
eight_at f n (suc (suc (suc (suc (suc zero))))) d h = refl
eight_at f n (suc (suc (suc (suc (suc (suc zero)))))) d h = refl
eight_at f n (suc (suc (suc (suc (suc (suc (suc zero))))))) d h = refl
eight_at f n (suc (suc (suc (suc (suc (suc (suc (suc i)))))))) d h = absurd (omega arith)

is_one : (b : Bool) → eqb (cond b 1 0) 1 ≡ b
is_one true = refl
is_one false = refl

-- one byte more is written
pub byte_put : (out : List ℕ) (f : ℕ → Bool) (j byte : ℕ) → j < length out → ((i : ℕ) → i < 8 → eqb (bit_at byte i) 1 ≡ f (8 * j + i)) → ((k : ℕ) → k < 8 * j → bit_of out k ≡ f k)
    → (k : ℕ) → k < 8 * (j + 1) → bit_of (set out j byte) k ≡ f k
byte_put out f j byte within each before k h = elim (cases_lt k (8 * j)) [
  | inl small ↦
      let apart : k / 8 ≢ j = omega arith in
      rw get_or-set_other (before k small)
  | inr here ↦
      let place : k / 8 ≡ j = omega arith in
      let low : k % 8 < 8 = omega arith in
      let same : 8 * j + k % 8 ≡ k = omega arith in
      rw (place, get_or-set_same) (each (k % 8) low ∙ ap f same)
]

-- the bytes of `&` of two runs that begin a byte: how many there are, and each of them
abbrev ands : List ℕ → List ℕ → List ℕ
ands ls rs = map (λ (p : ℕ × ℕ). bit_and p.0 p.1) (zip ls rs)

length-ands : (ls rs : List ℕ) (n : ℕ) → length ls ≡ n → length rs ≡ n → length (ands ls rs) ≡ n
length-ands ls rs n h g = omega (arith, length-map (zip ls rs) (λ (p : ℕ × ℕ). bit_and p.0 p.1), length-zip ls rs, h, g)

get-ands : (ls rs : List ℕ) (i n : ℕ) → i < n → length ls ≡ n → length rs ≡ n → get_or (ands ls rs) i 0 ≡ bit_and (get_or ls i 0) (get_or rs i 0)
get-ands ls rs i n l h g = get_or-map (λ (p : ℕ × ℕ). bit_and p.0 p.1) (zip ls rs) i (0, 0) 0 (omega (arith, length-zip ls rs, h, g, l))
    ∙ ap (λ (p : ℕ × ℕ). bit_and p.0 p.1) (get_or-zip ls rs i (0, 0) (omega (arith, h, l)) (omega (arith, g, l)))

-- the same where the first bytes are made before the others
module _ (ls rs : List ℕ) (a n : ℕ) (ordered : a ≤ n) (left : n ≤ length ls) (right : n ≤ length rs) where
  long-start : (xs : List ℕ) → n ≤ length xs → length (take a xs) ≡ a
  long-start xs h = length-take-le a xs (omega (arith, h, ordered))

  long-rest : (xs : List ℕ) → n ≤ length xs → length (take (n - a) (drop a xs)) ≡ n - a
  long-rest xs h = length-take-le (n - a) (drop a xs) (omega (arith, h, ordered, length-drop a xs))

  abbrev start : List ℕ
  start = ands (take a ls) (take a rs)

  abbrev rest : List ℕ
  rest = ands (take (n - a) (drop a ls)) (take (n - a) (drop a rs))

  length-start : length start ≡ a
  length-start = length-ands (take a ls) (take a rs) a (long-start ls left) (long-start rs right)

  pub and_parts-len : length (start ++ rest) ≡ n
  and_parts-len = omega (arith, ordered, length-append start rest, length-start, length-ands (take (n - a) (drop a ls)) (take (n - a) (drop a rs)) (n - a) (long-rest ls left) (long-rest rs right))

  and_byte : (j : ℕ) → j < n → get_or (start ++ rest) j 0 ≡ bit_and (get_or ls j 0) (get_or rs j 0)
  and_byte j l = elim (cases_lt j a) [
    | inl low ↦
        get_or_append_left start rest 0 j (omega (arith, length-start, low)) ∙ get-ands (take a ls) (take a rs) j a low (long-start ls left) (long-start rs right)
        ∙ rw (get_or-take a ls j 0 low, get_or-take a rs j 0 low) refl
    | inr high ↦
        let within : j - a < n - a = omega (arith, high, l) in
        let place : a + (j - a) ≡ j = omega (arith, high) in
        get_or-append_right start rest a j 0 length-start high
        ∙ get-ands (take (n - a) (drop a ls)) (take (n - a) (drop a rs)) (j - a) (n - a) within (long-rest ls left) (long-rest rs right)
        ∙ rw (get_or-take (n - a) (drop a ls) (j - a) 0 within, get_or-take (n - a) (drop a rs) (j - a) 0 within, get_or-drop a ls (j - a) 0, get_or-drop a rs (j - a) 0, place) refl
  ]

  pub and_parts : (k : ℕ) → k < 8 * n → bit_of (start ++ rest) k ≡ (bit_of ls (0 + k) && bit_of rs (0 + k))
  and_parts k l =
      let byte : k / 8 < n = omega (arith, l) in
      ap (λ (b : ℕ). eqb (bit_at b (k % 8)) 1) (and_byte (k / 8) byte) ∙ bit_of-and (get_or ls (k / 8) 0) (get_or rs (k / 8) 0) (k % 8)
      ∙ rw zero-add refl

-- one byte more of `&` of any two
pub and_put_joined : (ls rs out : List ℕ) (from at j : ℕ) → j < length out → ((k : ℕ) → k < 8 * j → bit_of out k ≡ (bit_of ls (from + k) && bit_of rs (at + k)))
    → (k : ℕ) → k < 8 * (j + 1) → bit_of (set out j (bit_and (byte_from ls (from + 8 * j)) (byte_from rs (at + 8 * j)))) k ≡ (bit_of ls (from + k) && bit_of rs (at + k))
and_put_joined ls rs out from at j within before = byte_put out (λ k. bit_of ls (from + k) && bit_of rs (at + k)) j (bit_and (byte_from ls (from + 8 * j)) (byte_from rs (at + 8 * j))) within
    (λ i h. let left : from + 8 * j + i ≡ from + (8 * j + i) = omega arith in
    let right : at + 8 * j + i ≡ at + (8 * j + i) = omega arith in
    bit_of-and (byte_from ls (from + 8 * j)) (byte_from rs (at + 8 * j)) i ∙ rw (bit_of-byte_from ls (from + 8 * j) i h, bit_of-byte_from rs (at + 8 * j) i h, left, right) refl) before

-- seven bytes more of `&` of any two, or what there is room for
pub and_more : (ls rs old new : List ℕ) (from at j last l r : ℕ)
    → ((i : ℕ) → i < 64 - (from + 8 * (7 * j)) % 8 → eqb (bit_at l i) 1 ≡ bit_of ls (from + 8 * (7 * j) + i))
    → ((i : ℕ) → i < 64 - (at + 8 * (7 * j)) % 8 → eqb (bit_at r i) 1 ≡ bit_of rs (at + 8 * (7 * j) + i))
    → ((k : ℕ) → k < 8 * (7 * j) → bit_of new k ≡ bit_of old k)
    → ((k : ℕ) → 8 * (7 * j) ≤ k → k < 8 * last → bit_of new k ≡ eqb (bit_at (bit_and l r) (k - 8 * (7 * j))) 1)
    → ((k : ℕ) → k < 56 * j → k < 8 * length old → bit_of old k ≡ (bit_of ls (from + k) && bit_of rs (at + k)))
    → (k : ℕ) → k < 56 * (j + 1) → k < 8 * last → k < 8 * length old → bit_of new k ≡ (bit_of ls (from + k) && bit_of rs (at + k))
and_more ls rs old new from at j last l r left right before written was k h room within = elim (cases_lt k (8 * (7 * j))) [
  | inl early ↦ before k early ∙ was k (omega arith) within
  | inr late ↦
      let i = k - 8 * (7 * j) in
      let mine : from + 8 * (7 * j) + i ≡ from + k = omega arith in
      let theirs : at + 8 * (7 * j) + i ≡ at + k = omega arith in
      written k late room ∙ bit_of-and l r i ∙ ap (λ b. b && eqb (bit_at r i) 1) (left i (omega arith) ∙ ap (bit_of ls) mine)
      ∙ ap (λ b. bit_of ls (from + k) && b) (right i (omega arith) ∙ ap (bit_of rs) theirs)
]

-- one byte more of bits that begin within a byte
pub join_put : (bs out : List ℕ) (shift j : ℕ) → shift < 8 → j < length out → ((i : ℕ) → get_or bs i 0 < 256) → ((k : ℕ) → k < 8 * j → bit_of out k ≡ bit_of bs (shift + k))
    → (k : ℕ) → k < 8 * (j + 1) → bit_of (set out j (bit_or (get_or bs j 0 / 2 ^ shift) (get_or bs (j + 1) 0 * 2 ^ (8 - shift) % 2 ^ 8))) k ≡ bit_of bs (shift + k)
join_put bs out shift j small within fit before =
    let place : (shift + 8 * j) / 8 ≡ j = omega arith in
    let bit : (shift + 8 * j) % 8 ≡ shift = omega arith in
    let joined = rw (place, bit) at (byte_from-joined bs (shift + 8 * j) fit) in
    rw joined (byte_put out (λ k. bit_of bs (shift + k)) j (byte_from bs (shift + 8 * j)) within
    (λ i h. let whole : shift + 8 * j + i ≡ shift + (8 * j + i) = omega arith in bit_of-byte_from bs (shift + 8 * j) i h ∙ ap (bit_of bs) whole) before)

-- ---- set bits of words

-- the ones of a number in two parts
ones_of : (k a r n : ℕ) → r < 2 ^ k → n ≡ a * 2 ^ k + r → count_ones n ≡ count_ones a + count_ones r
ones_of k a r n h e = ap count_ones e ∙ ones_cat k a r h

-- the ones of eight bytes
ones_word : (a b c d e f g h : ℕ) → a < 256 → b < 256 → c < 256 → d < 256 → e < 256 → f < 256 → g < 256 → h < 256
    → count_ones (from_le_bytes w64 (a ∷ b ∷ c ∷ d ∷ e ∷ f ∷ g ∷ h ∷ []))
    ≡ count_ones a + count_ones b + count_ones c + count_ones d + count_ones e + count_ones f + count_ones g + count_ones h
ones_word a b c d e f g h la lb lc ld le lf lg lh =
    let s1 = ones_of 8 b a (a + b * 2 ^ 8) (omega arith) (omega arith) in
    let s2 = ones_of 16 c (a + b * 2 ^ 8) (a + b * 2 ^ 8 + c * 2 ^ 16) (omega arith) (omega arith) in
    let s3 = ones_of 24 d (a + b * 2 ^ 8 + c * 2 ^ 16) (a + b * 2 ^ 8 + c * 2 ^ 16 + d * 2 ^ 24) (omega arith) (omega arith) in
    let s4 = ones_of 32 e (a + b * 2 ^ 8 + c * 2 ^ 16 + d * 2 ^ 24) (a + b * 2 ^ 8 + c * 2 ^ 16 + d * 2 ^ 24 + e * 2 ^ 32) (omega arith) (omega arith) in
    let s5 = ones_of 40 f (a + b * 2 ^ 8 + c * 2 ^ 16 + d * 2 ^ 24 + e * 2 ^ 32) (a + b * 2 ^ 8 + c * 2 ^ 16 + d * 2 ^ 24 + e * 2 ^ 32 + f * 2 ^ 40) (omega arith) (omega arith) in
    let s6 = ones_of 48 g (a + b * 2 ^ 8 + c * 2 ^ 16 + d * 2 ^ 24 + e * 2 ^ 32 + f * 2 ^ 40) (a + b * 2 ^ 8 + c * 2 ^ 16 + d * 2 ^ 24 + e * 2 ^ 32 + f * 2 ^ 40 + g * 2 ^ 48) (omega arith) (omega arith) in
    let s7 = ones_of 56 h (a + b * 2 ^ 8 + c * 2 ^ 16 + d * 2 ^ 24 + e * 2 ^ 32 + f * 2 ^ 40 + g * 2 ^ 48) (from_le_bytes w64 (a ∷ b ∷ c ∷ d ∷ e ∷ f ∷ g ∷ h ∷ [])) (omega arith) (omega arith) in
    omega (arith, s1, s2, s3, s4, s5, s6, s7)

-- eight bytes one after another
bytes_from : (bs : List ℕ) (s : ℕ) → s + 8 ≤ length bs
    → slice_range bs s (s + 8) ≡ get_or bs s 0 ∷ get_or bs (s + 1) 0 ∷ get_or bs (s + 2) 0 ∷ get_or bs (s + 3) 0 ∷ get_or bs (s + 4) 0 ∷ get_or bs (s + 5) 0 ∷ get_or bs (s + 6) 0 ∷ get_or bs (s + 7) 0 ∷ []
bytes_from bs s room =
    let size : s + 8 - s ≡ 8 = omega arith in
    let p2 : s + 1 + 1 ≡ s + 2 = omega arith in
    let p3 : s + 2 + 1 ≡ s + 3 = omega arith in
    let p4 : s + 3 + 1 ≡ s + 4 = omega arith in
    let p5 : s + 4 + 1 ≡ s + 5 = omega arith in
    let p6 : s + 5 + 1 ≡ s + 6 = omega arith in
    let p7 : s + 6 + 1 ≡ s + 7 = omega arith in
    let each : map (λ k. get_or bs k 0) (range_with_len s 8)
    ≡ get_or bs s 0 ∷ get_or bs (s + 1) 0 ∷ get_or bs (s + 2) 0 ∷ get_or bs (s + 3) 0 ∷ get_or bs (s + 4) 0 ∷ get_or bs (s + 5) 0 ∷ get_or bs (s + 6) 0 ∷ get_or bs (s + 7) 0 ∷ [] = rw (p2, p3, p4, p5, p6, p7) refl in
    part_by_places bs 0 s (s + 8) (omega arith) room ∙ ap (λ n. map (λ k. get_or bs k 0) (range_with_len s n)) size ∙ each

-- a chunk of eight bytes
pub chunk_of_eight : (bs : List ℕ) (chunks : List (List ℕ)) (chunk d : List ℕ) (j : ℕ) → 8 * j + 8 ≤ length bs → chunks ≡ first_chunks 8 (length bs / 8) bs → chunk ≡ get_or chunks j d
    → chunk ≡ get_or bs (8 * j) 0 ∷ get_or bs (8 * j + 1) 0 ∷ get_or bs (8 * j + 2) 0 ∷ get_or bs (8 * j + 3) 0 ∷ get_or bs (8 * j + 4) 0 ∷ get_or bs (8 * j + 5) 0 ∷ get_or bs (8 * j + 6) 0 ∷ get_or bs (8 * j + 7) 0 ∷ []
chunk_of_eight bs chunks chunk d j room all read =
    let place : j * 8 ≡ 8 * j = omega arith in
    whole_chunk 8 j bs chunks chunk d (omega arith) (omega (arith, room)) all read ∙ ap (λ s. slice_range bs s (s + 8)) place ∙ bytes_from bs (8 * j) room

-- one word more is counted
pub count_word : (bs : List ℕ) (len j : ℕ) → 64 * j + 64 ≤ len → ((i : ℕ) → get_or bs i 0 < 256)
    → count_by (λ b. b) (take (64 * (j + 1)) (unpacked bs 0 len)) ≡ count_by (λ b. b) (take (64 * j) (unpacked bs 0 len))
    + count_ones (from_le_bytes w64 (get_or bs (8 * j) 0 ∷ get_or bs (8 * j + 1) 0 ∷ get_or bs (8 * j + 2) 0 ∷ get_or bs (8 * j + 3) 0 ∷ get_or bs (8 * j + 4) 0 ∷ get_or bs (8 * j + 5) 0 ∷ get_or bs (8 * j + 6) 0 ∷ get_or bs (8 * j + 7) 0 ∷ []))
count_word bs len j h fit =
    let word = ones_word (get_or bs (8 * j) 0) (get_or bs (8 * j + 1) 0) (get_or bs (8 * j + 2) 0) (get_or bs (8 * j + 3) 0) (get_or bs (8 * j + 4) 0) (get_or bs (8 * j + 5) 0) (get_or bs (8 * j + 6) 0) (get_or bs (8 * j + 7) 0)
    (fit (8 * j)) (fit (8 * j + 1)) (fit (8 * j + 2)) (fit (8 * j + 3)) (fit (8 * j + 4)) (fit (8 * j + 5)) (fit (8 * j + 6)) (fit (8 * j + 7)) in
    let s0 = step (8 * j) (64 * j) (64 * j + 8) (omega arith) (omega arith) (omega arith) in
    let s1 = step (8 * j + 1) (64 * j + 8) (64 * j + 16) (omega arith) (omega arith) (omega arith) in
    let s2 = step (8 * j + 2) (64 * j + 16) (64 * j + 24) (omega arith) (omega arith) (omega arith) in
    let s3 = step (8 * j + 3) (64 * j + 24) (64 * j + 32) (omega arith) (omega arith) (omega arith) in
    let s4 = step (8 * j + 4) (64 * j + 32) (64 * j + 40) (omega arith) (omega arith) (omega arith) in
    let s5 = step (8 * j + 5) (64 * j + 40) (64 * j + 48) (omega arith) (omega arith) (omega arith) in
    let s6 = step (8 * j + 6) (64 * j + 48) (64 * j + 56) (omega arith) (omega arith) (omega arith) in
    let s7 = step (8 * j + 7) (64 * j + 56) (64 * (j + 1)) (omega arith) (omega arith) (omega arith) in
    omega (arith, word, s0, s1, s2, s3, s4, s5, s6, s7)
  where
    step : (i n m : ℕ) → n ≡ 8 * i → m ≡ n + 8 → m ≤ len
        → count_by (λ b. b) (take m (unpacked bs 0 len)) ≡ count_by (λ b. b) (take n (unpacked bs 0 len)) + count_ones (get_or bs i 0)
    step i n m e f l =
        let none : n % 8 ≡ 0 = omega arith in
        let place : n / 8 ≡ i = omega arith in
        let byte = byte_from-whole bs n fit none in
        let more = count_more bs 0 len n (omega arith) in
        rw (f, ← place, byte) (rw zero-add at more)

-- the bits of whole words, where the run begins the first byte or there are none
pub words_front : (bs : List ℕ) (bits : List Bool) (offset len words : ℕ) → unpacked bs offset len ≡ bits → (offset ≡ 0) ⊎ (words ≡ 0) → 64 * words ≤ len → unpacked bs 0 (64 * words) ≡ take (8 * (8 * words)) bits
words_front bs bits offset len words e (inl zero_offset) h =
    let size : 8 * (8 * words) ≡ 64 * words = omega arith in
    let all : 64 * words - 0 ≡ 64 * words = omega arith in
    let part = unpacked_part bs bs 0 len 0 0 (64 * words) (omega arith) h (λ j l. refl) in
    rw (size, ← e, zero_offset) (rw all at part)
words_front bs bits offset len words e (inr none) h = rw none (unpacked_none bs 0)

-- one byte more is packed
pub eight_packed : (out : List ℕ) (f : ℕ → Bool) (j byte : ℕ) → j < length out → byte ≡ mask_l (eight_from f (8 * j)) → ((k : ℕ) → k < 8 * j → bit_of out k ≡ f k)
    → (k : ℕ) → k < 8 * (j + 1) → bit_of (set out j byte) k ≡ f k
eight_packed out f j byte within e before = byte_put out f j byte within
    (λ i h. ap (λ (n : ℕ). eqb (bit_at n i) 1) e ∙ ap (λ (n : ℕ). eqb n 1) (bit_mask_l (eight_from f (8 * j)) i) ∙ is_one (get_or (eight_from f (8 * j)) i false) ∙ eight_at f (8 * j) i false h) before

-- the bits are those that were packed
pub packed_all : (out : List ℕ) (bits : List Bool) (len : ℕ) → length bits ≡ len → ((k : ℕ) → k < len → bit_of out k ≡ bool_at bits k) → unpacked out 0 len ≡ bits
packed_all out bits len long h = same_lists _ _ (length_unpacked out 0 len ∙ sym long) each
  where
    each : (k : ℕ) (d : Bool) → k < length (unpacked out 0 len) → get_or (unpacked out 0 len) k d ≡ get_or bits k d
    each k d l =
        let small : k < len = omega (arith, length_unpacked out 0 len) in
        get_unpacked out 0 len k d small ∙ ap (bit_of out) (zero-add k) ∙ h k small ∙ get_or_default bits k false d (omega arith)

-- ---- two runs that begin a byte, whose whole bytes are the same

-- each bit of the whole bytes
pub same_bits : (bs cs : List ℕ) (len n : ℕ) → 8 * n ≤ len → take n bs ≡ take n cs → take (8 * n) (unpacked bs 0 len) ≡ take (8 * n) (unpacked cs 0 len)
same_bits bs cs len n within e =
    let all : 8 * n - 0 ≡ 8 * n = omega arith in
    let left = unpacked_part bs bs 0 len 0 0 (8 * n) (omega arith) within (λ j l. refl) in
    let right = unpacked_part cs cs 0 len 0 0 (8 * n) (omega arith) within (λ j l. refl) in
    sym (rw all at left) ∙ unpacked-same bs cs 0 0 (8 * n) each ∙ rw all at right
  where
    each : (j : ℕ) → j < 8 * n → bit_of bs (0 + j) ≡ bit_of cs (0 + j)
    each j l =
        let within : j / 8 < n = omega arith in
        rw zero-add (ap (λ (b : ℕ). eqb (bit_at b (j % 8)) 1) (sym (get_or-take n bs (j / 8) 0 within) ∙ ap (λ (xs : List ℕ). get_or xs (j / 8) 0) e ∙ get_or-take n cs (j / 8) 0 within))

-- and each whole byte of the bits
pub same_bytes : (bs cs : List ℕ) (len n : ℕ) → 8 * n ≤ len → n ≤ length bs → n ≤ length cs → ((i : ℕ) → get_or bs i 0 < 256) → ((i : ℕ) → get_or cs i 0 < 256)
    → take (8 * n) (unpacked bs 0 len) ≡ take (8 * n) (unpacked cs 0 len) → take n bs ≡ take n cs
same_bytes bs cs len n within left right fit fits e = same_lists _ _ (length-take-le n bs left ∙ sym (length-take-le n cs right)) each
  where
    byte : (xs : List ℕ) → ((i : ℕ) → get_or xs i 0 < 256) → (i : ℕ) → i < n → get_or xs i 0 ≡ mask_l (take 8 (drop (8 * i) (unpacked xs 0 len)))
    byte xs small i l =
        let place : 8 * i / 8 ≡ i = omega arith in
        let none : 8 * i % 8 ≡ 0 = omega arith in
        let part = byte_of_part xs 0 len (8 * i) (omega arith) in
        (rw place at (byte_from-whole xs (8 * i) small none)) ∙ rw zero-add at part

    each : (k : ℕ) (d : ℕ) → k < length (take n bs) → get_or (take n bs) k d ≡ get_or (take n cs) k d
    each k d l =
        let small : k < n = omega (arith, length-take-le n bs left) in
        get_or-take n bs k d small ∙ get_or_default bs k d 0 (omega arith) ∙ byte bs fit k small ∙ same_byte (unpacked bs 0 len) (unpacked cs 0 len) k n small e
        ∙ sym (get_or-take n cs k d small ∙ get_or_default cs k d 0 (omega arith) ∙ byte cs fits k small)

-- both
pub whole_same : (bs cs : List ℕ) (n : ℕ) → n ≤ length bs → n ≤ length cs → ((i : ℕ) → get_or bs i 0 < 256) → ((i : ℕ) → get_or cs i 0 < 256)
    → (take n bs ≡ take n cs → unpacked bs 0 (8 * n) ≡ unpacked cs 0 (8 * n)) × (unpacked bs 0 (8 * n) ≡ unpacked cs 0 (8 * n) → take n bs ≡ take n cs)
whole_same bs cs n left right fit fits =
    let every : 8 * n ≤ 8 * n = omega arith in
    let one = take_all (8 * n) (unpacked bs 0 (8 * n)) (omega (arith, length_unpacked bs 0 (8 * n))) in
    let two = take_all (8 * n) (unpacked cs 0 (8 * n)) (omega (arith, length_unpacked cs 0 (8 * n))) in (
      λ e. sym one ∙ same_bits bs cs (8 * n) n every e ∙ two,
      λ e. same_bytes bs cs (8 * n) n every left right fit fits (ap (take (8 * n)) e),
    )

-- the bits of whole bytes, where the run begins the first byte
pub bytes_front : (bs : List ℕ) (bits : List Bool) (offset len n : ℕ) → unpacked bs offset len ≡ bits → offset ≡ 0 → 8 * n ≤ len → unpacked bs 0 (8 * n) ≡ take (8 * n) bits
bytes_front bs bits offset len n e none within =
    let all : 8 * n - 0 ≡ 8 * n = omega arith in
    let part = unpacked_part bs bs 0 len 0 0 (8 * n) (omega arith) within (λ j l. refl) in
    rw (← e, none) (rw all at part)
