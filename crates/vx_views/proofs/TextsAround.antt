-- The longest text from a place on holds each text that a byte from there to the place after it is part of.
use Rattle.std.proofs.Common.{◌≡◌, ℕ, ◌+◌, ◌-◌, ◌*◌, ◌/◌, ◌<◌, ◌≤◌, ◌↔◌, ◌⊎◌, Bool, false, List, [], ◌∷◌, ◌++◌, length, get_or, take, drop, IsUtf8, IsCharBoundary, subst, ap, sym, refl, ◌∙◌, inl, inr, arith, length-take, length-drop, zero-add, add-zero}
use Rattle.std.specs.Prelude.{IsTrue, slice_index_or, slice_range}
use Rattle.std.specs.List.{range_with_len, sum_by, zip}
use Rattle.std.specs.Str.{IsValidUpTo}
use Rattle.std.proofs.lemmas.Bool.{cases_lt, false≢true}
use Rattle.std.proofs.lemmas.List.{get_or-take, get_or-drop, get_or_default, get_or_append_left, get_or_past, get_or_push, length_push, take-take, drop-take, drop-drop, take-append-drop, take_all}
use Rattle.std.proofs.lemmas.List.FromFn.{length-range_with_len, get_or-range_with_len}
use Rattle.std.proofs.lemmas.List.Sums.{sum_by_more, sum_by-take-le}
use Rattle.std.proofs.lemmas.Slice.Zip.{get_or-zip, length-zip}
use Rattle.std.proofs.lemmas.Str.{IsUtf8-append, IsUtf8-take, IsCharBoundary-start}
use Rattle.vx_base.specs.Bits.{bool_at}
use Rattle.vx_views.specs.Views.{buffer_at}
use Rattle.vx_views.specs.TextsAround.{IsLongestFront, IsTextAround, AreTextsAround, AreTextTables, open_len, open_bytes, open_size, open_size_at, open_sizes}
use Rattle.vx_views.proofs.FaultyViews.{IsValidAt}

-- ---- ranges

-- the first bytes up to a, and those from there up to b
joined : (xs : List ℕ) (a b : ℕ) → a ≤ b → take a xs ++ slice_range xs a b ≡ take b xs
joined xs a b order =
    let seam : a + (b - a) ≡ b = omega arith in
    ap (λ ys. ys ++ slice_range xs a b) (sym (take-take a b xs order))
    ∙ ap (λ ys. take a (take b xs) ++ ys) (sym (drop-take a (b - a) xs) ∙ ap (λ (n : ℕ). drop a (take n xs)) seam)
    ∙ take-append-drop a (take b xs)

-- a range of what comes from s on
range_after : (xs : List ℕ) (s a b : ℕ) → s ≤ a → slice_range (drop s xs) (a - s) (b - s) ≡ slice_range xs a b
range_after xs s a b after =
    let size : (b - s) - (a - s) ≡ b - a = omega arith in
    let place : s + (a - s) ≡ a = omega arith in
    ap (λ (n : ℕ). take n (drop (a - s) (drop s xs))) size ∙ ap (take (b - a)) (drop-drop (a - s) s xs ∙ ap (λ (n : ℕ). drop n xs) place)

-- a range of a range
pub range_within : (xs : List ℕ) (a b c d : ℕ) → a ≤ c → d ≤ b → slice_range (slice_range xs a b) (c - a) (d - a) ≡ slice_range xs c d
range_within xs a b c d start end = elim (cases_lt c d) [
  | inl some ↦
      let size : (d - a) - (c - a) ≡ d - c = omega arith in
      let all : b - a ≡ (c - a) + (b - c) = omega arith in
      let place : a + (c - a) ≡ c = omega arith in
      ap (λ (n : ℕ). take n (drop (c - a) (take (b - a) (drop a xs)))) size
      ∙ ap (take (d - c)) (ap (λ (n : ℕ). drop (c - a) (take n (drop a xs))) all ∙ drop-take (c - a) (b - c) (drop a xs))
      ∙ take-take (d - c) (b - c) (drop (c - a) (drop a xs)) (omega arith)
      ∙ ap (take (d - c)) (drop-drop (c - a) a xs ∙ ap (λ (n : ℕ). drop n xs) place)
  | inr none ↦
      let before : (d - a) - (c - a) ≡ 0 = omega arith in
      let after : d - c ≡ 0 = omega arith in
      ap (λ (n : ℕ). take n (drop (c - a) (slice_range xs a b))) before ∙ ap (λ (n : ℕ). take n (drop c xs)) (sym after)
]

-- ---- the longest front

-- where the bytes are no text, it ends where the reading of a text does
pub front_of_fault : (xs : List ℕ) (n : ℕ) → IsValidUpTo xs n → IsLongestFront xs n
front_of_fault xs n at = record { within = omega (arith, at.short); text = at.front; longest = λ more past end. at.longest more past }

-- a text is cut where another one begins within it
front_cut : (xs : List ℕ) (n a b : ℕ) → IsUtf8 (take n xs) → n ≤ length xs → a ≤ n → a < b → b ≤ length xs → IsUtf8 (slice_range xs a b) → IsUtf8 (take a xs)
front_cut xs n a b front within at some end part = elim (cases_lt a n) [
  | inl inside ↦
      let first = IsCharBoundary-start (slice_range xs a b) part in
      let place : a + 0 ≡ a = omega arith in
      let same : get_or (slice_range xs a b) 0 0 ≡ get_or (take n xs) a 0 =
      get_or-take (b - a) (drop a xs) 0 0 (omega arith) ∙ get_or-drop a xs 0 0 ∙ ap (λ (i : ℕ). get_or xs i 0) place ∙ sym (get_or-take n xs a 0 inside) in
      let long : 0 < length (slice_range xs a b) = omega (arith, length-take (b - a) (drop a xs), length-drop a xs) in
      let boundary : IsCharBoundary (take n xs) a =
      (omega (arith, length-take n xs), λ _ high. subst (λ (v : ℕ). 192 ≤ v) same (first.1 long (subst (λ (v : ℕ). 128 ≤ v) (sym same) high))) in
      subst IsUtf8 (take-take a n xs at) (IsUtf8-take (take n xs) a front boundary)
  | inr past ↦
      let same : n ≡ a = omega arith in
      subst (λ (k : ℕ). IsUtf8 (take k xs)) same front
]

front_holds : (xs : List ℕ) (n a b : ℕ) → IsLongestFront xs n → a ≤ n → a < b → b ≤ length xs → IsUtf8 (slice_range xs a b) → b ≤ n
front_holds xs n a b front at some end part = elim (cases_lt n b) [
  | inl longer ↦ absurd (front.longest b longer end
      (subst IsUtf8 (joined xs a b (omega arith)) (IsUtf8-append (take a xs) (slice_range xs a b) (front_cut xs n a b front.text front.within at some end part) part)))
  | inr within ↦ within
]

-- ---- one text after another

-- no text holds the bytes on both sides of the byte before place s
abbrev pub AreApartAt : List ℕ → ℕ → Type 0
AreApartAt bytes s = (a b : ℕ) → a < s → s ≤ b → b ≤ length bytes → ¬ (IsUtf8 (slice_range bytes a b))

module _ (bytes : List ℕ) (s n : ℕ) (within : s ≤ length bytes) (front : IsLongestFront (drop s bytes) n) (apart : AreApartAt bytes s) where
  -- a text that a byte from s up to the first after the front is part of
  lies : (a b : ℕ) → a ≤ s + n → s < b → a < b → b ≤ length bytes → IsUtf8 (slice_range bytes a b) → (s ≤ a) × (b ≤ s + n)
  lies a b at past some end part = elim (cases_lt a s) [
    | inl before ↦ absurd (apart a b before (omega arith) end part)
    | inr after ↦
        let long : b - s ≤ n =
        front_holds (drop s bytes) n (a - s) (b - s) front (omega arith) (omega arith) (omega (arith, length-drop s bytes)) (subst IsUtf8 (sym (range_after bytes s a b after)) part) in
        (after, omega (arith, long))
  ]

  pub apart_next : AreApartAt bytes (s + n + 1)
  apart_next a b before from end part =
      let at = lies a b (omega arith) (omega arith) (omega arith) end part in
      omega (arith, at.1)

  pub text_around : (p : ℕ) → s ≤ p → p ≤ s + n → IsTextAround bytes p (s, s + n)
  text_around p from to =
      let size : (s + n) - s ≡ n = omega arith in
      record {
        order = omega arith;
        within = omega (arith, front.within, length-drop s bytes);
        text = subst (λ (k : ℕ). IsUtf8 (take k (drop s bytes))) (sym size) front.text;
        holds = λ a b before after end part. lies a b (omega arith) (omega arith) (omega arith) end part;
      }

-- what is known of the table so far: it is of the places before one, and no text holds the bytes on both sides of that
pub record IsTableTo (bytes : List ℕ) (table : List (ℕ × ℕ)) (place : ℕ) : Type 0 where
  pub around : AreTextsAround bytes table
  pub reached : place ≤ 64 * length table
  pub near : 64 * length table < place + 64
  pub apart : AreApartAt bytes place

-- the text after the last one is that around each of the places up to the byte after it
pub table_more : (bytes : List ℕ) (table table' : List (ℕ × ℕ)) (s n : ℕ) → s < length bytes → IsLongestFront (drop s bytes) n → IsTableTo bytes table s
    → length table' ≡ (s + n) / 64 + 1
    → ((k : ℕ) → k < length table' → k < length table → get_or table' k (0, 0) ≡ get_or table k (0, 0))
    → ((k : ℕ) → k < length table' → length table ≤ k → get_or table' k (0, 0) ≡ (s, s + n))
    → IsTableTo bytes table' (s + n + 1)
table_more bytes table table' s n some front before long old new = record {
  around = λ k inside. elim (cases_lt k (length table)) [
    | inl was ↦ subst (IsTextAround bytes (64 * k)) (sym (old k inside was)) (before.around k was)
    | inr more ↦ subst (IsTextAround bytes (64 * k)) (sym (new k inside more))
        (text_around bytes s n (omega arith) front before.apart (64 * k) (omega (arith, before.reached, more)) (omega (arith, inside, long)))
  ];
  reached = omega (arith, long);
  near = omega (arith, long);
  apart = apart_next bytes s n (omega arith) front before.apart;
}

-- a range is a text just where it is one within the text around a byte of it
pub told_within : (bytes : List ℕ) (p start end : ℕ) (range : ℕ × ℕ) (told : Bool) → IsTextAround bytes p range → range.0 ≤ start → end ≤ range.1
    → IsTrue told ↔ IsUtf8 (slice_range (slice_range bytes range.0 range.1) (start - range.0) (end - range.0)) → IsTrue told ↔ IsUtf8 (slice_range bytes start end)
told_within bytes p start end range told around from to tells =
    subst (λ (bs : List ℕ). IsTrue told ↔ IsUtf8 bs) (range_within bytes range.0 range.1 start end from to) tells

-- a range that reaches past that text is none
pub told_past : (bytes : List ℕ) (p start end : ℕ) (range : ℕ × ℕ) → IsTextAround bytes p range → start ≤ p → p < end → end ≤ length bytes
    → (start < range.0) ⊎ (range.1 < end) → IsTrue false ↔ IsUtf8 (slice_range bytes start end)
told_past bytes p start end range around from to within past = (
  λ told. absurd (false≢true told),
  λ text. absurd (elim past [ inl before ↦ omega (arith, before, (around.holds start end from to within text).0) | inr after ↦ omega (arith, after, (around.holds start end from to within text).1) ]),
)

-- ---- bytes of buffers that are not known to be texts

pub open_bytes_more : (texts : List Bool) (buffers : List (List ℕ)) (block : ℕ) (mark : Bool) (buffer : List ℕ) → length texts ≡ length buffers → block < length buffers
    → get_or texts block false ≡ mark → buffer ≡ get_or buffers block buffer
    → sum_by open_len (take (block + 1) (zip texts buffers)) ≡ sum_by open_len (take block (zip texts buffers)) + open_len (mark, buffer)
open_bytes_more texts buffers block mark buffer same inside marked at =
    let here : get_or (zip texts buffers) block (false, buffer) ≡ (mark, buffer) =
    get_or-zip texts buffers block (false, buffer) (omega arith) inside ∙ ap (λ (m : Bool). (m, get_or buffers block buffer)) marked ∙ ap (λ (b : List ℕ). (mark, b)) (sym at) in
    sum_by_more open_len (zip texts buffers) block (false, buffer) (omega (arith, length-zip texts buffers)) ∙ ap (λ (pair : Bool × List ℕ). sum_by open_len (take block (zip texts buffers)) + open_len pair) here

pub open_bytes_all : (texts : List Bool) (buffers : List (List ℕ)) (block : ℕ) → length texts ≡ length buffers → block ≡ length buffers
    → sum_by open_len (take block (zip texts buffers)) ≡ open_bytes texts buffers
unfolding open_bytes
open_bytes_all texts buffers block same end = ap (sum_by open_len) (take_all block (zip texts buffers) (omega (arith, length-zip texts buffers)))

module _ (texts mask : List Bool) (views : List (List ℕ)) where
  -- how many bytes the valid views of the rows before one name
  abbrev pub sizes_before : ℕ → ℕ
  sizes_before row = sum_by (open_size_at texts mask views) (take row (range_with_len 0 (length views)))

  more : (row size : ℕ) → row < length views → open_size_at texts mask views row ≡ size → sizes_before (row + 1) ≡ sizes_before row + size
  more row size within here =
      sum_by_more (open_size_at texts mask views) (range_with_len 0 (length views)) row 0 (omega (arith, length-range_with_len 0 (length views)))
      ∙ ap (λ (i : ℕ). sizes_before row + open_size_at texts mask views i) (get_or-range_with_len 0 (length views) row 0 within ∙ zero-add row) ∙ ap (λ (n : ℕ). sizes_before row + n) here

  pub sizes_valid : (row : ℕ) (view : List ℕ) → IsValidAt mask views row view → sizes_before (row + 1) ≡ sizes_before row + open_size texts view
  sizes_valid row view at =
      let same : slice_index_or views row [] ≡ view = get_or_default views row [] view at.within ∙ sym at.same in
      more row (open_size texts view) at.within (rw (at.valid, same) refl)

  pub sizes_null : (row : ℕ) → row < length views → bool_at mask row ≡ false → sizes_before (row + 1) ≡ sizes_before row
  sizes_null row within null = more row 0 within (rw null refl) ∙ add-zero (sizes_before row)

  pub sizes_all : (row : ℕ) → row ≡ length views → sizes_before row ≡ open_sizes texts mask views
  unfolding open_sizes
  sizes_all row end = ap (sum_by (open_size_at texts mask views)) (take_all row (range_with_len 0 (length views)) (omega (arith, length-range_with_len 0 (length views))))

  pub sizes_le : (row : ℕ) → sizes_before row ≤ open_sizes texts mask views
  unfolding open_sizes
  sizes_le row = sum_by-take-le (open_size_at texts mask views) (range_with_len 0 (length views)) row

-- ---- a table of each buffer

pub tables_more : (buffers : List (List ℕ)) (tables : List (List (ℕ × ℕ))) (block : ℕ) (table : List (ℕ × ℕ)) → AreTextTables buffers tables → length tables ≡ block
    → AreTextsAround (buffer_at buffers block) table → AreTextTables buffers (tables ++ table ∷ [])
tables_more buffers tables block table before count here k = elim (cases_lt k block) [
  | inl was ↦ subst (AreTextsAround (buffer_at buffers k)) (sym (get_or_append_left tables (table ∷ []) [] k (omega arith))) (before k)
  | inr not ↦ elim (cases_lt block k) [
    | inl past ↦ subst (AreTextsAround (buffer_at buffers k)) (sym (get_or_past (tables ++ table ∷ []) k [] (omega (arith, length_push tables table)))) (λ i inside. absurd (omega (arith, inside)))
    | inr last ↦
        let same : block ≡ k = omega arith in
        let read : get_or (tables ++ table ∷ []) k [] ≡ table = get_or_push tables table [] k (omega arith) in
        subst (AreTextsAround (buffer_at buffers k)) (sym read) (subst (λ (b : ℕ). AreTextsAround (buffer_at buffers b) table) same here)
  ]
]

-- the tables so far reach the last bytes of the buffers before one
pub record ReachTo (texts : List Bool) (buffers : List (List ℕ)) (tables : List (List (ℕ × ℕ))) (count : ℕ) : Type 0 where
  pub len : length tables ≡ count
  pub each : (block : ℕ) → block < count → bool_at texts block ≡ false → length (buffer_at buffers block) ≤ 64 * length (slice_index_or tables block [])

pub reach_more : (texts : List Bool) (buffers : List (List ℕ)) (tables : List (List (ℕ × ℕ))) (count : ℕ) (table : List (ℕ × ℕ)) → ReachTo texts buffers tables count
    → (bool_at texts count ≡ false → length (buffer_at buffers count) ≤ 64 * length table) → ReachTo texts buffers (tables ++ table ∷ []) (count + 1)
reach_more texts buffers tables count table before here = record {
  len = length_push tables table ∙ ap (λ (n : ℕ). n + 1) before.len;
  each = λ block within unread. elim (cases_lt block count) [
    | inl was ↦
        let read : get_or (tables ++ table ∷ []) block [] ≡ get_or tables block [] = get_or_append_left tables (table ∷ []) [] block (omega (arith, before.len)) in
        omega (arith, before.each block was unread, ap (λ (t : List (ℕ × ℕ)). length t) read)
    | inr last ↦
        let same : block ≡ count = omega arith in
        let read : get_or (tables ++ table ∷ []) block [] ≡ table = get_or_push tables table [] block (before.len ∙ sym same) in
        let reached = here (subst (λ (b : ℕ). bool_at texts b ≡ false) same unread) in
        omega (arith, reached, ap (λ (t : List (ℕ × ℕ)). length t) read, ap (λ (b : ℕ). length (buffer_at buffers b)) same)
  ];
}

pub none_around : (bytes : List ℕ) (table : List (ℕ × ℕ)) → length table ≡ 0 → AreTextsAround bytes table
none_around bytes table none = λ k inside. absurd (omega (arith, inside, none))
