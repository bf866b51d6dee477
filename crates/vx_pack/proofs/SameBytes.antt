-- Numbers are the same where their bytes are.
use Rattle.std.proofs.Common.{◌≡◌, ◌↔◌, ◌+◌, ◌-◌, ◌*◌, ◌/◌, ◌<◌, ◌≤◌, ℕ, zero, suc, List, [], ◌∷◌, ◌++◌, length, take, drop, refl, sym, ◌∙◌, ap, arith, IsTrue, Bool, true}
use Rattle.std.specs.Prelude.{ℤ, pos, slice_range}
use Rattle.std.proofs.lemmas.List.{drop-drop, get_or-drop, get_or-take, length-drop, length-take-le, take-append-drop, take_all}
use Rattle.std.proofs.Math.Nat.{mul-le-mul_right}
use Rattle.vx_base.proofs.ListParts.{length_part}
use Rattle.vx_base.proofs.NumberBytes.{bytes_of-number_of}
use Rattle.vx_base.proofs.NumberLists.{get_numbers, numbers_part, numbers_room, whole as whole_numbers}
use Rattle.vx_base.specs.Bytes.{AreBytes}
use Rattle.vx_base.specs.Integers.{byte_width, bytes_of, number_at, number_nth, number_of, numbers}
use Rattle.vx_base.specs.Kinds.{Kind, integer_type}
use Rattle.vx_base.specs.Rows.{whole, number_in}
use Rattle.vx_base.specs.declared.ptypes.PType.{PType}
use Rattle.vx_base.specs.declared.ptypes.PType.TheVariants.{U64}
use Rattle.vx_views.proofs.Padding.{bytes-drop, bytes-take}
use Rattle.vx_tree.specs.Tree.{Tree, Valid, primitive}
use Rattle.vx_tree.specs.Meaning.{is_valid_at, kind_of, row_at, tree_len}
use Rattle.vx_pack.specs.declared.parts.Part.{Part}
use Rattle.vx_pack.specs.Parts.{AreSameBy, part_len, part_row}
use Rattle.vx_pack.specs.Numbers.{AreNumberBytes}

empty : (xs : List ℕ) → length xs ≡ 0 → xs ≡ []
empty [] e = refl
empty (x ∷ xs) e = absurd (omega arith)

-- bytes of as many numbers are the same where each number is
pub same_bytes : (t : PType) (n : ℕ) (xs ys : List ℕ) → length xs ≡ n * byte_width t → length ys ≡ n * byte_width t → AreBytes xs → AreBytes ys
    → ((i : ℕ) → i < n → number_at t xs i ≡ number_at t ys i) → xs ≡ ys
same_bytes t zero xs ys long_x long_y bx by each = empty xs (omega arith) ∙ sym (empty ys (omega arith))
same_bytes t (suc n) xs ys long_x long_y bx by each =
    let w = byte_width t in
    let room_x : w ≤ length xs = omega arith in
    let room_y : w ≤ length ys = omega arith in
    let none : 0 * w ≡ 0 = omega arith in
    let here : number_of t (take w (drop 0 xs)) ≡ number_of t (take w (drop 0 ys)) = rw none at (each 0 (omega arith)) in
    let first : take w xs ≡ take w ys =
    sym (bytes_of-number_of t (take w xs) (length-take-le w xs room_x) (bytes-take w xs bx)) ∙ ap (bytes_of t) here ∙ bytes_of-number_of t (take w ys) (length-take-le w ys room_y) (bytes-take w ys by) in
    let rest : drop w xs ≡ drop w ys = same_bytes t n (drop w xs) (drop w ys) (omega (arith, length-drop w xs)) (omega (arith, length-drop w ys)) (bytes-drop w xs bx) (bytes-drop w ys by)
    (λ i l. next xs i ∙ each (suc i) (omega arith) ∙ sym (next ys i)) in
    sym (take-append-drop w xs) ∙ (λ j. first j ++ rest j) ∙ take-append-drop w ys
  where
    next : (zs : List ℕ) (i : ℕ) → number_at t (drop (byte_width t) zs) i ≡ number_at t zs (suc i)
    next zs i =
        let place : byte_width t + i * byte_width t ≡ suc i * byte_width t = omega arith in
        ap (λ m. number_of t (take (byte_width t) m)) (drop-drop (i * byte_width t) (byte_width t) zs ∙ ap (λ m. drop m zs) place)

-- the number at a place that is one of so many
pub nth_at : (t : PType) (n : ℕ) (bs : List ℕ) (i : ℕ) → length bs ≡ n * byte_width t → i < n → number_nth (numbers t bs) i ≡ number_at t bs i
nth_at t n bs i long inside =
    let count : length bs / byte_width t ≡ n = ap (λ m. m / byte_width t) long ∙ whole_numbers t n in
    get_numbers t bs i (pos 0) (omega arith)

pub same_number_bytes : (t : PType) (p q : Part) (xs ys : List ℕ) (b : Bool) → AreNumberBytes t p xs → AreNumberBytes t q ys → part_len q ≡ part_len p → (IsTrue b ↔ (xs ≡ ys)) → (k : Kind) → IsTrue b ↔ AreSameBy number_in k p q
same_number_bytes t p q xs ys b first second len told k = (
  (λ yes i l.
      ap number_in (first.rows k i l ∙ ap (λ bs. whole (number_nth (numbers t bs) i)) (told.0 yes) ∙ sym (second.rows k i (omega (arith, len))))),
  (λ same. told.1 (same_bytes t (part_len p) xs ys first.len (second.len ∙ ap (λ n. n * byte_width t) len) first.bytes second.bytes (λ i l.
      let below : i < part_len q = omega (arith, len) in
      let found : number_in (whole (number_nth (numbers t xs) i)) ≡ number_in (whole (number_nth (numbers t ys) i)) = sym (ap number_in (first.rows k i l)) ∙ same i l ∙ ap number_in (second.rows k i below) in
      let number : number_nth (numbers t xs) i ≡ number_nth (numbers t ys) i = cc in
      sym (nth_at t (part_len p) xs i first.len l) ∙ number ∙ nth_at t (part_len p) ys i (second.len ∙ ap (λ n. n * byte_width t) len) l))),
)

-- ---- a part of an array

-- a part of the numbers
pub nth_part : (zs : List ℤ) (from len i : ℕ) → i < len → number_nth (slice_range zs from (from + len)) i ≡ number_nth zs (from + i)
nth_part zs from len i l =
    let size : from + len - from ≡ len = omega arith in
    rw size (get_or-take len (drop from zs) i (pos 0) l ∙ get_or-drop from zs i (pos 0))

pub number_bytes_of : (t u : PType) (a : Tree) (bs part : List ℕ) (v : Valid) (start n : ℕ) (p : Part) → a ≡ primitive t bs v → integer_type (kind_of a) ≡ u → AreBytes bs → start + n ≤ tree_len a
    → ((i : ℕ) → is_valid_at v i ≡ true) → part ≡ slice_range bs (start * byte_width u) ((start + n) * byte_width u) → part_len p ≡ n → ((k : Kind) (i : ℕ) → part_row k p i ≡ row_at a (start + i)) → AreNumberBytes u p part
number_bytes_of t u a bs part v start n p same type good within valid cut len rows =
    let types : t ≡ u = rw same at type in
    let room : (start + n) * byte_width u ≤ length bs = rw types at (numbers_room t bs (start + n) (rw same at within)) in
    let scaled : start * byte_width u ≤ (start + n) * byte_width u = mul-le-mul_right (byte_width u) (omega arith) in
    let size : (start + n) * byte_width u - start * byte_width u ≡ n * byte_width u = omega arith in
    record {
      len = ap length cut ∙ length_part bs (start * byte_width u) ((start + n) * byte_width u) scaled room ∙ size ∙ ap (λ m. m * byte_width u) (sym len);
      bytes = rw cut (bytes-take ((start + n) * byte_width u - start * byte_width u) (drop (start * byte_width u) bs) (bytes-drop (start * byte_width u) bs good));
      rows = λ k i l.
          let here : row_at (primitive t bs v) (start + i) ≡ whole (number_nth (numbers t bs) (start + i)) = rw (valid (start + i)) refl in
          rows k i ∙ ap (λ x. row_at x (start + i)) same ∙ here
          ∙ ap (λ x. whole (number_nth (numbers x bs) (start + i))) types
          ∙ ap whole (sym (nth_part (numbers u bs) start n i (omega (arith, len))) ∙ ap (λ zs. number_nth zs i) (sym (numbers_part u bs start n room)) ∙ ap (λ xs. number_nth (numbers u xs) i) (sym cut));
    }

-- ---- words

word_same : (xs ys : List ℕ) → length xs ≡ 8 → length ys ≡ 8 → AreBytes xs → AreBytes ys → number_of U64 xs ≡ number_of U64 ys → xs ≡ ys
word_same xs ys long_x long_y bx by same =
    sym (bytes_of-number_of U64 xs long_x bx) ∙ ap (bytes_of U64) same ∙ bytes_of-number_of U64 ys long_y by

-- the word at a place of bytes
abbrev pub word : List ℕ → ℕ → List ℕ
word bs start = slice_range bs start (start + 8)

length-word : (bs : List ℕ) (start : ℕ) → start + 8 ≤ length bs → length (word bs start) ≡ 8
length-word bs start room =
    let size : start + 8 - start ≡ 8 = omega arith in
    length_part bs start (start + 8) (omega arith) room ∙ size

pub bytes-word : (bs : List ℕ) (start : ℕ) → AreBytes bs → AreBytes (word bs start)
bytes-word bs start good = bytes-take (start + 8 - start) (drop start bs) (bytes-drop start bs good)

-- the last word is all that follows
last_word : (bs : List ℕ) (start : ℕ) → length bs ≡ start + 8 → word bs start ≡ drop start bs
last_word bs start long =
    let size : start + 8 - start ≡ 8 = omega arith in
    ap (λ n. take n (drop start bs)) size ∙ take_all 8 (drop start bs) (omega (arith, long, length-drop start bs))

-- what follows the first word
after_word : (bs : List ℕ) (last : ℕ) → last ≤ 8 → drop 8 bs ≡ drop (8 - last) (drop last bs)
after_word bs last few =
    let all : last + (8 - last) ≡ 8 = omega arith in
    ap (λ n. drop n bs) (sym all) ∙ sym (drop-drop (8 - last) last bs)

-- bytes of one word or two are the same where the first and the last word are
pub same_words : (xs ys : List ℕ) (last : ℕ) → length xs ≡ last + 8 → length ys ≡ last + 8 → last ≤ 8
    → AreBytes (word xs 0) → AreBytes (word ys 0) → AreBytes (word xs last) → AreBytes (word ys last)
    → number_of U64 (word xs 0) ≡ number_of U64 (word ys 0) → number_of U64 (word xs last) ≡ number_of U64 (word ys last) → xs ≡ ys
same_words xs ys last long_x long_y few head_x head_y tail_x tail_y first second =
    let head : take 8 xs ≡ take 8 ys =
    word_same (word xs 0) (word ys 0) (length-word xs 0 (omega (arith, long_x))) (length-word ys 0 (omega (arith, long_y))) head_x head_y first in
    let tail : drop last xs ≡ drop last ys =
    sym (last_word xs last long_x)
    ∙ word_same (word xs last) (word ys last) (length-word xs last (omega (arith, long_x))) (length-word ys last (omega (arith, long_y)))
    tail_x tail_y second
    ∙ last_word ys last long_y in
    let rest : drop 8 xs ≡ drop 8 ys = after_word xs last few ∙ ap (drop (8 - last)) tail ∙ sym (after_word ys last few) in
    sym (take-append-drop 8 xs) ∙ (λ j. head j ++ rest j) ∙ take-append-drop 8 ys
