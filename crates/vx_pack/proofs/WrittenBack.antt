-- Numbers that are read from bytes, and written back.
use Rattle.std.proofs.Common.{◌≡◌, ◌+◌, ◌*◌, ◌/◌, ◌<◌, ℕ, zero, suc, List, [], ◌∷◌, ◌++◌, length, map, take, drop, get_or, refl, sym, ◌∙◌, ap, arith}
use Rattle.std.specs.Prelude.{ℤ, pos}
use Rattle.std.specs.List.{range_with_len}
use Rattle.std.proofs.lemmas.Grind.{flat_map-append}
use Rattle.std.proofs.lemmas.List.{append-nil, append_assoc, length-drop, length-take-le, map_push, nil_from_length, take-append-drop}
use Rattle.std.proofs.lemmas.List.FromFn.{fill_by_all}
use Rattle.std.proofs.lemmas.Simd.{map-map}
use Rattle.vx_base.proofs.Gathered.{numbers_append}
use Rattle.vx_base.proofs.NumberBytes.{bytes_of-number_of, holds-number_of}
use Rattle.vx_base.proofs.NumberLists.{length_numbers, numbers_none, numbers_push, whole as whole_numbers}
use Rattle.vx_base.specs.Bytes.{AreBytes}
use Rattle.vx_base.specs.Integers.{byte_width, bytes_of, number_of, numbers}
use Rattle.vx_base.specs.Kinds.{Kind}
use Rattle.vx_base.specs.declared.ptypes.PType.{PType}
use Rattle.vx_views.proofs.Padding.{bytes-drop, bytes-take}
use Rattle.vx_pack.proofs.PieceRows.{piece_rows_more}
use Rattle.vx_pack.proofs.PiecesRead.{piece_pushed}
use Rattle.vx_pack.specs.Numbers.{AreNumberBytes}
use Rattle.vx_pack.specs.Packed.{bytes_of_numbers, number_or_zero}
use Rattle.vx_pack.specs.Parts.{part_len, part_row}
use Rattle.vx_pack.specs.Pieces.{piece_row, piece_rows, pieces_rows}
use Rattle.vx_pack.specs.declared.parts.Part.{Part}
use Rattle.vx_pack.specs.declared.pieces.Piece.{Piece}

-- ---- read, and written

one_number : (t : PType) (bs : List ℕ) → length bs ≡ byte_width t → AreBytes bs → numbers t bs ≡ number_of t bs ∷ []
one_number t bs long good =
    ap (numbers t) (sym (bytes_of-number_of t bs long good))
    ∙ numbers_push t [] 0 (number_of t bs) (omega arith) (holds-number_of t bs good)
    ∙ ap (λ zs. zs ++ number_of t bs ∷ []) (numbers_none t)

-- the bytes of so many numbers
pub written_back : (t : PType) (n : ℕ) (bs : List ℕ) → length bs ≡ n * byte_width t → AreBytes bs → bytes_of_numbers t (numbers t bs) ≡ bs
written_back t zero bs long good =
    let none : bs ≡ [] = nil_from_length bs (omega arith) in
    rw none (ap (bytes_of_numbers t) (numbers_none t))
written_back t (suc n) bs long good =
    let w = byte_width t in
    let first = take w bs in
    let rest = drop w bs in
    let split : first ++ rest ≡ bs = take-append-drop w bs in
    let first_long : length first ≡ w = length-take-le w bs (omega arith) in
    let one_long : length first ≡ 1 * w = omega (arith, first_long) in
    let rest_long : length rest ≡ n * w = omega (arith, length-drop w bs) in
    let first_good : AreBytes first = bytes-take w bs good in
    let back : bytes_of_numbers t (numbers t rest) ≡ rest = written_back t n rest rest_long (bytes-drop w bs good) in
    let one : bytes_of t (number_of t first) ≡ first = bytes_of-number_of t first first_long first_good in
    let read : numbers t bs ≡ number_of t first ∷ numbers t rest =
    ap (numbers t) (sym split) ∙ numbers_append t first rest 1 n one_long rest_long
    ∙ ap (λ zs. zs ++ numbers t rest) (one_number t first first_long first_good) in
    ap (bytes_of_numbers t) read ∙ (λ j. one j ++ back j) ∙ split

-- ---- of rows

-- bytes of rows that are all numbers are the bytes of these
pub bytes_of_rows : (t : PType) (k : Kind) (p : Part) (bs : List ℕ) → AreNumberBytes t p bs
    → bs ≡ bytes_of_numbers t (map number_or_zero (map (part_row k p) (range_with_len 0 (part_len p))))
bytes_of_rows t k p bs h =
    let count : length (numbers t bs) ≡ part_len p =
    length_numbers t bs ∙ ap (λ m. m / byte_width t) h.len ∙ whole_numbers t (part_len p) in
    let each : ℕ → ℤ = λ i. number_or_zero (part_row k p i) in
    let rows : numbers t bs ≡ map each (range_with_len 0 (part_len p)) =
    fill_by_all each (numbers t bs) (part_len p) (pos 0) count (λ i l. sym (ap number_or_zero (h.rows k i l))) in
    sym (written_back t (part_len p) bs h.len h.bytes)
    ∙ ap (bytes_of_numbers t) (rows ∙ sym (map-map number_or_zero (part_row k p) (range_with_len 0 (part_len p))))

-- ---- one after another

pub bytes_of_numbers-append : (t : PType) (ys zs : List ℤ)
    → bytes_of_numbers t (ys ++ zs) ≡ bytes_of_numbers t ys ++ bytes_of_numbers t zs
bytes_of_numbers-append t ys zs = flat_map-append (bytes_of t) ys zs

-- of one row more
pub number_pushed : (t : PType) (k : Kind) (p : Piece) (start xs ys : List ℕ) (i : ℕ) (z : ℤ)
    → xs ≡ start ++ bytes_of_numbers t (map number_or_zero (map (piece_row k p) (range_with_len 0 i)))
    → z ≡ number_or_zero (piece_row k p i) → ys ≡ xs ++ bytes_of t z
    → ys ≡ start ++ bytes_of_numbers t (map number_or_zero (map (piece_row k p) (range_with_len 0 (i + 1))))
number_pushed t k p start xs ys i z before here more =
    let rows = map (piece_row k p) (range_with_len 0 i) in
    let next = number_or_zero (piece_row k p i) in
    let old = bytes_of_numbers t (map number_or_zero rows) in
    let more_rows = map (piece_row k p) (range_with_len 0 (i + 1)) in
    let bytes : bytes_of_numbers t (map number_or_zero more_rows) ≡ old ++ bytes_of t next =
    ap (λ rs. bytes_of_numbers t (map number_or_zero rs)) (piece_rows_more k p i)
    ∙ ap (bytes_of_numbers t) (map_push number_or_zero rows (piece_row k p i))
    ∙ bytes_of_numbers-append t (map number_or_zero rows) (next ∷ [])
    ∙ ap (λ bs. old ++ bs) (append-nil (bytes_of t next)) in
    more ∙ (λ j. before j ++ bytes_of t (here j)) ∙ append_assoc start old (bytes_of t next) ∙ ap (λ bs. start ++ bs) (sym bytes)

-- of one piece more
pub numbers_pushed : (t : PType) (k : Kind) (ps : List Piece) (i : ℕ) (p : Piece) (xs ys : List ℕ) → i < length ps → p ≡ get_or ps i p
    → xs ≡ bytes_of_numbers t (map number_or_zero (pieces_rows k (take i ps)))
    → ys ≡ xs ++ bytes_of_numbers t (map number_or_zero (piece_rows k p))
    → ys ≡ bytes_of_numbers t (map number_or_zero (pieces_rows k (take (i + 1) ps)))
numbers_pushed t k ps i p xs ys inside at before more =
    let old = map number_or_zero (pieces_rows k (take i ps)) in
    let next = map number_or_zero (piece_rows k p) in
    more ∙ ap (λ bs. bs ++ bytes_of_numbers t next) before ∙ sym (bytes_of_numbers-append t old next)
    ∙ ap (bytes_of_numbers t) (piece_pushed number_or_zero k ps i p old (old ++ next) inside at refl refl)
