-- The numbers of bytes that were picked number by number.
use Rattle.std.proofs.Common.{ℕ, ◌+◌, ◌-◌, ◌*◌, ◌/◌, ◌<◌, ◌≤◌, ◌≡◌, List, [], ◌∷◌, ◌++◌, length, get_or, drop, map, refl, sym, ◌∙◌, ap, arith}
use Rattle.std.specs.Prelude.{ℤ, pos, slice_range}
use Rattle.std.specs.List.{All, flat_map}
use Rattle.std.proofs.Math.Nat.{mul-le-mul_right}
use Rattle.std.proofs.Math.Seq.{take-append_seam, drop-append_seam}
use Rattle.std.proofs.lemmas.List.{take-append-drop, take_all, drop_more, length-append, length-drop}
use Rattle.std.proofs.lemmas.List.Elements.{All-tail}
use Rattle.vx_base.proofs.ListParts.{length_part}
use Rattle.vx_base.proofs.NumberLists.{width_pos, whole, length_numbers, numbers_none, numbers_part, numbers_between}
use Rattle.vx_base.specs.Integers.{byte_width, numbers, number_nth}
use Rattle.vx_base.specs.Selections.{bytes_of_position}
use Rattle.vx_base.specs.declared.ptypes.PType.{PType}

-- the first of two lists, and the second
left_part : (all xs ys : List ℕ) (from to : ℕ) → all ≡ xs ++ ys → from ≡ 0 → to ≡ length xs → slice_range all from to ≡ xs
left_part all xs ys from to e zero_from end =
    let size : length xs - 0 ≡ length xs = omega arith in
    rw (e, zero_from, end, size) (take-append_seam xs ys)

right_part : (xs ys : List ℕ) (from to : ℕ) → from ≡ length xs → to ≡ length xs + length ys → slice_range (xs ++ ys) from to ≡ ys
right_part xs ys from to start end =
    let size : length xs + length ys - length xs ≡ length ys = omega arith in
    rw (start, end, size, drop-append_seam xs ys) (take_all (length ys) ys (omega arith))

-- a list is its first part and its last
both_parts : (zs : List ℤ) (n all : ℕ) → n ≤ all → length zs ≡ all → slice_range zs 0 n ++ slice_range zs n all ≡ zs
both_parts zs n all le e =
    let size : n - 0 ≡ n = omega arith in
    rw (size, take_all (all - n) (drop n zs) (omega (arith, length-drop n zs))) (take-append-drop n zs)

-- the numbers of bytes one after the other
pub numbers_append : (t : PType) (xs ys : List ℕ) (n m : ℕ) → length xs ≡ n * byte_width t → length ys ≡ m * byte_width t → numbers t (xs ++ ys) ≡ numbers t xs ++ numbers t ys
numbers_append t xs ys n m long more =
    let size : length (xs ++ ys) ≡ (n + m) * byte_width t = omega (arith, length-append xs ys) in
    let count : length (numbers t (xs ++ ys)) ≡ n + m = length_numbers t (xs ++ ys) ∙ ap (λ (k : ℕ). k / byte_width t) size ∙ whole t (n + m) in
    let left : slice_range (xs ++ ys) (0 * byte_width t) (n * byte_width t) ≡ xs = left_part (xs ++ ys) xs ys (0 * byte_width t) (n * byte_width t) refl (omega arith) (sym long) in
    let right : slice_range (xs ++ ys) (n * byte_width t) ((n + m) * byte_width t) ≡ ys = right_part xs ys (n * byte_width t) ((n + m) * byte_width t) (sym long) (omega (arith, length-append xs ys)) in
    let front : numbers t xs ≡ slice_range (numbers t (xs ++ ys)) 0 n = rw left at (numbers_between t (xs ++ ys) 0 n (omega arith) (omega arith)) in
    let back : numbers t ys ≡ slice_range (numbers t (xs ++ ys)) n (n + m) = rw right at (numbers_part t (xs ++ ys) n m (omega arith)) in
    let zs : List ℤ = numbers t (xs ++ ys) in
    sym (rw (front, back) (both_parts (numbers t (xs ++ ys)) n (n + m) (omega arith) count))

-- one number by itself
pub numbers_one : (t : PType) (bs : List ℕ) (k : ℕ) → k < length bs / byte_width t → numbers t (slice_range bs (k * byte_width t) (k * byte_width t + byte_width t)) ≡ get_or (numbers t bs) k (pos 0) ∷ []
numbers_one t bs k h =
    let room : (k + 1) * byte_width t ≤ length bs / byte_width t * byte_width t = mul-le-mul_right (byte_width t) (omega arith) in
    let within : (k + 1) * byte_width t ≤ length bs = omega (arith, width_pos t) in
    let end : k * byte_width t + byte_width t ≡ (k + 1) * byte_width t = omega arith in
    let size : k + 1 - k ≡ 1 = omega arith in
    let part : slice_range (numbers t bs) k (k + 1) ≡ get_or (numbers t bs) k (pos 0) ∷ [] = rw (size, drop_more (numbers t bs) k (pos 0) (omega (arith, length_numbers t bs))) refl in
    rw end (numbers_part t bs k 1 within ∙ part)

-- ---- picked numbers

-- a position has a number
abbrev pub HasNumber : PType → List ℕ → ℕ → Type 0
HasNumber t bs k = k < length bs / byte_width t

-- a picked number has as many bytes as its type says
length_picked : (t : PType) (bs : List ℕ) (k : ℕ) → HasNumber t bs k → length (bytes_of_position (byte_width t) bs k) ≡ 1 * byte_width t
length_picked t bs k h =
    let room : (k + 1) * byte_width t ≤ length bs / byte_width t * byte_width t = mul-le-mul_right (byte_width t) (omega arith) in
    let within : (k + 1) * byte_width t ≤ length bs = omega (arith, width_pos t) in
    length_part bs (k * byte_width t) (k * byte_width t + byte_width t) (omega arith) (omega arith) ∙ omega arith

pub length_gathered : (t : PType) (bs : List ℕ) (ps : List ℕ) → All (HasNumber t bs) ps
    → length (flat_map (bytes_of_position (byte_width t) bs) ps) ≡ length ps * byte_width t
length_gathered t bs [] all = omega arith
length_gathered t bs (p ∷ ps) all =
    omega (arith, length-append (bytes_of_position (byte_width t) bs p) (flat_map (bytes_of_position (byte_width t) bs) ps), length_picked t bs p (all 0 p (omega arith)), length_gathered t bs ps (All-tail (HasNumber t bs) p ps all))

-- what was picked byte by byte is what was picked number by number
pub numbers_gathered : (t : PType) (bs : List ℕ) (ps : List ℕ) → All (HasNumber t bs) ps
    → numbers t (flat_map (bytes_of_position (byte_width t) bs) ps) ≡ map (number_nth (numbers t bs)) ps
numbers_gathered t bs [] all = numbers_none t
numbers_gathered t bs (p ∷ ps) all =
    let rest = All-tail (HasNumber t bs) p ps all in
    numbers_append t (bytes_of_position (byte_width t) bs p) (flat_map (bytes_of_position (byte_width t) bs) ps) 1 (length ps) (length_picked t bs p (all 0 p (omega arith))) (length_gathered t bs ps rest)
    ∙ rw (numbers_one t bs p (all 0 p (omega arith)), numbers_gathered t bs ps rest) refl
