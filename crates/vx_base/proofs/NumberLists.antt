-- The numbers that bytes hold, one after another.
use Rattle.std.proofs.Common.{ℕ, ◌+◌, ◌-◌, ◌*◌, ◌/◌, ◌<◌, ◌≤◌, ◌≡◌, List, [], ◌∷◌, ◌++◌, length, get_or, take, drop, map, refl, sym, ◌∙◌, ap, zero-add, arith}
use Rattle.std.specs.Prelude.{ℤ, pos, slice_range}
use Rattle.std.specs.List.{range_with_len}
use Rattle.std.proofs.Math.Nat.{mul-le-mul_right, div-mul-le_self, add-mul}
use Rattle.std.proofs.lemmas.Nat.{div-mul-add, le-div}
use Rattle.std.proofs.lemmas.Slice.{take-put_mid}
use borrow.Rule.Slice.PartMut.{put_mid}
use Rattle.std.proofs.lemmas.List.{length-take-le, take_all, drop_at, drop-append-le, take-append-le, length-append, length-drop, drop-drop, drop-take, take-take}
use Rattle.std.proofs.lemmas.List.FromFn.{length-map-range_with_len, get_or-map-range_with_len, map-range_with_len_more}
use Rattle.vx_base.proofs.ListParts.{map_range_same, part_of_map_range, length_part}
use Rattle.vx_base.proofs.NumberBytes.{number_of-bytes_of}
use Rattle.vx_base.specs.Integers.{byte_width, bytes_of, number_of, number_at, numbers, Holds}
use Rattle.vx_base.specs.declared.ptypes.PType.{PType}
use Rattle.vx_base.specs.declared.ptypes.PType.TheVariants.{U8, U16, U32, U64, I8, I16, I32, I64}

-- a number takes a byte at least
pub width_pos : (t : PType) → 0 < byte_width t
width_pos U8 = omega arith
width_pos U16 = omega arith
width_pos U32 = omega arith
width_pos U64 = omega arith
width_pos I8 = omega arith
width_pos I16 = omega arith
width_pos I32 = omega arith
width_pos I64 = omega arith

-- and has as many bytes as its type says
pub length-bytes_of : (t : PType) (z : ℤ) → length (bytes_of t z) ≡ byte_width t
length-bytes_of U8 z = refl
length-bytes_of U16 z = refl
length-bytes_of U32 z = refl
length-bytes_of U64 z = refl
length-bytes_of I8 z = refl
length-bytes_of I16 z = refl
length-bytes_of I32 z = refl
length-bytes_of I64 z = refl

-- whole numbers of bytes
pub whole : (t : PType) (n : ℕ) → n * byte_width t / byte_width t ≡ n
whole t n = ap (λ (m : ℕ). m / byte_width t) (omega arith) ∙ div-mul-add n (byte_width t) 0 (width_pos t)

-- how many numbers there are, and each of them
pub length_numbers : (t : PType) (bs : List ℕ) → length (numbers t bs) ≡ length bs / byte_width t
unfolding numbers
length_numbers t bs = length-map-range_with_len (number_at t bs) 0 (length bs / byte_width t)

pub get_numbers : (t : PType) (bs : List ℕ) (i : ℕ) (d : ℤ) → i < length bs / byte_width t → get_or (numbers t bs) i d ≡ number_at t bs i
unfolding numbers
get_numbers t bs i d h = get_or-map-range_with_len (number_at t bs) 0 (length bs / byte_width t) i i d h (zero-add i)

pub numbers_none : (t : PType) → numbers t [] ≡ []
unfolding numbers
numbers_none t =
    let none : 0 / byte_width t ≡ 0 = ap (λ (m : ℕ). m / byte_width t) (omega arith) ∙ whole t 0 in
    rw none

-- a number before the end does not see what is added
number_at-append : (t : PType) (bs cs : List ℕ) (n i : ℕ) → length bs ≡ n * byte_width t → i < n → number_at t (bs ++ cs) i ≡ number_at t bs i
number_at-append t bs cs n i e h =
    let room : (i + 1) * byte_width t ≤ n * byte_width t = mul-le-mul_right (byte_width t) h' in
    let place : i * byte_width t ≤ length bs = omega arith in
    let rest : drop (i * byte_width t) (bs ++ cs) ≡ drop (i * byte_width t) bs ++ cs = drop-append-le (i * byte_width t) bs cs place in
    let part : take (byte_width t) (drop (i * byte_width t) bs ++ cs) ≡ take (byte_width t) (drop (i * byte_width t) bs) = take-append-le (byte_width t) (drop (i * byte_width t) bs) cs (omega (arith, length-drop (i * byte_width t) bs)) in
    ap (number_of t) (ap (take (byte_width t)) rest ∙ part)
  where
    h' : i + 1 ≤ n
    h' = omega arith

-- the bytes of one number more
pub numbers_push : (t : PType) (bs : List ℕ) (n : ℕ) (z : ℤ) → length bs ≡ n * byte_width t → Holds t z → numbers t (bs ++ bytes_of t z) ≡ numbers t bs ++ z ∷ []
unfolding numbers
numbers_push t bs n z e h =
    let old : length bs / byte_width t ≡ n = ap (λ (m : ℕ). m / byte_width t) e ∙ whole t n in
    let long : length (bs ++ bytes_of t z) ≡ (n + 1) * byte_width t = omega (arith, length-append bs (bytes_of t z), length-bytes_of t z) in
    let new : length (bs ++ bytes_of t z) / byte_width t ≡ n + 1 = ap (λ (m : ℕ). m / byte_width t) long ∙ whole t (n + 1) in
    let last : number_at t (bs ++ bytes_of t z) n ≡ z =
    ap (λ (ys : List ℕ). number_of t (take (byte_width t) ys)) (drop_at bs (bytes_of t z) (n * byte_width t) e)
    ∙ ap (number_of t) (take_all (byte_width t) (bytes_of t z) (omega (arith, length-bytes_of t z)))
    ∙ number_of-bytes_of t z h in
    let front : map (number_at t (bs ++ bytes_of t z)) (range_with_len 0 n) ≡ map (number_at t bs) (range_with_len 0 n) =
    map_range_same (number_at t (bs ++ bytes_of t z)) (number_at t bs) 0 0 n (λ j l. rw zero-add (number_at-append t bs (bytes_of t z) n j e l)) in
    rw (new, old, map-range_with_len_more (number_at t (bs ++ bytes_of t z)) 0 n n (zero-add n), front, last)

-- the numbers of a part of the bytes
pub numbers_part : (t : PType) (bs : List ℕ) (from len : ℕ) → (from + len) * byte_width t ≤ length bs
    → numbers t (slice_range bs (from * byte_width t) ((from + len) * byte_width t)) ≡ slice_range (numbers t bs) from (from + len)
unfolding numbers
numbers_part t bs from len within =
    rw count (map_range_same (number_at t part) (number_at t bs) 0 from len (λ j l. rw zero-add (each j l))) ∙ sym whole_part
  where
    part : List ℕ
    part = slice_range bs (from * byte_width t) ((from + len) * byte_width t)

    start : from * byte_width t ≤ (from + len) * byte_width t
    start = omega arith

    long : length part ≡ len * byte_width t
    long = length_part bs (from * byte_width t) ((from + len) * byte_width t) start within ∙ omega arith

    count : length part / byte_width t ≡ len
    count = ap (λ (m : ℕ). m / byte_width t) long ∙ whole t len

    room : from + len ≤ length bs / byte_width t
    room = le-div (from + len) (length bs) (byte_width t) (width_pos t) within

    whole_part : slice_range (map (number_at t bs) (range_with_len 0 (length bs / byte_width t))) from (from + len) ≡ map (number_at t bs) (range_with_len from len)
    whole_part =
        let size : from + len - from ≡ len = omega arith in
        part_of_map_range (number_at t bs) 0 (length bs / byte_width t) from (from + len) (omega arith) room ∙ rw (size, zero-add) refl

    each : (j : ℕ) → j < len → number_at t part j ≡ number_at t bs (from + j)
    each j l =
        let both : (j + (len - j)) * byte_width t ≡ len * byte_width t = ap (λ (m : ℕ). m * byte_width t) (omega arith) in
        let some : 1 ≤ len - j = omega arith in
        let enough : 1 * byte_width t ≤ (len - j) * byte_width t = mul-le-mul_right (byte_width t) some in
        let size : (from + len) * byte_width t - from * byte_width t ≡ j * byte_width t + (len - j) * byte_width t = omega arith in
        let place : from * byte_width t + j * byte_width t ≡ (from + j) * byte_width t = omega arith in
        ap (number_of t) (ap (λ (m : ℕ). take (byte_width t) (drop (j * byte_width t) (take m (drop (from * byte_width t) bs)))) size
        ∙ ap (take (byte_width t)) (drop-take (j * byte_width t) ((len - j) * byte_width t) (drop (from * byte_width t) bs))
        ∙ take-take (byte_width t) ((len - j) * byte_width t) (drop (j * byte_width t) (drop (from * byte_width t) bs)) (omega arith)
        ∙ ap (take (byte_width t)) (drop-drop (j * byte_width t) (from * byte_width t) bs ∙ ap (λ (m : ℕ). drop m bs) place))

-- the same by its two ends
pub numbers_between : (t : PType) (bs : List ℕ) (from to : ℕ) → from ≤ to → to * byte_width t ≤ length bs
    → numbers t (slice_range bs (from * byte_width t) (to * byte_width t)) ≡ slice_range (numbers t bs) from to
numbers_between t bs from to le within =
    let end : from + (to - from) ≡ to = omega arith in
    rw end at (numbers_part t bs from (to - from) (rw end within))

-- where a number is one of those that bytes hold, its bytes are there
pub number_room : (t : PType) (bs : List ℕ) (i : ℕ) → i < length (numbers t bs) → i * byte_width t + byte_width t ≤ length bs
number_room t bs i h =
    let within : i + 1 ≤ length bs / byte_width t = omega (arith, length_numbers t bs) in
    let scaled : (i + 1) * byte_width t ≤ length bs / byte_width t * byte_width t = mul-le-mul_right (byte_width t) within in
    omega (arith, scaled, div-mul-le_self (length bs) (byte_width t))

pub numbers_room : (t : PType) (bs : List ℕ) (n : ℕ) → n ≤ length (numbers t bs) → n * byte_width t ≤ length bs
numbers_room t bs n h =
    let within : n ≤ length bs / byte_width t = omega (arith, length_numbers t bs) in
    let scaled : n * byte_width t ≤ length bs / byte_width t * byte_width t = mul-le-mul_right (byte_width t) within in
    omega (arith, scaled, div-mul-le_self (length bs) (byte_width t))

-- a number that is read from its bytes
pub number_read : (t : PType) (bs : List ℕ) (i : ℕ) (z : ℤ) → i < length (numbers t bs) → z ≡ number_of t (slice_range bs (i * byte_width t) (i * byte_width t + byte_width t)) → z ≡ get_or (numbers t bs) i (pos 0)
number_read t bs i z h e =
    let size : i * byte_width t + byte_width t - i * byte_width t ≡ byte_width t = omega arith in
    rw size at e ∙ sym (get_numbers t bs i (pos 0) (omega (arith, length_numbers t bs)))

-- how many bytes a part of the numbers has
pub numbers_long : (t : PType) (bs : List ℕ) (from to : ℕ) → from ≤ to → to * byte_width t ≤ length bs
    → length (slice_range bs (from * byte_width t) (to * byte_width t)) ≡ (to - from) * byte_width t
numbers_long t bs from to le within =
    let end : from + (to - from) ≡ to = omega arith in
    let start : from * byte_width t ≤ to * byte_width t = mul-le-mul_right (byte_width t) le in
    let split : from * byte_width t + (to - from) * byte_width t ≡ to * byte_width t = sym (ap (λ (m : ℕ). m * byte_width t) (sym end) ∙ add-mul from (to - from) (byte_width t)) in
    length_part bs (from * byte_width t) (to * byte_width t) start within ∙ omega (arith, split)

-- the bytes of one number more, written at their place
pub numbers_put : (t : PType) (xs : List ℕ) (i k : ℕ) (z : ℤ) → i * byte_width t + byte_width t ≤ length xs → Holds t z
    → numbers t (take ((i + 1) * byte_width t) (put_mid (i * byte_width t) k xs (bytes_of t z))) ≡ numbers t (take (i * byte_width t) xs) ++ z ∷ []
numbers_put t xs i k z room h =
    let place = take-put_mid (i * byte_width t) k xs (bytes_of t z) ((i + 1) * byte_width t) (omega (arith, length-bytes_of t z)) (omega arith) in
    let long : length (take (i * byte_width t) xs) ≡ i * byte_width t = length-take-le (i * byte_width t) xs (omega arith) in
    ap (numbers t) place ∙ numbers_push t (take (i * byte_width t) xs) i z long h

-- no numbers yet
pub numbers_start : (t : PType) (xs : List ℕ) → numbers t (take (0 * byte_width t) xs) ≡ []
numbers_start t xs =
    let none : 0 * byte_width t ≡ 0 = omega arith in
    ap (λ (n : ℕ). numbers t (take n xs)) none ∙ numbers_none t

-- the same in a loop over n numbers, where the width is known by itself
pub numbers_written : (t : PType) (xs ys : List ℕ) (width n i k : ℕ) (z : ℤ) (zs : List ℤ) → width ≡ byte_width t → ys ≡ bytes_of t z → Holds t z → length xs ≡ n * byte_width t → i < n
    → numbers t (take (i * byte_width t) xs) ≡ zs → numbers t (take ((i + 1) * byte_width t) (put_mid (i * width) k xs ys)) ≡ zs ++ z ∷ []
numbers_written t xs ys width n i k z zs wide bytes h long within e =
    let some : i + 1 ≤ n = omega arith in
    let room : (i + 1) * byte_width t ≤ n * byte_width t = mul-le-mul_right (byte_width t) some in
    let here = numbers_put t xs i k z (omega arith) h in
    rw (wide, bytes) (here ∙ ap (λ (ys : List ℤ). ys ++ z ∷ []) e)
