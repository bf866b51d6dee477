-- Numbers that are written as bytes, one after another, and read back.
use Rattle.std.proofs.Common.{◌≡◌, ◌∙◌, ◌+◌, ◌*◌, ◌/◌, ◌<◌, ℕ, zero, suc, List, [], ◌∷◌, ◌++◌, length, get_or, ap, arith}
use Rattle.std.specs.Prelude.{ℤ}
use Rattle.std.specs.List.{All}
use Rattle.std.proofs.lemmas.List.{get_or-append-add, length-append, same_lists}
use Rattle.vx_base.proofs.Gathered.{numbers_append}
use Rattle.vx_base.proofs.NumberLists.{length-bytes_of, length_numbers, numbers_none, numbers_push, whole}
use Rattle.vx_base.specs.Integers.{byte_width, bytes_of, numbers, Holds}
use Rattle.vx_base.specs.declared.ptypes.PType.{PType}
use Rattle.vx_pack.specs.Packed.{bytes_of_numbers}

pub length-bytes_of_numbers : (t : PType) (zs : List ℤ) → length (bytes_of_numbers t zs) ≡ length zs * byte_width t
length-bytes_of_numbers t [] = omega arith
length-bytes_of_numbers t (z ∷ zs) =
    omega (arith, length-append (bytes_of t z) (bytes_of_numbers t zs), length-bytes_of t z, length-bytes_of_numbers t zs)

-- ---- how many are read

one_read : (t : PType) (z : ℤ) → length (numbers t (bytes_of t z)) ≡ 1
one_read t z =
    let size : length (bytes_of t z) ≡ 1 * byte_width t = omega (arith, length-bytes_of t z) in
    length_numbers t (bytes_of t z) ∙ ap (λ (n : ℕ). n / byte_width t) size ∙ whole t 1

-- the first, and then the others
first_read : (t : PType) (z : ℤ) (zs : List ℤ)
    → numbers t (bytes_of_numbers t (z ∷ zs)) ≡ numbers t (bytes_of t z) ++ numbers t (bytes_of_numbers t zs)
first_read t z zs =
    numbers_append t (bytes_of t z) (bytes_of_numbers t zs) 1 (length zs) (omega (arith, length-bytes_of t z))
    (length-bytes_of_numbers t zs)

pub length-numbers_read : (t : PType) (zs : List ℤ) → length (numbers t (bytes_of_numbers t zs)) ≡ length zs
length-numbers_read t zs =
    length_numbers t (bytes_of_numbers t zs) ∙ ap (λ (n : ℕ). n / byte_width t) (length-bytes_of_numbers t zs) ∙ whole t (length zs)

-- ---- what is read

-- a number that the type has is read back
held_read : (t : PType) (z : ℤ) → Holds t z → numbers t (bytes_of t z) ≡ z ∷ []
held_read t z h =
    numbers_push t [] 0 z (omega arith) h ∙ ap (λ (ys : List ℤ). ys ++ z ∷ []) (numbers_none t)

-- also where others, which the type may not have, stand beside it
pub number_read_back : (t : PType) (zs : List ℤ) (i : ℕ) (d : ℤ) → i < length zs → Holds t (get_or zs i d)
    → get_or (numbers t (bytes_of_numbers t zs)) i d ≡ get_or zs i d
number_read_back t [] i d l h = absurd (omega arith)
number_read_back t (z ∷ zs) zero d l h =
    ap (λ (ys : List ℤ). get_or ys 0 d) (first_read t z zs
    ∙ ap (λ (ys : List ℤ). ys ++ numbers t (bytes_of_numbers t zs)) (held_read t z h))
number_read_back t (z ∷ zs) (suc i) d l h =
    let place : suc i ≡ length (numbers t (bytes_of t z)) + i = omega (arith, one_read t z) in
    ap (λ (ys : List ℤ). get_or ys (suc i) d) (first_read t z zs)
    ∙ ap (λ (n : ℕ). get_or (numbers t (bytes_of t z) ++ numbers t (bytes_of_numbers t zs)) n d) place
    ∙ get_or-append-add (numbers t (bytes_of t z)) (numbers t (bytes_of_numbers t zs)) i d
    ∙ number_read_back t zs i d (omega arith) h

pub numbers_read_back : (t : PType) (zs : List ℤ) → All (Holds t) zs → numbers t (bytes_of_numbers t zs) ≡ zs
numbers_read_back t zs held =
    same_lists (numbers t (bytes_of_numbers t zs)) zs (length-numbers_read t zs) (λ i d l.
    let inside : i < length zs = omega (arith, length-numbers_read t zs) in number_read_back t zs i d inside (held i d inside))
