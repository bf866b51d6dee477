-- Counts that are read from bytes of a type.
use Rattle.std.proofs.Common.{◌≡◌, ◌∙◌, ◌+◌, ◌<◌, ◌≤◌, ℕ, List, [], ◌∷◌, ◌++◌, length, map, take, get_or, sum, refl, sym, ap}
use Rattle.std.proofs.Common.{subst, arith, to_z, of_z}
use Rattle.std.specs.Prelude.{ℤ, pos, ◌≤ℤ◌, unsigned_abs}
use Rattle.std.specs.Int.{w128}
use Rattle.std.specs.List.{All}
use Rattle.std.proofs.lemmas.Int.{ints}
use Rattle.std.proofs.lemmas.List.{append_assoc, get_or-map, length-map, take_more}
use Rattle.std.proofs.lemmas.List.Elements.{All-get_or, All-map}
use Rattle.std.proofs.Math.Nat.{div-le_self}
use Rattle.vx_base.proofs.NumberLists.{length_numbers}
use Rattle.vx_base.proofs.Positions.{holds-below, position_of}
use Rattle.vx_base.specs.Integers.{byte_width, numbers, Holds}
use Rattle.vx_base.specs.declared.ptypes.PType.{PType}
use Rattle.vx_pack.specs.CountBytes.{count_of, counts_of, AreCountBytes}

pub length-counts_of : (t : PType) (bs : List ℕ) → length (counts_of t bs) ≡ length (numbers t bs)
length-counts_of t bs = length-map (numbers t bs) count_of

-- there are no more than bytes
pub numbers_few : (t : PType) (bs : List ℕ) → length (numbers t bs) ≤ length bs
numbers_few t bs = omega (arith, length_numbers t bs, div-le_self (length bs) (byte_width t))

get_or-counts_of : (t : PType) (bs : List ℕ) (i : ℕ) → i < length (numbers t bs)
    → get_or (counts_of t bs) i 0 ≡ count_of (get_or (numbers t bs) i (pos 0))
get_or-counts_of t bs i inside = get_or-map count_of (numbers t bs) i (pos 0) 0 inside

-- a number that is read is not negative
pub count_low : (t : PType) (bs : List ℕ) (i : ℕ) (z : ℤ) → AreCountBytes t bs → i < length (numbers t bs)
    → z ≡ get_or (numbers t bs) i (pos 0) → pos 0 ≤ℤ z
count_low t bs i z counts inside read =
    subst (λ (y : ℤ). pos 0 ≤ℤ y) (sym read) (All-get_or (λ (y : ℤ). pos 0 ≤ℤ y) (numbers t bs) i (pos 0) inside counts)

-- and is cast to the count that it is
pub count_read : (t : PType) (bs : List ℕ) (i : ℕ) (z : ℤ) → AreCountBytes t bs → i < length (numbers t bs)
    → z ≡ get_or (numbers t bs) i (pos 0) → Holds t z
    → unsigned_abs (to_z w128 (of_z w128 z)) ≡ get_or (counts_of t bs) i 0
count_read t bs i z counts inside read held =
    ap count_of (position_of z (count_low t bs i z counts inside read) (holds-below t z held))
    ∙ ap count_of read ∙ sym (get_or-counts_of t bs i inside)

-- ---- bytes that hold counts

map-count_of : (ns : List ℕ) → map count_of (map pos ns) ≡ ns
map-count_of [] = refl
map-count_of (n ∷ ns) = ap (λ rest. n ∷ rest) (map-count_of ns)

pub counts_of-held : (t : PType) (bs counts : List ℕ) → numbers t bs ≡ map pos counts → counts_of t bs ≡ counts
counts_of-held t bs counts hold = ap (map count_of) hold ∙ map-count_of counts

pub held_are_counts : (t : PType) (bs counts : List ℕ) → numbers t bs ≡ map pos counts → AreCountBytes t bs
held_are_counts t bs counts hold =
    subst (All (λ z. pos 0 ≤ℤ z)) (sym hold) (All-map (λ z. pos 0 ≤ℤ z) pos counts (λ i d inside. omega (arith, ints)))

-- ---- one after another

-- one count more, after others
pub counts_step : (ns counts : List ℕ) (i n : ℕ) → i < length counts → n ≡ get_or counts i 0
    → (ns ++ take i counts) ++ n ∷ [] ≡ ns ++ take (i + 1) counts
counts_step ns counts i n inside is =
    append_assoc ns (take i counts) (n ∷ [])
    ∙ ap (λ xs. ns ++ xs) (ap (λ m. take i counts ++ m ∷ []) is ∙ sym (take_more counts i 0 inside))
