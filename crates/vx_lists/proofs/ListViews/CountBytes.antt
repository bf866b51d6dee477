-- Counts that are read from bytes, and written to them.
use Rattle.std.proofs.Common.{◌≡◌, ℕ, suc, ◌+◌, ◌*◌, ◌<◌, ◌≤◌, List, [], ◌∷◌, ◌++◌, length, take, map, get_or, refl, sym, ◌∙◌, ap, subst, arith, to_z, of_z}
use Rattle.std.specs.Prelude.{ℤ, pos, negsuc, ◌≤ℤ◌, unsigned_abs}
use Rattle.std.specs.Int.{w128}
use Rattle.std.specs.List.{All}
use borrow.Rule.Slice.PartMut.{put_mid}
use Rattle.std.proofs.Math.Nat.{mul-le-mul_right}
use Rattle.std.proofs.lemmas.Int.{ints}
use Rattle.std.proofs.lemmas.List.{length-map, get_or-map, map_more, take_all}
use Rattle.std.proofs.lemmas.List.Elements.{All-get_or, All-map}
use Rattle.vx_base.proofs.NumberLists.{numbers_start, numbers_put}
use Rattle.vx_base.proofs.Positions.{holds-below, position_of}
use Rattle.vx_base.specs.Integers.{byte_width, bytes_of, numbers, Holds}
use Rattle.vx_base.specs.declared.ptypes.PType.{PType}
use Rattle.vx_base.specs.declared.ptypes.PType.TheVariants.{U8, U16, U32, U64, I8, I16, I32, I64}
use Rattle.vx_lists.specs.ListViews.CountBytes.{count_of, counts_of, numbers_before, AreCountBytes, HoldCounts}

-- ---- read

pub length-counts_of : (t : PType) (bs : List ℕ) → length (counts_of t bs) ≡ length (numbers t bs)
length-counts_of t bs = length-map (numbers t bs) count_of

pub get_or-counts_of : (t : PType) (bs : List ℕ) (i : ℕ) → i < length (numbers t bs) → get_or (counts_of t bs) i 0 ≡ count_of (get_or (numbers t bs) i (pos 0))
get_or-counts_of t bs i inside = get_or-map count_of (numbers t bs) i (pos 0) 0 inside

-- a number that is read is not negative
pub count_low : (t : PType) (bs : List ℕ) (i : ℕ) (z : ℤ) → AreCountBytes t bs → i < length (numbers t bs) → z ≡ get_or (numbers t bs) i (pos 0) → pos 0 ≤ℤ z
count_low t bs i z counts inside read = subst (λ (y : ℤ). pos 0 ≤ℤ y) (sym read) (All-get_or (λ (y : ℤ). pos 0 ≤ℤ y) (numbers t bs) i (pos 0) inside counts)

-- and is cast to the count that it is
pub count_read : (t : PType) (bs : List ℕ) (i : ℕ) (z : ℤ) → AreCountBytes t bs → i < length (numbers t bs) → z ≡ get_or (numbers t bs) i (pos 0) → Holds t z
    → unsigned_abs (to_z w128 (of_z w128 z)) ≡ get_or (counts_of t bs) i 0
count_read t bs i z counts inside read held =
    ap count_of (position_of z (count_low t bs i z counts inside read) (holds-below t z held))
    ∙ ap count_of read ∙ sym (get_or-counts_of t bs i inside)

-- ---- bytes that hold counts

module _ (t : PType) (bs counts : List ℕ) (hold : numbers t bs ≡ map pos counts) where
  map-count_of : (ns : List ℕ) → map count_of (map pos ns) ≡ ns
  map-count_of [] = refl
  map-count_of (n ∷ ns) = ap (λ rest. n ∷ rest) (map-count_of ns)

  pub counts_of-held : counts_of t bs ≡ counts
  counts_of-held = ap (map count_of) hold ∙ map-count_of counts

  pub held_are_counts : AreCountBytes t bs
  held_are_counts = subst (All (λ z. pos 0 ≤ℤ z)) (sym hold) (All-map (λ z. pos 0 ≤ℤ z) pos counts (λ i d inside. omega (arith, ints)))

  pub length-held : length (numbers t bs) ≡ length counts
  length-held = ap length hold ∙ length-map counts pos

not_negative : (zs : List ℤ) → All (λ z. pos 0 ≤ℤ z) zs → zs ≡ map pos (map count_of zs)
not_negative [] low = refl
not_negative (pos n ∷ zs) low = ap (λ rest. pos n ∷ rest) (not_negative zs (λ i d inside. low (suc i) d (omega arith)))
not_negative (negsuc n ∷ zs) low = let first : pos 0 ≤ℤ negsuc n = low 0 (pos 0) (omega arith) in absurd (omega (arith, ints))

-- bytes of counts, and no byte more, hold the counts that are read of them
pub own_counts : (t : PType) (bs : List ℕ) → AreCountBytes t bs → length bs ≡ length (numbers t bs) * byte_width t → HoldCounts t bs (counts_of t bs)
own_counts t bs counts whole = record {
  are = not_negative (numbers t bs) counts;
  whole = whole ∙ ap (λ n. n * byte_width t) (sym (length-counts_of t bs));
}

-- ---- written

-- the room of count i
pub count_room : (t : PType) (out : List ℕ) (n i : ℕ) → length out ≡ n * byte_width t → i < n → i * byte_width t + byte_width t ≤ length out
count_room t out n i long inside =
    let some : i + 1 ≤ n = omega arith in
    let room : (i + 1) * byte_width t ≤ n * byte_width t = mul-le-mul_right (byte_width t) some in
    omega arith

-- the first i counts stand at their places
pub record AreWritten (t : PType) (counts : List ℕ) (i : ℕ) (out : List ℕ) : Type 0 where
  pub long : length out ≡ length counts * byte_width t
  pub so_far : numbers_before t i out ≡ map pos (take i counts)

pub AreWritten-none : (t : PType) (counts out : List ℕ) → length out ≡ length counts * byte_width t → AreWritten t counts 0 out
AreWritten-none t counts out long = record { long = long; so_far = numbers_start t out }

pub AreWritten-more : (t : PType) (counts : List ℕ) (i : ℕ) (out out' : List ℕ) (n : ℕ) → AreWritten t counts i out → i < length counts → n ≡ get_or counts i 0 → length out' ≡ length out → numbers_before t (i + 1) out' ≡ numbers_before t i out ++ pos n ∷ []
    → AreWritten t counts (i + 1) out'
AreWritten-more t counts i out out' n written inside here same_len more = record {
  long = same_len ∙ written.long;
  so_far = more ∙ ap (λ zs. zs ++ pos n ∷ []) written.so_far ∙ ap (λ m. map pos (take i counts) ++ pos m ∷ []) here ∙ sym (map_more pos counts i 0 inside);
}

pub AreWritten-all : (t : PType) (counts : List ℕ) (i : ℕ) (out : List ℕ) → i ≡ length counts → AreWritten t counts i out → HoldCounts t out counts
AreWritten-all t counts i out all written =
    let end : i * byte_width t ≡ length out = ap (λ n. n * byte_width t) all ∙ sym written.long in
    record {
      are = ap (numbers t) (sym (take_all (i * byte_width t) out (omega arith))) ∙ written.so_far ∙ ap (map pos) (take_all i counts (omega arith));
      whole = written.long;
    }

-- one count is put at its place, where the width is known by itself
pub count_put : (t : PType) (xs ys : List ℕ) (width i k n : ℕ) → width ≡ byte_width t → ys ≡ bytes_of t (pos n) → i * byte_width t + byte_width t ≤ length xs → Holds t (pos n)
    → numbers_before t (i + 1) (put_mid (i * width) k xs ys) ≡ numbers_before t i xs ++ pos n ∷ []
count_put t xs ys width i k n wide bytes room held = rw (wide, bytes) (numbers_put t xs i k (pos n) room held)

-- each type holds 0
pub Holds-none : (t : PType) → Holds t (pos 0)
Holds-none U8 = (omega (arith, ints), omega (arith, ints))
Holds-none U16 = (omega (arith, ints), omega (arith, ints))
Holds-none U32 = (omega (arith, ints), omega (arith, ints))
Holds-none U64 = (omega (arith, ints), omega (arith, ints))
Holds-none I8 = (omega (arith, ints), omega (arith, ints))
Holds-none I16 = (omega (arith, ints), omega (arith, ints))
Holds-none I32 = (omega (arith, ints), omega (arith, ints))
Holds-none I64 = (omega (arith, ints), omega (arith, ints))
