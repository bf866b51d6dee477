-- Arrays of counts by their numbers.
use Rattle.std.proofs.Common.{◌≡◌, ℕ, ◌+◌, ◌*◌, ◌<◌, true, List, [], ◌∷◌, ◌++◌, zero-add, length, map, get_or, refl, sym, ◌∙◌, ap, subst, arith}
use Rattle.std.specs.Prelude.{ℤ, pos, negsuc, ◌≤ℤ◌}
use Rattle.std.specs.List.{All, range_with_len}
use Rattle.std.proofs.lemmas.Int.{ints}
use Rattle.std.proofs.lemmas.List.{length-map, get_or-map, get_or_default}
use Rattle.std.proofs.lemmas.List.Elements.{All-push}
use Rattle.std.proofs.lemmas.List.FromFn.{fill_by_all, map-range_with_len_more}
use Rattle.std.proofs.lemmas.Simd.{map-map}
use Rattle.vx_base.specs.Integers.{byte_width, numbers, Holds, number_nth}
use Rattle.vx_base.specs.Rows.{null, whole as whole_row, count_in}
use Rattle.vx_base.specs.Kinds.{Kind, booleans, integers, texts, binaries, lists, fixed_lists, records, is_integers, is_plain_integers, integer_type}
use Rattle.vx_base.specs.declared.ptypes.PType.{PType}
use Rattle.vx_tree.specs.Tree.{Tree, primitive, Valid, non_nullable, all_valid, all_invalid, by_array}
use Rattle.vx_tree.specs.Meaning.{tree_len, kind_of, row_at, rows}
use Rattle.vx_tree.specs.Formed.{IsCounts, WellFormed}
use Rattle.vx_lists.specs.ListViews.CountBytes.{count_of, counts_of, AreCountBytes, HoldCounts}
use Rattle.vx_lists.specs.ListViews.{counts_in, IsCountArray}
use Rattle.vx_lists.proofs.ListViews.CountBytes.{get_or-counts_of}

-- plain integers are integers
pub is_integers-from_plain : (k : Kind) → is_plain_integers k ≡ true → is_integers k ≡ true
is_integers-from_plain (booleans n) plain = plain
is_integers-from_plain (integers t n) plain = refl
is_integers-from_plain (texts n) plain = plain
is_integers-from_plain (binaries n) plain = plain
is_integers-from_plain (lists k n) plain = plain
is_integers-from_plain (fixed_lists k size n) plain = plain
is_integers-from_plain (records names ks n) plain = plain

pub ruleset integer_kinds = (is_integers-from_plain)

-- ---- plain numbers that are counts

map-count_in-whole : (counts : List ℕ) → map count_in (map whole_row (map pos counts)) ≡ counts
map-count_in-whole [] = refl
map-count_in-whole (n ∷ counts) = ap (λ rest. n ∷ rest) (map-count_in-whole counts)

rows-by_numbers : (t : PType) (bs : List ℕ) → rows (primitive t bs non_nullable) ≡ map whole_row (numbers t bs)
rows-by_numbers t bs =
    let each : (k : ℕ) → k < length (numbers t bs) → get_or (map whole_row (numbers t bs)) k null ≡ whole_row (number_nth (numbers t bs) k) =
    λ k inside. get_or-map whole_row (numbers t bs) k (pos 0) null inside in
    sym (fill_by_all (λ k. whole_row (number_nth (numbers t bs) k)) (map whole_row (numbers t bs)) (length (numbers t bs)) null (length-map (numbers t bs) whole_row) each)

pub counts_in-primitive : (t : PType) (bs : List ℕ) (counts : List ℕ) → numbers t bs ≡ map pos counts → counts_in (primitive t bs non_nullable) ≡ counts
counts_in-primitive t bs counts same = ap (map count_in) (rows-by_numbers t bs ∙ ap (map whole_row) same) ∙ map-count_in-whole counts

is_count : (z : ℤ) (n : ℕ) → z ≡ pos n → whole_row z ≡ whole_row (pos (count_in (whole_row z)))
is_count z n same = rw same

pub count_array_of_numbers : (t : PType) (bs : List ℕ) (counts : List ℕ) → numbers t bs ≡ map pos counts → IsCountArray t counts (primitive t bs non_nullable)
count_array_of_numbers t bs counts same = record {
  kind = refl;
  are_counts = record {
    kind = refl;
    counts = λ i inside.
        let inside_counts : i < length counts = omega (arith, ap length same, length-map counts pos) in
        let number : number_nth (numbers t bs) i ≡ pos (get_or counts i 0) = ap (λ zs. number_nth zs i) same ∙ get_or-map pos counts i 0 (pos 0) inside_counts in
        is_count (number_nth (numbers t bs) i) (get_or counts i 0) number;
  };
  counts_are = counts_in-primitive t bs counts same;
}

-- ---- the numbers of an array of counts

-- only in the state that knows no null are integers plain
pub plain_numbers : (t : PType) (bs : List ℕ) (v : Valid) → is_plain_integers (kind_of (primitive t bs v)) ≡ true → v ≡ non_nullable
plain_numbers t bs non_nullable plain = refl
plain_numbers t bs all_valid plain = cc
plain_numbers t bs all_invalid plain = cc
plain_numbers t bs (by_array m) plain = cc

counted : (z : ℤ) (n : ℕ) → whole_row z ≡ whole_row (pos n) → z ≡ pos (count_in (whole_row z))
counted (pos m) n same = refl
counted (negsuc m) n same = cc

-- their bytes hold them
pub number_bytes_hold : (a : Tree) (t : PType) (bs : List ℕ) (v : Valid) → a ≡ primitive t bs v → WellFormed (primitive t bs v) → IsCounts a → HoldCounts (integer_type (kind_of a)) bs (counts_in a)
number_bytes_hold a t bs v parts formed are_counts =
    let same : a ≡ primitive t bs non_nullable = parts ∙ ap (primitive t bs) (plain_numbers t bs v (ap (λ x. is_plain_integers (kind_of x)) (sym parts) ∙ are_counts.kind)) in
    let counts : IsCounts (primitive t bs non_nullable) = subst IsCounts same are_counts in
    let each : (k : ℕ) → k < length (numbers t bs) → get_or (numbers t bs) k (pos 0) ≡ pos (count_in (row_at (primitive t bs non_nullable) k)) = λ k inside. counted (number_nth (numbers t bs) k) (count_in (row_at (primitive t bs non_nullable) k)) (counts.counts k inside) in
    let are : numbers t bs ≡ map pos (counts_in (primitive t bs non_nullable)) =
    fill_by_all (λ k. pos (count_in (row_at (primitive t bs non_nullable) k))) (numbers t bs) (length (numbers t bs)) (pos 0) refl each
    ∙ sym (map-map pos (λ k. count_in (row_at (primitive t bs non_nullable) k)) (range_with_len 0 (length (numbers t bs))))
    ∙ sym (ap (map pos) (map-map count_in (row_at (primitive t bs non_nullable)) (range_with_len 0 (length (numbers t bs))))) in
    let hold : HoldCounts t bs (counts_in (primitive t bs non_nullable)) = record {
      are = are;
      whole = formed.1 ∙ ap (λ n. n * byte_width t) (ap length are ∙ length-map (counts_in (primitive t bs non_nullable)) pos);
    } in
    subst (λ x. HoldCounts (integer_type (kind_of x)) bs (counts_in x)) (sym same) hold

-- none of them is negative
pub number_counts : (t : PType) (bs : List ℕ) → IsCounts (primitive t bs non_nullable) → AreCountBytes t bs
number_counts t bs are_counts = λ i d inside.
    let number : get_or (numbers t bs) i (pos 0) ≡ pos (count_in (row_at (primitive t bs non_nullable) i)) = counted (number_nth (numbers t bs) i) (count_in (row_at (primitive t bs non_nullable) i)) (are_counts.counts i inside) in
    let here : get_or (numbers t bs) i d ≡ pos (count_in (row_at (primitive t bs non_nullable) i)) = get_or_default (numbers t bs) i d (pos 0) inside ∙ number in
    subst (λ (z : ℤ). pos 0 ≤ℤ z) (sym here) (omega (arith, ints))

count_of-whole : (z : ℤ) → count_of z ≡ count_in (whole_row z)
count_of-whole (pos n) = refl
count_of-whole (negsuc n) = refl

counts_of-whole : (zs : List ℤ) → map count_of zs ≡ map count_in (map whole_row zs)
counts_of-whole [] = refl
counts_of-whole (z ∷ zs) =
    let first = count_of-whole z in
    let rest = counts_of-whole zs in
    cc

-- the counts that they are read as are those of the rows
pub counts_of-rows : (t : PType) (bs : List ℕ) → counts_of t bs ≡ counts_in (primitive t bs non_nullable)
counts_of-rows t bs = counts_of-whole (numbers t bs) ∙ sym (ap (map count_in) (rows-by_numbers t bs))

-- each is read as the count of its row
pub number_count : (t : PType) (bs : List ℕ) (i : ℕ) → i < length (numbers t bs) → get_or (counts_of t bs) i 0 ≡ count_in (row_at (primitive t bs non_nullable) i)
number_count t bs i inside = get_or-counts_of t bs i inside ∙ count_of-whole (number_nth (numbers t bs) i)

-- and are read as their counts
pub number_bytes_read : (a : Tree) (t : PType) (bs : List ℕ) (v : Valid) → a ≡ primitive t bs v → WellFormed (primitive t bs v) → IsCounts a → numbers t bs ≡ map pos (counts_in a)
number_bytes_read a t bs v parts formed counts =
    let hold = number_bytes_hold a t bs v parts formed counts in
    subst (λ p. numbers p bs ≡ map pos (counts_in a)) (ap (λ x. integer_type (kind_of x)) parts) hold.are

pub counts_read : (a : Tree) (t : PType) (bs : List ℕ) (v : Valid) (counts : List ℕ) → a ≡ primitive t bs v → IsCounts a → map pos counts ≡ numbers t bs → counts ≡ counts_in a
counts_read a t bs v counts parts are_counts read =
    let plain : v ≡ non_nullable = plain_numbers t bs v (ap (λ x. is_plain_integers (kind_of x)) (sym parts) ∙ are_counts.kind) in
    sym (ap counts_in (parts ∙ ap (primitive t bs) plain) ∙ counts_in-primitive t bs counts (sym read))

-- ---- counts that are read row by row

pub record AreCountsRead (a : Tree) (n : ℕ) (counts : List ℕ) : Type 0 where
  pub read : counts ≡ map (λ k. count_in (row_at a k)) (range_with_len 0 n)
  pub held : All (λ n. Holds (integer_type (kind_of a)) (pos n)) counts

pub one_count_more : (a : Tree) (n : ℕ) (counts more : List ℕ) (count : ℕ) → AreCountsRead a n counts → count ≡ count_in (row_at a n) → Holds (integer_type (kind_of a)) (pos count) → more ≡ counts ++ count ∷ [] → AreCountsRead a (n + 1) more
one_count_more a n counts more count h same held e =
    rw e (record {
      read = rw (h.read, same) (sym (map-range_with_len_more (λ k. count_in (row_at a k)) 0 n n (zero-add n)));
      held = All-push (λ n. Holds (integer_type (kind_of a)) (pos n)) counts count h.held held;
    })

pub all_counts_read : (a : Tree) (counts : List ℕ) → AreCountsRead a (tree_len a) counts → counts ≡ counts_in a
all_counts_read a counts h = h.read ∙ sym (map-map count_in (row_at a) (range_with_len 0 (tree_len a)))
