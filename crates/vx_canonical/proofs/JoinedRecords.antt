-- Records that are joined, column by column.
use Rattle.std.proofs.Common.{ℕ, zero, suc, ◌+◌, ◌-◌, ◌<◌, ◌≡◌, List, [], ◌∷◌, length, map, get_or, refl, sym, ◌∙◌, ap, subst, inl, inr, arith}
use Rattle.std.specs.List.{All}
use Rattle.std.proofs.lemmas.Bool.{cases_lt}
use Rattle.vx_base.specs.Rows.{Row, null, record_of, field}
use Rattle.vx_base.specs.Kinds.{records}
use Rattle.vx_tree.specs.Tree.{Tree, structure, Trees, no_trees, tree, Valid}
use Rattle.vx_tree.specs.Meaning.{tree_len, kind_of, kinds_of, trees_from, row_at, fields_at, is_valid_at, nullable}
use Rattle.vx_tree.specs.Formed.{WellFormed, AllLen, column_count}
use Rattle.vx_tree.specs.Plain.{IsPlain, ArePlain}
use Rattle.vx_canonical.specs.Joined.{joined_len, joined_at, joined_row, IsJoined, IsValidJoined, columns_in, column_at, column_of, AreRecords, AreColumnsJoined}
use Rattle.vx_tree.specs.Extents.{struct_extent, extent_of, joined_extent}
use Rattle.vx_canonical.proofs.ExtentParts.{columns_extents}
use Rattle.vx_canonical.proofs.JoinedRows.{joined-here, joined-later, rows_of_content}

-- ---- columns by their places

pub len_at : (n c : ℕ) (ts : Trees) → AllLen n ts → c < column_count ts → tree_len (column_at ts c) ≡ n
len_at n c no_trees h l = absurd (omega arith)
len_at n zero (tree t ts) h l = h.0
len_at n (suc c) (tree t ts) h l = len_at n c ts h.1 (omega arith)

pub lens_of_each : (n : ℕ) (ts : Trees) → ((c : ℕ) → c < column_count ts → tree_len (column_at ts c) ≡ n) → AllLen n ts
lens_of_each n no_trees h = tt
lens_of_each n (tree t ts) h = (h zero (omega arith), lens_of_each n ts (λ c l. h (suc c) (omega arith)))

pub plain_of_each : (ts : Trees) → ((c : ℕ) → c < column_count ts → IsPlain (column_at ts c)) → ArePlain ts
plain_of_each no_trees h = tt
plain_of_each (tree t ts) h = (h zero (omega arith), plain_of_each ts (λ c l. h (suc c) (omega arith)))

-- records whose columns have the same rows
pub fields-same : (us ts : Trees) (ns : List (List ℕ)) (i j : ℕ) → column_count us ≡ column_count ts → ((c : ℕ) → c < column_count ts → row_at (column_at us c) i ≡ row_at (column_at ts c) j)
    → fields_at us ns i ≡ fields_at ts ns j
fields-same no_trees no_trees ns i j e h = refl
fields-same no_trees (tree t ts) ns i j e h = absurd (omega arith)
fields-same (tree u us) no_trees ns i j e h = absurd (omega arith)
fields-same (tree u us) (tree t ts) [] i j e h = refl
fields-same (tree u us) (tree t ts) (n ∷ ns) i j e h =
    let here = h zero (omega arith) in
    let rest = fields-same us ts ns i j (omega arith) (λ c l. h (suc c) (omega arith)) in
    λ k. field n (here k) (rest k)

-- ---- joined

abbrev record_at : List (List ℕ) → Tree → ℕ → Row
record_at ns t j = record_of (fields_at (columns_in t) ns j)

pub column_len : (ns : List (List ℕ)) (c : ℕ) (ts : List Tree) → All (AreRecords ns) ts → c < length ns → joined_len (map (column_of c) ts) ≡ joined_len ts
column_len ns c [] h l = refl
column_len ns c (t ∷ ts) h l =
    let mine : AreRecords ns t = h 0 t (omega arith) in
    ap (λ n. n + joined_len (map (column_of c) ts)) (len_at (tree_len t) c (columns_in t) mine.lens (omega (arith, mine.count)))
    ∙ ap (λ n. tree_len t + n) (column_len ns c ts (λ k d q. h (suc k) d (omega arith)) l)

pub record-joined : (ns : List (List ℕ)) (cs : Trees) (m : ℕ) (ts : List Tree) → All (AreRecords ns) ts → column_count cs ≡ length ns → (i : ℕ) → i < joined_len ts
    → ((c : ℕ) → c < length ns → row_at (column_at cs c) m ≡ joined_row (map (column_of c) ts) i) → record_of (fields_at cs ns m) ≡ joined_at (record_at ns) null ts i
record-joined ns cs m [] h e i l same = absurd (omega arith)
record-joined ns cs m (t ∷ ts) h e i l same =
    let mine : AreRecords ns t = h 0 t (omega arith) in
    elim (cases_lt i (tree_len t)) [
      | inl here ↦
          ap record_of (fields-same cs (columns_in t) ns m i (e ∙ sym mine.count)
          (λ c q. same c (omega (arith, mine.count)) ∙ joined-here row_at null (column_of c t) (map (column_of c) ts) i (rw (len_at (tree_len t) c (columns_in t) mine.lens q) here)))
          ∙ sym (joined-here (record_at ns) null t ts i here)
      | inr later ↦
          record-joined ns cs m ts (λ k d q. h (suc k) d (omega arith)) e (i - tree_len t) (omega arith)
          (λ c q.
          let long : tree_len (column_of c t) ≡ tree_len t = len_at (tree_len t) c (columns_in t) mine.lens (omega (arith, mine.count)) in
          same c q ∙ joined-later row_at null (column_of c t) (map (column_of c) ts) i (rw long later) ∙ ap (λ n. joined_row (map (column_of c) ts) (i - n)) long)
          ∙ sym (joined-later (record_at ns) null t ts i later)
    ]

pub records_joined : (ns : List (List ℕ)) (n : ℕ) (ts : List Tree) (cs : Trees) (v : Valid) → All (AreRecords ns) ts → AreColumnsJoined ts (length ns) cs → n ≡ joined_len ts → IsValidJoined (nullable v) ts v
    → IsJoined (records ns (kinds_of cs) (nullable v)) ts (structure ns cs v n) × WellFormed (structure ns cs v n)
records_joined ns n ts cs v h joined e valid = (
  record {
    len = e;
    kind = refl;
    plain = (plain_of_each cs (λ c l. (joined.each c (omega (arith, joined.count))).plain), valid.plain);
    state = valid.state;
    extent = ap struct_extent (columns_extents cs 0 ts (λ i d l. (h i d l).layout) (λ c l.
        let P : ℕ → Type 0 = λ m. extent_of (column_at cs c) ≡ joined_extent (kind_of (column_at cs c)) (map extent_of (map (column_of m) ts)) in
        subst P {x = c} {y = 0 + c} (omega arith) (joined.each c (omega (arith, joined.count))).extent));
    flag = refl;
    rows = λ i l.
        rows_of_content (record_at ns) (structure ns cs v n) ts (λ k d q. (h k d q).content) i l (is_valid_at v i) (record_of (fields_at cs ns i)) (valid.bits i l)
        (record-joined ns cs i ts h joined.count i l (λ c q. (joined.each c q).rows i (rw (column_len ns c ts h q) l))) refl;
  },
  (
    rw e valid.fits,
    record {
      named = sym joined.count;
      lens = lens_of_each n cs (λ c l.
          let q : c < length ns = omega (arith, joined.count) in
          (joined.each c q).len ∙ column_len ns c ts h q ∙ sym e);
    },
  ),
)

-- ---- a column of each array

pub column_of_list : (items : List Tree) (c : ℕ) (d : Tree) → c < length items → column_at (trees_from items) c ≡ get_or items c d
column_of_list [] c d l = absurd (omega arith)
column_of_list (t ∷ items) zero d l = refl
column_of_list (t ∷ items) (suc c) d l = column_of_list items c d (omega arith)

pub count_of_list : (items : List Tree) → column_count (trees_from items) ≡ length items
count_of_list [] = refl
count_of_list (t ∷ items) = omega (arith, count_of_list items)
