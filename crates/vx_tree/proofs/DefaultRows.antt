-- Default rows of a kind, by layout.
use Rattle.std.proofs.Common.{ℕ, zero, suc, ◌+◌, ◌*◌, ◌<◌, ◌≡◌, Bool, true, false, List, [], ◌∷◌, length, replicate, refl, sym, ◌∙◌, ap, subst, add-zero, arith}
use Rattle.std.specs.Prelude.{pos}
use Rattle.vx_base.specs.declared.dtypes.DType.{DType}
use Rattle.vx_base.specs.DTypes.{kinds_of as dtype_kinds}
use Rattle.vx_base.specs.Defaults.{default_row, default_fields}
use Rattle.vx_base.specs.Kinds.{Kind, booleans, integers, texts, binaries, lists, fixed_lists, records, kind, is_nullable_kind, is_plain_integers, or_nullable}
use Rattle.vx_base.specs.Rows.{Row, whole, items, record_of, row, rows_from, field, position_in}
use Rattle.vx_tree.specs.Tree.{Tree, constant, dictionary, fixed_list, list_view, structure, Valid, non_nullable}
use Rattle.vx_tree.specs.Meaning.{kind_of, kinds_of, is_valid_at, row_at, rows_range, fields_at, trees_from, picked}
use Rattle.vx_tree.specs.Formed.{AllLen, IsCounts, IsStruct, ValidFits, WellFormed, column_count}
use Rattle.vx_tree.specs.Shapes.{list_view_shape}
use Rattle.vx_tree.specs.Operations.{IsNulls, IsValidNulls, IsZeroCodes}
use Rattle.vx_tree.specs.DefaultRows.{AreDefaults, AreDefaultColumns}
use Rattle.vx_tree.proofs.Dictionaries.{same_kind}
use Rattle.vx_tree.proofs.FixedLists.{place_within}
use Rattle.vx_tree.proofs.Nulled.{null_row, nullable_nulled}

pub constant_defaults : (t : Tree) (k : Kind) (n : ℕ) → t ≡ constant k (default_row k) n → AreDefaults k n t
constant_defaults t k n e = rw e (record { len = refl; kind = refl; rows = λ i l. refl })

-- ---- lists of one size

-- one row again and again
rows_range-same : (f : ℕ → Row) (r : Row) (a n : ℕ) → ((j : ℕ) → j < n → f (a + j) ≡ r) → rows_range f a n ≡ rows_from (replicate n r)
rows_range-same f r a zero h = refl
rows_range-same f r a (suc n) h =
    let here : f a ≡ r = simp add-zero at (h 0 (omega arith)) in
    let more : (j : ℕ) → j < n → f (suc a + j) ≡ r = λ j l. ap f {x = suc a + j} {y = a + suc j} (omega arith) ∙ h (suc j) (omega arith) in
    λ i. row (here i) (rows_range-same f r (suc a) n more i)

pub list_defaults : (t e : Tree) (k : Kind) (size n : ℕ) → t ≡ fixed_list e size non_nullable n → AreDefaults k (n * size) e → AreDefaults (fixed_lists k size false) n t
list_defaults t e k size n a h =
    rw a (record {
      len = refl;
      kind = λ i. fixed_lists (h.kind i) size false;
      rows = λ i l. ap items (rows_range-same (row_at e) (default_row k) (i * size) size (λ j m. h.rows (i * size + j) (place_within i j n size l m)));
    })

pub own_defaults : (k : Kind) (n : ℕ) (t : Tree) → AreDefaults k n t → AreDefaults (kind_of t) n t
own_defaults k n t h = subst (λ j. AreDefaults j n t) (sym h.kind) h

-- one row of a dictionary
pub repeated_defaults : (t c v : Tree) (k : Kind) (n : ℕ) → t ≡ dictionary c v false → IsZeroCodes n non_nullable c → AreDefaults k 1 v → AreDefaults k n t
repeated_defaults t c v k n a zeroes h =
    rw a (record {
      len = zeroes.len;
      kind = (λ i. or_nullable (is_nullable_kind (zeroes.kind i)) (h.kind i)) ∙ same_kind k;
      rows = λ i l. ap (λ r. picked (row_at v) (position_in r)) (zeroes.rows i l) ∙ h.rows 0 (omega arith);
    })

-- ---- records

column_kinds : (ds : List DType) (n : ℕ) (ts : List Tree) → AreDefaultColumns ds n ts → kinds_of (trees_from ts) ≡ dtype_kinds ds
column_kinds [] n [] h = refl
column_kinds [] n (t ∷ ts) h = absurd h
column_kinds (d ∷ ds) n [] h = absurd h
column_kinds (d ∷ ds) n (t ∷ ts) h = λ i. kind (h.0.kind i) (column_kinds ds n ts h.1 i)

column_lens : (ds : List DType) (n : ℕ) (ts : List Tree) → AreDefaultColumns ds n ts → AllLen n (trees_from ts)
column_lens [] n [] h = tt
column_lens [] n (t ∷ ts) h = absurd h
column_lens (d ∷ ds) n [] h = absurd h
column_lens (d ∷ ds) n (t ∷ ts) h = (h.0.len, column_lens ds n ts h.1)

columns_long : (ds : List DType) (n : ℕ) (ts : List Tree) → AreDefaultColumns ds n ts → length ds ≡ column_count (trees_from ts)
columns_long [] n [] h = refl
columns_long [] n (t ∷ ts) h = absurd h
columns_long (d ∷ ds) n [] h = absurd h
columns_long (d ∷ ds) n (t ∷ ts) h = omega (arith, columns_long ds n ts h.1)

column_rows : (names : List (List ℕ)) (ds : List DType) (n : ℕ) (ts : List Tree) (i : ℕ) → AreDefaultColumns ds n ts → i < n → fields_at (trees_from ts) names i ≡ default_fields names (dtype_kinds ds)
column_rows names [] n (t ∷ ts) i h l = absurd h
column_rows names (d ∷ ds) n [] i h l = absurd h
column_rows [] [] n [] i h l = refl
column_rows (m ∷ names) [] n [] i h l = refl
column_rows [] (d ∷ ds) n (t ∷ ts) i h l = refl
column_rows (m ∷ names) (d ∷ ds) n (t ∷ ts) i h l = λ j. field m (h.0.rows i l j) (column_rows names ds n ts i h.1 l j)

pub default_columns_fit : (names : List (List ℕ)) (ds : List DType) (n : ℕ) (ts : List Tree) → length names ≡ length ds → AreDefaultColumns ds n ts → IsStruct names (trees_from ts) n
default_columns_fit names ds n ts same h = record { named = same ∙ columns_long ds n ts h; lens = column_lens ds n ts h }

pub record_defaults : (t : Tree) (names : List (List ℕ)) (ds : List DType) (ts : List Tree) (n : ℕ) → t ≡ structure names (trees_from ts) non_nullable n → AreDefaultColumns ds n ts → AreDefaults (records names (dtype_kinds ds) false) n t
record_defaults t names ds ts n a h =
    rw a (record {
      len = refl;
      kind = λ i. records names (column_kinds ds n ts h i) false;
      rows = λ i l. ap record_of (column_rows names ds n ts i h l);
    })

-- ---- offsets and sizes

default_count : (k : Kind) → is_plain_integers k ≡ true → default_row k ≡ whole (pos 0)
default_count (booleans m) e = cc
default_count (integers p true) e = cc
default_count (integers p false) e = refl
default_count (texts m) e = cc
default_count (binaries m) e = cc
default_count (lists k m) e = cc
default_count (fixed_lists k size m) e = cc
default_count (records names ks m) e = cc

zero_count : (o t : Tree) (n i : ℕ) → IsCounts o → AreDefaults (kind_of o) n t → i < n → row_at t i ≡ whole (pos 0)
zero_count o t n i counts h l = h.rows i l ∙ default_count (kind_of o) counts.kind

zero_counts : (o t : Tree) (n : ℕ) → IsCounts o → AreDefaults (kind_of o) n t → IsCounts t
zero_counts o t n counts h =
    record {
      kind = ap is_plain_integers h.kind ∙ counts.kind;
      counts = λ i l. rw (zero_count o t n i counts h (rw h.len at l)) refl;
    }

-- lists of no elements, as many as there are
pub null_lists_formed : (e o s p q : Tree) (v w : Valid) (f : Bool) (n : ℕ) → WellFormed (list_view e o s v f) → AreDefaults (kind_of o) n p → AreDefaults (kind_of s) n q → ValidFits w n → WellFormed (list_view e p q w false)
null_lists_formed e o s p q v w f n formed a b fits =
    let view = formed.1 in (
      rw a.len fits,
      record {
        offsets = zero_counts o p n view.offsets a;
        sizes = zero_counts s q n view.sizes b;
        same_len = b.len ∙ sym a.len;
        within = λ i l. rw (zero_count o p n i view.offsets a (rw a.len at l), zero_count s q n i view.sizes b (rw a.len at l)) (omega arith);
        follows = λ t. absurd (cc);
      },
    )

pub lists_null : (t r e o s p q : Tree) (v u w : Valid) (f : Bool) (n : ℕ) → t ≡ list_view e o s v f → r ≡ list_view e p q w false → AreDefaults (kind_of o) n p → AreDefaults (kind_of s) n q → IsValidNulls v u n w
    → IsNulls t n u r
lists_null t r e o s p q v u w f n a b x y h =
    rw (a, b) (record {
      len = x.len;
      kind = ap (lists (kind_of e)) (nullable_nulled v u w h.state);
      shape = λ i. list_view_shape e (x.kind i) (y.kind i) (h.state i) false;
      rows = λ i l. null_row (is_valid_at w i) _ (h.bits i l);
    })
