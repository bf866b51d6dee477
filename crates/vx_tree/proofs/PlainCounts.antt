-- How many rows can be made plain, so that their elements can be counted.
use Rattle.std.proofs.Common.{ℕ, ◌*◌, ◌^◌, ◌<◌, ◌≤◌, ◌≡◌, Bool, true, false, Option, Some, None, refl, sym, ◌∙◌, ap, arith}
use Rattle.std.specs.Prelude.{nat_lt, if◌then◌else◌}
use Rattle.std.proofs.Math.Nat.{mul-le-mul_right}
use Rattle.std.proofs.lemmas.Bool.{lt-ltb, ltb-true}
use Rattle.vx_base.specs.Kinds.{Kind, booleans, integers, texts, binaries, lists, fixed_lists, records, Kinds, no_kinds, kind}
use Rattle.vx_base.specs.Refusals.{Refusal, overflow, or_else}
use Rattle.vx_base.specs.Rows.{Row}
use Rattle.vx_tree.specs.Tree.{Tree, bools, primitive, constant, dictionary, fixed_list, list_view, structure, view_array, Trees, no_trees, tree}
use Rattle.vx_tree.specs.Meaning.{tree_len, kind_of}
use Rattle.vx_tree.specs.Formed.{AllLen}
use Rattle.vx_tree.specs.CanonicalFaults.{canonical_fault, columns_fault, rows_canonical_fault, columns_canonical_fault, plain_overflow, fields_overflow}
use Rattle.vx_tree.specs.Fitting.{ColumnsFormed, AsManyAreAsFaulty, FewerCanBePlain}

-- ---- as many as there are

mutual
  pub as_faulty : AsManyAreAsFaulty
  as_faulty (bools b bits v) h = refl
  as_faulty (primitive t bs v) h = refl
  as_faulty (constant k r n) h = refl
  as_faulty (dictionary c v f) h = refl
  as_faulty (fixed_list e k v n) h = ap (rows_canonical_fault e) (sym h.0.1) ∙ as_faulty e h.1
  as_faulty (list_view e o s v f) h =
      let sizes : rows_canonical_fault s (tree_len o) ≡ canonical_fault s = ap (rows_canonical_fault s) (sym h.0.1.same_len) ∙ as_faulty s h.3 in
      λ i. or_else (canonical_fault e) (or_else (as_faulty o h.2 i) (sizes i))
  as_faulty (structure ns ts v n) h = columns_as_faulty ts n h.1 h.0.1.lens
  as_faulty (view_array vs bs k v) h = refl

  columns_as_faulty : (ts : Trees) (n : ℕ) → ColumnsFormed ts → AllLen n ts → columns_canonical_fault ts n ≡ columns_fault ts
  columns_as_faulty no_trees n h lens = refl
  columns_as_faulty (tree t ts) n h lens =
      let here : rows_canonical_fault t n ≡ canonical_fault t = ap (rows_canonical_fault t) (sym lens.0) ∙ as_faulty t h.0 in
      λ i. or_else (here i) (columns_as_faulty ts n h.1 lens.1 i)

-- ---- fewer

both_none : (a b : Option Refusal) → or_else a b ≡ None → (a ≡ None) × (b ≡ None)
both_none None b h = (refl, h)
both_none (Some r) b h = cc

of_both : (a b : Option Refusal) → a ≡ None → b ≡ None → or_else a b ≡ None
of_both a b p q = rw p q

-- of lists of one size, by their elements
lists_fewer : (k : Kind) (size m n : ℕ) → m * size ≤ n * size → (if nat_lt (n * size) (2 ^ 64) then plain_overflow k (n * size) else Some overflow) ≡ None
    → (plain_overflow k (n * size) ≡ None → plain_overflow k (m * size) ≡ None) → (if nat_lt (m * size) (2 ^ 64) then plain_overflow k (m * size) else Some overflow) ≡ None
lists_fewer k size m n more h elements = counted (nat_lt (n * size) (2 ^ 64)) refl h
  where
    counted : (b : Bool) → nat_lt (n * size) (2 ^ 64) ≡ b → (if b then plain_overflow k (n * size) else Some overflow) ≡ None → (if nat_lt (m * size) (2 ^ 64) then plain_overflow k (m * size) else Some overflow) ≡ None
    counted true p q =
        let small : m * size < 2 ^ 64 = omega (arith, ltb-true (n * size) (2 ^ 64) p) in
        rw (lt-ltb (m * size) (2 ^ 64) small) (elements q)
    counted false p q = absurd (cc)

mutual
  plain_overflow-fewer : (k : Kind) (m n : ℕ) → m ≤ n → plain_overflow k n ≡ None → plain_overflow k m ≡ None
  plain_overflow-fewer (booleans x) m n l h = refl
  plain_overflow-fewer (integers t x) m n l h = refl
  plain_overflow-fewer (texts x) m n l h = refl
  plain_overflow-fewer (binaries x) m n l h = refl
  plain_overflow-fewer (lists k x) m n l h = refl
  plain_overflow-fewer (fixed_lists k size x) m n l h =
      let more : m * size ≤ n * size = mul-le-mul_right size l in
      lists_fewer k size m n more h (plain_overflow-fewer k (m * size) (n * size) more)
  plain_overflow-fewer (records names ks x) m n l h = fields_overflow-fewer ks m n l h

  fields_overflow-fewer : (ks : Kinds) (m n : ℕ) → m ≤ n → fields_overflow ks n ≡ None → fields_overflow ks m ≡ None
  fields_overflow-fewer no_kinds m n l h = refl
  fields_overflow-fewer (kind k ks) m n l h =
      let both = both_none (plain_overflow k n) (fields_overflow ks n) h in
      of_both (plain_overflow k m) (fields_overflow ks m) (plain_overflow-fewer k m n l both.0) (fields_overflow-fewer ks m n l both.1)

mutual
  pub fewer_plain : FewerCanBePlain
  fewer_plain (bools b bits v) m n l h = refl
  fewer_plain (primitive t bs v) m n l h = refl
  fewer_plain (constant k r j) m n l h =
      let both = both_none (plain_overflow k n) _ h in
      of_both (plain_overflow k m) _ (plain_overflow-fewer k m n l both.0) both.1
  fewer_plain (dictionary c v f) m n l h =
      let both = both_none (canonical_fault v) (plain_overflow (kind_of v) n) h in
      of_both (canonical_fault v) (plain_overflow (kind_of v) m) both.0 (plain_overflow-fewer (kind_of v) m n l both.1)
  fewer_plain (fixed_list e k v j) m n l h = fewer_plain e (m * k) (n * k) (mul-le-mul_right k l) h
  fewer_plain (list_view e o s v f) m n l h =
      let both = both_none (canonical_fault e) (or_else (rows_canonical_fault o n) (rows_canonical_fault s n)) h in
      let counts = both_none (rows_canonical_fault o n) (rows_canonical_fault s n) both.1 in
      of_both (canonical_fault e) (or_else (rows_canonical_fault o m) (rows_canonical_fault s m)) both.0
      (of_both (rows_canonical_fault o m) (rows_canonical_fault s m) (fewer_plain o m n l counts.0) (fewer_plain s m n l counts.1))
  fewer_plain (structure ns ts v j) m n l h = fewer_columns ts m n l h
  fewer_plain (view_array vs bs k v) m n l h = refl

  fewer_columns : (ts : Trees) (m n : ℕ) → m ≤ n → columns_canonical_fault ts n ≡ None → columns_canonical_fault ts m ≡ None
  fewer_columns no_trees m n l h = refl
  fewer_columns (tree t ts) m n l h =
      let both = both_none (rows_canonical_fault t n) (columns_canonical_fault ts n) h in
      of_both (rows_canonical_fault t m) (columns_canonical_fault ts m) (fewer_plain t m n l both.0) (fewer_columns ts m n l both.1)
