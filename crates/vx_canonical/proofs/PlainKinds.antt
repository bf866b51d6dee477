-- What the kind alone tells of arrays in plain layout.
use Rattle.std.proofs.Common.{ℕ, zero, suc, ◌+◌, ◌*◌, ◌^◌, ◌<◌, ◌≤◌, ◌≡◌, Bool, true, false, List, [], ◌∷◌, length, drop, ltb, Option, Some, None, refl, sym, ap, subst, arith}
use Rattle.std.specs.Prelude.{nat_lt, slice_index_or, if◌then◌else◌}
use Rattle.std.specs.List.{All}
use Rattle.std.proofs.Math.Nat.{mul-le-mul_right}
use Rattle.std.proofs.lemmas.Bool.{lt-ltb, ltb-true}
use Rattle.vx_base.specs.declared.dtypes.DType.{DType, Struct as struct_dtype}
use Rattle.vx_base.specs.declared.nullability.Nullability.{Nullability}
use Rattle.vx_base.specs.declared.struct_fields.StructFields.{StructFields}
use Rattle.vx_base.proofs.StructKinds.{from_place, struct_kind}
use Rattle.vx_base.specs.DTypes.{dtype_meaning, field_kinds, kinds_of as dtype_kinds}
use Rattle.vx_base.specs.Refusals.{Refusal, overflow, or_else}
use Rattle.vx_base.specs.Kinds.{Kind, booleans, integers, texts, binaries, lists, fixed_lists, records, Kinds, no_kinds, kind, or_nullable}
use Rattle.vx_tree.specs.Tree.{Tree, bools, primitive, constant, dictionary, fixed_list, list_view, structure, view_array, Trees, no_trees, tree}
use Rattle.vx_tree.specs.Meaning.{kind_of, kinds_of, trees_from, nullable, is_texts}
use Rattle.vx_tree.specs.Formed.{value_kind}
use Rattle.vx_tree.specs.Fitting.{AllFormed, ColumnsFormed}
use Rattle.vx_tree.specs.Faults.{take_overflow, columns_overflow}
use Rattle.vx_tree.specs.Plain.{IsPlain, ArePlain}
use Rattle.vx_tree.specs.CanonicalFaults.{plain_overflow, fields_overflow}

All-cons : {A : Type 0} (P : A → Type 0) (x : A) (xs : List A) → P x → All P xs → All P (x ∷ xs)
All-cons P x xs here rest zero d l = here
All-cons P x xs here rest (suc i) d l = rest i d (omega arith)

-- ---- how many elements rows need

value_overflow : (u m : Bool) (n : ℕ) → None ≡ plain_overflow (value_kind u m) n
value_overflow true m n = refl
value_overflow false m n = refl

mutual
  pub take_overflow-plain : (t : Tree) → AllFormed t → IsPlain t → (n : ℕ) → take_overflow t n ≡ plain_overflow (kind_of t) n
  take_overflow-plain (bools b bits v) h p n = refl
  take_overflow-plain (primitive t bs v) h p n = refl
  take_overflow-plain (constant k r m) h p n = absurd p
  take_overflow-plain (dictionary c v f) h p n = absurd p
  take_overflow-plain (fixed_list e k v m) h p n = ap (λ (x : Option Refusal). if nat_lt (n * k) (2 ^ 64) then x else Some overflow) (take_overflow-plain e h.1 p.0 (n * k))
  take_overflow-plain (list_view e o s v f) h p n = refl
  take_overflow-plain (structure ns ts v m) h p n = columns_overflow-plain ts h.1 p.0 n
  take_overflow-plain (view_array vs bs k v) h p n =
      let P : Kind → Type 0 = λ x. None ≡ plain_overflow x n in
      subst P (sym h.0.1.kind) (value_overflow (is_texts k) (nullable v) n)

  pub columns_overflow-plain : (ts : Trees) → ColumnsFormed ts → ArePlain ts → (n : ℕ) → columns_overflow ts n ≡ fields_overflow (kinds_of ts) n
  columns_overflow-plain no_trees h p n = refl
  columns_overflow-plain (tree t ts) h p n = λ i. or_else (take_overflow-plain t h.0 p.0 n i) (columns_overflow-plain ts h.1 p.1 n i)

pub plain_overflow-or_nullable : (b : Bool) (k : Kind) (n : ℕ) → plain_overflow (or_nullable b k) n ≡ plain_overflow k n
plain_overflow-or_nullable b (booleans m) n = refl
plain_overflow-or_nullable b (integers t m) n = refl
plain_overflow-or_nullable b (texts m) n = refl
plain_overflow-or_nullable b (binaries m) n = refl
plain_overflow-or_nullable b (lists k m) n = refl
plain_overflow-or_nullable b (fixed_lists k size m) n = refl
plain_overflow-or_nullable b (records names ks m) n = refl

or_none : (a b : Option Refusal) → or_else a b ≡ None → (a ≡ None) × (b ≡ None)
or_none None b h = (refl, h)
or_none (Some r) b h = cc

-- where the elements of n lists can be counted, there are fewer than 2^64, and theirs can be counted too
pub lists_countable : (k : Kind) (size n : ℕ) (m : Bool) → plain_overflow (fixed_lists k size m) n ≡ None → (n * size < 2 ^ 64) × (plain_overflow k (n * size) ≡ None)
lists_countable k size n m none = few (ltb (n * size) (2 ^ 64)) refl none
  where
    few : (b : Bool) → ltb (n * size) (2 ^ 64) ≡ b → (if b then plain_overflow k (n * size) else Some overflow) ≡ None → (n * size < 2 ^ 64) × (plain_overflow k (n * size) ≡ None)
    few true p h = (ltb-true (n * size) (2 ^ 64) p, h)
    few false p h = absurd (cc)

-- fewer rows can be counted where more can
mutual
  pub plain_overflow-fewer : (k : Kind) (m n : ℕ) → m ≤ n → plain_overflow k n ≡ None → plain_overflow k m ≡ None
  plain_overflow-fewer (booleans b) m n l h = refl
  plain_overflow-fewer (integers t b) m n l h = refl
  plain_overflow-fewer (texts b) m n l h = refl
  plain_overflow-fewer (binaries b) m n l h = refl
  plain_overflow-fewer (lists k b) m n l h = refl
  plain_overflow-fewer (fixed_lists k size b) m n l h =
      let both = lists_countable k size n b h in
      let fewer : m * size ≤ n * size = mul-le-mul_right size l in
      rw (lt-ltb (m * size) (2 ^ 64) (omega (arith, both.0, fewer))) (plain_overflow-fewer k (m * size) (n * size) fewer both.1)
  plain_overflow-fewer (records names ks b) m n l h = fields_overflow-fewer ks m n l h

  fields_overflow-fewer : (ks : Kinds) (m n : ℕ) → m ≤ n → fields_overflow ks n ≡ None → fields_overflow ks m ≡ None
  fields_overflow-fewer no_kinds m n l h = refl
  fields_overflow-fewer (kind k ks) m n l h =
      let both = or_none (plain_overflow k n) (fields_overflow ks n) h in
      rw (plain_overflow-fewer k m n l both.0) (fields_overflow-fewer ks m n l both.1)

-- and so can those of each column
pub columns_countable : (ts : List Tree) (n : ℕ) → fields_overflow (kinds_of (trees_from ts)) n ≡ None → All (λ t. plain_overflow (kind_of t) n ≡ None) ts
columns_countable [] n h = λ i d l. absurd (omega arith)
columns_countable (t ∷ ts) n h =
    let both = or_none (plain_overflow (kind_of t) n) (fields_overflow (kinds_of (trees_from ts)) n) h in
    All-cons (λ u. plain_overflow (kind_of u) n ≡ None) t ts both.0 (columns_countable ts n both.1)

-- the kinds from a place on are that of the place, then those from the next on
pub fields_overflow-from : (ds : List DType) (n i : ℕ) (d : DType) → i < length ds → d ≡ slice_index_or ds i d
    → fields_overflow (dtype_kinds (drop i ds)) n ≡ or_else (plain_overflow (dtype_meaning d) n) (fields_overflow (dtype_kinds (drop (i + 1) ds)) n)
fields_overflow-from ds n i d inside here = ap (λ (xs : List DType). fields_overflow (dtype_kinds xs) n) (from_place ds i d inside here)

pub record_overflow : (d : DType) (fs : StructFields) (m : Nullability) (n : ℕ) → d ≡ struct_dtype fs m → plain_overflow (dtype_meaning d) n ≡ fields_overflow (field_kinds fs) n
record_overflow d fs m n e = ap (λ k. plain_overflow k n) (struct_kind d fs m e)

pub ruleset plain_kinds = (take_overflow-plain, columns_overflow-plain)
