-- What can be amiss where rows are made plain: they cannot be counted.
use Rattle.std.proofs.Common.{ℕ, ◌<◌, ◌≡◌, Bool, true, false, [], ◌∷◌, map, Option, Some, None, refl, sym, ◌∙◌, ap, subst, arith}
use Rattle.std.specs.List.{All}
use Rattle.std.proofs.lemmas.List.Elements.{All-cons, All-nil}
use Rattle.vx_base.specs.declared.scalar_value.ScalarValue.{ScalarValue}
use Rattle.vx_base.specs.Defaults.{is_even}
use Rattle.vx_base.specs.Refusals.{Refusal, overflow, or_else}
use Rattle.vx_base.specs.Rows.{Row, null}
use Rattle.vx_base.specs.Kinds.{Kind, booleans, integers, texts, binaries, lists, fixed_lists, records, Fits, is_plain_integers}
use Rattle.vx_base.specs.ValueRows.{option_row, row_under}
use Rattle.vx_tree.specs.Tree.{Tree, constant, dictionary}
use Rattle.vx_tree.specs.Meaning.{tree_len, kind_of}
use Rattle.vx_canonical.specs.PlainValues.{FitsIfThere}
use Rattle.vx_tree.specs.CanonicalFaults.{kept_fault, rows_fault}
use Rattle.vx_tree.specs.CanonicalFaults.{plain_overflow, constant_fault, canonical_fault}
use Rattle.vx_canonical.proofs.Kept.{kept_fault-nulls, values_fault}
use Rattle.vx_canonical.proofs.Overflows.{plain_only, or_later}
use Rattle.vx_canonical.proofs.PlainKinds.{plain_overflow-fewer}
use Rattle.vx_canonical.proofs.RowNames.{kept_fault-named}

-- ---- constants

-- of null: so many rows
or_none-right : (a : Option Refusal) → or_else a None ≡ a
or_none-right None = refl
or_none-right (Some r) = refl

pub null_fault : (t : Tree) (k : Kind) (r : Row) (n : ℕ) → t ≡ constant k r n → r ≡ null → plain_overflow k n ≡ canonical_fault t
null_fault t k r n e none =
    sym (ap canonical_fault e ∙ ap (λ q. constant_fault k q n) none ∙ ap (or_else (plain_overflow k n)) (kept_fault-nulls k 1) ∙ or_none-right (plain_overflow k n))

-- of one row that is a value
one_fits : (k : Kind) (v : Option ScalarValue) → Fits k (row_under k v) → All (FitsIfThere k) (v ∷ [])
one_fits k None h = All-cons (FitsIfThere k) None [] tt (All-nil (FitsIfThere k))
one_fits k (Some x) h = All-cons (FitsIfThere k) (Some x) [] h (All-nil (FitsIfThere k))

pub one_row_kept : (k : Kind) (v : Option ScalarValue) (r : Row) → row_under k v ≡ r → is_even k ≡ true → kept_fault k (map option_row (v ∷ [])) ≡ kept_fault k (r ∷ [])
one_row_kept k v r e even = sym (kept_fault-named k (option_row v ∷ []) even) ∙ ap (λ x. kept_fault k (x ∷ [])) e

pub one_row_fault : (k : Kind) (v : Option ScalarValue) (r : Row) → row_under k v ≡ r → Fits k r → is_even k ≡ true → rows_fault k (map option_row (v ∷ [])) ≡ constant_fault k r 1
one_row_fault k v r e fits even = values_fault k (v ∷ []) (one_fits k v (subst (Fits k) (sym e) fits)) ∙ ap (or_else (plain_overflow k 1)) (one_row_kept k v r e even)

-- of rows that can be counted: what the row keeps
pub constant_kept : (k : Kind) (r : Row) (n : ℕ) → plain_overflow k n ≡ None → constant_fault k r n ≡ kept_fault k (r ∷ [])
constant_kept k r n few = ap (λ f. or_else f (kept_fault k (r ∷ []))) few

-- it is the fault of one of them
pub constant_one : (t : Tree) (k : Kind) (r : Row) (n : ℕ) → t ≡ constant k r n → 0 < n → plain_overflow k n ≡ None → constant_fault k r 1 ≡ canonical_fault t
constant_one t k r n e some few = constant_kept k r 1 (plain_overflow-fewer k 1 n (omega arith) few) ∙ sym (ap canonical_fault e ∙ constant_kept k r n few)

-- ---- constants and dictionaries of more rows than can be counted

pub constant_uncounted : (t : Tree) (k : Kind) (r : Row) (n : ℕ) → t ≡ constant k r n → plain_overflow k n ≡ Some overflow → canonical_fault t ≡ Some overflow
constant_uncounted t k r n e many = ap canonical_fault e ∙ ap (λ f. or_else f (kept_fault k (r ∷ []))) many

pub dictionary_uncounted : (t c v : Tree) (f : Bool) → t ≡ dictionary c v f → plain_overflow (kind_of v) (tree_len c) ≡ Some overflow → canonical_fault t ≡ Some overflow
dictionary_uncounted t c v f e many = ap canonical_fault e ∙ or_later (canonical_fault v) (plain_overflow (kind_of v) (tree_len c)) (plain_only v) many

-- ---- where rows can be counted, they have the faults of any others

pub constant_fault-counted : (t s : Tree) (k : Kind) (r : Row) (n m : ℕ) → t ≡ constant k r n → s ≡ constant k r m → plain_overflow k n ≡ None → plain_overflow k m ≡ None → canonical_fault s ≡ canonical_fault t
constant_fault-counted t s k r n m a b few some = ap canonical_fault b ∙ constant_kept k r m some ∙ sym (ap canonical_fault a ∙ constant_kept k r n few)

pub dictionary_fault-counted : (t c d v : Tree) (f : Bool) → t ≡ dictionary c v f → plain_overflow (kind_of v) (tree_len c) ≡ None → plain_overflow (kind_of v) (tree_len d) ≡ None
    → canonical_fault (dictionary d v false) ≡ canonical_fault t
dictionary_fault-counted t c d v f a few some = ap (or_else (canonical_fault v)) (some ∙ sym few) ∙ sym (ap canonical_fault a)

-- plain integers can be counted
pub integers_countable : (k : Kind) (n : ℕ) → is_plain_integers k ≡ true → plain_overflow k n ≡ None
integers_countable (booleans m) n e = refl
integers_countable (integers t m) n e = refl
integers_countable (texts m) n e = refl
integers_countable (binaries m) n e = refl
integers_countable (lists k m) n e = refl
integers_countable (fixed_lists k size m) n e = cc
integers_countable (records names ks m) n e = cc
