-- What it means that no fault stands in the parts of a list view, and which fault is the first.
use Rattle.std.proofs.Common.{◌≡◌, ℕ, ◌+◌, ◌^◌, ◌<◌, ◌≤◌, Bool, true, false, cond, eqb, leb, ltb, below_more, Option, Some, None, refl, sym, ◌∙◌, ap, subst, Result, Ok, Err, inl, to_z, of_z, arith}
use Rattle.std.specs.Prelude.{ℤ, pos, negsuc, IsSome, IfSome, unwrap_or, OnOk}
use Rattle.std.specs.Int.{w128}
use Rattle.std.proofs.lemmas.Bool.{eqb-true, leb-true, false≢true}
use Rattle.vx_base.proofs.FirstFaults.{or_else-none, first_fault-none_at, first_fault-found, first_fault-next}
use Rattle.vx_base.specs.declared.errors.VortexError.{VortexError}
use Rattle.vx_base.specs.declared.ptypes.PType.{PType}
use Rattle.vx_base.specs.Integers.{Holds}
use Rattle.vx_base.specs.Refusals.{Refusal, refusal_of, Names, Tests, Gives, Refuses, or_else, first_fault}
use Rattle.vx_base.specs.Rows.{Row, null, boolean, whole, bytes, text, items, record_of, number_in, count_in}
use Rattle.vx_base.specs.Kinds.{is_plain_integers}
use Rattle.vx_tree.specs.Tree.{Tree, list_view, Valid}
use Rattle.vx_tree.specs.Meaning.{tree_len, kind_of, row_at}
use Rattle.vx_tree.specs.Formed.{IsCounts, ValidFits, WellFormed}
use Rattle.vx_tree.specs.Faults.{valid_type_fault, valid_len_fault}
use Rattle.vx_base.proofs.NumberBytes.{number_passed}
use Rattle.vx_tree.proofs.RowLists.{faultless_fits}
use Rattle.vx_lists.specs.ListViews.Faults.{list_row_fault, count_type_fault, whole_at, sizes_len_fault, list_parts_fault, list_rows_fault}

-- ---- rows without a fault

second_test : (a b : Bool) (first second : Refusal) → cond a (cond b None (Some first)) (Some second) ≡ None → b ≡ true
second_test true true first second none = refl
second_test true false first second none = cc
second_test false b first second none = cc

pub list_row-not_negative : (count row : ℕ) (offset size : ℤ) → list_row_fault count row offset size ≡ None → (m : ℕ) × (n : ℕ) × (offset ≡ pos m) × (size ≡ pos n) × (m + n ≤ count)
list_row-not_negative count row (pos m) (pos n) none = (m, n, refl, refl, leb-true (m + n) count (second_test (ltb (m + n) (2 ^ 64)) (leb (m + n) count) _ _ none))
list_row-not_negative count row (pos m) (negsuc n) none = cc
list_row-not_negative count row (negsuc m) (pos n) none = cc
list_row-not_negative count row (negsuc m) (negsuc n) none = cc

pub count_row : (r : Row) (z : ℤ) (n : ℕ) → number_in r ≡ Some z → z ≡ pos n → r ≡ whole (pos (count_in r))
count_row null z n number same = cc
count_row (boolean b) z n number same = cc
count_row (whole (pos k)) z n number same = refl
count_row (whole (negsuc k)) z n number same = cc
count_row (bytes bs) z n number same = cc
count_row (text bs) z n number same = cc
count_row (items rs) z n number same = cc
count_row (record_of fs) z n number same = cc

abbrev pub AreCountsBelow : Tree → ℕ → Type 0
AreCountsBelow t n = (k : ℕ) → k < n → row_at t k ≡ whole (pos (count_in (row_at t k)))

-- the first n rows have no fault, and their numbers are counts
pub record AreChecked (count : ℕ) (o s : Tree) (n : ℕ) : Type 0 where
  pub none : first_fault (λ i. list_row_fault count i (whole_at o i) (whole_at s i)) n ≡ None
  pub offsets : AreCountsBelow o n
  pub sizes : AreCountsBelow s n

AreCountsBelow-more : (t : Tree) (n : ℕ) → AreCountsBelow t n → row_at t n ≡ whole (pos (count_in (row_at t n))) → AreCountsBelow t (n + 1)
AreCountsBelow-more t n below here = below_more (λ k. row_at t k ≡ whole (pos (count_in (row_at t k)))) n below here

module _ (count : ℕ) (o s : Tree) (n : ℕ) (offset size : ℤ) (checked : AreChecked count o s n) (offset_is : number_in (row_at o n) ≡ Some offset) (size_is : number_in (row_at s n) ≡ Some size) where
  fault_is : list_row_fault count n (whole_at o n) (whole_at s n) ≡ list_row_fault count n offset size
  fault_is = ap (λ z. list_row_fault count n (unwrap_or z (pos 0)) (whole_at s n)) offset_is ∙ ap (λ z. list_row_fault count n offset (unwrap_or z (pos 0))) size_is

  pub AreChecked-more : list_row_fault count n offset size ≡ None → AreChecked count o s (n + 1)
  AreChecked-more none =
      let counts = list_row-not_negative count n offset size none in
      record {
        none = first_fault-next (λ i. list_row_fault count i (whole_at o i) (whole_at s i)) n checked.none (fault_is ∙ none);
        offsets = AreCountsBelow-more o n checked.offsets (count_row (row_at o n) offset counts.0 offset_is counts.2);
        sizes = AreCountsBelow-more s n checked.sizes (count_row (row_at s n) size counts.1 size_is counts.3);
      }

  pub AreChecked-fault : (e : VortexError) → n < tree_len o → Names (list_row_fault count n offset size) e → Names (list_rows_fault count o s) e
  AreChecked-fault e inside names =
      let here : list_row_fault count n (whole_at o n) (whole_at s n) ≡ refusal_of e = fault_is ∙ names.1 in
      let stands : IsSome (list_row_fault count n (whole_at o n) (whole_at s n)) = subst (λ f. IsSome f) (sym here) names.0 in
      (names.0, first_fault-found (λ i. list_row_fault count i (whole_at o i) (whole_at s i)) (tree_len o) n checked.none stands inside ∙ here)

-- ---- parts without a fault

pub passed : (b : Bool) (r : Refusal) → cond b None (Some r) ≡ None → b ≡ true
passed true r none = refl
passed false r none = cc

pub record ArePartsChecked (o s : Tree) (v : Valid) : Type 0 where
  pub offsets : is_plain_integers (kind_of o) ≡ true
  pub sizes : is_plain_integers (kind_of s) ≡ true
  pub same_len : tree_len s ≡ tree_len o
  pub validity : ValidFits v (tree_len o)

pub parts_checked : (o s : Tree) (v : Valid) → list_parts_fault o s v ≡ None → ArePartsChecked o s v
parts_checked o s v none =
    let offsets = or_else-none (count_type_fault o) (or_else (count_type_fault s) (or_else (valid_type_fault v) (or_else (sizes_len_fault o s) (valid_len_fault v (tree_len o))))) none in
    let sizes = or_else-none (count_type_fault s) (or_else (valid_type_fault v) (or_else (sizes_len_fault o s) (valid_len_fault v (tree_len o)))) offsets.1 in
    let validity = or_else-none (valid_type_fault v) (or_else (sizes_len_fault o s) (valid_len_fault v (tree_len o))) sizes.1 in
    let lens = or_else-none (sizes_len_fault o s) (valid_len_fault v (tree_len o)) validity.1 in
    record {
      offsets = passed (is_plain_integers (kind_of o)) _ offsets.0;
      sizes = passed (is_plain_integers (kind_of s)) _ sizes.0;
      same_len = eqb-true (tree_len s) (tree_len o) (passed (eqb (tree_len s) (tree_len o)) _ lens.0);
      validity = faultless_fits v (tree_len o) (ap (λ f. or_else f (valid_len_fault v (tree_len o))) validity.0 ∙ lens.1);
    }

whole_at-count : (t : Tree) (i : ℕ) → row_at t i ≡ whole (pos (count_in (row_at t i))) → whole_at t i ≡ pos (count_in (row_at t i))
whole_at-count t i is_count = ap (λ r. unwrap_or (number_in r) (pos 0)) is_count

pos_inj : (m n : ℕ) → pos m ≡ pos n → m ≡ n
pos_inj m n same = cc

pub list_view_formed : (e o s : Tree) (v : Valid) → ArePartsChecked o s v → IsCounts o → IsCounts s → list_rows_fault (tree_len e) o s ≡ None → WellFormed (list_view e o s v false)
list_view_formed e o s v parts offsets sizes none = (
  parts.validity,
  record {
    offsets = offsets;
    sizes = sizes;
    same_len = parts.same_len;
    within = λ i inside.
        let row_none = first_fault-none_at (λ k. list_row_fault (tree_len e) k (whole_at o k) (whole_at s k)) (tree_len o) i none inside in
        let found = list_row-not_negative (tree_len e) i (whole_at o i) (whole_at s i) row_none in
        let offset : found.0 ≡ count_in (row_at o i) = pos_inj _ _ (sym found.2 ∙ whole_at-count o i (offsets.counts i inside)) in
        let size : found.1 ≡ count_in (row_at s i) = pos_inj _ _ (sym found.3 ∙ whole_at-count s i (sizes.counts i (omega (arith, parts.same_len)))) in
        omega (arith, offset, size, found.4);
    follows = λ set. absurd (false≢true set);
  },
)

-- ---- passing numbers and facts on

-- a number that a reader found is passed to a function as it is
pub found_passed : (t : PType) (read : Option ℤ) (z : ℤ) → read ≡ Some z → IfSome read (Holds t) → to_z w128 (of_z w128 z) ≡ z
found_passed t read z found held = number_passed t z (subst (λ r. IfSome r (Holds t)) found held)

-- where a call that tests answers Ok, no fault stands
pub OnOk-tests : {T : Type 0} (r : Result T VortexError) (fault : Option Refusal) → Tests r fault → OnOk r (fault ≡ None)
OnOk-tests (Ok x) fault tests = tests
OnOk-tests (Err e) fault tests = tt

-- a call that gives a value refuses nothing else, where no fault stands
pub Refuses-given : {T : Type 0} (r : Result T VortexError) (P : T → Type 0) (fault : Option Refusal) → fault ≡ None → Gives r P → Refuses r fault
Refuses-given (Ok x) P fault none given = none
Refuses-given (Err e) P fault none given = inl given

pub OnOk-three : {T E A B C D : Type 0} (r : Result T E) → OnOk r A → OnOk r B → OnOk r C → (A → B → C → D) → OnOk r D
OnOk-three (Ok x) a b c together = together a b c
OnOk-three (Err e) a b c together = tt
