-- Rows as values: the names that a kind gives, and values in order.
use Rattle.std.proofs.Common.{ℕ, zero, suc, ◌+◌, ◌≡◌, ◌++◌, ◌∷◌, [], List, Bool, map, refl, sym, ◌∙◌, ap, subst, arith, add-one}
use Rattle.std.specs.Prelude.{Option, Some, true, if◌then◌else◌}
use Rattle.vx_base.specs.Rows.{Row, null, items, record_of, Rows, no_rows, row, rows_from, count_in}
use Rattle.vx_base.specs.Kinds.{Kind, booleans, integers, texts, binaries, lists, fixed_lists, records, or_nullable}
use Rattle.vx_base.specs.declared.scalar_value.ScalarValue.{ScalarValue}
use Rattle.vx_base.specs.declared.scalar_value.ScalarValue.TheVariants as value
use Rattle.vx_base.specs.ValueRows.{named, all_named, row_under, option_row}
use Rattle.vx_tree.specs.Tree.{Tree, list_view, Valid}
use Rattle.vx_tree.specs.Meaning.{kind_of, nullable, row_at, is_valid_at, rows_range}

-- the names are the same where null may stand too
pub named_nullable : (c : Bool) (k : Kind) (r : Row) → named (or_nullable c k) r ≡ named k r
named_nullable c (booleans n) r = refl
named_nullable c (integers t n) r = refl
named_nullable c (texts n) r = refl
named_nullable c (binaries n) r = refl
named_nullable c (lists k n) (items rs) = refl
named_nullable c (lists k n) _ = refl
named_nullable c (fixed_lists k size n) (items rs) = refl
named_nullable c (fixed_lists k size n) _ = refl
named_nullable c (records names ks n) (record_of fs) = refl
named_nullable c (records names ks n) _ = refl

-- one more value at the end
grown : (k : Kind) (f : ℕ → Row) (start i : ℕ) (vs : List (Option ScalarValue)) (v : Option ScalarValue)
    → all_named k (rows_from (map option_row vs)) ≡ rows_range f start i → row_under k v ≡ f (start + i)
    → all_named k (rows_from (map option_row (vs ++ v ∷ []))) ≡ rows_range f start (suc i)
grown k f start zero [] v same here =
    let place : start + 0 ≡ start = omega arith in
    let first : named k (option_row v) ≡ f start = here ∙ ap f place in
    λ j. row (first j) no_rows
grown k f start (suc i) [] v same here = cc
grown k f start zero (w ∷ vs) v same here = cc
grown k f start (suc i) (w ∷ vs) v same here =
    let head : named k (option_row w) ≡ f start = cc in
    let tail : all_named k (rows_from (map option_row vs)) ≡ rows_range f (suc start) i = cc in
    let place : start + suc i ≡ suc start + i = omega arith in
    λ j. row (head j) (grown k f (suc start) i vs v tail (here ∙ ap f place) j)

pub values_push : (k : Kind) (f : ℕ → Row) (start i : ℕ) (vs : List (Option ScalarValue)) (v : Option ScalarValue)
    → all_named k (rows_from (map option_row vs)) ≡ rows_range f start i → row_under k v ≡ f (start + i)
    → all_named k (rows_from (map option_row (vs ++ v ∷ []))) ≡ rows_range f start (i + 1)
values_push k f start i vs v same here = rw add-one (grown k f start i vs v same here)

-- the list that a valid row is
pub list_under : (t e o s : Tree) (v : Valid) (f : Bool) (i : ℕ) (vs : List (Option ScalarValue)) (rs : Rows) → t ≡ list_view e o s v f → is_valid_at v i ≡ true
    → all_named (kind_of e) (rows_from (map option_row vs)) ≡ rows_range (row_at e) (count_in (row_at o i)) (count_in (row_at s i)) → rs ≡ rows_from (map option_row vs)
    → row_under (kind_of t) (Some (value.List rs)) ≡ row_at t i
list_under t e o s v f i vs rs q valid h same =
    let P : Tree → Type 0 = λ x. row_under (kind_of x) (Some (value.List rs)) ≡ row_at x i in
    let Q : Rows → Type 0 = λ x. row_under (lists (kind_of e) (nullable v)) (Some (value.List x)) ≡ row_at (list_view e o s v f) i in
    let here = ap items h ∙ sym (ap (λ b. if b then items (rows_range (row_at e) (count_in (row_at o i)) (count_in (row_at s i))) else null) valid) in
    subst P (sym q) (subst Q (sym same) here)
