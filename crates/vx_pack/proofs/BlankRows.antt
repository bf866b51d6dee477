-- Rows that fit a kind, and those that stand in their place under null.
use Rattle.std.proofs.Common.{◌≡◌, ◌∙◌, ◌⊎◌, ◌+◌, ℕ, suc, Bool, true, false, List, [], ◌∷◌, length, replicate, refl, sym, ap, subst, inl}
use Rattle.std.proofs.Common.{inr, arith, add-zero}
use Rattle.std.specs.List.{All}
use Rattle.std.proofs.lemmas.List.{length-replicate}
use Rattle.std.proofs.lemmas.List.Elements.{All-cons, All-nil, All-replicate}
use Rattle.vx_base.specs.Defaults.{default_row, default_fields}
use Rattle.vx_base.specs.Kinds.{Kind, lists, fixed_lists, records, Kinds, no_kinds, kind, Fits, AllFit, FieldsFit, row_count}
use Rattle.vx_base.specs.Rows.{Row, null, items, record_of, Rows, no_rows, row, Fields, no_fields, field, list_from, rows_from}
use Rattle.vx_tree.specs.RowParts.{field_at}
use Rattle.vx_pack.specs.Packed.{field_or_default, items_or_blank}

-- a row fits a kind, is its default, or is null: the parts of such a row are such rows again
abbrev pub FitsOrBlank : Kind → Row → Type 0
FitsOrBlank k r = Fits k r ⊎ ((r ≡ default_row k) ⊎ (r ≡ null))

default_blank : (k : Kind) → FitsOrBlank k (default_row k)
default_blank k = inr (inl refl)

defaults_blank : (k : Kind) (n : ℕ) → All (FitsOrBlank k) (replicate n (default_row k))
defaults_blank k n = All-replicate (FitsOrBlank k) n (default_row k) (default_blank k)

-- ---- the rows of a list

pub list_from-rows_from : (rs : List Row) → list_from (rows_from rs) ≡ rs
list_from-rows_from [] = refl
list_from-rows_from (r ∷ rs) = ap (λ xs. r ∷ xs) (list_from-rows_from rs)

pub length-list_from : (rs : Rows) → length (list_from rs) ≡ row_count rs
length-list_from no_rows = refl
length-list_from (row r rs) = omega (arith, length-list_from rs)

pub AllFit-list_from : (k : Kind) (rs : Rows) → AllFit k rs → All (Fits k) (list_from rs)
AllFit-list_from k no_rows fit = All-nil (Fits k)
AllFit-list_from k (row r rs) fit = All-cons (Fits k) r (list_from rs) fit.0 (AllFit-list_from k rs fit.1)

fit_blank : (k : Kind) (rs : Rows) → AllFit k rs → All (FitsOrBlank k) (list_from rs)
fit_blank k rs fit i d l = inl (AllFit-list_from k rs fit i d l)

pub lists_items_blank : (k : Kind) (n : Bool) (r : Row) → FitsOrBlank (lists k n) r → All (FitsOrBlank k) (items_or_blank k 0 r)
lists_items_blank k n (items rs) (inl fits) = fit_blank k rs fits
lists_items_blank k true (items rs) (inr (inl e)) = absurd (cc)
lists_items_blank k false (items rs) (inr (inl e)) =
    let none : rs ≡ no_rows = cc in
    subst (λ x. All (FitsOrBlank k) (list_from x)) (sym none) (All-nil (FitsOrBlank k))
lists_items_blank k n (items rs) (inr (inr e)) = absurd (cc)
lists_items_blank k n _ h = All-nil (FitsOrBlank k)

-- so many rows of a list of a size
pub record AreItems (k : Kind) (size : ℕ) (r : Row) : Type 0 where
  pub len : length (items_or_blank k size r) ≡ size
  pub blank : All (FitsOrBlank k) (items_or_blank k size r)

are_defaults : (k : Kind) (size : ℕ) (rs : List Row) → rs ≡ replicate size (default_row k) → (length rs ≡ size) × All (FitsOrBlank k) rs
are_defaults k size rs e =
    (ap length e ∙ length-replicate size (default_row k), subst (All (FitsOrBlank k)) (sym e) (defaults_blank k size))

pub fixed_lists_items_blank : (k : Kind) (size : ℕ) (n : Bool) (r : Row) → FitsOrBlank (fixed_lists k size n) r → AreItems k size r
fixed_lists_items_blank k size n (items rs) (inl fits) =
    record { len = length-list_from rs ∙ fits.0; blank = fit_blank k rs fits.1 }
fixed_lists_items_blank k size true (items rs) (inr (inl e)) = absurd (cc)
fixed_lists_items_blank k size false (items rs) (inr (inl e)) =
    let same : rs ≡ rows_from (replicate size (default_row k)) = cc in
    let all = are_defaults k size (list_from rs) (ap list_from same ∙ list_from-rows_from (replicate size (default_row k))) in
    record { len = all.0; blank = all.1 }
fixed_lists_items_blank k size n (items rs) (inr (inr e)) = absurd (cc)
fixed_lists_items_blank k size n _ h =
    record { len = length-replicate size (default_row k); blank = defaults_blank k size }

-- ---- the fields of a record

-- from a place on
abbrev pub FieldsFitOrBlank : ℕ → Kinds → Row → Type 0
FieldsFitOrBlank c no_kinds r = Unit {0}
FieldsFitOrBlank c (kind k ks) r = FitsOrBlank k (field_or_default k c r) × FieldsFitOrBlank (suc c) ks r

-- fields stand in others from a place on
abbrev pub StandFrom : ℕ → Fields → Fields → Type 0
StandFrom c fs gs = (j : ℕ) → field_at (c + j) gs ≡ field_at j fs

pub StandFrom-next : (c : ℕ) (n : List ℕ) (r : Row) (fs gs : Fields) → StandFrom c (field n r fs) gs → StandFrom (suc c) fs gs
StandFrom-next c n r fs gs h j = ap (λ k. field_at k gs) (omega arith) ∙ h (suc j)

pub StandFrom-here : (c : ℕ) (fs gs : Fields) → StandFrom c fs gs → field_at c gs ≡ field_at 0 fs
StandFrom-here c fs gs h = ap (λ k. field_at k gs) (sym (add-zero c)) ∙ h 0

fields_fit : (c : ℕ) (ns : List (List ℕ)) (ks : Kinds) (fs gs : Fields) → FieldsFit ns ks fs → StandFrom c fs gs
    → FieldsFitOrBlank c ks (record_of gs)
fields_fit c [] no_kinds no_fields gs fit stand = tt
fields_fit c (n ∷ ns) (kind k ks) (field m r fs) gs fit stand = (
  inl (subst (Fits k) (sym (StandFrom-here c (field m r fs) gs stand)) fit.1),
  fields_fit (suc c) ns ks fs gs fit.2 (StandFrom-next c m r fs gs stand),
)
fields_fit c [] no_kinds (field m r fs) gs fit stand = absurd fit
fields_fit c [] (kind k ks) fs gs fit stand = absurd fit
fields_fit c (n ∷ ns) no_kinds fs gs fit stand = absurd fit
fields_fit c (n ∷ ns) (kind k ks) no_fields gs fit stand = absurd fit

-- past the last field there are nulls
fields_null : (c : ℕ) (ks : Kinds) (gs : Fields) → StandFrom c no_fields gs → FieldsFitOrBlank c ks (record_of gs)
fields_null c no_kinds gs stand = tt
fields_null c (kind k ks) gs stand = (
  inr (inr (StandFrom-here c no_fields gs stand)),
  fields_null (suc c) ks gs (λ j. ap (λ k. field_at k gs) (omega arith) ∙ stand (suc j)),
)

fields_default : (c : ℕ) (ns : List (List ℕ)) (ks : Kinds) (gs : Fields) → StandFrom c (default_fields ns ks) gs
    → FieldsFitOrBlank c ks (record_of gs)
fields_default c ns no_kinds gs stand = tt
fields_default c [] (kind k ks) gs stand = fields_null c (kind k ks) gs stand
fields_default c (n ∷ ns) (kind k ks) gs stand = (
  inr (inl (StandFrom-here c (field n (default_row k) (default_fields ns ks)) gs stand)),
  fields_default (suc c) ns ks gs (StandFrom-next c n (default_row k) (default_fields ns ks) gs stand),
)

-- of a row that is no record each field is the default
no_record_blank : (c : ℕ) (ks : Kinds) (r : Row) → ((k : Kind) (c : ℕ) → field_or_default k c r ≡ default_row k) → FieldsFitOrBlank c ks r
no_record_blank c no_kinds r h = tt
no_record_blank c (kind k ks) r h = (inr (inl (h k c)), no_record_blank (suc c) ks r h)

pub records_fields_blank : (ns : List (List ℕ)) (ks : Kinds) (n : Bool) (r : Row) → FitsOrBlank (records ns ks n) r
    → FieldsFitOrBlank 0 ks r
records_fields_blank ns ks n (record_of gs) (inl fits) = fields_fit 0 ns ks gs gs fits (λ j. ap (λ k. field_at k gs) (omega arith))
records_fields_blank ns ks true (record_of gs) (inr (inl e)) = absurd (cc)
records_fields_blank ns ks false (record_of gs) (inr (inl e)) =
    let same : gs ≡ default_fields ns ks = cc in
    fields_default 0 ns ks gs (λ j. ap (λ k. field_at k gs) (omega arith) ∙ ap (field_at j) same)
records_fields_blank ns ks n (record_of gs) (inr (inr e)) = absurd (cc)
records_fields_blank ns ks n r h = no_record_blank 0 ks r (λ k c. refl)
