-- What a row is: under a kind's names, where it may be null, and by what it fits.
use Rattle.std.proofs.Common.{◌≡◌, ℕ, List, Bool, true, false, refl, sym, ◌∙◌}
use Rattle.std.specs.Prelude.{None, if◌then◌else◌, is_some, Option, Some}
use Rattle.vx_base.specs.declared.ptypes.PType.{PType}
use Rattle.vx_base.specs.Kinds.{Kind, booleans, integers, texts, binaries, lists, fixed_lists, records, Kinds, Fits}
use Rattle.vx_base.specs.Rows.{Row, null, boolean, whole, bytes, text, items, record_of, is_present, list_in, number_in}
use Rattle.vx_base.specs.ValueRows.{named, row_under, value_row}
use Rattle.vx_base.specs.declared.scalar_value.ScalarValue.{ScalarValue}
use Rattle.vx_base.specs.declared.scalar_value.ScalarValue.TheVariants as value
use Rattle.vx_tree.specs.Values.{bytes_in}
use Rattle.vx_pack.specs.Lists.{is_lists}
use Rattle.vx_pack.specs.Packed.{has_bytes}
use Rattle.vx_pack.specs.RowForms.{record_in, truth_in}

-- ---- the names of a kind

pub named_truth : (k : Kind) (r : Row) → truth_in (named k r) ≡ truth_in r
named_truth (booleans n) r = refl
named_truth (integers t n) r = refl
named_truth (texts n) r = refl
named_truth (binaries n) r = refl
named_truth (lists k n) (items rs) = refl
named_truth (lists k n) _ = refl
named_truth (fixed_lists k size n) (items rs) = refl
named_truth (fixed_lists k size n) _ = refl
named_truth (records names ks n) (record_of fs) = refl
named_truth (records names ks n) _ = refl

pub named_number : (k : Kind) (r : Row) → number_in (named k r) ≡ number_in r
named_number (booleans n) r = refl
named_number (integers t n) r = refl
named_number (texts n) r = refl
named_number (binaries n) r = refl
named_number (lists k n) (items rs) = refl
named_number (lists k n) _ = refl
named_number (fixed_lists k size n) (items rs) = refl
named_number (fixed_lists k size n) _ = refl
named_number (records names ks n) (record_of fs) = refl
named_number (records names ks n) _ = refl

pub named_bytes : (k : Kind) (r : Row) → bytes_in (named k r) ≡ bytes_in r
named_bytes (booleans n) r = refl
named_bytes (integers t n) r = refl
named_bytes (texts n) r = refl
named_bytes (binaries n) r = refl
named_bytes (lists k n) (items rs) = refl
named_bytes (lists k n) _ = refl
named_bytes (fixed_lists k size n) (items rs) = refl
named_bytes (fixed_lists k size n) _ = refl
named_bytes (records names ks n) (record_of fs) = refl
named_bytes (records names ks n) _ = refl

pub named_presence : (k : Kind) (r : Row) → is_present (named k r) ≡ is_present r
named_presence (booleans n) r = refl
named_presence (integers t n) r = refl
named_presence (texts n) r = refl
named_presence (binaries n) r = refl
named_presence (lists k n) (items rs) = refl
named_presence (lists k n) _ = refl
named_presence (fixed_lists k size n) (items rs) = refl
named_presence (fixed_lists k size n) _ = refl
named_presence (records names ks n) (record_of fs) = refl
named_presence (records names ks n) _ = refl

pub named_no_list : (k : Kind) (r : Row) → list_in r ≡ None → list_in (named k r) ≡ None
named_no_list (booleans n) r h = h
named_no_list (integers t n) r h = h
named_no_list (texts n) r h = h
named_no_list (binaries n) r h = h
named_no_list (lists k n) (items rs) h = cc
named_no_list (lists k n) _ h = h
named_no_list (fixed_lists k size n) (items rs) h = cc
named_no_list (fixed_lists k size n) _ h = h
named_no_list (records names ks n) (record_of fs) h = refl
named_no_list (records names ks n) _ h = h

pub named_no_record : (k : Kind) (r : Row) → record_in r ≡ None → record_in (named k r) ≡ None
named_no_record (booleans n) r h = h
named_no_record (integers t n) r h = h
named_no_record (texts n) r h = h
named_no_record (binaries n) r h = h
named_no_record (lists k n) (items rs) h = refl
named_no_record (lists k n) _ h = h
named_no_record (fixed_lists k size n) (items rs) h = refl
named_no_record (fixed_lists k size n) _ h = h
named_no_record (records names ks n) (record_of fs) h = cc
named_no_record (records names ks n) _ h = h

-- a value is there
pub value_presence : (k : Kind) (v : Option ScalarValue) → is_some v ≡ is_present (row_under k v)
value_presence k None = sym (named_presence k null)
value_presence k (Some v) = sym (named_presence k (value_row v) ∙ there v)
  where
    there : (v : ScalarValue) → is_present (value_row v) ≡ true
    there (value.Bool b) = refl
    there (value.Int z) = refl
    there (value.Bytes bs) = refl
    there (value.Text bs) = refl
    there (value.List rs) = refl
    there (value.Record rs) = refl

-- ---- rows that may be null

-- what is told of null is told of a row that is null where it is not valid
pub masked : {A : Type 0} (f : Row → A) (b : Bool) (r : Row) → f r ≡ f null → f (if b then r else null) ≡ f null
masked f true r e = e
masked f false r e = refl

-- ---- rows that fit a kind

pub truths_differ : (n : Bool) (r s : Row) → Fits (booleans n) r → Fits (booleans n) s → truth_in r ≡ truth_in s → r ≡ s
truths_differ n null null f g e = refl
truths_differ n null (boolean b) f g e = cc
truths_differ n null _ f g e = absurd g
truths_differ n (boolean a) null f g e = cc
truths_differ n (boolean a) (boolean b) f g e = cc
truths_differ n (boolean a) _ f g e = absurd g
truths_differ n _ s f g e = absurd f

pub numbers_differ : (t : PType) (n : Bool) (r s : Row) → Fits (integers t n) r → Fits (integers t n) s → number_in r ≡ number_in s → r ≡ s
numbers_differ t n null null f g e = refl
numbers_differ t n null (whole z) f g e = cc
numbers_differ t n null _ f g e = absurd g
numbers_differ t n (whole y) null f g e = cc
numbers_differ t n (whole y) (whole z) f g e = cc
numbers_differ t n (whole y) _ f g e = absurd g
numbers_differ t n _ s f g e = absurd f

pub texts_differ : (n : Bool) (r s : Row) → Fits (texts n) r → Fits (texts n) s → bytes_in r ≡ bytes_in s → r ≡ s
texts_differ n null null f g e = refl
texts_differ n null (text z) f g e = cc
texts_differ n null _ f g e = absurd g
texts_differ n (text y) null f g e = cc
texts_differ n (text y) (text z) f g e = cc
texts_differ n (text y) _ f g e = absurd g
texts_differ n _ s f g e = absurd f

pub binaries_differ : (n : Bool) (r s : Row) → Fits (binaries n) r → Fits (binaries n) s → bytes_in r ≡ bytes_in s → r ≡ s
binaries_differ n null null f g e = refl
binaries_differ n null (bytes z) f g e = cc
binaries_differ n null _ f g e = absurd g
binaries_differ n (bytes y) null f g e = cc
binaries_differ n (bytes y) (bytes z) f g e = cc
binaries_differ n (bytes y) _ f g e = absurd g
binaries_differ n _ s f g e = absurd f

-- of both kinds
pub bytes_differ : (k : Kind) (r s : Row) → has_bytes k ≡ true → Fits k r → Fits k s → bytes_in r ≡ bytes_in s → r ≡ s
bytes_differ (texts n) r s values f g e = texts_differ n r s f g e
bytes_differ (binaries n) r s values f g e = binaries_differ n r s f g e
bytes_differ _ r s values f g e = absurd (cc)

-- a row that is no list is null
pub no_list : (k : Kind) (r : Row) → is_lists k ≡ true → Fits k r → list_in r ≡ None → r ≡ null
no_list (lists k n) null l f e = refl
no_list (lists k n) (items rs) l f e = cc
no_list (lists k n) _ l f e = absurd f
no_list (fixed_lists k size n) null l f e = refl
no_list (fixed_lists k size n) (items rs) l f e = cc
no_list (fixed_lists k size n) _ l f e = absurd f
no_list _ r l f e = cc

-- a row that is no record is null
pub no_record : (names : List (List ℕ)) (ks : Kinds) (n : Bool) (r : Row) → Fits (records names ks n) r → record_in r ≡ None → r ≡ null
no_record names ks n null f e = refl
no_record names ks n (record_of fs) f e = cc
no_record names ks n _ f e = absurd f
