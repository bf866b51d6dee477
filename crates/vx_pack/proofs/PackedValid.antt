-- The validity of packed rows tells which of them are there.
use Rattle.std.proofs.Common.{◌≡◌, ◌∙◌, ◌<◌, ℕ, Bool, true, false, List, length, map, get_or, sym, ap, arith, refl, cond, eqb}
use Rattle.std.specs.Prelude.{count_by}
use Rattle.std.specs.List.{All}
use Rattle.std.proofs.lemmas.List.{get_or-map, length-map, same_lists}
use Rattle.vx_base.specs.Kinds.{Kind, is_nullable_kind, Fits}
use Rattle.vx_base.specs.Rows.{Row, null, boolean, whole, bytes, text, items, record_of, is_present}
use Rattle.vx_tree.specs.Formed.{ValidFits}
use Rattle.vx_tree.specs.Meaning.{is_valid_at, nullable, valid_mask}
use Rattle.vx_tree.specs.Tree.{Valid, bools, non_nullable, all_valid, all_invalid, by_array}
use Rattle.vx_tree.specs.Validities.{valid_from}
use Rattle.vx_tree.proofs.RowLists.{get_or-valid_mask, length-valid_mask}
use Rattle.vx_tree.proofs.Validities.{valid_from-mask}
use Rattle.vx_pack.specs.Packed.{packed_valid}

-- ---- the validity of booleans

valid_from-has : (P : Valid → Type 0) (bits : List Bool) → P all_valid → P all_invalid → P (by_array (bools 0 bits non_nullable))
    → P (valid_from 0 bits all_valid)
valid_from-has P bits full none told = by_count (eqb (count_by (λ b. b) bits) (length bits)) (eqb (count_by (λ b. b) bits) 0)
  where
    by_count : (a b : Bool) → P (cond a all_valid (cond b all_invalid (by_array (bools 0 bits non_nullable))))
    by_count true b = full
    by_count false true = none
    by_count false false = told

pub nullable-valid_from : (bits : List Bool) → nullable (valid_from 0 bits all_valid) ≡ true
nullable-valid_from bits = valid_from-has (λ v. nullable v ≡ true) bits refl refl refl

pub ValidFits-valid_from : (bits : List Bool) → ValidFits (valid_from 0 bits all_valid) (length bits)
ValidFits-valid_from bits = valid_from-has (λ v. ValidFits v (length bits)) bits tt tt (record { len = refl; kind = refl })

pub is_valid_at-valid_from : (bits : List Bool) (i : ℕ) (d : Bool) → i < length bits
    → is_valid_at (valid_from 0 bits all_valid) i ≡ get_or bits i d
is_valid_at-valid_from bits i d l =
    sym (get_or-valid_mask (valid_from 0 bits all_valid) (length bits) i d l)
    ∙ ap (λ (bs : List Bool). get_or bs i d) (valid_from-mask 0 bits true)

-- ---- of rows

-- null may stand where the kind says so
pub nullable-packed_valid : (n : Bool) (rs : List Row) → nullable (packed_valid n rs) ≡ n
nullable-packed_valid false rs = refl
nullable-packed_valid true rs = nullable-valid_from (map is_present rs)

pub ValidFits-packed_valid : (n : Bool) (rs : List Row) → ValidFits (packed_valid n rs) (length rs)
ValidFits-packed_valid false rs = tt
ValidFits-packed_valid true rs = rw (← length-map rs is_present) (ValidFits-valid_from (map is_present rs))

-- a row of a kind under which null may not stand is there
pub fits_present : (k : Kind) (r : Row) → is_nullable_kind k ≡ false → Fits k r → is_present r ≡ true
fits_present k null plain fits = let may : is_nullable_kind k ≡ true = fits in cc
fits_present k (boolean b) plain fits = refl
fits_present k (whole z) plain fits = refl
fits_present k (bytes bs) plain fits = refl
fits_present k (text bs) plain fits = refl
fits_present k (items rs) plain fits = refl
fits_present k (record_of fs) plain fits = refl

-- a row that fits is valid where it is there
pub is_valid_at-packed_valid : (k : Kind) (n : Bool) (rs : List Row) (i : ℕ) (d : Row) → is_nullable_kind k ≡ n → i < length rs
    → Fits k (get_or rs i d)
    → is_valid_at (packed_valid n rs) i ≡ is_present (get_or rs i d)
is_valid_at-packed_valid k false rs i d plain l fits = sym (fits_present k (get_or rs i d) plain fits)
is_valid_at-packed_valid k true rs i d may l fits =
    is_valid_at-valid_from (map is_present rs) i true (rw length-map l) ∙ get_or-map is_present rs i d true l

pub valid_mask-packed_valid : (k : Kind) (n : Bool) (rs : List Row) → is_nullable_kind k ≡ n → All (Fits k) rs
    → valid_mask (packed_valid n rs) (length rs) ≡ map is_present rs
valid_mask-packed_valid k n rs same fits =
    let long : length (valid_mask (packed_valid n rs) (length rs)) ≡ length rs = length-valid_mask (packed_valid n rs) (length rs) in
    same_lists (valid_mask (packed_valid n rs) (length rs)) (map is_present rs) (long ∙ sym (length-map rs is_present)) (λ i d l.
    let inside : i < length rs = omega (arith, long) in
    get_or-valid_mask (packed_valid n rs) (length rs) i d inside ∙ is_valid_at-packed_valid k n rs i null same inside (fits i null inside)
    ∙ sym (get_or-map is_present rs i null d inside))
