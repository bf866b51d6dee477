-- Offsets that rise from the first one on, one after another.
use Rattle.std.proofs.Common.{◌≡◌, ℕ, ℤ, pos, negsuc, ◌+◌, ◌-◌, ◌-ℤ◌, ◌<◌, ◌≤◌, List, length, refl, ap, ◌∙◌, subst, inl, inr, arith, rules, to_z, of_z, unsigned_abs, int_lt, false}
use Rattle.std.specs.Prelude.{FitsSigned, Option, Some, None, IfSome}
use Rattle.std.specs.Int.{w128}
use Rattle.std.proofs.lemmas.Bool.{cases_lt}
use Rattle.std.proofs.lemmas.List.{get_or-map}
use Rattle.std.proofs.lemmas.Int.{ints, to_z-of_z}
use Rattle.vx_base.specs.Integers.{Holds, number_nth}
use Rattle.vx_base.specs.declared.ptypes.PType.{PType}
use Rattle.vx_base.specs.declared.ptypes.PType.TheVariants.{U8, U16, U32, U64, I8, I16, I32, I64}
use Rattle.vx_base.proofs.NumberBytes.{number_passed}
use Rattle.vx_c.specs.Spans.{past_first, starts_of, IsSpan, IsWithin, IsListRow, IsPlace}

-- what lies between the first so many offsets
abbrev pub AreSpansBefore : List ℤ → ℕ → ℕ → Type 0
AreSpansBefore offsets count row = (i : ℕ) → i + 1 < row → IsSpan offsets count i

pub past_first-first : (offsets : List ℤ) → past_first offsets 0 ≡ pos 0
past_first-first offsets = grind (arith, ints)

-- one offset more
pub spans_more : (offsets : List ℤ) (count row start end : ℕ) → 0 < row → past_first offsets (row - 1) ≡ pos start → past_first offsets row ≡ pos end
    → start ≤ end → end ≤ count → AreSpansBefore offsets count row → AreSpansBefore offsets count (row + 1)
spans_more offsets count row start end some starts ends order within before i l =
    elim (cases_lt (i + 1) row) [
      | inl less ↦ before i less
      | inr here ↦
          let same : row - 1 ≡ i = omega arith in
          let next : row ≡ i + 1 = omega arith in
          record {
            start = start;
            end = end;
            starts = subst (λ k. past_first offsets k ≡ pos start) same starts;
            ends = subst (λ k. past_first offsets k ≡ pos end) next ends;
            in_order = order;
            within = within;
          }
    ]

-- ---- numbers as they are computed

fits_difference : (t : PType) (a b : ℤ) → Holds t a → Holds t b → FitsSigned w128 (b -ℤ a)
fits_difference U8 a b first second = search (rules, ints)
fits_difference U16 a b first second = search (rules, ints)
fits_difference U32 a b first second = search (rules, ints)
fits_difference U64 a b first second = search (rules, ints)
fits_difference I8 a b first second = search (rules, ints)
fits_difference I16 a b first second = search (rules, ints)
fits_difference I32 a b first second = search (rules, ints)
fits_difference I64 a b first second = search (rules, ints)

-- the difference of two numbers of a type
pub difference_passed : (t : PType) (a b : ℤ) → Holds t a → Holds t b
    → to_z w128 (of_z w128 (to_z w128 (of_z w128 b) -ℤ to_z w128 (of_z w128 a))) ≡ b -ℤ a
difference_passed t a b first second =
    ap (λ z. to_z w128 (of_z w128 (z -ℤ to_z w128 (of_z w128 a)))) (number_passed t b second)
    ∙ ap (λ z. to_z w128 (of_z w128 (b -ℤ z))) (number_passed t a first)
    ∙ to_z-of_z w128 (b -ℤ a) (fits_difference t a b first second)

pub natural : (z : ℤ) → int_lt z (pos 0) ≡ false → z ≡ pos (unsigned_abs z)
natural (pos n) h = refl
natural (negsuc n) h = absurd (cc)

-- ---- lists

abbrev pub AreListRowsBefore : List ℤ → List ℤ → ℕ → ℕ → Type 0
AreListRowsBefore offsets sizes count row = (i : ℕ) → i < row → IsListRow (number_nth offsets i) (number_nth sizes i) count

list_row_of : (start size : Option ℕ) (o s : ℤ) (count : ℕ) → IfSome start (λ n. o ≡ pos n) → IfSome size (λ n. s ≡ pos n) → IsWithin start size count → IsListRow o s count
list_row_of (Some m) (Some n) o s count starts has within = record { start = m; elements = n; starts = starts; has = has; within = within }
list_row_of (Some m) None o s count starts has within = absurd within
list_row_of None size o s count starts has within = absurd within

-- one list more
pub list_rows_more : (offsets sizes : List ℤ) (count row : ℕ) (start size : Option ℕ) → IfSome start (λ n. number_nth offsets row ≡ pos n)
    → IfSome size (λ n. number_nth sizes row ≡ pos n) → IsWithin start size count → AreListRowsBefore offsets sizes count row
    → AreListRowsBefore offsets sizes count (row + 1)
list_rows_more offsets sizes count row start size starts has within before i l =
    elim (cases_lt i row) [
      | inl less ↦ before i less
      | inr here ↦
          let same : row ≡ i = omega arith in
          subst (λ k. IsListRow (number_nth offsets k) (number_nth sizes k) count) same (list_row_of start size (number_nth offsets row) (number_nth sizes row) count starts has within)
    ]

pub start_at : (offsets : List ℤ) (row : ℕ) → row < length offsets → number_nth (starts_of offsets) row ≡ past_first offsets row
start_at offsets row inside = get_or-map (λ z. z -ℤ number_nth offsets 0) offsets row (pos 0) (pos 0) inside

-- ---- places

abbrev pub ArePlacesBefore : List ℤ → ℕ → ℕ → Type 0
ArePlacesBefore zs count row = (i : ℕ) → i < row → IsPlace (number_nth zs i) count

pub places_more : (zs : List ℤ) (count row place : ℕ) → number_nth zs row ≡ pos place → place < count → ArePlacesBefore zs count row → ArePlacesBefore zs count (row + 1)
places_more zs count row place is within before i l =
    elim (cases_lt i row) [
      | inl less ↦ before i less
      | inr here ↦
          let same : row ≡ i = omega arith in
          subst (λ k. IsPlace (number_nth zs k) count) same (record { place = place; is = is; within = within })
    ]
