-- Offsets that never fall, and their differences.
use Rattle.std.proofs.Common.{◌≡◌, ◌≢◌, ℕ, zero, suc, ℤ, pos, negsuc, ◌+◌, ◌-◌, ◌<◌, ◌≤◌, ◌-ℤ◌, ◌≤ℤ◌, true, false, List, length, take, get_or, sum, if◌then◌else◌, int_lt, nat_le, ◌==◌, Option, Some, None, IfNone, IsTrue, unsigned_abs, refl, sym, ◌∙◌, ap, subst, add-one, arith}
use Rattle.std.specs.Int.{is_negative}
use Rattle.std.proofs.lemmas.Bool.{le-leb, lt-leb, leb-true, eq-eqb}
use Rattle.std.proofs.lemmas.Bool.Decides.{nat_tests}
use Rattle.std.proofs.lemmas.Int.{ints}
use Rattle.std.proofs.lemmas.List.{take_all}
use Rattle.vx_base.specs.declared.errors.VortexError.{VortexError}
use Rattle.vx_base.specs.Refusals.{or_else, Names, negative, lengths_not_exact, falling_offsets, empty_input, out_of_bounds}
use Rattle.vx_views.specs.BuildFaults.{lengths_of, differences, first_offset, last_offset, negative_at, falling_at, sum_fault, past_heap_fault, no_offset_fault, first_negative, first_falling, first_too_long, lengths_fault, offsets_fault, IsUsedRange, AreRising}
use Rattle.vx_base.specs.Integers.{number_nth}
use Rattle.vx_views.proofs.Differences.{length_differences, number_at_differences}
use Rattle.vx_views.proofs.CutOpen.{sum_more}
use Rattle.vx_base.proofs.FirstFaults.{or_else-none, or_else-second, Names-or_else_first, Names-or_else_second, first_fault-none_at, first_fault-of_none}
use Rattle.vx_views.proofs.FirstFaults.{if-none, if-some}
use Rattle.vx_views.proofs.NoFaults.{length_at, length-lengths_of}

-- ---- numbers

not_negative : (z : ℤ) → is_negative z ≡ false → pos (unsigned_abs z) ≡ z
not_negative (pos n) e = refl
not_negative (negsuc n) e = cc

natural_is : (z : ℤ) (n : ℕ) → z ≡ pos n → is_negative z ≡ false
natural_is z n e = ap is_negative e ∙ lt-leb (suc n) 0 (omega arith)

difference_negative : (a b : ℤ) → is_negative (b -ℤ a) ≡ int_lt b a
difference_negative a b = grind (arith, ints)

difference_abs : (a b : ℤ) (m n : ℕ) → a ≡ pos m → b ≡ pos n → int_lt b a ≡ false → unsigned_abs (b -ℤ a) + m ≡ n
difference_abs a b m n e f h = grind (arith, ints)

-- ---- rows without a fault

pub negative_at-none : (numbers : List ℤ) (k : ℕ) → is_negative (number_nth numbers k) ≡ false → negative_at numbers k ≡ None
negative_at-none numbers k e = ap (λ b. if b then Some (negative k) else None) e

pub falling_at-none : (offsets : List ℤ) (k : ℕ) → int_lt (number_nth offsets k) (number_nth offsets (k - 1)) ≡ false → falling_at offsets k ≡ None
falling_at-none offsets k e = ap (λ b. if b then Some (falling_offsets k) else None) e

int_lt-same : (z : ℤ) → int_lt z z ≡ false
int_lt-same (pos n) = lt-leb (suc n) n (omega arith)
int_lt-same (negsuc n) = lt-leb (suc n) n (omega arith)

pub falling_at-first : (offsets : List ℤ) → falling_at offsets 0 ≡ None
falling_at-first offsets = falling_at-none offsets 0 (int_lt-same (number_nth offsets 0))

-- ---- offsets in order

-- no offset is negative, and none is less than the one before it
pub record AreOrdered (offsets : List ℤ) : Type 0 where
  pub natural : (k : ℕ) → k < length offsets → is_negative (number_nth offsets k) ≡ false
  pub rising : (k : ℕ) → k + 1 < length offsets → int_lt (number_nth offsets (k + 1)) (number_nth offsets k) ≡ false

difference_at : (offsets : List ℤ) → AreOrdered offsets → (k : ℕ) → k + 1 < length offsets → get_or (lengths_of (differences offsets)) k 0 + unsigned_abs (number_nth offsets k) ≡ unsigned_abs (number_nth offsets (k + 1))
difference_at offsets ordered k h =
    let k_in : k < length (differences offsets) = omega (arith, length_differences offsets) in
    let len : get_or (lengths_of (differences offsets)) k 0 ≡ unsigned_abs (number_nth offsets (k + 1) -ℤ number_nth offsets k) = length_at (differences offsets) k k_in ∙ ap unsigned_abs (number_at_differences offsets k h) in
    let low = sym (not_negative (number_nth offsets k) (ordered.natural k (omega arith))) in
    let high = sym (not_negative (number_nth offsets (k + 1)) (ordered.natural (k + 1) h)) in
    omega (arith, len, difference_abs (number_nth offsets k) (number_nth offsets (k + 1)) (unsigned_abs (number_nth offsets k)) (unsigned_abs (number_nth offsets (k + 1))) low high (ordered.rising k h))

-- the first differences sum up to how far an offset is from the first
pub sum_differences-part : (offsets : List ℤ) → AreOrdered offsets → (k : ℕ) → k < length offsets → sum (take k (lengths_of (differences offsets))) + first_offset offsets ≡ unsigned_abs (number_nth offsets k)
sum_differences-part offsets ordered zero h = omega arith
sum_differences-part offsets ordered (suc k) h =
    let before = sum_differences-part offsets ordered k (omega arith) in
    let k_in : k < length (lengths_of (differences offsets)) = omega (arith, length_differences offsets, length-lengths_of (differences offsets)) in
    let next : sum (take (k + 1) (lengths_of (differences offsets))) + first_offset offsets ≡ unsigned_abs (number_nth offsets (k + 1)) = omega (arith, sum_more (lengths_of (differences offsets)) k k_in, difference_at offsets ordered k (omega arith)) in
    subst (λ n. sum (take n (lengths_of (differences offsets))) + first_offset offsets ≡ unsigned_abs (number_nth offsets n)) (add-one k) next

pub sum_differences : (offsets : List ℤ) → AreOrdered offsets → 0 < length offsets → sum (lengths_of (differences offsets)) + first_offset offsets ≡ last_offset offsets
sum_differences offsets ordered some =
    let all : take (length offsets - 1) (lengths_of (differences offsets)) ≡ lengths_of (differences offsets) = take_all (length offsets - 1) (lengths_of (differences offsets)) (omega (arith, length_differences offsets, length-lengths_of (differences offsets))) in
    omega (arith, ap sum all, sum_differences-part offsets ordered (length offsets - 1) (omega arith))

AreOrdered-none : (offsets : List ℤ) → first_negative offsets ≡ None → first_falling offsets ≡ None → AreOrdered offsets
AreOrdered-none offsets natural rising = record {
  natural = λ k h. if-some (is_negative (number_nth offsets k)) (negative k) (first_fault-none_at (negative_at offsets) (length offsets) k natural h);
  rising = λ k h.
      let here : falling_at offsets (k + 1) ≡ None = first_fault-none_at (falling_at offsets) (length offsets) (k + 1) rising h in
      let back : k + 1 - 1 ≡ k = omega arith in
      ap (λ j. int_lt (number_nth offsets (k + 1)) (number_nth offsets j)) (sym back) ∙ if-some (int_lt (number_nth offsets (k + 1)) (number_nth offsets (k + 1 - 1))) (falling_offsets (k + 1)) here;
}

-- the differences of offsets in order are no less than 0
pub differences-natural : (offsets : List ℤ) → AreOrdered offsets → first_negative (differences offsets) ≡ None
differences-natural offsets ordered =
    first_fault-of_none (negative_at (differences offsets)) (length (differences offsets))
    (λ k h. negative_at-none (differences offsets) k
    (ap is_negative (number_at_differences offsets k (omega (arith, length_differences offsets)))
    ∙ difference_negative (number_nth offsets k) (number_nth offsets (k + 1))
    ∙ ordered.rising k (omega (arith, length_differences offsets))))

-- what it says of offsets that they have no fault
pub record AreFaultlessOffsets (limit heap_len : ℕ) (offsets : List ℤ) : Type 0 where
  pub some : 0 < length offsets
  pub ordered : AreOrdered offsets
  pub within : last_offset offsets ≤ heap_len
  pub short : first_too_long limit (differences offsets) ≡ None

pub AreFaultlessOffsets-none : (limit heap_len : ℕ) (offsets : List ℤ) → offsets_fault limit heap_len offsets ≡ None → AreFaultlessOffsets limit heap_len offsets
AreFaultlessOffsets-none limit heap_len offsets e =
    let a = or_else-none (no_offset_fault offsets) (or_else (first_negative offsets) (or_else (first_falling offsets) (or_else (past_heap_fault heap_len offsets) (first_too_long limit (differences offsets))))) e in
    let b = or_else-none (first_negative offsets) (or_else (first_falling offsets) (or_else (past_heap_fault heap_len offsets) (first_too_long limit (differences offsets)))) a.1 in
    let c = or_else-none (first_falling offsets) (or_else (past_heap_fault heap_len offsets) (first_too_long limit (differences offsets))) b.1 in
    let d = or_else-none (past_heap_fault heap_len offsets) (first_too_long limit (differences offsets)) c.1 in
    record {
      some = some_offset (length offsets) (if-some (length offsets == 0) empty_input a.0);
      ordered = AreOrdered-none offsets b.0 c.0;
      within = leb-true (last_offset offsets) heap_len (if-none (nat_le (last_offset offsets) heap_len) (out_of_bounds (last_offset offsets)) d.0);
      short = d.1;
    }
  where
    some_offset : (n : ℕ) → (n == 0) ≡ false → 0 < n
    some_offset n h = grind (arith, nat_tests)

-- then the differences have no fault over the part that is used
pub lengths_fault-sound : (limit heap_len : ℕ) (offsets : List ℤ) (first last : ℕ) → IsUsedRange heap_len offsets first last → offsets_fault limit heap_len offsets ≡ None → lengths_fault limit (last - first) (differences offsets) ≡ None
lengths_fault-sound limit heap_len offsets first last range e =
    let sound = AreFaultlessOffsets-none limit heap_len offsets e in
    let low : first_offset offsets ≡ first = ap unsigned_abs range.first_is in
    let high : last_offset offsets ≡ last = ap unsigned_abs range.last_is in
    let exact : sum (lengths_of (differences offsets)) ≡ last - first = omega (arith, sum_differences offsets sound.ordered sound.some) in
    or_else-second _ _ None (differences-natural offsets sound.ordered)
    (or_else-second _ _ None (ap (λ b. if b then None else Some lengths_not_exact) (eq-eqb (sum (lengths_of (differences offsets))) (last - first) exact)) sound.short)

-- and the other way round
natural_from : (offsets : List ℤ) → is_negative (number_nth offsets 0) ≡ false → ((k : ℕ) → k + 1 < length offsets → is_negative (number_nth offsets (k + 1) -ℤ number_nth offsets k) ≡ false) → (k : ℕ) → k < length offsets → is_negative (number_nth offsets k) ≡ false
natural_from offsets first rises zero h = first
natural_from offsets first rises (suc k) h =
    let before = natural_from offsets first rises k (omega arith) in
    let here : k + 1 < length offsets = omega arith in
    subst (λ n. is_negative (number_nth offsets n) ≡ false) (add-one k) (sum_natural (number_nth offsets k) (number_nth offsets (k + 1)) before (rises k here))
  where
    sum_natural : (a b : ℤ) → is_negative a ≡ false → is_negative (b -ℤ a) ≡ false → is_negative b ≡ false
    sum_natural a b e f = grind (arith, ints)

pub offsets_fault-sound : (limit heap_len : ℕ) (offsets : List ℤ) (first last : ℕ) → IsUsedRange heap_len offsets first last → lengths_fault limit (last - first) (differences offsets) ≡ None → offsets_fault limit heap_len offsets ≡ None
offsets_fault-sound limit heap_len offsets first last range e =
    let a = or_else-none (first_negative (differences offsets)) (or_else (sum_fault (last - first) (differences offsets)) (first_too_long limit (differences offsets))) e in
    let b = or_else-none (sum_fault (last - first) (differences offsets)) (first_too_long limit (differences offsets)) a.1 in
    let rises : (k : ℕ) → k + 1 < length offsets → is_negative (number_nth offsets (k + 1) -ℤ number_nth offsets k) ≡ false =
    λ k h. ap is_negative (sym (number_at_differences offsets k h)) ∙ if-some (is_negative (number_nth (differences offsets) k)) (negative k) (first_fault-none_at (negative_at (differences offsets)) (length (differences offsets)) k a.0 (omega (arith, length_differences offsets))) in
    let natural = natural_from offsets (natural_is (number_nth offsets 0) first range.first_is) rises in
    let no_negative : first_negative offsets ≡ None = first_fault-of_none (negative_at offsets) (length offsets) (λ k h. negative_at-none offsets k (natural k h)) in
    let no_falling : first_falling offsets ≡ None = first_fault-of_none (falling_at offsets) (length offsets) (falls_not rises) in
    let some : (length offsets == 0) ≡ false = not_none (length offsets) range.some in
    let high : last_offset offsets ≡ last = ap unsigned_abs range.last_is in
    or_else-second _ _ None (ap (λ t. if t then Some empty_input else None) some)
    (or_else-second _ _ None no_negative (or_else-second _ _ None no_falling (or_else-second _ _ None (ap (λ t. if t then None else Some (out_of_bounds (last_offset offsets))) (le-leb (last_offset offsets) heap_len (omega (arith, range.within)))) b.1)))
  where
    not_none : (n : ℕ) → 0 < n → (n == 0) ≡ false
    not_none n h = grind (arith, nat_tests)

    falls_not : ((k : ℕ) → k + 1 < length offsets → is_negative (number_nth offsets (k + 1) -ℤ number_nth offsets k) ≡ false) → (k : ℕ) → k < length offsets → falling_at offsets k ≡ None
    falls_not rises zero h = falling_at-first offsets
    falls_not rises (suc k) h =
        let here : falling_at offsets (k + 1) ≡ None = falling_at-none offsets (k + 1)
        (ap (λ j. int_lt (number_nth offsets (k + 1)) (number_nth offsets j)) (let back : k + 1 - 1 ≡ k = omega arith in back)
        ∙ sym (difference_negative (number_nth offsets k) (number_nth offsets (k + 1)))
        ∙ rises k (omega arith)) in
        subst (λ n. falling_at offsets n ≡ None) (add-one k) here

-- where there is no part that is used, the offsets have a fault
pub no_used_range : (limit heap_len : ℕ) (offsets : List ℤ) → offsets_fault limit heap_len offsets ≡ None → IsUsedRange heap_len offsets (first_offset offsets) (last_offset offsets)
no_used_range limit heap_len offsets e =
    let sound = AreFaultlessOffsets-none limit heap_len offsets e in
    let some = sound.some in
    record {
      some = some;
      first_is = sym (not_negative (number_nth offsets 0) (sound.ordered.natural 0 some));
      last_is = sym (not_negative (number_nth offsets (length offsets - 1)) (sound.ordered.natural (length offsets - 1) (omega arith)));
      in_order = omega (arith, sum_differences offsets sound.ordered some);
      within = sound.within;
    }

-- no part is used
pub refuses : (heap_len : ℕ) (offsets : List ℤ) (found : Option (ℕ × ℕ)) → (IsUsedRange heap_len offsets (first_offset offsets) (last_offset offsets) → ⊥) → IfNone found ((limit : ℕ) → offsets_fault limit heap_len offsets ≢ None)
refuses heap_len offsets None h = λ limit e. h (no_used_range limit heap_len offsets e)
refuses heap_len offsets (Some r) h = tt

pub not_natural : (offsets : List ℤ) (k n : ℕ) → number_nth offsets k ≡ pos n → IsTrue (is_negative (number_nth offsets k)) → ⊥
not_natural offsets k n is below =
    let both : false ≡ true = sym (natural_is (number_nth offsets k) n is) ∙ below in
    cc

-- ---- the faults of offsets in their order

no_offset-none : (offsets : List ℤ) → 0 < length offsets → no_offset_fault offsets ≡ None
no_offset-none offsets h = ap (λ t. if t then Some empty_input else None) (not_empty (length offsets) h)
  where
    not_empty : (n : ℕ) → 0 < n → (n == 0) ≡ false
    not_empty n k = grind (arith, nat_tests)

past_heap-none : (heap_len : ℕ) (offsets : List ℤ) → last_offset offsets ≤ heap_len → past_heap_fault heap_len offsets ≡ None
past_heap-none heap_len offsets h = ap (λ t. if t then None else Some (out_of_bounds (last_offset offsets))) (le-leb (last_offset offsets) heap_len h)

past_heap-some : (heap_len : ℕ) (offsets : List ℤ) → heap_len < last_offset offsets → past_heap_fault heap_len offsets ≡ Some (out_of_bounds (last_offset offsets))
past_heap-some heap_len offsets h = ap (λ t. if t then None else Some (out_of_bounds (last_offset offsets))) (lt-leb (last_offset offsets) heap_len h)

-- an error that names the first of them
pub Names-negative_offset : (limit heap_len : ℕ) (offsets : List ℤ) (e : VortexError) → 0 < length offsets → Names (first_negative offsets) e → Names (offsets_fault limit heap_len offsets) e
Names-negative_offset limit heap_len offsets e some names =
    let rest = or_else (first_falling offsets) (or_else (past_heap_fault heap_len offsets) (first_too_long limit (differences offsets))) in
    Names-or_else_second (no_offset_fault offsets) (or_else (first_negative offsets) rest) e (no_offset-none offsets some) (Names-or_else_first (first_negative offsets) rest e names)

pub Names-falling_offset : (limit heap_len : ℕ) (offsets : List ℤ) (e : VortexError) → 0 < length offsets → first_negative offsets ≡ None → Names (first_falling offsets) e → Names (offsets_fault limit heap_len offsets) e
Names-falling_offset limit heap_len offsets e some natural names =
    let rest = or_else (past_heap_fault heap_len offsets) (first_too_long limit (differences offsets)) in
    Names-or_else_second (no_offset_fault offsets) (or_else (first_negative offsets) (or_else (first_falling offsets) rest)) e (no_offset-none offsets some)
    (Names-or_else_second (first_negative offsets) (or_else (first_falling offsets) rest) e natural (Names-or_else_first (first_falling offsets) rest e names))

pub offsets_fault-past : (limit heap_len : ℕ) (offsets : List ℤ) (n : ℕ) → 0 < length offsets → first_negative offsets ≡ None → first_falling offsets ≡ None → last_offset offsets ≡ n → heap_len < n → offsets_fault limit heap_len offsets ≡ Some (out_of_bounds n)
offsets_fault-past limit heap_len offsets n some a b is past =
    rw (no_offset-none offsets some, a, b, past_heap-some heap_len offsets (omega arith)) (ap (λ m. Some (out_of_bounds m)) is)

pub offsets_fault-long : (limit heap_len : ℕ) (offsets : List ℤ) → 0 < length offsets → first_negative offsets ≡ None → first_falling offsets ≡ None → last_offset offsets ≤ heap_len → offsets_fault limit heap_len offsets ≡ first_too_long limit (differences offsets)
offsets_fault-long limit heap_len offsets some a b within = rw (no_offset-none offsets some, a, b, past_heap-none heap_len offsets within) refl

pub differences-none : (offsets : List ℤ) → first_negative offsets ≡ None → first_falling offsets ≡ None → first_negative (differences offsets) ≡ None
differences-none offsets a b = differences-natural offsets (AreOrdered-none offsets a b)

-- offsets that begin at 0 or above and never fall are never negative
pub rising-natural : (offsets : List ℤ) → pos 0 ≤ℤ number_nth offsets 0 → AreRising offsets → (k : ℕ) → k < length offsets → pos 0 ≤ℤ number_nth offsets k
rising-natural offsets first rising zero h = first
rising-natural offsets first rising (suc k) h =
    let before = rising-natural offsets first rising k (omega arith) in
    let next : pos 0 ≤ℤ number_nth offsets (k + 1) = ordered (number_nth offsets k) (number_nth offsets (k + 1)) before (rising k (omega arith)) in
    subst (λ n. pos 0 ≤ℤ number_nth offsets n) (add-one k) next
  where
    ordered : (a b : ℤ) → pos 0 ≤ℤ a → a ≤ℤ b → pos 0 ≤ℤ b
    ordered a b p q = omega (arith, ints)
