-- Codes that are read one after another, and what is known where none of them is faulty.
use Rattle.std.proofs.Common.{ℕ, zero, suc, ◌+◌, ◌-◌, ◌<◌, ◌≤◌, ◌≡◌, Bool, true, false, List, Option, Some, None, inl, inr, refl, sym, ◌∙◌, ap, subst, arith}
use Rattle.std.specs.Prelude.{pos, negsuc, ◌==◌, nat_lt, if◌then◌else◌, IsSome, Result, Ok, Err}
use Rattle.std.specs.Result.{is_ok}
use Rattle.std.specs.Int.{bit_at}
use Rattle.std.proofs.lemmas.Bool.{cases_lt, cases_Bool, ltb-true}
use Rattle.std.proofs.lemmas.Bool.Decides.{Decides-eqb}
use Rattle.vx_base.specs.declared.errors.VortexError.{VortexError}
use Rattle.vx_base.specs.declared.ptypes.PType.{PType}
use Rattle.vx_base.specs.Bits.{bool_at}
use Rattle.vx_base.specs.Integers.{numbers, number_nth}
use Rattle.vx_base.specs.Kinds.{Kind, booleans, integers, texts, binaries, lists, fixed_lists, records, is_integers, Fits}
use Rattle.vx_base.specs.Refusals.{Refusal, out_of_bounds, Refuses, Tests, Names, first_fault}
use Rattle.vx_base.specs.Rows.{Row, null, boolean, whole, bytes, text, items, record_of, position_in}
use Rattle.vx_base.proofs.FirstFaults.{first_fault-of_none, first_fault-found, first_fault-none_at}
use Rattle.vx_tree.specs.Faults.{index_fault, indices_fault}
use Rattle.vx_tree.specs.Formed.{IsCode, IsDictionary}
use Rattle.vx_tree.specs.Meaning.{tree_len, kind_of, picked, row_at}
use Rattle.vx_tree.specs.Operations.{masked_numbers}
use Rattle.vx_tree.specs.Tree.{Tree, constant, dictionary}

-- a call that tests refuses, also a fault that is the same
pub Refuses-tests : {A : Type 0} (r : Result A VortexError) (fault other : Option Refusal) → other ≡ fault → Tests r fault → Refuses r other
Refuses-tests (Ok x) fault other same none = same ∙ none
Refuses-tests (Err e) fault other same names = inr (same ∙ names.1)

-- where a call is Ok there is no fault
pub ok_has_no_fault : {A : Type 0} (r : Result A VortexError) (fault : Option Refusal) → is_ok r ≡ true → Refuses r fault → fault ≡ None
ok_has_no_fault (Ok x) fault ok h = h
ok_has_no_fault (Err e) fault ok h = absurd (cc)

-- a fault after rows without one is the first
pub Names-met : (fault : ℕ → Option Refusal) (n row : ℕ) (e : VortexError) → first_fault fault row ≡ None → Names (fault row) e → row < n → Names (first_fault fault n) e
Names-met fault n row e none (some, same) inside = (some, first_fault-found fault n row none (subst IsSome (sym same) some) inside ∙ same)

-- ---- numbers under a mask

module _ (p : PType) (bs : List ℕ) (mask : List Bool) (len : ℕ) where
  -- a row at which the mask is false has no fault
  masked_out : (i : ℕ) → bool_at mask i ≡ false → index_fault len i (row_at (masked_numbers p bs mask) i) ≡ None
  masked_out i off = ap (λ b. index_fault len i (if b then whole (number_nth (numbers p bs) i) else null)) off

  -- the others have that of their numbers
  masked_in : (i : ℕ) → bool_at mask i ≡ true → index_fault len i (row_at (masked_numbers p bs mask) i) ≡ index_fault len i (whole (number_nth (numbers p bs) i))
  masked_in i on = ap (λ b. index_fault len i (if b then whole (number_nth (numbers p bs) i) else null)) on

  -- rows without a fault, and then those of a word
  pub word_faultless : (n held word : ℕ) → ((i : ℕ) → i < held → (bit_at word i == 1) ≡ bool_at mask (n + i))
      → ((i : ℕ) → bit_at word i ≡ 1 → index_fault len (n + i) (whole (number_nth (numbers p bs) (n + i))) ≡ None)
      → ((i : ℕ) → i < n → index_fault len i (row_at (masked_numbers p bs mask) i) ≡ None)
      → (i : ℕ) → i < n + held → index_fault len i (row_at (masked_numbers p bs mask) i) ≡ None
  word_faultless n held word bits none before i inside = elim (cases_lt i n) [
    | inl early ↦ before i early
    | inr late ↦
        let k : ℕ = i - n in
        let at : n + k ≡ i = omega arith in
        let seen : (bit_at word k == 1) ≡ bool_at mask i = subst (λ x. (bit_at word k == 1) ≡ bool_at mask x) at (bits k (omega arith)) in
        elim (cases_Bool (bool_at mask i)) [
          | inl on ↦
              let set : bit_at word k ≡ 1 = (Decides-eqb (bit_at word k) 1).0 (seen ∙ on) in
              masked_in i on ∙ subst (λ x. index_fault len x (whole (number_nth (numbers p bs) x)) ≡ None) at (none k set)
          | inr off ↦ masked_out i off
        ]
  ]

-- ---- one row, however often

faultless_anywhere : (len i j : ℕ) (r : Row) → index_fault len i r ≡ None → index_fault len j r ≡ None
faultless_anywhere len i j null h = refl
faultless_anywhere len i j (boolean b) h = refl
faultless_anywhere len i j (whole (pos k)) h = h
faultless_anywhere len i j (whole (negsuc k)) h = absurd (cc)
faultless_anywhere len i j (bytes bs) h = refl
faultless_anywhere len i j (text bs) h = refl
faultless_anywhere len i j (items rs) h = refl
faultless_anywhere len i j (record_of fs) h = refl

-- the first of them is the first that is faulty
fault_of_first : (len n : ℕ) (r : Row) (o : Option Refusal) → index_fault len 0 r ≡ o → 0 < n → first_fault (λ i. index_fault len i r) n ≡ o
fault_of_first len n r None e some = first_fault-of_none (λ i. index_fault len i r) n (λ i inside. faultless_anywhere len 0 i r e)
fault_of_first len n r (Some x) e some = first_fault-found (λ i. index_fault len i r) n 0 refl (subst IsSome (sym e) refl) some ∙ e

fault_of_some : (len n m : ℕ) (r : Row) → m ≤ n → (0 < n → 0 < m) → first_fault (λ i. index_fault len i r) n ≡ first_fault (λ i. index_fault len i r) m
fault_of_some len zero m r fewer some = let none : 0 ≡ m = omega arith in ap (first_fault (λ i. index_fault len i r)) none
fault_of_some len (suc n) m r fewer some =
    let more : 0 < suc n = omega arith in
    fault_of_first len (suc n) r (index_fault len 0 r) refl more ∙ sym (fault_of_first len m r (index_fault len 0 r) refl (some more))

-- of a constant the first rows tell, where there are any
pub constant_fault : (t : Tree) (k : Kind) (r : Row) (n m len : ℕ) → t ≡ constant k r n → m ≤ n → (0 < n → 0 < m) → indices_fault len t ≡ first_fault (λ i. index_fault len i (row_at t i)) m
constant_fault t k r n m len e fewer some = rw e (fault_of_some len n m r fewer some)

-- ---- rows of a dictionary

named_without_fault : (len n i : ℕ) (f : ℕ → Row) (r : Row) → ((j : ℕ) → j < n → index_fault len j (f j) ≡ None) → IsCode n r → index_fault len i (picked f (position_in r)) ≡ None
named_without_fault len n i f null none code = refl
named_without_fault len n i f (whole (pos k)) none code = faultless_anywhere len k i (f k) (none k code)
named_without_fault len n i f (whole (negsuc k)) none code = absurd code
named_without_fault len n i f (boolean b) none code = absurd code
named_without_fault len n i f (bytes bs) none code = absurd code
named_without_fault len n i f (text bs) none code = absurd code
named_without_fault len n i f (items rs) none code = absurd code
named_without_fault len n i f (record_of fs) none code = absurd code

-- where no value has a fault, no row has one
pub dictionary_without_fault : (t c v : Tree) (b : Bool) (len : ℕ) → t ≡ dictionary c v b → IsDictionary c v b → indices_fault len v ≡ None → indices_fault len t ≡ None
dictionary_without_fault t c v b len same formed none = rw same (
    first_fault-of_none (λ i. index_fault len i (row_at (dictionary c v b) i)) (tree_len c) (λ i inside.
    named_without_fault len (tree_len v) i (row_at v) (row_at c i) (λ j below. first_fault-none_at (λ k. index_fault len k (row_at v k)) (tree_len v) j none below)
    (formed.within i inside)))

-- ---- rows without a fault

below_bound : (n i k : ℕ) (b : Bool) → nat_lt k n ≡ b → index_fault n i (whole (pos k)) ≡ None → k < n
below_bound n i k true e h = ltb-true k n e
below_bound n i k false e h = let fault : Some (out_of_bounds k) ≡ None = subst (λ b. (if b then None else Some (out_of_bounds k)) ≡ None) e h in absurd (cc)

code_without_fault : (n i : ℕ) (k : Kind) (r : Row) → is_integers k ≡ true → Fits k r → index_fault n i r ≡ None → IsCode n r
code_without_fault n i (integers t c) null ints fit none = tt
code_without_fault n i (integers t c) (whole (pos j)) ints fit none = below_bound n i j (nat_lt j n) refl none
code_without_fault n i (integers t c) (whole (negsuc j)) ints fit none = absurd (cc)
code_without_fault n i (integers t c) (boolean b) ints fit none = absurd fit
code_without_fault n i (integers t c) (bytes bs) ints fit none = absurd fit
code_without_fault n i (integers t c) (text bs) ints fit none = absurd fit
code_without_fault n i (integers t c) (items rs) ints fit none = absurd fit
code_without_fault n i (integers t c) (record_of fs) ints fit none = absurd fit
code_without_fault n i (booleans c) r ints fit none = absurd (cc)
code_without_fault n i (texts c) r ints fit none = absurd (cc)
code_without_fault n i (binaries c) r ints fit none = absurd (cc)
code_without_fault n i (lists e c) r ints fit none = absurd (cc)
code_without_fault n i (fixed_lists e size c) r ints fit none = absurd (cc)
code_without_fault n i (records names ks c) r ints fit none = absurd (cc)

-- integers of which none is faulty are codes
pub codes_without_fault : (c v : Tree) (n : ℕ) → n ≡ tree_len v → is_integers (kind_of c) ≡ true → ((i : ℕ) → i < tree_len c → Fits (kind_of c) (row_at c i)) → indices_fault n c ≡ None → IsDictionary c v false
codes_without_fault c v n count ints fit none = record {
  codes = ints;
  within = λ i inside. subst (λ m. IsCode m (row_at c i)) count (code_without_fault n i (kind_of c) (row_at c i) ints (fit i inside) (first_fault-none_at (λ k. index_fault n k (row_at c k)) (tree_len c) i none inside));
  referenced = λ set. absurd (cc);
}
