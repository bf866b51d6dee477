-- What it says of lengths and offsets that they have no fault.
use Rattle.std.proofs.Common.{◌≡◌, ℕ, suc, ℤ, pos, ◌<◌, ◌≤◌, false, List, length, map, get_or, sum, if◌then◌else◌, nat_le, ◌==◌, Some, None, unsigned_abs, sym, ◌∙◌, ap, arith}
use Rattle.std.specs.Int.{is_negative}
use Rattle.std.proofs.lemmas.Bool.{le-leb, lt-leb, leb-true, eqb-true}
use Rattle.std.proofs.lemmas.List.{get_or-map, length-map}
use Rattle.vx_base.specs.Refusals.{or_else, negative, value_too_long, lengths_not_exact}
use Rattle.vx_base.proofs.FirstFaults.{or_else-none, first_fault-none_at}
use Rattle.vx_views.proofs.FirstFaults.{if-none, if-some}
use Rattle.vx_views.specs.BuildFaults.{lengths_of, negative_at, too_long_at, sum_fault, first_negative, first_too_long, lengths_fault}
use Rattle.vx_base.specs.Integers.{number_nth}

pub length_at : (numbers : List ℤ) (k : ℕ) → k < length numbers → get_or (lengths_of numbers) k 0 ≡ unsigned_abs (number_nth numbers k)
length_at numbers k h = get_or-map unsigned_abs numbers k (pos 0) 0 h

pub length-lengths_of : (numbers : List ℤ) → length (lengths_of numbers) ≡ length numbers
length-lengths_of numbers = length-map numbers unsigned_abs

pub not_negative_at : (numbers : List ℤ) (k n : ℕ) → number_nth numbers k ≡ pos n → negative_at numbers k ≡ None
not_negative_at numbers k n e =
    ap (λ z. if is_negative z then Some (negative k) else None) e
    ∙ ap (λ b. if b then Some (negative k) else None) (lt-leb (suc n) 0 (omega arith))

pub not_too_long_at : (limit : ℕ) (numbers : List ℤ) (k n : ℕ) → number_nth numbers k ≡ pos n → n ≤ limit → too_long_at limit numbers k ≡ None
not_too_long_at limit numbers k n e h =
    ap (λ z. if nat_le (unsigned_abs z) limit then None else Some (value_too_long k)) e
    ∙ ap (λ b. if b then None else Some (value_too_long k)) (le-leb n limit h)

-- lengths of a heap without a fault
pub record AreFaultless (limit heap_len : ℕ) (numbers : List ℤ) : Type 0 where
  pub natural : (k : ℕ) → k < length numbers → is_negative (number_nth numbers k) ≡ false
  pub exact : sum (lengths_of numbers) ≡ heap_len
  pub short : (k : ℕ) → k < length numbers → unsigned_abs (number_nth numbers k) ≤ limit

pub AreFaultless-none : (limit heap_len : ℕ) (numbers : List ℤ) → lengths_fault limit heap_len numbers ≡ None → AreFaultless limit heap_len numbers
AreFaultless-none limit heap_len numbers e =
    let first = or_else-none (first_negative numbers) (or_else (sum_fault heap_len numbers) (first_too_long limit numbers)) e in
    let rest = or_else-none (sum_fault heap_len numbers) (first_too_long limit numbers) first.1 in
    record {
      natural = λ k h. if-some (is_negative (number_nth numbers k)) (negative k) (first_fault-none_at (negative_at numbers) (length numbers) k first.0 h);
      exact = eqb-true (sum (lengths_of numbers)) heap_len (if-none (sum (lengths_of numbers) == heap_len) lengths_not_exact rest.0);
      short = λ k h. leb-true (unsigned_abs (number_nth numbers k)) limit (if-none (nat_le (unsigned_abs (number_nth numbers k)) limit) (value_too_long k) (first_fault-none_at (too_long_at limit numbers) (length numbers) k rest.1 h));
    }

-- the integer of an item
pub number_of_item : {X : Type 0} (value : X → ℤ) (items : List X) (k : ℕ) (x : X) (z : ℤ) → k < length items → x ≡ get_or items k x → z ≡ value x → number_nth (map value items) k ≡ z
number_of_item value items k x z h is e = get_or-map value items k x (pos 0) h ∙ ap value (sym is) ∙ sym e
