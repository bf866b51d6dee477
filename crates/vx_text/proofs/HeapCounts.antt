-- Counting the pieces of a heap by the lengths of its values, before it is made.
use Rattle.std.proofs.Common.{◌≡◌, ℕ, ◌+◌, ◌-◌, ◌^◌, ◌<◌, ◌≤◌, List, [], ◌∷◌, ◌++◌, length, take, get_or, map, pos, unsigned_abs, sum, nat_le, if◌then◌else◌, Some, None, inr, inl, ◌⊎◌, true, refl, sym, ◌∙◌, ap, subst, ⊎_elim, arith}
use Rattle.std.specs.List.{All}
use Rattle.std.proofs.lemmas.Bool.{cases_lt, le-leb, lt-leb, leb-true}
use Rattle.std.proofs.lemmas.List.{take_all, length_push, length-map, get_or_default}
use Rattle.std.proofs.lemmas.List.Sums.{sum_by-take-le}
use Rattle.vx_base.specs.Refusals.{overflow, value_too_long}
use Rattle.vx_base.specs.Integers.{number_nth}
use Rattle.vx_base.proofs.FirstFaults.{or_else-first, or_else-second, first_fault-none_at}
use Rattle.vx_views.specs.BuildFaults.{IsPieceCount, too_long_at, numbering_fault, first_too_long}
use Rattle.vx_views.proofs.BuildRefusals.{piece_count}
use Rattle.vx_views.proofs.CutOpen.{IsOpen, IsOpen-keep, IsOpen-close, IsMaximalCut-from_open, IsMaximalCut-from_open_push, more_pieces, some_maximal, sum_more}
use Rattle.vx_views.proofs.FirstFaults.{if-none}
use Rattle.vx_text.specs.Rebuffered.{heap_fault, too_many_fault}
use Rattle.vx_text.proofs.ItemHeaps.{number_at}

-- ---- the count

-- of the first k values: so many pieces are closed, and the opened one goes from `begin` to `at`
pub record IsCounting (limit : ℕ) (lens : List ℕ) (k number begin at : ℕ) : Type 0 where
  pub ends : List ℕ
  pub opened : IsOpen limit lens k ends begin
  pub number_is : number ≡ length ends
  pub at_is : at ≡ sum (take k lens)

pub none_counted : (limit : ℕ) (lens : List ℕ) → IsCounting limit lens 0 0 0 0
none_counted limit lens = record {
  ends = [];
  opened = record { pieces = refl; longest = tt; low = omega arith; high = omega arith };
  number_is = refl;
  at_is = refl;
}

pub counting_kept : (limit : ℕ) (lens : List ℕ) (k n number new_number begin new_begin at : ℕ) → new_number ≡ number → new_begin ≡ begin → get_or lens k 0 ≡ n → k < length lens → at - begin + n ≤ limit → IsCounting limit lens k number begin at
    → IsCounting limit lens (k + 1) new_number new_begin (at + n)
counting_kept limit lens k n number new_number begin new_begin at same_number same_begin len k_in fits w =
    let more = sum_more lens k k_in in
    rw (same_number, same_begin) (record {
      ends = w.ends;
      opened = IsOpen-keep limit lens k w.ends begin w.opened k_in (omega (arith, more, len, w.at_is, w.opened.low));
      number_is = w.number_is;
      at_is = omega (arith, more, len, w.at_is);
    })

pub counting_closed : (limit : ℕ) (lens : List ℕ) (k n number new_number begin new_begin at : ℕ) → new_number ≡ number + 1 → new_begin ≡ at → get_or lens k 0 ≡ n → k < length lens → n ≤ limit → limit < at - begin + n → IsCounting limit lens k number begin at
    → IsCounting limit lens (k + 1) new_number new_begin (at + n)
counting_closed limit lens k n number new_number begin new_begin at same_number same_begin len k_in small over w =
    let more = sum_more lens k k_in in
    rw (same_number, same_begin) (record {
      ends = w.ends ++ at ∷ [];
      opened = subst (λ a. IsOpen limit lens (k + 1) (w.ends ++ a ∷ []) a) (sym w.at_is) (IsOpen-close limit lens k w.ends begin w.opened k_in (omega (arith, len, small)) (omega (arith, more, len, w.at_is, w.opened.low)));
      number_is = omega (arith, w.number_is, length_push w.ends at);
      at_is = omega (arith, more, len, w.at_is);
    })

-- ---- its end

-- values without a fault are short
pub short_at : (limit : ℕ) (lens : List ℕ) (k : ℕ) → first_too_long limit (map pos lens) ≡ None → k < length lens → get_or lens k 0 ≤ limit
short_at limit lens k none l =
    let numbers = map pos lens in
    let here : too_long_at limit numbers k ≡ None = first_fault-none_at (too_long_at limit numbers) (length numbers) k none (omega (arith, length-map lens pos)) in
    let fits : nat_le (unsigned_abs (number_nth numbers k)) limit ≡ true = if-none (nat_le (unsigned_abs (number_nth numbers k)) limit) (value_too_long k) here in
    omega (arith, ap unsigned_abs (number_at lens k l), leb-true (unsigned_abs (number_nth numbers k)) limit fits)

pub all_short : (limit : ℕ) (lens : List ℕ) → first_too_long limit (map pos lens) ≡ None → All (λ n. n ≤ limit) lens
all_short limit lens none k d l = subst (λ n. n ≤ limit) (get_or_default lens k 0 d l) (short_at limit lens k none l)

within_u32 : (pieces : ℕ) → pieces ≤ 2 ^ 32 → numbering_fault 0 pieces ≡ None
within_u32 pieces h = ap (λ b. if b then None else Some overflow) (le-leb (0 + pieces) (2 ^ 32) (omega arith))

past_u32 : (pieces : ℕ) → 2 ^ 32 < pieces → numbering_fault 0 pieces ≡ Some overflow
past_u32 pieces h = ap (λ b. if b then None else Some overflow) (lt-leb (0 + pieces) (2 ^ 32) (omega arith))

within_usize : (bytes : ℕ) → bytes < 2 ^ 64 → heap_fault bytes ≡ None
within_usize bytes h = ap (λ b. if b then None else Some overflow) (le-leb bytes (2 ^ 64 - 1) (omega arith))

past_usize : (bytes : ℕ) → 2 ^ 64 - 1 < bytes → heap_fault bytes ≡ Some overflow
past_usize bytes h = ap (λ b. if b then None else Some overflow) (lt-leb bytes (2 ^ 64 - 1) h)

pub heap_counted : (limit : ℕ) (lens : List ℕ) (k number begin at : ℕ) → k ≡ length lens → IsCounting limit lens k number begin at → at ≡ sum lens
heap_counted limit lens k number begin at all w = w.at_is ∙ ap sum (take_all k lens (omega arith))

pub counted : (limit : ℕ) (lens : List ℕ) (k number begin at : ℕ) → k ≡ length lens → number < 2 ^ 32 → at < 2 ^ 64 → IsCounting limit lens k number begin at
    → (pieces : ℕ) × (IsPieceCount limit lens pieces × (too_many_fault lens pieces ≡ None))
counted limit lens k number begin at all numbered near w =
    let p = piece_count limit lens in
    let opened : IsOpen limit lens (length lens) w.ends begin = subst (λ n. IsOpen limit lens n w.ends begin) all w.opened in
    let few : p.0 ≤ 2 ^ 32 =
    ⊎_elim
    (λ (rest : begin < sum lens). omega (arith, p.1 (w.ends ++ sum lens ∷ []) (IsMaximalCut-from_open_push limit lens w.ends begin opened rest), length_push w.ends (sum lens), w.number_is))
    (λ (done : sum lens ≤ begin). omega (arith, p.1 w.ends (IsMaximalCut-from_open limit lens w.ends begin opened done), w.number_is))
    (cases_lt begin (sum lens)) in
    let small : sum lens < 2 ^ 64 = omega (arith, heap_counted limit lens k number begin at all w) in
    (p.0, (p.1, or_else-second (heap_fault (sum lens)) (numbering_fault 0 p.0) None (within_usize (sum lens) small) (within_u32 p.0 few)))

pub too_many_pieces : (limit : ℕ) (lens : List ℕ) (k n number begin at : ℕ) → first_too_long limit (map pos lens) ≡ None → get_or lens k 0 ≡ n → k < length lens → limit < at - begin + n → number ≡ 2 ^ 32 - 1 → IsCounting limit lens k number begin at
    → (pieces : ℕ) × (IsPieceCount limit lens pieces × (too_many_fault lens pieces ≡ Some overflow))
too_many_pieces limit lens k n number begin at none len k_in over last w =
    let p = piece_count limit lens in
    let m = some_maximal limit lens (all_short limit lens none) in
    let more = sum_more lens k k_in in
    let many : 2 ^ 32 < p.0 =
    omega (arith, p.1 m.0 m.1, w.number_is, more_pieces limit lens k w.ends begin m.0 w.opened k_in (short_at limit lens k none k_in) (omega (arith, more, len, w.at_is, w.opened.low)) m.1.cut) in
    (p.0, (p.1, by_heap p.0 many (cases_lt (2 ^ 64 - 1) (sum lens))))
  where
    by_heap : (pieces : ℕ) → 2 ^ 32 < pieces → (2 ^ 64 - 1 < sum lens) ⊎ (sum lens ≤ 2 ^ 64 - 1) → too_many_fault lens pieces ≡ Some overflow
    by_heap pieces many (inl past) = or_else-first (heap_fault (sum lens)) (numbering_fault 0 pieces) (Some overflow) (past_usize (sum lens) past) refl
    by_heap pieces many (inr near) = or_else-second (heap_fault (sum lens)) (numbering_fault 0 pieces) (Some overflow) (within_usize (sum lens) (omega arith)) (past_u32 pieces many)

pub too_many_bytes : (limit : ℕ) (lens : List ℕ) (k n number begin at : ℕ) → get_or lens k 0 ≡ n → k < length lens → 2 ^ 64 - 1 < at + n → IsCounting limit lens k number begin at
    → (pieces : ℕ) × (IsPieceCount limit lens pieces × (too_many_fault lens pieces ≡ Some overflow))
too_many_bytes limit lens k n number begin at len k_in over w =
    let p = piece_count limit lens in
    let past : 2 ^ 64 - 1 < sum lens = omega (arith, sum_more lens k k_in, len, w.at_is, sum_by-take-le (λ (x : ℕ). x) lens (k + 1)) in
    (p.0, (p.1, or_else-first (heap_fault (sum lens)) (numbering_fault 0 p.0) (Some overflow) (past_usize (sum lens) past) refl))
