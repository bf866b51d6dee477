use Rattle.std.proofs.Common.{ℕ, suc, ◌+◌, ◌*◌, ◌<◌, ◌≤◌, ◌≡◌, List, [], ◌∷◌, length, get_or, sym, subst, arith}
use Rattle.std.specs.List.{All, flat_map}
use Rattle.std.proofs.Math.Nat.{mul-le-mul_right}
use Rattle.std.proofs.lemmas.List.Elements.{All-nil, All-append}
use Rattle.std.proofs.lemmas.List.FromFn.{length-range_with_len, get_or-range_with_len}
use Rattle.vx_base.specs.Selections.{list_positions}
use Rattle.vx_base_tests.proofs.base.gathered.lists_are_written.Goals as goal

-- the positions of a list that ends within m lie below m
positions_below : (m n k : ℕ) → k * n + n ≤ m → All (λ p. p < m) (list_positions n k)
positions_below m n k e = λ i d l.
    let inside : i < n = omega (arith, length-range_with_len (k * n) n) in
    subst (λ p. p < m) (sym (get_or-range_with_len (k * n) n i d inside)) (omega (arith, e, inside))

-- where a list of three ends
end_of_three : (m n k : ℕ) → m ≡ 3 * n → k < 3 → k * n + n ≤ m
end_of_three m n k e l =
    let end : (k + 1) * n ≤ 3 * n = mul-le-mul_right n (omega arith) in
    omega (arith, end, e)

-- so do those of lists of three
lists_below : (m n : ℕ) (ks : List ℕ) → m ≡ 3 * n → All (λ k. k < 3) ks → All (λ p. p < m) (flat_map (list_positions n) ks)
lists_below m n [] e all = All-nil (λ p. p < m)
lists_below m n (k ∷ ks) e all =
    All-append (λ p. p < m) (list_positions n k) (flat_map (list_positions n) ks)
    (positions_below m n k (end_of_three m n k e (all 0 0 (omega arith)))) (lists_below m n ks e (λ i d l. all (suc i) d (omega arith)))

pub lists-requires-clause-within : goal.lists-requires-clause-within
lists-requires-clause-within c = λ i d l.
    let end = end_of_three (length c.args.part.now.bits.bits) c.args.size (get_or c.args.lists.now i d) c.requires.bits (c.requires.within i d l) in
    omega (arith, end, c.len-len.ensures)

pub lists-requires-clause-countable : goal.lists-requires-clause-countable
lists-requires-clause-countable c = rw c.requires.few (omega (arith, c.requires.bits, c.len-len.ensures))

pub gather_bits-requires : goal.gather_bits-requires
gather_bits-requires c =
    subst (All (λ p. p < length c.args.part.now.bits.bits)) (sym c.in_ok-elements.ensures)
    (lists_below (length c.args.part.now.bits.bits) c.args.size c.args.lists.now c.requires.bits c.requires.within)
