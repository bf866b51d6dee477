-- Which buffers a budget reaches, by the sums of their lengths.
use Rattle.std.proofs.Common.{◌≡◌, ℕ, zero, suc, ◌+◌, ◌-◌, ◌<◌, ◌≤◌, ◌↔◌, Bool, true, false, cond, ◌∙◌, sym, ap, subst, refl, List, [], ◌∷◌, length, take, arith}
use Rattle.std.specs.Prelude.{nat_le, sum}
use Rattle.std.proofs.lemmas.Bool.{false≢true, le-leb, lt-leb, leb-true}
use Rattle.std.proofs.lemmas.List.Sums.{sum_by-cons}
use Rattle.vx_base.specs.Bits.{bool_at}
use Rattle.vx_views.specs.Alone.{reached, marked_lens, AreWithinBudget}
use Rattle.vx_views.specs.Views.{buffer_at}

-- ---- the budget reaches such buffers

-- of a later buffer, what is left of the budget after the first decides
step : (n budget s l t : ℕ) (fits : Bool) (P : Type 0) → t ≡ cond fits n 0 + s → nat_le n budget ≡ fits → P ↔ (s + l ≤ cond fits (budget - n) budget) → P ↔ (t + l ≤ budget)
step n budget s l t true P total e told = let fits = leb-true n budget e in (λ p. let h = told.0 p in omega (arith, total), λ q. told.1 (omega (arith, total)))
step n budget s l t false P total e told = (λ p. let h = told.0 p in omega (arith, total), λ q. told.1 (omega (arith, total)))

first : (n budget : ℕ) → (nat_le n budget ≡ true) ↔ (0 + n ≤ budget)
first n budget = (λ e. let h = leb-true n budget e in omega arith, λ l. le-leb n budget (omega arith))

reached-each : (budget : ℕ) (buffers : List (List ℕ)) (k : ℕ) → k < length buffers
    → (bool_at (reached budget buffers) k ≡ true) ↔ (sum (take k (marked_lens (reached budget buffers) buffers)) + length (buffer_at buffers k) ≤ budget)
reached-each budget [] k within = absurd (omega arith)
reached-each budget (buffer ∷ buffers) zero within = first (length buffer) budget
reached-each budget (buffer ∷ buffers) (suc k) within =
    let fits = nat_le (length buffer) budget in
    let left = cond fits (budget - length buffer) budget in
    let lens = take k (marked_lens (reached left buffers) buffers) in
    step (length buffer) budget (sum lens) (length (buffer_at buffers k)) (sum (cond fits (length buffer) 0 ∷ lens)) fits (bool_at (reached left buffers) k ≡ true)
    (sum_by-cons (λ n. n) (cond fits (length buffer) 0) lens) refl (reached-each left buffers k (omega arith))

reached-length : (budget : ℕ) (buffers : List (List ℕ)) → length (reached budget buffers) ≡ length buffers
reached-length budget [] = refl
reached-length budget (buffer ∷ buffers) = ap suc (reached-length (cond (nat_le (length buffer) budget) (budget - length buffer) budget) buffers)

pub reached-AreWithinBudget : (budget : ℕ) (buffers : List (List ℕ)) → AreWithinBudget budget buffers (reached budget buffers)
reached-AreWithinBudget budget buffers = record { len = reached-length budget buffers; each = reached-each budget buffers }

-- ---- and it is the only such choice

same_first : (mark : Bool) (n budget : ℕ) → (mark ≡ true) ↔ (0 + n ≤ budget) → mark ≡ nat_le n budget
same_first true n budget told = let h = told.0 refl in sym (le-leb n budget (omega arith))
same_first false n budget told = sym (lt-leb n budget (omega (arith, λ (l : n ≤ budget). false≢true (told.1 (omega arith)))))

back : (n budget s l t : ℕ) (fits : Bool) (P : Type 0) → t ≡ cond fits n 0 + s → nat_le n budget ≡ fits → P ↔ (t + l ≤ budget) → P ↔ (s + l ≤ cond fits (budget - n) budget)
back n budget s l t true P total e told = let fits = leb-true n budget e in (λ p. let h = told.0 p in omega (arith, total), λ q. told.1 (omega (arith, total)))
back n budget s l t false P total e told = (λ p. let h = told.0 p in omega (arith, total), λ q. told.1 (omega (arith, total)))

pub AreWithinBudget-reached : (budget : ℕ) (buffers : List (List ℕ)) (marks : List Bool) → AreWithinBudget budget buffers marks → marks ≡ reached budget buffers
AreWithinBudget-reached budget [] [] marked = refl
AreWithinBudget-reached budget [] (mark ∷ marks) marked = absurd (omega (arith, marked.len))
AreWithinBudget-reached budget (buffer ∷ buffers) [] marked = absurd (omega (arith, marked.len))
AreWithinBudget-reached budget (buffer ∷ buffers) (mark ∷ marks) marked =
    let n = length buffer in
    let same : mark ≡ nat_le n budget = same_first mark n budget (marked.each 0 (omega arith)) in
    let left = cond (nat_le n budget) (budget - n) budget in
    let rest : AreWithinBudget left buffers marks =
    record {
      len = omega (arith, marked.len);
      each = λ k within.
          subst (λ (m : Bool). (bool_at marks k ≡ true) ↔ (sum (take k (marked_lens marks buffers)) + length (buffer_at buffers k) ≤ cond m (budget - n) budget)) same
          (back n budget (sum (take k (marked_lens marks buffers))) (length (buffer_at buffers k)) (sum (cond mark n 0 ∷ take k (marked_lens marks buffers))) mark (bool_at marks k ≡ true)
          (sum_by-cons (λ x. x) (cond mark n 0) (take k (marked_lens marks buffers))) (sym same) (marked.each (suc k) (omega arith)));
    } in
    ap (λ (m : Bool). m ∷ marks) same ∙ ap (λ (ms : List Bool). nat_le n budget ∷ ms) (AreWithinBudget-reached left buffers marks rest)
