-- Ranges that are not refused.
use Rattle.std.proofs.Common.{◌≡◌, ℕ, ◌≤◌, Bool, true, false, cond, Some, None, nat_lt, refl}
use Rattle.std.proofs.lemmas.Bool.{ltb-false}
use Rattle.vx_base.specs.Refusals.{out_of_bounds}
use Rattle.vx_tree.specs.Faults.{slice_fault}

-- a range that is not refused lies within
pub slice_within : (len start end : ℕ) → slice_fault len start end ≡ None → (start ≤ end) × (end ≤ len)
slice_within len start end accepted =
    let tests = tested (nat_lt len end) (nat_lt end start) accepted in (ltb-false end start tests.1, ltb-false len end tests.0)
  where
    tested : (past falling : Bool) → cond past (Some (out_of_bounds end)) (cond falling (Some (out_of_bounds start)) None) ≡ None → (past ≡ false) × (falling ≡ false)
    tested true falling h = cc
    tested false true h = cc
    tested false false h = (refl, refl)
