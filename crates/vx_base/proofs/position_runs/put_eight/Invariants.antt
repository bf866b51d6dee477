use Rattle.std.proofs.Common.{◌≡◌, ◌+◌, ◌≤◌, ◌^◌, ◌++◌, ℕ, length, take}
use Rattle.std.specs.List.{range_with_len}
use Rattle.vx_base.proofs.position_runs.put_eight.Given as goal

abbrev pub invariant-loop-i : goal.invariant-loop-i
invariant-loop-i l = (length l.out ≡ length l.fn.out) × ((n : ℕ) → n ≤ l.i → l.start + n ≤ 2 ^ 64 → take (l.at + n) l.out ≡ take l.at l.fn.out ++ range_with_len l.start n)
