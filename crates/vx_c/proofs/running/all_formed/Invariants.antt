use Rattle.std.proofs.Common.{ℕ, ◌<◌, get_or}
use Rattle.vx_tree.specs.Tree.{Tree}
use Rattle.vx_tree.specs.Fitting.{AllFormed}
use Rattle.vx_c.proofs.running.all_formed.Given as goal

abbrev pub invariant-loop-array : goal.invariant-loop-array
invariant-loop-array l = (k : ℕ) (d : Tree) → k < l.array-index → AllFormed (get_or l.arrays k d)
