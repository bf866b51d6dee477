use Rattle.std.proofs.Common.{◌≡◌, ◌*◌, vec_len}
use Rattle.vx_run.specs.declared.script.TheConstants.{BLOCK_BYTES}
use Rattle.vx_run.specs.Script.{ConsumesAtMost}
use Rattle.vx_run.specs.Shown.{Grows}
use Rattle.vx_run.proofs.script.Script.run_all.Given as goal

abbrev pub invariant-loop : goal.invariant-loop
invariant-loop g l =
    (l.input.input.ghost_name ≡ l.fn.input.input.ghost_name)
    × ConsumesAtMost (l.input.reads * BLOCK_BYTES) (g.R.Read.remaining l.fn.input.input.now) (g.R.Read.remaining l.input.input.now)
    × Grows (g.W.Write.contents l.fn.output) (g.W.Write.contents l.output)
    × (vec_len l.block ≡ BLOCK_BYTES)
