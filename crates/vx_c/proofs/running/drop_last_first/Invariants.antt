use Rattle.std.proofs.Common.{vec_len}
use Rattle.vx_c.proofs.running.drop_last_first.Given as goal

abbrev pub decreases-loop-array : goal.decreases-loop-array
decreases-loop-array l = vec_len l.arrays
