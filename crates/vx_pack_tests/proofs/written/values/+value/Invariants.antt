use Rattle.std.proofs.Common.{◌+◌, ◌*◌}
use Rattle.vx_pack_tests.proofs.written.values.+value.Given as goal

abbrev pub decreases-write_value : goal.decreases-write_value
decreases-write_value g l = 2 * l.levels

abbrev pub decreases-write_values : goal.decreases-write_values
decreases-write_values g l = 2 * l.levels + 1
