use Rattle.std.proofs.Common.{◌+◌, ◌*◌}
use Rattle.vx_pack_tests.proofs.written.dtypes.+dtype.Given as goal

abbrev pub decreases-write_dtype : goal.decreases-write_dtype
decreases-write_dtype g l = 2 * l.levels

abbrev pub decreases-write_fields : goal.decreases-write_fields
decreases-write_fields g l = 2 * l.levels + 1
