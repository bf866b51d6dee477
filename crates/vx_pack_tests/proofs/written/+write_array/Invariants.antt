use Rattle.vx_pack_tests.proofs.written.+write_array.Given as goal

abbrev pub decreases-write_array : goal.decreases-write_array
decreases-write_array g l = l.levels
