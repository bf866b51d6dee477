use Rattle.vx_c.proofs.PackedPlain.{packed_plain}
use Rattle.vx_c.proofs.ReadBack.{read_plain}
use Rattle.vx_c.proofs.laws.packed_arrays_are_read_back_as_they_are.Goals as goal

pub returns-clause-plain : goal.returns-clause-plain
returns-clause-plain c = packed_plain

pub returns-clause-read : goal.returns-clause-read
returns-clause-read c = read_plain
