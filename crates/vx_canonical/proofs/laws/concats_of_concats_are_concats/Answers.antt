use Rattle.vx_canonical.proofs.ConcatenatedTwice.{concats_compose, extents_compose}
use Rattle.vx_canonical.proofs.laws.concats_of_concats_are_concats.Goals as goal

pub returns-clause-refused : goal.returns-clause-refused
returns-clause-refused c = concats_compose

pub returns-clause-extents : goal.returns-clause-extents
returns-clause-extents c = extents_compose
