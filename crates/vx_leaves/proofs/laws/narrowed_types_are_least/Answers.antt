use Rattle.vx_leaves.proofs.NarrowedTypes.{narrowed_types}
use Rattle.vx_leaves.proofs.laws.narrowed_types_are_least.Goals as goal

pub returns : goal.returns
returns c = narrowed_types
