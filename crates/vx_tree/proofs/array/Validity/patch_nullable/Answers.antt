use Rattle.std.proofs.Common.{arith}
use Rattle.std.proofs.lemmas.Grind.{common_steps}
use Rattle.vx_tree.proofs.array.Validity.patch_nullable.Goals as goal

pub returns-clause-patched : goal.returns-clause-patched
returns-clause-patched c = c.in_ok-patched.ensures.patched

pub returns-clause-refuses : goal.returns-clause-refuses
returns-clause-refuses c = grind (arith, common_steps)
