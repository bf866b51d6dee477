use Rattle.std.proofs.Common.{arith}
use Rattle.std.proofs.lemmas.Grind.{common_steps}
use Rattle.vx_tree.proofs.array.Validity.patch_rows.Goals as goal

pub returns-clause-refuses : goal.returns-clause-refuses
returns-clause-refuses c = grind (arith, common_steps)
