use Rattle.std.proofs.Common.{arith}
use Rattle.std.proofs.lemmas.Grind.{common_steps}
use Rattle.vx_tree.proofs.array.Validity.patch.Goals as goal

pub returns-clause-patched : goal.returns-clause-patched
returns-clause-patched c = λ e. c.patch_nullable-patched.ensures.patched

pub returns-clause-refuses : goal.returns-clause-refuses
returns-clause-refuses c = c.patch_nullable-patched.ensures.refuses

pub returns-then-is_unchanged-clause-patched : goal.returns-then-is_unchanged-clause-patched
returns-then-is_unchanged-clause-patched c = grind (arith, common_steps)

pub returns-then-is_unchanged-clause-refuses : goal.returns-then-is_unchanged-clause-refuses
returns-then-is_unchanged-clause-refuses c = grind (arith, common_steps)

pub returns-then-is_unchanged-clause-same : goal.returns-then-is_unchanged-clause-same
returns-then-is_unchanged-clause-same c = grind (arith, common_steps)
