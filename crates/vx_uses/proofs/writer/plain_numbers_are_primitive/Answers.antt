use Rattle.std.proofs.Common.{subst}
use Rattle.vx_tree.specs.Formed.{WellFormed}
use Rattle.vx_uses.proofs.StoredNumbers.{plain_numbers}
use Rattle.vx_uses.proofs.writer.plain_numbers_are_primitive.Goals as goal

pub returns : goal.returns
returns c = plain_numbers c.args.array.now (subst WellFormed c.layout.ensures.parts c.layout.ensures.formed) c.requires.plain c.requires.numbers
