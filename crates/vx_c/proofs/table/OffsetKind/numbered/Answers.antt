use Rattle.std.proofs.lemmas.Bool.{le-ltb}
use Rattle.vx_c.proofs.table.OffsetKind.numbered.Goals as goal

pub returns : goal.returns
returns c = rw (le-ltb c.args.number 15 c.if-number-lt15.false) c.at.ensures
