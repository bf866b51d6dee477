use Rattle.vx_text.proofs.ShortTexts.{text_by_ends}
use Rattle.vx_text.proofs.utf8.are_ascii.Goals as goal

pub returns : goal.returns
returns g c = text_by_ends c.args.bytes.now g.row.N c.requires.covered.0 c.requires.covered.1 c.requires.lanes
