use Rattle.vx_text.proofs.ShortTexts.{filled_block}
use Rattle.vx_text.proofs.utf8.block_of.Goals as goal

pub returns : goal.returns
returns g c =
    rw (c.copy_from_slice-3.ensures.after, c.copy_from_slice-2.ensures.after, c.copy_from_slice.ensures.after)
    (filled_block c.args.bytes.now g.row.HALF g.row.WHOLE c.requires.covered.0 c.requires.covered.1 c.requires.within.0 c.requires.within.1)
