use Rattle.vx_pack.proofs.SameElements.{told_by_rows}
use Rattle.vx_pack.proofs.lists_anywhere.same_lists_anywhere.Goals as goal

pub returns : goal.returns
returns c =
    told_by_rows c.args.a.now c.args.b.now c.in_ok-elements.elements c.same_blocks.result c.requires.first c.requires.second
    c.in_ok-elements.ensures c.requires.same_len c.same_blocks.ensures
