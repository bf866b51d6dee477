use Rattle.std.proofs.Common.{arith}
use Rattle.vx_base.proofs.RunBlocks.{put_few}
use Rattle.vx_base.proofs.number_runs.put_short.Goals as goal

pub returns-clause-put : goal.returns-clause-put
returns-clause-put g c =
    put_few c.args.block.now _ c.args.numbers.now c.args.filled 8 _ c.args.count c.args.start c.requires.count (omega (arith, c.requires.room)) c.requires.within c.copy_from_slice.ensures.after
