use Rattle.vx_pack.proofs.RunPieces.{no_run_pushed, run_pushed}
use Rattle.vx_pack.proofs.run_pieces.push_run.Goals as goal

pub returns-in_ok-push : goal.returns-in_ok-push
returns-in_ok-push c =
    run_pushed c.args.elements.now c.args.start _ c.part_of.result c.args.lists.now.items c.push.new.self.items c.part_of.ensures
    c.in_ok-push.ensures.items

pub returns-else-start-end : goal.returns-else-start-end
returns-else-start-end c = no_run_pushed c.args.elements.now c.args.start c.args.end c.args.lists.now.items c.if-start-end.false
