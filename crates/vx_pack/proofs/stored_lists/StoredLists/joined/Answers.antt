use Rattle.std.proofs.Common.{arith}
use Rattle.vx_pack.proofs.JoinedRuns.{stored_items_of}
use Rattle.vx_pack.proofs.stored_lists.StoredLists.joined.Goals as goal

pub part_of-requires : goal.part_of-requires
part_of-requires c = omega (arith, c.in_ok-start.ensures.0, c.in_ok-start.ensures.1, c.len.ensures)

pub returns : goal.returns
returns c =
    stored_items_of c.args.self c.in_ok-start.start c.in_ok-start.end c.part_of.result c.in_ok-start.ensures.2 c.part_of.ensures
