use Rattle.vx_tree.specs.Tree.{bools, by_array, non_nullable}
use Rattle.vx_tree.proofs.Named.{numbers_are_indices, own_numbers_named}
use Rattle.vx_tree.proofs.indices.masked.masked_indices.Goals as goal

pub returns-then-are_all_positions-clause-ok : goal.returns-then-are_all_positions-clause-ok
returns-then-are_all_positions-clause-ok c =
    numbers_are_indices c.args.ptype c.args.bytes.now (by_array (bools 0 c.args.valid.now.bits non_nullable)) c.args.len c.of_numbers.result c.of_numbers.ensures (c.are_all_positions.ensures c.if-are_all_positions.true)

pub returns-clause-ok : goal.returns-clause-ok
returns-clause-ok c =
    own_numbers_named c.args.ptype c.args.bytes.now c.in_ok-own.own.items c.of_own_numbers.result c.args.valid.now.bits c.args.len c.of_own_numbers.ensures c.requires.bits c.in_ok-check_valid.ensures c.in_ok-own.ensures
