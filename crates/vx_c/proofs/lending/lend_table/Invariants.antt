use Rattle.std.proofs.Common.{◌≡◌, ◌+◌, ◌≤◌, ◌++◌, map, reverse, vec_len}
use Rattle.std.specs.Vec.{vec_capacity}
use Rattle.vx_c.specs.Written.{plainly, node_of}
use Rattle.vx_c.proofs.lending.lend_table.Given as goal

abbrev pub decreases-loop-node : goal.decreases-loop-node
decreases-loop-node l = vec_len l.nodes

abbrev pub invariant-loop-node : goal.invariant-loop-node
invariant-loop-node l =
    (map node_of l.initial.nodes.items ≡ map node_of l.nodes.items ++ map plainly (reverse l.room.items))
    × (vec_len l.nodes + vec_len l.room ≤ vec_capacity l.room)
