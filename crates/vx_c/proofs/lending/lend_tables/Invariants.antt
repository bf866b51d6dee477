use Rattle.std.proofs.Common.{◌≡◌, ◌+◌, ◌≤◌, ◌++◌, map, reverse, vec_len}
use Rattle.std.specs.Vec.{vec_capacity}
use Rattle.vx_c.specs.Written.{plainly, node_of}
use Rattle.vx_c.proofs.lending.lend_tables.Given as goal

abbrev pub decreases-loop-table : goal.decreases-loop-table
decreases-loop-table l = vec_len l.tables

abbrev pub invariant-loop-table : goal.invariant-loop-table
invariant-loop-table l =
    (map (λ t. map node_of t.nodes.items) l.initial.tables.items
    ≡ map (λ t. map node_of t.nodes.items) l.tables.items ++ map (λ t. map plainly t.nodes.now) (reverse l.room.items))
    × (vec_len l.tables + vec_len l.room ≤ vec_capacity l.room)
