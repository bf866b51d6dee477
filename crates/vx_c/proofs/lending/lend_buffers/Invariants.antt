use Rattle.std.proofs.Common.{◌≡◌, ◌+◌, ◌≤◌, ◌++◌, map, reverse, vec_len}
use Rattle.std.specs.Vec.{vec_capacity}
use Rattle.vx_c.proofs.lending.lend_buffers.Given as goal

abbrev pub decreases-loop-block : goal.decreases-loop-block
decreases-loop-block l = vec_len l.blocks

abbrev pub invariant-loop-block : goal.invariant-loop-block
invariant-loop-block l =
    (map (λ b. b.items) l.initial.blocks.items ≡ map (λ b. b.items) l.blocks.items ++ map (λ b. b.bytes.now) (reverse l.room.items))
    × (vec_len l.blocks + vec_len l.room ≤ vec_capacity l.room)
