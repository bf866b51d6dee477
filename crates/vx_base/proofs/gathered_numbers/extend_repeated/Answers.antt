use Rattle.std.proofs.Common.{◌≡◌, ◌+◌, ◌*◌, ◌%◌, replicate, ap, ◌∙◌, arith}
use Rattle.std.specs.List.{flat_map}
use Rattle.std.proofs.lemmas.List.{take-replicate}
use Rattle.vx_base.proofs.Repeated.{block_more}
use Rattle.vx_base.specs.Selections.{bytes_of_position}
use Rattle.vx_base.proofs.gathered_numbers.extend_repeated.Goals as goal

pub loop-preserved : goal.loop-preserved
loop-preserved g c =
    block_more (bytes_of_position g.row.WIDTH c.args.bytes.now) c.args.picked.now.items c.args.position (c.loop.counter * 128) 128 ((c.loop.counter + 1) * 128) _ _ _ _
    c.copy_from_slice.ensures.after c.loop.invariant c.as_flattened.ensures.value c.in_ok-extend_from_slice.ensures.items (omega arith)

pub returns : goal.returns
returns g c =
    let rest = c.args.len % 128 in
    let block : c.as_flattened-2.result.now ≡ flat_map (λ ys. ys) (replicate rest c.copy_from_slice.new.self) =
    c.as_flattened-2.ensures.value ∙ ap (flat_map (λ ys. ys)) (take-replicate rest 128 c.copy_from_slice.new.self (omega arith)) in
    block_more (bytes_of_position g.row.WIDTH c.args.bytes.now) c.args.picked.now.items c.args.position (c.loop.counter * 128) rest c.args.len _ _ _ _
    c.copy_from_slice.ensures.after c.loop.invariant block c.in_ok-extend_from_slice-2.ensures.items (omega arith)
