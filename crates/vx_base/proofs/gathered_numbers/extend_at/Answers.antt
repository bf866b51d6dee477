use Rattle.std.proofs.Common.{rules, ◌≡◌, ◌+◌, ◌*◌, length, map, take, ap, ◌∙◌, arith}
use Rattle.std.specs.Prelude.{slice_range}
use Rattle.std.proofs.lemmas.List.{length-take-le}
use Rattle.vx_base.proofs.Blocks.{next_pieces, end_of_block}
use Rattle.vx_base.specs.Selections.{bytes_of_position}
use Rattle.vx_base.proofs.gathered_numbers.extend_at.Goals as goal

pub loop-at-preserved : goal.loop-at-preserved
loop-at-preserved g c =
    let f = bytes_of_position g.row.WIDTH c.args.bytes.now in
    let ps = g.P.Places.positions c.args.places in
    let start = c.loop-at.at * 512 in
    let size = c.min.result in
    let long : length (take size c.loop-at.block) ≡ size = search (rules, length-take-le) in
    let read : c.read_numbers_at.new.out ≡ map f (slice_range ps start (start + size)) = c.read_numbers_at.ensures ∙ ap (λ n. map f (slice_range ps start (start + n))) long in
    next_pieces f c.args.picked.now.items ps start size ((c.loop-at.at + 1) * 512) _ _ _ _ (end_of_block ps start size 512 c.count-count.result (omega (arith, c.count-count.ensures)) c.min.ensures ∙ ap (λ n. take n ps) (omega arith)) c.loop-at.invariant read c.as_flattened.ensures.value c.in_ok-extend_from_slice.ensures.items
