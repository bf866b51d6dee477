use Rattle.std.proofs.Common.{◌-◌, ◌<◌, ◌≤◌, ◌++◌, length, ap, ◌∙◌, arith}
use Rattle.vx_base.proofs.Runs.{in_run, part_by_places}
use Rattle.vx_base.proofs.gathered_items.append_items.Goals as goal

pub offset_bounds-items-start : goal.offset_bounds-items-start
offset_bounds-items-start g c =
    let last : c.args.end - 1 < length c.args.items.now = in_run (λ k. k < length c.args.items.now) (c.args.start, c.args.end) (c.args.end - 1) c.requires (omega arith) (omega arith) in
    omega arith

pub slice_bounds-extend_from_slice-end : goal.slice_bounds-extend_from_slice-end
slice_bounds-extend_from_slice-end g c =
    let last : c.args.end - 1 < length c.args.items.now = in_run (λ k. k < length c.args.items.now) (c.args.start, c.args.end) (c.args.end - 1) c.requires (omega arith) (omega arith) in
    let within : c.args.end ≤ length c.args.items.now = omega arith in
    within

pub returns-in_ok-extend_from_slice : goal.returns-in_ok-extend_from_slice
returns-in_ok-extend_from_slice g c = λ d.
    let last : c.args.end - 1 < length c.args.items.now = in_run (λ k. k < length c.args.items.now) (c.args.start, c.args.end) (c.args.end - 1) c.requires (omega arith) (omega arith) in
    c.in_ok-extend_from_slice.ensures.items ∙ ap (λ more. c.args.picked.now.items ++ more) (part_by_places c.args.items.now d c.args.start c.args.end (omega arith) (omega arith))
