use Rattle.std.proofs.Common.{◌<◌, length, map, pos, get_or, refl, arith}
use Rattle.std.proofs.lemmas.List.{length-map}
use Rattle.vx_views.proofs.LengthFaults.{first_too_long-here}
use Rattle.vx_text.proofs.ItemHeaps.{number_at}
use Rattle.vx_text.proofs.rebuffer.check_short.Goals as goal

pub returns-then-limit-lens : goal.returns-then-limit-lens
returns-then-limit-lens c =
    let lens = c.args.lens.now in
    let row = c.loop-row.row in
    let within : row < length lens = omega arith in (
      refl,
      first_too_long-here c.args.limit (map pos lens) row (get_or lens row 0) c.loop-row.invariant (number_at lens row within) (omega arith) (omega (arith, length-map lens pos)),
    )
