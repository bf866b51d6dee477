use Rattle.std.proofs.Common.{◌<◌, length, get_or, refl, arith, rules}
use Rattle.vx_text.proofs.HeapCounts.{counted, counting_closed, counting_kept, short_at, too_many_bytes, too_many_pieces}
use Rattle.vx_text.proofs.rebuffer.heap_len.Goals as goal
use Rattle.vx_text.proofs.rebuffer.heap_len.Goals.{then-limit-at+else-number, else-limit-at}

pub returns-then-at-size-clause-tests : goal.returns-then-at-size-clause-tests
returns-then-at-size-clause-tests c =
    let lens = c.args.lens.now in
    let row = c.loop-row.row in
    let found = too_many_bytes c.args.limit lens row (get_or lens row 0) c.loop-row.number c.loop-row.begin c.loop-row.at refl (omega arith) (omega arith) c.loop-row.invariant in
    (found.0, (found.1.0, (refl, found.1.1)))

pub returns-then-number-clause-tests : goal.returns-then-number-clause-tests
returns-then-number-clause-tests c =
    let lens = c.args.lens.now in
    let row = c.loop-row.row in
    let found = too_many_pieces c.args.limit lens row (get_or lens row 0) c.loop-row.number c.loop-row.begin c.loop-row.at c.requires.short refl (omega arith) (omega arith) (omega arith) c.loop-row.invariant in
    (found.0, (found.1.0, (refl, found.1.1)))

pub loop-row-preserved : goal.loop-row-preserved
loop-row-preserved c =
    let lens = c.args.lens.now in
    let row = c.loop-row.row in
    let within : row < length lens = omega arith in
    elim c.if-limit-at.branch [
      | then-limit-at+else-number w ↦ counting_closed c.args.limit lens row (get_or lens row 0) c.loop-row.number _ c.loop-row.begin _ c.loop-row.at (search rules) (search rules) refl within (short_at c.args.limit lens row c.requires.short within) w.if-limit-at.true c.loop-row.invariant
      | else-limit-at w ↦ counting_kept c.args.limit lens row (get_or lens row 0) c.loop-row.number _ c.loop-row.begin _ c.loop-row.at (search rules) (search rules) refl within w.if-limit-at.false c.loop-row.invariant
    ]

pub returns-clause-tests : goal.returns-clause-tests
returns-clause-tests c =
    counted c.args.limit c.args.lens.now c.loop-row.row c.loop-row.number c.loop-row.begin c.loop-row.at (omega arith) (omega arith) (omega arith) c.loop-row.invariant
