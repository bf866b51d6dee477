use Rattle.std.proofs.Common.{◌+◌, ◌<◌, ◌^◌, false, length, arith}
use Rattle.std.proofs.lemmas.Grind.{common_steps}
use Rattle.std.proofs.lemmas.List.{take_more}
use Rattle.std.proofs.lemmas.Result.{err_from_is_err_and}
use Rattle.vx_base.proofs.Refused.{memory_alone}
use Rattle.vx_tree.proofs.read.append_each.Goals as goal

pub loop-i-preserved : goal.loop-i-preserved
loop-i-preserved c =
    grind (arith, common_steps, take_more c.args.more.now.bits c.loop-i.i false (omega arith))

pub returns-in_err-append : goal.returns-in_err-append
returns-in_err-append c =
    let p = err_from_is_err_and c.from_residual.result c.from_residual.ensures.1 in
    let few : length c.loop-i.bits + 1 < 2 ^ 64 = grind (arith, common_steps) in
    rw (p.1, p.2) (memory_alone (length c.loop-i.bits + 1) c.in_err-append.field-0.0 few c.in_err-append.ensures.refuses)
