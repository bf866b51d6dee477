use Rattle.std.proofs.Common.{◌<◌, arith}
use Rattle.std.proofs.lemmas.Result.{err_from_is_err_and}
use Rattle.vx_base.specs.Refusals.{refusal_of}
use Rattle.vx_tree.specs.Meaning.{tree_len}
use Rattle.vx_tree.proofs.Patched.{patch_found}
use Rattle.vx_tree.proofs.array.ArrayRef.check_each_patch.Goals as goal

pub returns-in_err-check_patch : goal.returns-in_err-check_patch
returns-in_err-check_patch c =
    let p = err_from_is_err_and c.from_residual.result c.from_residual.ensures.1 in
    let e = c.in_err-check_patch.ensures in
    let inside : c.loop-row.row < tree_len c.args.self.now = omega (arith, c.loop-row-test.true) in
    rw (p.1, p.2) (e.0, patch_found c.args.self.now c.args.offset c.args.len c.loop-row.row (refusal_of c.in_err-check_patch.field-0.0) c.loop-row.invariant e.1 e.0 inside)
