use Rattle.std.proofs.Common.{[]}
use Rattle.std.proofs.lemmas.Result.{err_from_is_err_and}
use Rattle.vx_base.specs.DTypes.{dtype_meaning}
use Rattle.vx_tree.specs.CanonicalFaults.{rows_fault}
use Rattle.vx_tree.proofs.Dictionaries.{memory_only}
use Rattle.vx_canonical.proofs.Kept.{rows_fault-none}
use Rattle.vx_canonical.proofs.canonical_zeroes.blank.Goals as goal

pub returns-in_err-none : goal.returns-in_err-none
returns-in_err-none c =
    let k = dtype_meaning c.args.dtype.now in
    let p = err_from_is_err_and c.from_residual.result c.from_residual.ensures.1 in
    rw (p.1, p.2) (memory_only (rows_fault k []) c.in_err-none.field-0.0 (rows_fault-none k) c.in_err-none.ensures.refuses)
