use Rattle.std.proofs.Common.{arith}
use Rattle.std.proofs.lemmas.Result.{err_from_is_err_and}
use Rattle.vx_base.proofs.FirstFaults.{first_fault-of_none}
use Rattle.vx_tree.specs.Faults.{index_fault}
use Rattle.vx_tree.specs.Meaning.{row_at}
use Rattle.vx_leaves.proofs.CodeRows.{Names-met}
use Rattle.vx_leaves.proofs.code_checks.check_rows.Goals as goal

pub loop-row-init : goal.loop-row-init
loop-row-init c = first_fault-of_none (λ i. index_fault c.args.len i (row_at c.args.codes.now i)) c.args.rows.start c.requires.before

pub returns-in_err-check_row : goal.returns-in_err-check_row
returns-in_err-check_row c =
    let p = err_from_is_err_and c.from_residual.result c.from_residual.ensures.1 in
    rw (p.1, p.2) (Names-met (λ i. index_fault c.args.len i (row_at c.args.codes.now i)) c.args.rows.end c.loop-row.row c.in_err-check_row.field-0.0 c.loop-row.invariant c.in_err-check_row.ensures (omega arith))
