use Rattle.std.proofs.Common.{refl, sym, subst}
use Rattle.vx_base.specs.DTypes.{dtype_meaning}
use Rattle.vx_base.specs.Refusals.{Tests}
use Rattle.vx_structs.proofs.Structs.Faults.{typed_column_fault-same, typed_column_fault-other}
use Rattle.vx_structs.proofs.checks.check_typed_column.Goals as goal

pub returns-then-ne : goal.returns-then-ne
returns-then-ne c =
    let k = dtype_meaning c.args.dtype.now in
    (refl, typed_column_fault-other k c.args.len c.args.column.now (dtype_meaning c.dtype.result.now) c.ne.result c.dtype.ensures c.ne.ensures c.if-ne.true)

pub returns : goal.returns
returns c =
    let same = typed_column_fault-same (dtype_meaning c.args.dtype.now) c.args.len c.args.column.now (dtype_meaning c.dtype.result.now) c.ne.result c.dtype.ensures c.ne.ensures c.if-ne.false in
    subst (Tests c.check_len.result) (sym same) c.check_len.ensures
