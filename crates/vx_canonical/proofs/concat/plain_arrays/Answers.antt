use Rattle.std.proofs.lemmas.Result.{err_from_is_err_and}
use Rattle.vx_canonical.specs.Canonical.{IsCanonical, IsCanonicalWithin}
use Rattle.vx_tree.proofs.Columns.{AllZip-next, AllZip-all}
use Rattle.vx_canonical.proofs.CanonicalArrays.{columns_fault-next, columns_fault-all, columns_refused}
use Rattle.vx_canonical.proofs.concat.plain_arrays.Goals as goal

pub returns-in_err-canonical-clause-refuses : goal.returns-in_err-canonical-clause-refuses
returns-in_err-canonical-clause-refuses c =
    let p = err_from_is_err_and c.from_residual-in_err-canonical.result c.from_residual-in_err-canonical.ensures.1 in
    rw (p.1, p.2) (columns_refused c.args.arrays.now c.loop-array.array-index c.array-item.result c.in_err-canonical.field-0.0 c.loop-array.invariant.1 c.loop-array-test.true c.array-item.is c.in_err-canonical.ensures.refuses)

pub loop-array-preserved : goal.loop-array-preserved
loop-array-preserved c = (
  AllZip-next IsCanonical c.args.arrays.now c.loop-array.plain.items c.push.new.self.items c.loop-array.array-index c.array-item.result c.in_ok-canonical.field-0
      c.loop-array.invariant.0 c.loop-array-test.true c.array-item.is c.in_ok-canonical.ensures.ok c.in_ok-push.ensures.items,
  columns_fault-next c.args.arrays.now c.loop-array.array-index c.array-item.result c.loop-array.invariant.1 c.loop-array-test.true c.array-item.is c.in_ok-canonical.ensures.refuses,
  AllZip-next IsCanonicalWithin c.args.arrays.now c.loop-array.plain.items c.push.new.self.items c.loop-array.array-index c.array-item.result c.in_ok-canonical.field-0
      c.loop-array.invariant.2 c.loop-array-test.true c.array-item.is c.in_ok-canonical.ensures.within c.in_ok-push.ensures.items,
)

pub returns-clause-ok : goal.returns-clause-ok
returns-clause-ok c = AllZip-all IsCanonical c.args.arrays.now c.loop-array.plain.items c.loop-array.array-index c.loop-array.invariant.0 c.loop-array-test.false

pub returns-clause-refuses : goal.returns-clause-refuses
returns-clause-refuses c = columns_fault-all c.args.arrays.now c.loop-array.array-index c.loop-array.invariant.1 c.loop-array-test.false

pub returns-clause-within : goal.returns-clause-within
returns-clause-within c = AllZip-all IsCanonicalWithin c.args.arrays.now c.loop-array.plain.items c.loop-array.array-index c.loop-array.invariant.2 c.loop-array-test.false
