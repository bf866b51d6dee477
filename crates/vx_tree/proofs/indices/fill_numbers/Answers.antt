use Rattle.std.proofs.Common.{rules}
use Rattle.std.proofs.lemmas.Result.{IfOk-weaker}
use Rattle.vx_tree.specs.Tree.{primitive, non_nullable}
use Rattle.vx_tree.specs.Operations.{masked_numbers}
use Rattle.vx_tree.proofs.Positions.{ArePositions-same, indices_fault-same, masked_plain}
use Rattle.vx_tree.proofs.indices.fill_numbers.Goals as goal

pub returns-then-all_true-clause-ok : goal.returns-then-all_true-clause-ok
returns-then-all_true-clause-ok g c =
    let t = g.T.NativePType.PTYPE in
    let same = masked_plain t c.args.bytes.now c.args.mask.now c.requires.numbers (c.all_true.ensures.0 (search rules)) in
    IfOk-weaker c.fill_plain.result _ _ (λ _ h. ArePositions-same (masked_numbers t c.args.bytes.now c.args.mask.now) (primitive t c.args.bytes.now non_nullable) c.args.len c.fill_plain.new.out same h) c.fill_plain.ensures.ok

pub returns-then-all_true-clause-tests : goal.returns-then-all_true-clause-tests
returns-then-all_true-clause-tests g c =
    let t = g.T.NativePType.PTYPE in
    let same = masked_plain t c.args.bytes.now c.args.mask.now c.requires.numbers (c.all_true.ensures.0 (search rules)) in
    rw (indices_fault-same c.args.len (masked_numbers t c.args.bytes.now c.args.mask.now) (primitive t c.args.bytes.now non_nullable) same) c.fill_plain.ensures.tests
