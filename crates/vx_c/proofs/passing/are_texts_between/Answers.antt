use Rattle.std.proofs.Common.{◌≡◌, ◌+◌, length, subst, sym, IsUtf8, arith}
use Rattle.vx_base.specs.Integers.{numbers}
use Rattle.vx_base.specs.declared.ptypes.PType.TheVariants.{I32, I64}
use Rattle.vx_c.specs.Spans.{between}
use Rattle.vx_c.specs.Told.{heap_in}
use Rattle.vx_c.proofs.passing.are_texts_between.Goals as goal

pub returns-in-I32-clause-texts : goal.returns-in-I32-clause-texts
returns-in-I32-clause-texts c = λ told i inside.
    let n = c.args.node.now in
    let long : length (numbers I32 n.bytes.now) ≡ n.length + 1 = rw c.in-I32.is at (c.has_one_more.ensures c.if-not-has_one_more.false) in
    subst (λ t. IsUtf8 (between (numbers t n.bytes.now) (heap_in n) i)) (sym c.in-I32.is)
    (subst (λ h. IsUtf8 (between (numbers I32 n.bytes.now) h i)) c.heap_of-heap.ensures (c.are_texts.ensures.texts told i (omega (arith, inside, long))))

pub returns-in-I64-clause-texts : goal.returns-in-I64-clause-texts
returns-in-I64-clause-texts c = λ told i inside.
    let n = c.args.node.now in
    let long : length (numbers I64 n.bytes.now) ≡ n.length + 1 = rw c.in-I64.is at (c.has_one_more.ensures c.if-not-has_one_more.false) in
    subst (λ t. IsUtf8 (between (numbers t n.bytes.now) (heap_in n) i)) (sym c.in-I64.is)
    (subst (λ h. IsUtf8 (between (numbers I64 n.bytes.now) h i)) c.heap_of-heap.ensures (c.are_texts-in-I64.ensures.texts told i (omega (arith, inside, long))))
