use Rattle.std.proofs.Common.{◌≡◌, ◌+◌, None, to_z, of_z, sym, ap, ◌∙◌, arith}
use Rattle.std.specs.Int.{w64, w128, trailing_zeros}
use Rattle.vx_base.specs.Integers.{numbers, number_nth}
use Rattle.vx_base.specs.Rows.{whole}
use Rattle.vx_base.proofs.NumberBytes.{number_passed}
use Rattle.vx_tree.specs.Faults.{index_fault}
use Rattle.vx_leaves.proofs.SetBits.{lowest_is, set_before, IsDone-none, IsDone-next}
use Rattle.vx_leaves.proofs.code_checks.are_positions.Goals as goal

pub overflow_add-row : goal.overflow_add-row
overflow_add-row g c =
    let lowest = lowest_is c.loop-rest.rest (omega arith) (omega arith) in
    let inside = set_before c.args.word c.args.rows.start c.args.rows.end (trailing_zeros w64 c.loop-rest.rest) c.requires.none (c.loop-rest.invariant.among (trailing_zeros w64 c.loop-rest.rest) lowest.set) in
    omega (arith, inside)

pub int_at-requires : goal.int_at-requires
int_at-requires g c =
    let lowest = lowest_is c.loop-rest.rest (omega arith) (omega arith) in
    let inside = set_before c.args.word c.args.rows.start c.args.rows.end (trailing_zeros w64 c.loop-rest.rest) c.requires.none (c.loop-rest.invariant.among (trailing_zeros w64 c.loop-rest.rest) lowest.set) in
    rw c.PTYPE.ensures (omega (arith, inside, c.requires.within))

pub loop-rest-preserved : goal.loop-rest-preserved
loop-rest-preserved g c =
    let t = g.T.NativePType.PTYPE in
    let zs = numbers t c.args.bytes.now in
    let rest = c.loop-rest.rest in
    let row = c.args.rows.start + trailing_zeros w64 rest in
    let lowest = lowest_is rest (omega arith) (omega arith) in
    let read : c.int_at.result ≡ number_nth zs row = rw c.PTYPE.ensures at c.int_at.ensures.value in
    let passed : to_z w128 (of_z w128 c.int_at.result) ≡ c.int_at.result = number_passed t c.int_at.result (rw c.PTYPE.ensures at c.int_at.ensures.holds) in
    let none : index_fault c.args.len row (whole (number_nth zs row)) ≡ None = ap (λ z. index_fault c.args.len row (whole z)) (sym read ∙ sym passed) ∙ c.is_position.ensures row c.if-not-is_position.false in
    IsDone-next c.args.word rest (trailing_zeros w64 rest) _ (λ i. index_fault c.args.len (c.args.rows.start + i) (whole (number_nth zs (c.args.rows.start + i))) ≡ None) lowest none c.loop-rest.invariant

pub loop-rest-init : goal.loop-rest-init
loop-rest-init g c = IsDone-none c.args.word _
