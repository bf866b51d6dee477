use Rattle.std.proofs.Common.{◌≡◌, to_z, of_z, sym, ap, ◌∙◌, inl, inr, arith}
use Rattle.std.specs.Int.{w128}
use Rattle.std.proofs.lemmas.Bool.{false≢true, cases_lt}
use Rattle.vx_base.specs.Integers.{numbers, number_nth}
use Rattle.vx_base.specs.Rows.{whole}
use Rattle.vx_base.proofs.NumberBytes.{number_passed}
use Rattle.vx_tree.specs.Faults.{index_fault}
use Rattle.vx_leaves.proofs.code_checks.are_all_positions.Goals.{then-not-is_position, else-not-is_position}
use Rattle.vx_leaves.proofs.code_checks.are_all_positions.Goals as goal

pub loop-row-preserved : goal.loop-row-preserved
loop-row-preserved g c = λ yes i low high. elim c.if-not-is_position.branch [
  | then-not-is_position w ↦ absurd (false≢true (sym w.are_all-is ∙ yes))
  | else-not-is_position w ↦ elim (cases_lt i c.loop-row.row) [
    | inl before ↦ c.loop-row.invariant (sym w.are_all-is ∙ yes) i low before
    | inr after ↦
        let t = g.T.NativePType.PTYPE in
        let bs = c.args.bytes.now in
        let row = c.loop-row.row in
        let here : row ≡ i = omega arith in
        let read : c.int_at.result ≡ number_nth (numbers t bs) row = rw c.PTYPE.ensures at c.int_at.ensures.value in
        let passed : to_z w128 (of_z w128 c.int_at.result) ≡ c.int_at.result = number_passed t c.int_at.result (rw c.PTYPE.ensures at c.int_at.ensures.holds) in
        rw (← here) (ap (λ z. index_fault c.args.len row (whole z)) (sym read ∙ sym passed) ∙ c.is_position.ensures row w.if-not-is_position.false)
  ]
]
