use Rattle.std.proofs.Common.{◌≡◌, None, to_z, of_z, sym, ap, ◌∙◌}
use Rattle.std.specs.Int.{w128}
use Rattle.std.proofs.lemmas.Bool.{false≢true}
use Rattle.vx_base.proofs.FirstFaults.{first_fault-next}
use Rattle.vx_base.specs.Integers.{numbers, number_nth}
use Rattle.vx_base.specs.Rows.{whole}
use Rattle.vx_base.proofs.NumberBytes.{number_passed}
use Rattle.vx_tree.specs.Faults.{index_fault}
use Rattle.vx_tree.specs.Meaning.{row_at}
use Rattle.vx_tree.specs.Tree.{primitive, non_nullable}
use Rattle.vx_tree.proofs.indices.checks.are_positions.Goals.{then-not-is_position, else-not-is_position}
use Rattle.vx_tree.proofs.indices.checks.are_positions.Goals as goal

pub loop-row-preserved : goal.loop-row-preserved
loop-row-preserved g c = λ yes. elim c.if-not-is_position.branch [
  | then-not-is_position w ↦ absurd (false≢true (sym w.are_all-is ∙ yes))
  | else-not-is_position w ↦
      let t = g.T.NativePType.PTYPE in
      let row = c.loop-row.row in
      let read : c.int_at.result ≡ number_nth (numbers t c.args.bytes.now) row = rw c.PTYPE-in-loop-row.ensures at c.int_at.ensures.value in
      let passed : to_z w128 (of_z w128 c.int_at.result) ≡ c.int_at.result = number_passed t c.int_at.result (rw c.PTYPE-in-loop-row.ensures at c.int_at.ensures.holds) in
      let here : index_fault c.args.len row (whole (number_nth (numbers t c.args.bytes.now) row)) ≡ None = ap (λ z. index_fault c.args.len row (whole z)) (sym read ∙ sym passed) ∙ c.is_position.ensures row w.if-not-is_position.false in
      first_fault-next (λ i. index_fault c.args.len i (row_at (primitive t c.args.bytes.now non_nullable) i)) row (c.loop-row.invariant (sym w.are_all-is ∙ yes)) here
]
