use Rattle.std.proofs.Common.{◌≡◌, ◌≤◌, ◌+◌, None, to_z, of_z, sym, ap, ◌∙◌, arith}
use Rattle.std.specs.Int.{w128}
use Rattle.std.proofs.lemmas.Bool.{false≢true}
use Rattle.vx_base.proofs.FirstFaults.{first_fault-next}
use Rattle.vx_base.specs.Integers.{numbers, number_nth}
use Rattle.vx_base.specs.Rows.{whole}
use Rattle.vx_base.proofs.NumberBytes.{number_passed}
use Rattle.vx_tree.specs.Meaning.{row_at}
use Rattle.vx_tree.specs.Tree.{primitive, non_nullable}
use Rattle.vx_tree.specs.Patches.{patch_row_fault}
use Rattle.vx_tree.proofs.validity.patch.are_patches.Goals.{then-not-is_patch, else-not-is_patch}
use Rattle.vx_tree.proofs.validity.patch.are_patches.Goals as goal

pub loop-row-preserved : goal.loop-row-preserved
loop-row-preserved g c = λ yes. elim c.if-not-is_patch.branch [
  | then-not-is_patch w ↦ absurd (false≢true (sym w.are_all-is ∙ yes))
  | else-not-is_patch w ↦
      let t = g.T.NativePType.PTYPE in
      let row = c.loop-row.row in
      let offset = c.args.offset in
      let len = c.args.len in
      let read : c.int_at.result ≡ number_nth (numbers t c.args.bytes.now) row = rw c.PTYPE-in-loop-row.ensures at c.int_at.ensures.value in
      let passed : to_z w128 (of_z w128 c.int_at.result) ≡ c.int_at.result = number_passed t c.int_at.result (rw c.PTYPE-in-loop-row.ensures at c.int_at.ensures.holds) in
      let within : c.saturating_add-end.result ≤ offset + len = omega (arith, c.saturating_add-end.ensures) in
      let here : patch_row_fault offset len row (whole (number_nth (numbers t c.args.bytes.now) row)) ≡ None = ap (λ z. patch_row_fault offset len row (whole z)) (sym read ∙ sym passed) ∙ c.is_patch.ensures row len within w.if-not-is_patch.false in
      first_fault-next (λ i. patch_row_fault offset len i (row_at (primitive t c.args.bytes.now non_nullable) i)) row (c.loop-row.invariant (sym w.are_all-is ∙ yes)) here
]
