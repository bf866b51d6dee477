use Rattle.std.proofs.Common.{◌+◌, length, refl, ap, arith}
use Rattle.std.proofs.lemmas.List.FromFn.{length-map-range_with_len}
use Rattle.vx_base.specs.Rows.{truth_of}
use Rattle.vx_tree.specs.Meaning.{tree_len, row_at}
use Rattle.vx_tree.proofs.Joins.{added}
use Rattle.vx_tree.proofs.Masks.{truths_of_repeated}
use Rattle.vx_tree.proofs.array.ArrayRef.append_truths.Goals as goal

pub returns-then-is_repeated : goal.returns-then-is_repeated
returns-then-is_repeated c =
    added c.append_n.result _ _ _ _ (length c.args.bits.now + c.len.result) (omega (arith, c.requires.short, c.len.ensures)) c.append_n.ensures.ok c.append_n.ensures.refuses
    (truths_of_repeated c.args.self.now c.truth_at.result c.len.result (c.if-is_repeated.ensures refl) c.len.ensures c.truth_at.ensures)

pub append_bits-requires : goal.append_bits-requires
append_bits-requires c =
    let counted = length-map-range_with_len (λ i. truth_of (row_at c.args.self.now i)) 0 (tree_len c.args.self.now) in
    omega (arith, c.requires.short, ap length c.in_ok-truths.ensures.bits, counted)

pub returns : goal.returns
returns c = rw c.in_ok-truths.ensures.bits at c.append_bits.ensures
