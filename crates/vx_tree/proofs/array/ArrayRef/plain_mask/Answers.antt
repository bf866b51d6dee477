use Rattle.std.proofs.Common.{refl}
use Rattle.vx_tree.proofs.Masks.{truths_of_repeated}
use Rattle.vx_tree.proofs.array.ArrayRef.plain_mask.Goals as goal

pub returns-then-is_repeated : goal.returns-then-is_repeated
returns-then-is_repeated c =
    rw c.mask_of_one.ensures (truths_of_repeated c.args.self.now c.truth_at.result c.len.result (c.if-is_repeated.ensures refl) c.len.ensures c.truth_at.ensures)
