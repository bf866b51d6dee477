use Rattle.std.proofs.Common.{take}
use Rattle.std.specs.Cmp.{unsigned_Decides}
use Rattle.std.proofs.lemmas.Slice.Eq.{slice_eq-Decides}
use Rattle.vx_base.proofs.Packing.{whole_same}
use Rattle.vx_base.proofs.bit_bytes.same_whole.Goals as goal

pub returns : goal.returns
returns c =
    let xs = c.args.left.now in
    let ys = c.args.right.now in
    let n = c.args.count in
    let same = slice_eq-Decides unsigned_Decides (take n xs) (take n ys) c.eq.result c.eq.ensures in
    let bits = whole_same xs ys n c.requires.left c.requires.right (λ i. (c.type_inv.left i).fits) (λ i. (c.type_inv.right i).fits) in
    (λ h. bits.0 (same.0 h), λ e. same.1 (bits.1 e))
