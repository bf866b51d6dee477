use Rattle.std.proofs.Common.{◌∙◌}
use Rattle.vx_tree.specs.Named.{HasNumbers}
use Rattle.vx_tree.proofs.Patched.{numbers_patch_fault}
use Rattle.vx_tree.proofs.array.ArrayRef.check_patch_positions.Goals as goal

pub returns : goal.returns
returns c =
    let has : HasNumbers c.args.self.now c.in-Some.ptype c.in-Some.bytes.now = rw (c.in-Some.ptype-is, c.in-Some.bytes-is) c.in-Some.ensures in
    numbers_patch_fault c.args.offset c.args.len c.args.self.now c.in-Some.ptype c.in-Some.bytes.now has ∙ c.are_all_patches.ensures c.if-are_all_patches.true
