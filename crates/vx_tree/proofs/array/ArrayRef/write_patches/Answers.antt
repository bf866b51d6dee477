use Rattle.std.proofs.Common.{◌∙◌, sym, ap, length}
use Rattle.vx_tree.specs.Named.{HasNumbers}
use Rattle.vx_tree.specs.Patches.{overwritten}
use Rattle.vx_tree.proofs.Patched.{numbers_patched, numbers_patch_fault}
use Rattle.vx_tree.proofs.array.ArrayRef.write_patches.Goals as goal

pub write_numbers-requires-clause-named : goal.write_numbers-requires-clause-named
write_numbers-requires-clause-named c =
    let has : HasNumbers c.args.self.now c.in-Some.ptype c.in-Some.bytes.now = rw (c.in-Some.ptype-is, c.in-Some.bytes-is) c.in-Some.ensures in
    sym (numbers_patch_fault c.args.offset (length c.args.out.now) c.args.self.now c.in-Some.ptype c.in-Some.bytes.now has) ∙ c.requires.named

pub returns-in-Some : goal.returns-in-Some
returns-in-Some c =
    let has : HasNumbers c.args.self.now c.in-Some.ptype c.in-Some.bytes.now = rw (c.in-Some.ptype-is, c.in-Some.bytes-is) c.in-Some.ensures in
    c.write_numbers.ensures ∙ ap (λ ps. overwritten c.args.out.now ps c.args.values.now.bits) (sym (numbers_patched c.args.offset c.args.self.now c.in-Some.ptype c.in-Some.bytes.now has))
