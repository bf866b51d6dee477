use Rattle.std.proofs.Common.{◌≡◌, ap, sym, ◌∙◌, length}
use Rattle.vx_base.proofs.Refused.{Gives-weaker}
use Rattle.vx_tree.specs.Tree.{bools, by_array, non_nullable}
use Rattle.vx_tree.specs.Meaning.{tree_len, valid_mask}
use Rattle.vx_tree.specs.Parts.{valid_of}
use Rattle.vx_tree.specs.Patches.{overwritten, patch_positions}
use Rattle.vx_tree.proofs.Positions.{mask_long}
use Rattle.vx_tree.proofs.Patched.{patched_by_bits, patched_by_value, patched_nowhere}
use Rattle.vx_tree.proofs.array.Validity.patched_at.Goals as goal

pub returns-then-count-eq0 : goal.returns-then-count-eq0
returns-then-count-eq0 c =
    patched_nowhere (valid_of c.args.self.now) (valid_of c.args.patches.now) (by_array c.in_ok-to_array.field-0) c.args.len c.args.offset c.args.indices.now c.requires.mine (sym c.len-count.ensures ∙ c.if-count-eq0.true) (ap by_array c.in_ok-to_array.ensures)

pub returns-in-Some : goal.returns-in-Some
returns-in-Some c =
    patched_by_value (valid_of c.args.self.now) (valid_of c.args.patches.now) (by_array c.in_ok-constant_truth.field-0) c.args.len c.args.offset c.args.indices.now c.in-Some.value c.in-Some.ensures.mine c.in-Some.ensures.theirs (ap by_array c.in_ok-constant_truth.ensures)

pub patched_bits-patched-requires-clause-named : goal.patched_bits-patched-requires-clause-named
patched_bits-patched-requires-clause-named c =
    let long : length c.in_ok-bits.bits.bits ≡ c.args.len = mask_long (valid_of c.args.self.now) c.in_ok-bits.bits.bits c.args.len c.in_ok-bits.ensures in
    rw long c.requires.named

pub patched_bits-patched-requires-clause-as_many : goal.patched_bits-patched-requires-clause-as_many
patched_bits-patched-requires-clause-as_many c = mask_long (valid_of c.args.patches.now) c.in-Ok.values.bits c.len-count.result c.in-Ok.ensures ∙ c.len-count.ensures

pub returns : goal.returns
returns c =
    let v = valid_of c.args.self.now in
    let u = valid_of c.args.patches.now in
    let indices = c.args.indices.now in
    let before : c.in_ok-bits.bits.bits ≡ valid_mask v c.args.len = c.in_ok-bits.ensures in
    let values : c.in-Ok.values.bits ≡ valid_mask u (tree_len indices) = c.in-Ok.ensures ∙ ap (valid_mask u) c.len-count.ensures in
    let over = c.in_ok-patched.ensures ∙ (λ j. overwritten (before j) (patch_positions c.args.offset indices) (values j)) in
    Gives-weaker c.told_by.result _ _ (λ w h. patched_by_bits v u (valid_of w) c.args.len c.args.offset indices (h ∙ ap (λ bs. by_array (bools c.in_ok-patched.field-0.offset bs non_nullable)) over)) c.told_by.ensures
