use Rattle.std.proofs.Common.{◌≡◌, sym, ap, ◌∙◌}
use Rattle.vx_tree.specs.Meaning.{row_at, valid_mask}
use Rattle.vx_tree.specs.Parts.{tree_of, valid_of}
use Rattle.vx_tree.specs.Slots.{validity_of}
use Rattle.vx_tree.specs.Tree.{primitive, constant}
use Rattle.vx_leaves.proofs.code_scan.scan_codes.Goals as goal

pub scan_blocks-requires-clause-told : goal.scan_blocks-requires-clause-told
scan_blocks-requires-clause-told c = λ p bs v is.
    let w = valid_of c.in-Primitive.validity in
    let here : c.args.codes.now ≡ primitive c.in-Primitive.ptype c.in-Primitive.bytes w = sym c.layout.ensures.parts ∙ ap tree_of c.in-Primitive.is in
    let same : w ≡ v = ap validity_of (sym here ∙ is) in
    c.in_ok-valid-in-Primitive.ensures ∙ ap (λ x. valid_mask x c.len.result) same ∙ ap (valid_mask v) c.len.ensures

pub scan_constant-requires-clause-alike : goal.scan_constant-requires-clause-alike
scan_constant-requires-clause-alike c = λ i.
    let scalar = c.in-Constant.scalar in
    let is : c.args.codes.now ≡ constant scalar.kind scalar.row c.in-Constant.len = sym c.layout.ensures.parts ∙ ap tree_of c.in-Constant.is in
    ap (λ t. row_at t i) is ∙ sym (ap (λ t. row_at t 0) is)
