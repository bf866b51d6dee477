use Rattle.std.proofs.Common.{◌≡◌, ◌+◌, ◌*◌, sym, ◌∙◌, ap, refl, subst}
use Rattle.std.specs.Prelude.{slice_range}
use Rattle.vx_tree.specs.Parts.{tree_of, valid_of}
use Rattle.vx_tree.specs.Tree.{primitive}
use Rattle.vx_pack.proofs.SameBytes.{number_bytes_of}
use Rattle.vx_pack.specs.declared.parts.Part.TheVariants.{Array}
use Rattle.vx_pack.specs.Numbers.{AreNumberBytes}
use Rattle.vx_pack.specs.Parts.{HasType, IsWithin}
use Rattle.vx_pack.proofs.parts.Part.number_bytes.Goals as goal

pub returns : goal.returns
returns c =
    let u = c.args.ptype in
    let bs = c.as_slice.result.now in
    let v = valid_of c.in-Primitive.validity in
    let start = c.in-Array.start in
    let n = c.in-Array.len in
    let w = c.byte_width-width.result in
    let p = Array c.in-Array.array start n in
    let same : c.in-Array.array.now ≡ primitive c.in-Primitive.ptype bs v =
    sym c.layout.ensures.parts ∙ ap tree_of c.in-Primitive.is ∙ ap (λ xs. primitive c.in-Primitive.ptype xs v) (sym c.as_slice.ensures.value) in
    let type = subst (HasType u) c.in-Array.is c.requires.ptype in
    let within = subst IsWithin c.in-Array.is c.requires.within in
    let cut = ap (λ m. slice_range bs (start * m) ((start + n) * m)) c.byte_width-width.ensures in
    subst (λ q. AreNumberBytes u q (slice_range bs (start * w) ((start + n) * w))) (sym c.in-Array.is)
    (number_bytes_of c.in-Primitive.ptype u c.in-Array.array.now bs (slice_range bs (start * w) ((start + n) * w)) v start n p same type c.as_slice.ensures.bytes within.0
    (c.is_full.ensures c.if-not-is_full.false) cut refl (λ k i. refl))
