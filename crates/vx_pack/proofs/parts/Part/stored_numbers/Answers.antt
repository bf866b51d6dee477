use Rattle.std.proofs.Common.{◌≡◌, ◌+◌, ◌*◌, sym, ◌∙◌, ap, refl, subst}
use Rattle.std.specs.Prelude.{slice_range}
use Rattle.vx_tree.specs.Parts.{tree_of, valid_of}
use Rattle.vx_tree.specs.Tree.{primitive}
use Rattle.vx_pack.proofs.StoredNumbers.{stored_numbers_of}
use Rattle.vx_pack.specs.declared.parts.Part.TheVariants.{Array}
use Rattle.vx_pack.specs.Parts.{HasType, IsWithin, part_row}
use Rattle.vx_pack.proofs.parts.Part.stored_numbers.Goals as goal

pub returns : goal.returns
returns c = λ k.
    let u = c.args.ptype in
    let bs = c.as_slice.result.now in
    let v = valid_of c.in-Primitive.validity in
    let start = c.in-Array.start in
    let n = c.in-Array.len in
    let same : c.in-Array.array.now ≡ primitive c.in-Primitive.ptype bs v =
    sym c.layout.ensures.parts ∙ ap tree_of c.in-Primitive.is ∙ ap (λ xs. primitive c.in-Primitive.ptype xs v) (sym c.as_slice.ensures.value) in
    let type = subst (HasType u) c.in-Array.is c.requires.ptype in
    let within = subst IsWithin c.in-Array.is c.requires.within in
    let cut = ap (λ m. slice_range bs (start * m) ((start + n) * m)) c.byte_width-width.ensures in
    rw c.in-Array.is (stored_numbers_of c.in-Primitive.ptype u c.in-Array.array.now bs v start n _ (part_row k (Array c.in-Array.array start n))
    same type c.as_slice.ensures.bytes within.0 within.1 c.in_ok-valid.ensures refl cut (λ i. refl))
