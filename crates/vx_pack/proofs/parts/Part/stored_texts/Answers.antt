use Rattle.std.proofs.Common.{◌∙◌, ◌+◌, sym, ap, refl, subst}
use Rattle.std.specs.Prelude.{slice_range}
use Rattle.vx_base.specs.DTypes.{dtype_meaning}
use Rattle.vx_tree.specs.Formed.{WellFormed}
use Rattle.vx_tree.specs.Parts.{tree_of, valid_of}
use Rattle.vx_tree.specs.Tree.{view_array}
use Rattle.vx_pack.proofs.StoredTexts.{stored_texts_of}
use Rattle.vx_pack.specs.declared.parts.Part.TheVariants.{Array}
use Rattle.vx_pack.specs.Parts.{IsWithin}
use Rattle.vx_pack.proofs.parts.Part.stored_texts.Goals as goal

pub returns : goal.returns
returns c =
    let a = c.in-Array.array in
    let start = c.in-Array.start in
    let n = c.in-Array.len in
    let bs = c.in-VarBinView.buffers.items in
    let k = dtype_meaning c.in-VarBinView.dtype in
    let v = valid_of c.in-VarBinView.validity in
    let formed : WellFormed (view_array c.in-VarBinView.views bs k v) = rw c.in-VarBinView.is at c.layout.ensures.formed in
    let within = subst IsWithin c.in-Array.is c.requires in
    rw c.in-Array.is (stored_texts_of a.now c.in-VarBinView.views bs k v start n (Array a start n) _
    (sym c.layout.ensures.parts ∙ ap tree_of c.in-VarBinView.is) formed within.0
    (ap (λ xs. slice_range xs start (start + n)) c.as_slice.ensures) c.deref.ensures.value c.is_full.ensures refl (λ k i. refl))
