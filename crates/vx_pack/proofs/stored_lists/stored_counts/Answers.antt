use Rattle.std.proofs.Common.{◌≡◌, ◌+◌, ◌*◌, sym, ◌∙◌, ap}
use Rattle.std.specs.Prelude.{slice_range}
use Rattle.vx_tree.specs.Parts.{tree_of, valid_of}
use Rattle.vx_tree.specs.Tree.{primitive}
use Rattle.vx_pack.proofs.StoredLists.{stored_counts_of}
use Rattle.vx_pack.proofs.stored_lists.stored_counts.Goals as goal

pub returns : goal.returns
returns c =
    let bs = c.as_slice.result.now in
    let v = valid_of c.in-Primitive.validity in
    let start = c.args.start in
    let n = c.args.len in
    let same : c.args.counts.now ≡ primitive c.in-Primitive.ptype bs v =
    sym c.layout.ensures.parts ∙ ap tree_of c.in-Primitive.is
    ∙ ap (λ xs. primitive c.in-Primitive.ptype xs v) (sym c.as_slice.ensures.value) in
    let cut = ap (λ m. slice_range bs (start * m) ((start + n) * m)) c.byte_width-width.ensures in
    stored_counts_of c.in-Primitive.ptype c.args.counts.now bs _ v start n same c.requires.counts c.requires.within cut
