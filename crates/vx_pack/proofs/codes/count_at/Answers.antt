use Rattle.std.proofs.Common.{◌≡◌, ◌∙◌, ap, sym, subst, rules}
use Rattle.std.specs.Prelude.{◌≤ℤ◌, pos}
use Rattle.vx_base.specs.Rows.{count_in}
use Rattle.vx_tree.specs.Meaning.{row_at}
use Rattle.vx_tree.specs.Parts.{tree_of, valid_of}
use Rattle.vx_tree.specs.Tree.{primitive}
use Rattle.vx_pack.proofs.StoredCounts.{stored_count_is, stored_count_within}
use Rattle.vx_pack.proofs.codes.count_at.Goals as goal

pub stored_count-requires-clause-in_bounds : goal.stored_count-requires-clause-in_bounds
stored_count-requires-clause-in_bounds c =
    let v = valid_of c.in-Primitive.validity in
    let bs = c.as_slice.result.now in
    let same : c.args.counts.now ≡ primitive c.in-Primitive.ptype bs v =
    sym c.layout.ensures.parts ∙ ap tree_of c.in-Primitive.is ∙ ap (λ xs. primitive c.in-Primitive.ptype xs v) (sym c.as_slice.ensures.value) in
    stored_count_within c.args.counts.now c.in-Primitive.ptype bs v c.args.row same c.requires.in_bounds

pub stored_count-requires-clause-low : goal.stored_count-requires-clause-low
stored_count-requires-clause-low c =
    let v = valid_of c.in-Primitive.validity in
    let bs = c.as_slice.result.now in
    let same : c.args.counts.now ≡ primitive c.in-Primitive.ptype bs v =
    sym c.layout.ensures.parts ∙ ap tree_of c.in-Primitive.is ∙ ap (λ xs. primitive c.in-Primitive.ptype xs v) (sym c.as_slice.ensures.value) in
    let is = stored_count_is c.args.counts.now c.in-Primitive.ptype bs v c.args.row same c.requires.counts c.requires.in_bounds in
    subst (λ z. pos 0 ≤ℤ z) (sym is) (search rules)

pub returns-in-Primitive : goal.returns-in-Primitive
returns-in-Primitive c =
    let v = valid_of c.in-Primitive.validity in
    let bs = c.as_slice.result.now in
    let same : c.args.counts.now ≡ primitive c.in-Primitive.ptype bs v =
    sym c.layout.ensures.parts ∙ ap tree_of c.in-Primitive.is ∙ ap (λ xs. primitive c.in-Primitive.ptype xs v) (sym c.as_slice.ensures.value) in
    let is : pos c.stored_count.result ≡ pos (count_in (row_at c.args.counts.now c.args.row)) =
    c.stored_count.ensures ∙ stored_count_is c.args.counts.now c.in-Primitive.ptype bs v c.args.row same c.requires.counts c.requires.in_bounds in
    cc
