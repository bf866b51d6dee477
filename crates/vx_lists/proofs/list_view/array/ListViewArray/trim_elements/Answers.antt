use Rattle.std.proofs.Common.{refl, sym, ◌∙◌, subst}
use Rattle.vx_base.specs.Kinds.{integer_type}
use Rattle.vx_tree.specs.Meaning.{kind_of}
use Rattle.vx_tree.specs.Parts.{valid_of}
use Rattle.vx_lists.specs.ListViews.References.{IsTrimmed}
use Rattle.vx_lists.proofs.ListViews.TrimmedViews.{trimmed_formed, trimmed_view}
use Rattle.vx_lists.proofs.list_view.array.ListViewArray.trim_elements.Goals as goal

pub list_view-requires : goal.list_view-requires
list_view-requires c =
    let parts = c.parts-parts.result in
    let formed = trimmed_formed c.args.self.now parts.elements.now parts.offsets.now parts.sizes.now (valid_of parts.validity.now) parts.flag c.parts-parts.ensures.same c.parts-parts.ensures.formed c.args.start c.args.end c.requires.below c.requires.above
    c.in_ok-elements.elements c.in_ok-offsets.offsets (integer_type (kind_of parts.offsets.now)) c.in_ok-elements.ensures.by_row c.in_ok-offsets.ensures in
    rw (c.in_ok-sizes.ensures, c.in_ok-validity.ensures) formed

pub returns : goal.returns
returns c =
    let parts = c.parts-parts.result in
    let trimmed = trimmed_view c.args.self.now parts.elements.now parts.offsets.now parts.sizes.now (valid_of parts.validity.now) parts.flag c.parts-parts.ensures.same c.parts-parts.ensures.formed c.args.start c.args.end c.requires.below c.requires.above
    c.in_ok-elements.elements c.in_ok-offsets.offsets (integer_type (kind_of parts.offsets.now)) c.in_ok-elements.ensures.by_row c.in_ok-offsets.ensures refl c.in_ok-elements.ensures.rows in
    subst (IsTrimmed c.args.self.now c.args.start c.args.end) (sym (c.from_array.ensures ∙ c.in_ok-array.ensures)) (rw (c.in_ok-sizes.ensures, c.in_ok-validity.ensures) trimmed)
