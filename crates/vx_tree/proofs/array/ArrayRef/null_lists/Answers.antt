use Rattle.std.proofs.Common.{ap, sym, ◌∙◌}
use Rattle.vx_tree.specs.Parts.{tree_of, valid_of}
use Rattle.vx_base.proofs.Refused.{Gives-weaker}
use Rattle.vx_tree.proofs.DefaultRows.{null_lists_formed, lists_null}
use Rattle.vx_tree.proofs.array.ArrayRef.null_lists.Goals as goal

pub list_view-requires : goal.list_view-requires
list_view-requires c =
    let parts = c.in-ListView in
    rw c.in_ok-elements.ensures (null_lists_formed parts.elements parts.offsets parts.sizes c.in-Ok.offsets c.in-Ok-default_rows.sizes (valid_of parts.validity) (valid_of c.in-Ok-nulls.validity) parts.flag c.args.len
    (rw parts.is at c.layout.ensures.formed) c.in-Ok.ensures c.in-Ok-default_rows.ensures c.in-Ok-nulls.ensures.fits)

pub returns-in-Ok-nulls : goal.returns-in-Ok-nulls
returns-in-Ok-nulls c =
    let parts = c.in-ListView in
    let same = sym c.layout.ensures.parts ∙ ap tree_of parts.is in
    Gives-weaker c.list_view.result _ _
    (λ a e. lists_null c.args.self.now a parts.elements parts.offsets parts.sizes c.in-Ok.offsets c.in-Ok-default_rows.sizes (valid_of parts.validity) (valid_of c.args.nulls.now) (valid_of c.in-Ok-nulls.validity) parts.flag c.args.len same
    (rw c.in_ok-elements.ensures at e) c.in-Ok.ensures c.in-Ok-default_rows.ensures c.in-Ok-nulls.ensures)
    c.list_view.ensures
