use Rattle.std.proofs.Common.{◌∙◌, ℕ, ap, map, refl}
use Rattle.std.specs.Global.{Vec}
use Rattle.vx_base.specs.DTypes.{dtype_meaning}
use Rattle.vx_tree.specs.Parts.{valid_of}
use Rattle.vx_c.specs.TablesOf.{view_with}
use Rattle.vx_c.proofs.WrittenLayouts.{values_written}
use Rattle.vx_c.proofs.writing.put_values.Goals as goal

pub returns : goal.returns
returns c =
    values_written _ c.args.views.now c.args.buffers.now (dtype_meaning c.args.dtype.now) (valid_of c.args.validity.now) c.args.nodes.now.items
    c.put.new.nodes.items c.kind_of_views.ensures c.number_of.ensures c.len.ensures (c.in_ok-view_list.ensures.read ∙ c.as_slice.ensures)
    (ap (map (λ (b : Vec ℕ). b.items)) c.in_ok-of.ensures ∙ c.in_ok-copies_of.ensures) refl refl c.new.ensures.items
    (c.in_ok-view_list.ensures.bytes ∙ ap (map view_with) c.as_slice.ensures) c.requires.formed c.in_ok-put.ensures
