use Rattle.std.proofs.Common.{◌≡◌, replicate, [], ap, refl, sym, ◌∙◌}
use Rattle.vx_base.specs.DTypes.{dtype_meaning}
use Rattle.vx_base.specs.Kinds.{or_nullable}
use Rattle.vx_base.proofs.Refused.{Gives-weaker}
use Rattle.vx_views.specs.Views.{view_of}
use Rattle.vx_tree.specs.Tree.{view_array}
use Rattle.vx_tree.specs.Parts.{tree_of, valid_of}
use Rattle.vx_tree.specs.Meaning.{nullable}
use Rattle.vx_tree.specs.Formed.{WellFormed}
use Rattle.vx_tree.proofs.ViewArrays.{nulls_formed, views_nulls}
use Rattle.vx_tree.proofs.array.ArrayRef.null_views.Goals as goal

pub empty_views-array-requires : goal.empty_views-array-requires
empty_views-array-requires c =
    let views = c.in-VarBinView.views in
    let buffers = c.in-VarBinView.buffers.items in
    let k = dtype_meaning c.in-VarBinView.dtype in
    let v = valid_of c.in-VarBinView.validity in
    let u = valid_of c.args.nulls.now in
    let w = valid_of c.in-Ok.validity in
    let same = sym c.layout.ensures.parts ∙ ap tree_of c.in-VarBinView.is in
    let kind : dtype_meaning c.union_nullability-dtype.result ≡ or_nullable (nullable u) k = rw (c.nullability.ensures, c.in_ok-try_clone.ensures) at c.union_nullability-dtype.ensures in
    let formed : WellFormed (view_array views buffers k v) = rw c.in-VarBinView.is at c.layout.ensures.formed in
    rw (c.deref.ensures.value, kind) (nulls_formed views buffers (replicate c.args.len (view_of [] 0 0)) k v u w c.args.len formed refl c.in-Ok.ensures)

pub returns : goal.returns
returns c =
    let views = c.in-VarBinView.views in
    let buffers = c.in-VarBinView.buffers.items in
    let k = dtype_meaning c.in-VarBinView.dtype in
    let v = valid_of c.in-VarBinView.validity in
    let u = valid_of c.args.nulls.now in
    let w = valid_of c.in-Ok.validity in
    let same = sym c.layout.ensures.parts ∙ ap tree_of c.in-VarBinView.is in
    let kind : dtype_meaning c.union_nullability-dtype.result ≡ or_nullable (nullable u) k = rw (c.nullability.ensures, c.in_ok-try_clone.ensures) at c.union_nullability-dtype.ensures in
    Gives-weaker c.empty_views-array.result _ _ (λ a e. views_nulls c.args.self.now a views buffers (replicate c.args.len (view_of [] 0 0)) k v u w c.args.len same (rw (c.deref.ensures.value, kind) at e) refl c.in-Ok.ensures) c.empty_views-array.ensures
