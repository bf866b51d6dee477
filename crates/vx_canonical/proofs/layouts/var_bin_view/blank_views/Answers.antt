use Rattle.std.proofs.Common.{◌≡◌, ap, sym, ◌∙◌}
use Rattle.vx_base.specs.DTypes.{dtype_meaning}
use Rattle.vx_base.specs.Kinds.{or_nullable}
use Rattle.vx_base.proofs.Refused.{Gives-weaker}
use Rattle.vx_tree.specs.Tree.{view_array}
use Rattle.vx_tree.specs.Parts.{tree_of, valid_of}
use Rattle.vx_tree.specs.Meaning.{nullable}
use Rattle.vx_tree.specs.Formed.{WellFormed}
use Rattle.vx_canonical.proofs.Blanks.{views_blank_formed, views_blank}
use Rattle.vx_canonical.proofs.layouts.var_bin_view.blank_views.Goals as goal

pub empty_views-requires : goal.empty_views-requires
empty_views-requires c =
    let parts = c.in-VarBinView in
    let k = dtype_meaning parts.dtype in
    let v = valid_of parts.validity in
    let w = valid_of c.args.validity in
    let same = sym c.layout.ensures.parts ∙ ap tree_of parts.is in
    let kind : dtype_meaning c.union_nullability-dtype.result ≡ or_nullable (nullable w) k = rw (c.nullability.ensures, c.in_ok-try_clone.ensures) at c.union_nullability-dtype.ensures in
    let formed : WellFormed (view_array parts.views parts.buffers.items k v) = rw parts.is at c.layout.ensures.formed in
    rw (c.deref.ensures.value, kind) (views_blank_formed c.args.array.now parts.views parts.buffers.items k v w c.args.len same formed c.requires.nullable c.requires.fits)

pub returns : goal.returns
returns c =
    let parts = c.in-VarBinView in
    let k = dtype_meaning parts.dtype in
    let v = valid_of parts.validity in
    let w = valid_of c.args.validity in
    let same = sym c.layout.ensures.parts ∙ ap tree_of parts.is in
    let kind : dtype_meaning c.union_nullability-dtype.result ≡ or_nullable (nullable w) k = rw (c.nullability.ensures, c.in_ok-try_clone.ensures) at c.union_nullability-dtype.ensures in
    Gives-weaker c.empty_views.result _ _ (λ a e. views_blank c.args.array.now a parts.views parts.buffers.items k v w c.args.len same (rw (c.deref.ensures.value, kind) at e) c.requires.plain) c.empty_views.ensures
