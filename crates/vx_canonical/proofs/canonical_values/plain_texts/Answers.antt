use Rattle.std.proofs.Common.{◌≡◌, ap, ◌∙◌}
use Rattle.vx_base.specs.DTypes.{dtype_meaning}
use Rattle.vx_base.specs.Kinds.{is_nullable_kind}
use Rattle.vx_tree.specs.Parts.{valid_of}
use Rattle.vx_tree.specs.Tree.{view_array}
use Rattle.vx_canonical.specs.PlainValues.{AreTexts, values_valid}
use Rattle.vx_canonical.proofs.PlainTexts.{texts_formed, texts_made}
use Rattle.vx_canonical.proofs.canonical_values.plain_texts.Goals as goal

pub var_bin_view-requires : goal.var_bin_view-requires
var_bin_view-requires c =
    let k = dtype_meaning c.args.dtype.now in
    let vs = c.args.values.now in
    let ws = c.in_ok-views-2.views in
    let bs = c.plain_views.new.buffers.items in
    let v = valid_of c.in_ok-validity.validity in
    let valid : v ≡ values_valid (is_nullable_kind k) vs = c.in_ok-validity.ensures ∙ ap (λ b. values_valid b vs) c.nullability.ensures in
    let made : AreTexts vs ws bs = rw c.in_ok-views-2.ensures c.in_ok-views.ensures.made in
    rw c.in_ok-dtype.ensures (texts_formed k vs ws bs v c.requires.kind valid c.requires.fit made)

pub returns-clause-made : goal.returns-clause-made
returns-clause-made c =
    let k = dtype_meaning c.args.dtype.now in
    let vs = c.args.values.now in
    let ws = c.in_ok-views-2.views in
    let bs = c.plain_views.new.buffers.items in
    let v = valid_of c.in_ok-validity.validity in
    let valid : v ≡ values_valid (is_nullable_kind k) vs = c.in_ok-validity.ensures ∙ ap (λ b. values_valid b vs) c.nullability.ensures in
    let made : AreTexts vs ws bs = rw c.in_ok-views-2.ensures c.in_ok-views.ensures.made in
    let is = c.in_ok-var_bin_view.ensures ∙ ap (λ j. view_array ws bs j v) c.in_ok-dtype.ensures in
    texts_made k c.in_ok-var_bin_view.field-0 vs ws bs v c.requires.kind valid c.requires.fit made is
