use Rattle.std.proofs.Common.{◌≡◌, true, false, sym, ◌∙◌, ap, arith}
use Rattle.vx_base.specs.Kinds.{is_nullable_kind}
use Rattle.vx_lists.specs.ListViews.{is_list_view, elements_of}
use Rattle.vx_tree.specs.Meaning.{kind_of}
use Rattle.vx_uses.proofs.EndToEnd.{list_kind}
use Rattle.vx_uses.proofs.appended_lists.joined_lists.Goals as goal

pub unreachable-requires : goal.unreachable-requires
unreachable-requires c =
    let first = c.args.first.now in
    let is = ap is_list_view (sym c.as_array.ensures.value) ∙ c.as_array.ensures.layout in
    let kind = sym (c.in_ok-joined.ensures.kind 0 c.in_ok-joined.joined (omega arith)) ∙ ap kind_of (c.in_ok-try_clone.ensures ∙ c.as_array.ensures.value) ∙ list_kind first is in
    let layout = c.plain_lists_are_list_views.ensures (kind_of (elements_of first)) (is_nullable_kind (kind_of first)) kind in
    let both : true ≡ false = sym layout ∙ c.in_default.ensures.other.1 in cc

pub returns-clause-kind : goal.returns-clause-kind
returns-clause-kind c =
    ap kind_of c.in-Ok.ensures.own.0 ∙ sym (c.in_ok-joined.ensures.kind 0 c.in_ok-joined.joined (omega arith))
    ∙ ap kind_of (c.in_ok-try_clone.ensures ∙ c.as_array.ensures.value)
