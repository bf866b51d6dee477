use Rattle.std.proofs.Common.{sym, ◌∙◌, ap, subst}
use Rattle.std.specs.Prelude.{◌↔◌, IsTrue}
use Rattle.vx_tree.specs.Formed.{IsConsecutive}
use Rattle.vx_tree.specs.Meaning.{rows}
use Rattle.vx_lists.specs.ListViews.{flag_of, offsets_of, sizes_of, with_flag}
use Rattle.vx_uses.proofs.ListFlags.{rows_under_flag}
use Rattle.vx_uses.proofs.converter.flagged_lists.Goals as goal

pub returns-clause-same : goal.returns-clause-same
returns-clause-same c =
    let is = c.in_ok-with_zero_copy_to_list.ensures in is ∙ ap (λ f. with_flag f c.args.lists) (sym (ap flag_of is))

pub returns-clause-flag : goal.returns-clause-flag
returns-clause-flag c =
    subst (λ f. IsTrue f ↔ IsConsecutive (offsets_of c.args.lists) (sizes_of c.args.lists)) (sym (ap flag_of c.in_ok-with_zero_copy_to_list.ensures)) c.is_consecutive-follow.ensures

pub returns-clause-rows : goal.returns-clause-rows
returns-clause-rows c =
    ap rows c.in_ok-with_zero_copy_to_list.ensures ∙ rows_under_flag c.is_consecutive-follow.result c.args.lists c.list_views_have_lists_of_their_elements.ensures.layout
