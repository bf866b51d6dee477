use Rattle.std.proofs.Common.{refl, ◌∙◌, ap, subst}
use Rattle.vx_tree.specs.Meaning.{kind_of, rows}
use Rattle.vx_uses.specs.Uses.{AreListsOf}
use Rattle.vx_uses.proofs.EndToEnd.{rebuilt_elements}
use Rattle.vx_uses.proofs.ListOffsets.{rebuilt_flag, same_offsets}
use Rattle.vx_uses.proofs.SummedOffsets.{rebuilt_list_offsets, rebuilt_kind}
use Rattle.vx_uses.proofs.converter.lists_by_offsets.Goals as goal

pub zero_copy_lists-requires : goal.zero_copy_lists-requires
zero_copy_lists-requires c =
    let made = c.in_ok-rebuilt.ensures in rebuilt_flag c.args.lists.now c.in_ok-rebuilt.rebuilt made.empty (made.flagged refl) (made.rebuilt refl)

pub returns-clause-lists : goal.returns-clause-lists
returns-clause-lists c =
    let made = c.in_ok-zero_copy_lists.field-0 in
    same_offsets c.args.lists.now c.in_ok-rebuilt.rebuilt (rows made.elements) made.offsets.items
    ((c.rows_are_equal_by_place.ensures c.in_ok-rebuilt.rebuilt c.args.lists.now).0 c.in_ok-rebuilt.ensures.rows)
    c.in_ok-zero_copy_lists.ensures.lists

pub returns-clause-offsets : goal.returns-clause-offsets
returns-clause-offsets c =
    let made = c.in_ok-rebuilt.ensures in
    let law = c.list_views_have_lists_of_their_elements.ensures in
    c.in_ok-zero_copy_lists.ensures.offsets
    ∙ rebuilt_list_offsets c.rows_stand_at_their_places.ensures.len c.counts_stand_at_their_places.ensures.len c.args.lists.now c.in_ok-rebuilt.rebuilt made.empty (made.flagged refl) (made.rebuilt refl) law.offsets law.sizes

pub returns-clause-kind : goal.returns-clause-kind
returns-clause-kind c =
    let made = c.in_ok-rebuilt.ensures in
    let same = rebuilt_kind c.rows_stand_at_their_places.ensures.len c.counts_stand_at_their_places.ensures.len c.args.lists.now c.in_ok-rebuilt.rebuilt made.empty (made.flagged refl) (made.rebuilt refl) c.list_views_have_lists_of_their_elements.ensures.layout in
    subst (AreListsOf (kind_of c.in_ok-zero_copy_lists.field-0.elements)) same c.in_ok-zero_copy_lists.ensures.kind

pub returns-clause-laid_out : goal.returns-clause-laid_out
returns-clause-laid_out c = λ unset some.
    ap rows c.in_ok-zero_copy_lists.ensures.elements ∙ rebuilt_elements c.args.lists.now c.in_ok-rebuilt.rebuilt (c.in_ok-rebuilt.ensures.rebuilt refl some unset)
