use Rattle.std.proofs.Common.{◌≡◌, ◌<◌, ◌≤◌, [], ◌∷◌, ◌++◌, map, sum, sym, ◌∙◌, ap, zero-add, arith}
use Rattle.vx_base.specs.Kinds.{lists, is_nullable_kind}
use Rattle.vx_tree.specs.Meaning.{tree_len, kind_of}
use Rattle.vx_lists.specs.ListViews.Layout.{size_of, starts_from}
use Rattle.vx_lists.specs.ListViews.{elements_of, offsets_of, list_rows}
use Rattle.vx_uses.proofs.EndToEnd.{one_more, all_read, rebuilt_offsets, rebuilt_count, list_kind}
use Rattle.vx_uses.proofs.converter.lists_end_to_end.Goals as goal

pub loop-i-preserved : goal.loop-i-preserved
loop-i-preserved c =
    let counts = c.counts_stand_at_their_places.ensures in
    let inside : c.loop-i.i < tree_len (offsets_of c.in_ok-rebuilt.rebuilt) = omega (arith, ap tree_len c.offsets.ensures.value) in
    one_more counts.len counts.each c.rebuilt.inside.array c.in_ok-rebuilt.rebuilt c.rebuilt.view_is c.loop-i.i c.offset_at.result c.loop-i.offsets.items c.push.new.self.items
    inside c.loop-i.invariant c.in_ok-push.ensures.items c.offset_at.ensures.value

pub returns-clause-offsets : goal.returns-clause-offsets
returns-clause-offsets c =
    let t = c.args.lists.now in
    let is = c.in_ok-rebuilt.ensures.rebuilt in
    let counts = c.counts_stand_at_their_places.ensures in
    let all : tree_len (offsets_of c.in_ok-rebuilt.rebuilt) ≤ c.loop-i.i = omega (arith, ap tree_len c.offsets.ensures.value) in
    let read = all_read counts.len counts.each c.rebuilt.inside.array c.in_ok-rebuilt.rebuilt c.rebuilt.view_is c.loop-i.i c.loop-i.offsets.items all c.loop-i.invariant in
    c.in_ok-push-2.ensures.items
    ∙ ap (λ xs. xs ++ c.len-2.result ∷ []) (read ∙ rebuilt_offsets t c.in_ok-rebuilt.rebuilt is)
    ∙ ap (λ n. starts_from 0 (map size_of (list_rows t)) ++ n ∷ []) (c.len-2.ensures ∙ ap tree_len c.elements.ensures ∙ rebuilt_count c.rows_stand_at_their_places.ensures.len c.joined_rows_have_all_elements.ensures t c.in_ok-rebuilt.rebuilt is
    ∙ sym (zero-add (sum (map size_of (list_rows t)))))

pub returns-clause-kind : goal.returns-clause-kind
returns-clause-kind c =
    let r = c.in_ok-rebuilt.rebuilt in
    let is = c.in_ok-rebuilt.ensures.rebuilt in
    let cloned : c.in_ok-elements.elements ≡ elements_of r = c.in_ok-elements.ensures ∙ c.elements-2.ensures in
    sym is.kind ∙ list_kind r is.is_view ∙ ap (λ e. lists (kind_of e) (is_nullable_kind (kind_of r))) (sym cloned) ∙ ap (λ k. lists (kind_of c.in_ok-elements.elements) (is_nullable_kind k)) is.kind
