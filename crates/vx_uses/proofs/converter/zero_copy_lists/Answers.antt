use Rattle.std.proofs.Common.{◌≡◌, ◌<◌, ◌≤◌, [], ◌∷◌, ◌++◌, refl, sym, ◌∙◌, ap, subst, arith}
use Rattle.vx_tree.specs.Meaning.{tree_len, kind_of, rows}
use Rattle.vx_lists.specs.ListViews.{elements_of, offsets_of, counts_in}
use Rattle.vx_uses.specs.Uses.{AreListOffsets, AreListsOf}
use Rattle.vx_uses.proofs.EndToEnd.{one_more, all_read, list_kind}
use Rattle.vx_uses.proofs.ListFlags.{flagged_view}
use Rattle.vx_uses.proofs.ListOffsets.{HavePlaces, are_offsets, offsets_are, last_end}
use Rattle.vx_uses.proofs.converter.zero_copy_lists.Goals as goal

pub loop-i-preserved : goal.loop-i-preserved
loop-i-preserved c =
    let t = c.args.lists.now in
    let counts = c.counts_stand_at_their_places.ensures in
    let row = c.rows_stand_at_their_places.ensures in
    let masks = c.masks_stand_at_their_places.ensures in
    let places : HavePlaces = record { rows_len = row.len; rows_each = row.each; counts_len = counts.len; counts_each = counts.each; mask_len = masks.len; mask_each = masks.each } in
    let stands = c.list_views_stand_for_their_lists.ensures t c.offsets.ensures.formed (flagged_view t c.requires) in
    let len : tree_len (offsets_of t) ≡ tree_len t = sym (ap tree_len c.offsets.ensures.value) ∙ c.offsets.ensures.len in
    let inside : c.loop-i.i < tree_len t = omega (arith, c.offsets.ensures.len) in
    let in_offsets : c.loop-i.i < tree_len (offsets_of t) = omega (arith, len) in
    record {
      starts = one_more counts.len counts.each t t refl c.loop-i.i c.offset_at-start.result c.loop-i.offsets.items c.push.new.self.items in_offsets c.loop-i.invariant.starts c.in_ok-push.ensures.items c.offset_at-start.ensures.value;
      last = last_end places t len stands (c.offsets.ensures.consecutive c.requires) c.loop-i.i inside c.offset_at-start.result c.size_at.result c.offset_at-start.ensures.value c.size_at.ensures.value;
      none = λ is. absurd (omega (arith, is));
    }

pub returns-clause-offsets : goal.returns-clause-offsets
returns-clause-offsets c =
    let t = c.args.lists.now in
    let counts = c.counts_stand_at_their_places.ensures in
    let row = c.rows_stand_at_their_places.ensures in
    let masks = c.masks_stand_at_their_places.ensures in
    let places : HavePlaces = record { rows_len = row.len; rows_each = row.each; counts_len = counts.len; counts_each = counts.each; mask_len = masks.len; mask_each = masks.each } in
    let stands = c.list_views_stand_for_their_lists.ensures t c.offsets.ensures.formed (flagged_view t c.requires) in
    let len : tree_len (offsets_of t) ≡ tree_len t = sym (ap tree_len c.offsets.ensures.value) ∙ c.offsets.ensures.len in
    let all : c.loop-i.i ≡ tree_len t = omega (arith, c.offsets.ensures.len) in
    let past : tree_len (offsets_of t) ≤ c.loop-i.i = omega (arith, len, all) in
    let read = all_read counts.len counts.each t t refl c.loop-i.i c.loop-i.offsets.items past c.loop-i.invariant.starts in
    offsets_are places t len stands (c.offsets.ensures.consecutive c.requires) c.loop-i.end c.push-2.new.self.items
    (c.in_ok-push-2.ensures.items ∙ ap (λ xs. xs ++ c.loop-i.end ∷ []) read) (λ i is. c.loop-i.invariant.last i (is ∙ sym all)) (λ none. c.loop-i.invariant.none (all ∙ none))

pub returns-clause-kind : goal.returns-clause-kind
returns-clause-kind c =
    let t = c.args.lists.now in
    let cloned : c.in_ok-elements.elements ≡ elements_of t = c.in_ok-elements.ensures ∙ c.elements.ensures in
    subst (λ e. AreListsOf (kind_of e) (kind_of t)) (sym cloned) (list_kind t (flagged_view t c.requires))

pub returns-clause-lists : goal.returns-clause-lists
returns-clause-lists c =
    let t = c.args.lists.now in
    let counts = c.counts_stand_at_their_places.ensures in
    let row = c.rows_stand_at_their_places.ensures in
    let masks = c.masks_stand_at_their_places.ensures in
    let places : HavePlaces = record { rows_len = row.len; rows_each = row.each; counts_len = counts.len; counts_each = counts.each; mask_len = masks.len; mask_each = masks.each } in
    let stands = c.list_views_stand_for_their_lists.ensures t c.offsets.ensures.formed (flagged_view t c.requires) in
    let len : tree_len (offsets_of t) ≡ tree_len t = sym (ap tree_len c.offsets.ensures.value) ∙ c.offsets.ensures.len in
    let all : c.loop-i.i ≡ tree_len t = omega (arith, c.offsets.ensures.len) in
    let past : tree_len (offsets_of t) ≤ c.loop-i.i = omega (arith, len, all) in
    let read = all_read counts.len counts.each t t refl c.loop-i.i c.loop-i.offsets.items past c.loop-i.invariant.starts in
    let items = c.push-2.new.self.items in
    let are : items ≡ counts_in (offsets_of t) ++ c.loop-i.end ∷ [] = c.in_ok-push-2.ensures.items ∙ ap (λ xs. xs ++ c.loop-i.end ∷ []) read in
    let made = are_offsets places t len stands (c.offsets.ensures.consecutive c.requires) c.loop-i.end items are (λ i is. c.loop-i.invariant.last i (is ∙ sym all)) (λ none. c.loop-i.invariant.none (all ∙ none)) in
    let cloned : c.in_ok-elements.elements ≡ elements_of t = c.in_ok-elements.ensures ∙ c.elements.ensures in
    subst (λ e. AreListOffsets t (rows e) items) (sym cloned) made
