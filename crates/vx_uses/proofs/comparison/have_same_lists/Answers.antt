use Rattle.std.proofs.Common.{◌≡◌, sym, ◌∙◌, ap}
use Rattle.vx_tree.specs.Meaning.{rows}
use Rattle.vx_lists.specs.ListViews.{counts_in}
use Rattle.vx_uses.proofs.ComparedLists.{rows_of_counts, differing}
use Rattle.vx_uses.proofs.comparison.have_same_lists.Goals as goal

pub returns-then-not-same_offsets-clause-same : goal.returns-then-not-same_offsets-clause-same
returns-then-not-same_offsets-clause-same c =
    let counts = c.counts_stand_at_their_places.ensures in
    let law = c.equal_rows_rebuild_alike.ensures c.args.left.now c.args.right.now c.in_ok-first.first c.in_ok-second.second c.in_ok-first.ensures.rebuilt c.in_ok-second.ensures.rebuilt in
    differing c.have_same_numbers-same_offsets.result (rows c.offsets.result.now ≡ rows c.offsets-2.result.now) (rows c.args.left.now ≡ rows c.args.right.now) c.have_same_numbers-same_offsets.ensures c.if-not-same_offsets.true
    (λ same. rows_of_counts c.rows_are_equal_by_place.ensures counts.len counts.each c.offsets.result.now c.offsets-2.result.now c.offsets.ensures.counts c.offsets-2.ensures.counts
    (ap counts_in c.offsets.ensures.value ∙ (law.1 same).offsets ∙ sym (ap counts_in c.offsets-2.ensures.value)))

pub returns-then-not-same_sizes-clause-same : goal.returns-then-not-same_sizes-clause-same
returns-then-not-same_sizes-clause-same c =
    let counts = c.counts_stand_at_their_places.ensures in
    let law = c.equal_rows_rebuild_alike.ensures c.args.left.now c.args.right.now c.in_ok-first.first c.in_ok-second.second c.in_ok-first.ensures.rebuilt c.in_ok-second.ensures.rebuilt in
    differing c.have_same_numbers-same_sizes.result (rows c.sizes.result.now ≡ rows c.sizes-2.result.now) (rows c.args.left.now ≡ rows c.args.right.now) c.have_same_numbers-same_sizes.ensures c.if-not-same_sizes.true
    (λ same. rows_of_counts c.rows_are_equal_by_place.ensures counts.len counts.each c.sizes.result.now c.sizes-2.result.now c.sizes.ensures.counts c.sizes-2.ensures.counts
    (ap counts_in c.sizes.ensures.value ∙ (law.1 same).sizes ∙ sym (ap counts_in c.sizes-2.ensures.value)))

pub returns-then-not-same_elements-clause-same : goal.returns-then-not-same_elements-clause-same
returns-then-not-same_elements-clause-same c =
    let law = c.equal_rows_rebuild_alike.ensures c.args.left.now c.args.right.now c.in_ok-first.first c.in_ok-second.second c.in_ok-first.ensures.rebuilt c.in_ok-second.ensures.rebuilt in
    differing c.have_same_numbers-same_elements.result (rows c.elements.result.now ≡ rows c.elements-2.result.now) (rows c.args.left.now ≡ rows c.args.right.now) c.have_same_numbers-same_elements.ensures c.if-not-same_elements.true
    (λ same. ap rows c.elements.ensures ∙ (law.1 same).elements ∙ sym (ap rows c.elements-2.ensures))
