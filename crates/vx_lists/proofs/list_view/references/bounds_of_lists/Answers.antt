use Rattle.std.proofs.Common.{◌≡◌, ◌+◌, min, max, ◌∙◌, ap, subst, arith}
use Rattle.vx_base.specs.Rows.{count_in}
use Rattle.vx_tree.specs.Meaning.{tree_len, row_at}
use Rattle.vx_lists.specs.ListViews.References.{AreBounds}
use Rattle.vx_tree.specs.Formed.{IsCounts}
use Rattle.vx_lists.proofs.ListViews.CountArrays.{number_counts}
use Rattle.vx_lists.proofs.ListViews.ReferencedElements.{AreBounds-first, AreBounds-more, numbers_same_len, numbers_ends_fit, bounds_of_numbers}
use Rattle.vx_lists.proofs.list_view.references.bounds_of_lists.Goals as goal

pub bounds_of_number_rows-requires-clause-offsets : goal.bounds_of_number_rows-requires-clause-offsets
bounds_of_number_rows-requires-clause-offsets c = let p = c.in-Some-Some in number_counts p.offset_type p.offsets.now (subst IsCounts p.ensures c.requires.offsets)

pub bounds_of_number_rows-requires-clause-sizes : goal.bounds_of_number_rows-requires-clause-sizes
bounds_of_number_rows-requires-clause-sizes c = let p = c.in-Some-Some in number_counts p.size_type p.sizes.now (subst IsCounts p.ensures' c.requires.sizes)

pub bounds_of_number_rows-requires-clause-same_len : goal.bounds_of_number_rows-requires-clause-same_len
bounds_of_number_rows-requires-clause-same_len c =
    let p = c.in-Some-Some in
    numbers_same_len c.args.offsets.now c.args.sizes.now p.offset_type p.size_type p.offsets.now p.sizes.now p.ensures p.ensures' c.requires.same_len

pub bounds_of_number_rows-requires-clause-ends_fit : goal.bounds_of_number_rows-requires-clause-ends_fit
bounds_of_number_rows-requires-clause-ends_fit c =
    let p = c.in-Some-Some in
    numbers_ends_fit c.args.offsets.now c.args.sizes.now p.offset_type p.size_type p.offsets.now p.sizes.now p.ensures p.ensures' c.requires.same_len c.requires.ends_fit

pub returns-in-Some-Some : goal.returns-in-Some-Some
returns-in-Some-Some c =
    let p = c.in-Some-Some in
    let bounds = c.bounds_of_number_rows.result in
    bounds_of_numbers c.args.offsets.now c.args.sizes.now p.offset_type p.size_type p.offsets.now p.sizes.now p.ensures p.ensures' c.requires.same_len bounds.0 bounds.1 c.bounds_of_number_rows.ensures

pub loop-i-init : goal.loop-i-init
loop-i-init c =
    AreBounds-first (λ i. count_in (row_at c.args.offsets.now i)) (λ i. count_in (row_at c.args.offsets.now i) + count_in (row_at c.args.sizes.now i)) c.count_at-least.result (c.count_at-least.result + c.count_at.result)
    c.count_at-least.ensures.value (omega (arith, c.count_at-least.ensures.value, c.count_at.ensures.value))

pub loop-i-preserved : goal.loop-i-preserved
loop-i-preserved c =
    let end : c.count_at-start.result + c.count_at-in-loop-i.result ≡ count_in (row_at c.args.offsets.now c.loop-i.i) + count_in (row_at c.args.sizes.now c.loop-i.i) =
    omega (arith, c.count_at-start.ensures.value, c.count_at-in-loop-i.ensures.value) in
    AreBounds-more (λ i. count_in (row_at c.args.offsets.now i)) (λ i. count_in (row_at c.args.offsets.now i) + count_in (row_at c.args.sizes.now i)) c.loop-i.i c.loop-i.least c.loop-i.greatest c.loop-i.invariant c.min-least.result c.max-greatest.result
    (c.min-least.ensures ∙ ap (min c.loop-i.least) c.count_at-start.ensures.value) (c.max-greatest.ensures ∙ ap (max c.loop-i.greatest) end)

pub returns : goal.returns
returns c =
    let done : c.loop-i.i ≡ tree_len c.args.offsets.now = omega (arith, c.len-i-end.ensures) in
    subst (λ n. AreBounds (λ i. count_in (row_at c.args.offsets.now i)) (λ i. count_in (row_at c.args.offsets.now i) + count_in (row_at c.args.sizes.now i)) n c.loop-i.least c.loop-i.greatest) done c.loop-i.invariant
