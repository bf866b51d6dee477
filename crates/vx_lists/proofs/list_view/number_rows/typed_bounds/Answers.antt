use Rattle.std.proofs.Common.{◌≡◌, ◌+◌, min, max, List, ℕ, length, get_or, ◌∙◌, ap, subst, arith}
use Rattle.vx_base.specs.Integers.{numbers}
use Rattle.vx_lists.specs.ListViews.CountBytes.{counts_of}
use Rattle.vx_lists.specs.ListViews.References.{AreBounds}
use Rattle.vx_lists.proofs.ListViews.ReferencedElements.{AreBounds-first, AreBounds-more}
use Rattle.vx_lists.proofs.list_view.number_rows.typed_bounds.Goals as goal

pub loop-row-init : goal.loop-row-init
loop-row-init g c =
    let os : List ℕ = counts_of g.O.NativePType.PTYPE c.args.offsets.now in
    let ss : List ℕ = counts_of g.S.NativePType.PTYPE c.args.sizes.now in
    AreBounds-first (λ i. get_or os i 0) (λ i. get_or os i 0 + get_or ss i 0) c.count_of_bytes-least.result (c.count_of_bytes-least.result + c.count_of_bytes.result)
    c.count_of_bytes-least.ensures.value (omega (arith, c.count_of_bytes-least.ensures.value, c.count_of_bytes.ensures.value))

pub loop-row-preserved : goal.loop-row-preserved
loop-row-preserved g c =
    let os : List ℕ = counts_of g.O.NativePType.PTYPE c.args.offsets.now in
    let ss : List ℕ = counts_of g.S.NativePType.PTYPE c.args.sizes.now in
    let end : c.count_of_bytes-start.result + c.count_of_bytes-in-loop-row.result ≡ get_or os c.loop-row.row 0 + get_or ss c.loop-row.row 0 =
    omega (arith, c.count_of_bytes-start.ensures.value, c.count_of_bytes-in-loop-row.ensures.value) in
    AreBounds-more (λ i. get_or os i 0) (λ i. get_or os i 0 + get_or ss i 0) c.loop-row.row c.loop-row.least c.loop-row.greatest c.loop-row.invariant c.min-least.result c.max-greatest.result
    (c.min-least.ensures ∙ ap (min c.loop-row.least) c.count_of_bytes-start.ensures.value) (c.max-greatest.ensures ∙ ap (max c.loop-row.greatest) end)

pub returns : goal.returns
returns g c =
    let os : List ℕ = counts_of g.O.NativePType.PTYPE c.args.offsets.now in
    let ss : List ℕ = counts_of g.S.NativePType.PTYPE c.args.sizes.now in
    let count : c.number_count-row-end.result ≡ length (numbers g.O.NativePType.PTYPE c.args.offsets.now) = c.number_count-row-end.ensures ∙ ap (λ p. length (numbers p c.args.offsets.now)) c.PTYPE.ensures in
    let done : c.loop-row.row ≡ length (numbers g.O.NativePType.PTYPE c.args.offsets.now) = grind (arith, count) in
    subst (λ n. AreBounds (λ i. get_or os i 0) (λ i. get_or os i 0 + get_or ss i 0) n c.loop-row.least c.loop-row.greatest) done c.loop-row.invariant
