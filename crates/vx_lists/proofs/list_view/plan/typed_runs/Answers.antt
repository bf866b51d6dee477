use Rattle.std.proofs.Common.{◌≡◌, ◌⊎◌, inl, inr, ◌+◌, ◌<◌, ℕ, ◌≤◌, List, length, get_or, sym, ap, ◌∙◌, arith}
use Rattle.std.proofs.lemmas.Bool.{eqb-true}
use Rattle.std.specs.List.{flat_map}
use Rattle.vx_base.specs.Integers.{numbers}
use Rattle.vx_base.specs.Selections.{run_positions}
use Rattle.vx_lists.specs.ListViews.CountBytes.{counts_of}
use Rattle.vx_lists.proofs.ListViews.CountBytes.{length-counts_of}
use Rattle.vx_lists.proofs.ListViews.PlannedRows.{ArePushed-grow, ArePushed-next, ArePushed-all, runs_push}
use Rattle.vx_lists.proofs.list_view.plan.typed_runs.Goals as goal
use Rattle.vx_lists.proofs.list_view.plan.typed_runs.Goals.{then-meets, else-meets+in_ok-push, then-size-eq0, else-size-eq0}

pub loop-row-preserved : goal.loop-row-preserved
loop-row-preserved g c =
    let os : List ℕ = counts_of g.O.NativePType.PTYPE c.args.offsets.now in
    let ss : List ℕ = counts_of g.S.NativePType.PTYPE c.args.sizes.now in
    let same_len : length ss ≡ length os = length-counts_of g.S.NativePType.PTYPE c.args.sizes.now ∙ c.requires.same_len ∙ sym (length-counts_of g.O.NativePType.PTYPE c.args.offsets.now) in
    let i : ℕ = c.loop-row.row in
    let inside : i < length os = omega (arith, length-counts_of g.O.NativePType.PTYPE c.args.offsets.now, c.number_count-count.ensures, ap (λ t. length (numbers t c.args.offsets.now)) c.PTYPE.ensures) in
    let offset_is = c.count_of_bytes-offset.ensures.value in
    let size_is = c.count_of_bytes-size.ensures.value in
    elim c.if-meets.branch [
      | then-meets w ↦
          let met : (get_or os i 0 ≡ c.loop-row.end) ⊎ (get_or ss i 0 ≡ 0) =
          elim c.if-size-eq0.branch [
            | then-size-eq0 v ↦ inr (sym size_is ∙ v.if-size-eq0.true)
            | else-size-eq0 v ↦ inl (sym offset_is ∙ eqb-true c.count_of_bytes-offset.result c.loop-row.end (sym v.meets-is ∙ w.if-meets.true))
          ] in
          ArePushed-grow os ss i (flat_map run_positions c.loop-row.runs.items) c.loop-row.start c.loop-row.end same_len inside c.loop-row.invariant (flat_map run_positions c.if-meets.runs.items) c.if-meets.start c.if-meets.end (ap (λ r. flat_map run_positions r.items) w.runs-is) w.start-is (w.end-is ∙ ap (λ n. c.loop-row.end + n) size_is) met
      | else-meets+in_ok-push w ↦
          ArePushed-next os ss i (flat_map run_positions c.loop-row.runs.items) c.loop-row.start c.loop-row.end same_len inside c.loop-row.invariant (flat_map run_positions c.if-meets.runs.items) c.if-meets.start c.if-meets.end
          (runs_push c.loop-row.runs.items c.if-meets.runs.items c.loop-row.start c.loop-row.end (ap (λ r. r.items) w.runs-is ∙ w.in_ok-push.ensures.items)) (w.start-is ∙ offset_is) (w.end-is ∙ ap (λ n. n + c.count_of_bytes-size.result) offset_is ∙ ap (λ n. get_or os i 0 + n) size_is)
    ]

pub returns : goal.returns
returns g c =
    let os : List ℕ = counts_of g.O.NativePType.PTYPE c.args.offsets.now in
    let ss : List ℕ = counts_of g.S.NativePType.PTYPE c.args.sizes.now in
    let same_len : length ss ≡ length os = length-counts_of g.S.NativePType.PTYPE c.args.sizes.now ∙ c.requires.same_len ∙ sym (length-counts_of g.O.NativePType.PTYPE c.args.offsets.now) in
    let all : length os ≤ c.loop-row.row = omega (arith, length-counts_of g.O.NativePType.PTYPE c.args.offsets.now, c.number_count-count.ensures, ap (λ t. length (numbers t c.args.offsets.now)) c.PTYPE.ensures) in
    runs_push c.loop-row.runs.items c.push-2.new.self.items c.loop-row.start c.loop-row.end c.in_ok-push-2.ensures.items
    ∙ ArePushed-all os ss c.loop-row.row (flat_map run_positions c.loop-row.runs.items) c.loop-row.start c.loop-row.end same_len c.loop-row.invariant all
