use Rattle.std.proofs.Common.{◌≡◌, ◌⊎◌, inl, inr, ◌+◌, ◌<◌, ◌≤◌, ℕ, List, length, get_or, sym, ap, ◌∙◌, arith}
use Rattle.std.proofs.lemmas.Bool.{eqb-true}
use Rattle.vx_base.specs.Integers.{numbers}
use Rattle.vx_lists.specs.ListViews.CountBytes.{counts_of}
use Rattle.vx_lists.proofs.ListViews.CountBytes.{length-counts_of}
use Rattle.vx_lists.proofs.ListViews.PlannedRows.{ArePushed-grow, ArePushed-next, ArePushed-all, length-pushed}
use Rattle.vx_lists.proofs.list_view.positions.push_lists.Goals as goal
use Rattle.vx_lists.proofs.list_view.positions.push_lists.Goals.{then-meets, else-meets, then-size-eq0, else-size-eq0}

pub push_positions-requires-clause-room : goal.push_positions-requires-clause-room
push_positions-requires-clause-room g c =
    let os : List ℕ = counts_of g.O.NativePType.PTYPE c.args.offsets.now in
    let ss : List ℕ = counts_of g.S.NativePType.PTYPE c.args.sizes.now in
    let same_len : length ss ≡ length os = length-counts_of g.S.NativePType.PTYPE c.args.sizes.now ∙ c.requires.lists.same_len ∙ sym (length-counts_of g.O.NativePType.PTYPE c.args.offsets.now) in
    let few = length-pushed os ss c.loop-row.row c.loop-row.positions.items c.loop-row.start c.loop-row.end same_len c.loop-row.invariant.pushed in
    omega (arith, few, c.requires.room, c.loop-row.invariant.capacity, c.loop-row.positions.ok.0)

pub loop-row-preserved : goal.loop-row-preserved
loop-row-preserved g c =
    let os : List ℕ = counts_of g.O.NativePType.PTYPE c.args.offsets.now in
    let ss : List ℕ = counts_of g.S.NativePType.PTYPE c.args.sizes.now in
    let same_len : length ss ≡ length os = length-counts_of g.S.NativePType.PTYPE c.args.sizes.now ∙ c.requires.lists.same_len ∙ sym (length-counts_of g.O.NativePType.PTYPE c.args.offsets.now) in
    let i : ℕ = c.loop-row.row in
    let inside : i < length os = omega (arith, length-counts_of g.O.NativePType.PTYPE c.args.offsets.now, c.number_count-row-end.ensures, ap (λ t. length (numbers t c.args.offsets.now)) c.PTYPE.ensures) in
    let offset_is = c.count_of_bytes-offset.ensures.value in
    let size_is = c.count_of_bytes-size.ensures.value in
    let kept = c.loop-row.invariant in
    elim c.if-meets.branch [
      | then-meets w ↦
          let met : (get_or os i 0 ≡ c.loop-row.end) ⊎ (get_or ss i 0 ≡ 0) =
          elim c.if-size-eq0.branch [
            | then-size-eq0 v ↦ inr (sym size_is ∙ v.if-size-eq0.true)
            | else-size-eq0 v ↦ inl (sym offset_is ∙ eqb-true c.count_of_bytes-offset.result c.loop-row.end (sym v.meets-is ∙ w.if-meets.true))
          ] in
          record {
            pushed = ArePushed-grow os ss i c.loop-row.positions.items c.loop-row.start c.loop-row.end same_len inside kept.pushed c.if-meets.positions.items c.if-meets.start c.if-meets.end (ap (λ r. r.items) w.positions-is) w.start-is (w.end-is ∙ ap (λ n. c.loop-row.end + n) size_is) met;
            capacity = ap (λ r. r.cap) w.positions-is ∙ kept.capacity;
          }
      | else-meets w ↦
          record {
            pushed = ArePushed-next os ss i c.loop-row.positions.items c.loop-row.start c.loop-row.end same_len inside kept.pushed c.if-meets.positions.items c.if-meets.start c.if-meets.end (ap (λ r. r.items) w.positions-is ∙ w.push_positions.ensures.items) (w.start-is ∙ offset_is) (w.end-is ∙ ap (λ n. n + c.count_of_bytes-size.result) offset_is ∙ ap (λ n. get_or os i 0 + n) size_is);
            capacity = ap (λ r. r.cap) w.positions-is ∙ w.push_positions.ensures.capacity ∙ kept.capacity;
          }
    ]

pub push_positions-requires-2-clause-room : goal.push_positions-requires-2-clause-room
push_positions-requires-2-clause-room g c =
    let os : List ℕ = counts_of g.O.NativePType.PTYPE c.args.offsets.now in
    let ss : List ℕ = counts_of g.S.NativePType.PTYPE c.args.sizes.now in
    let same_len : length ss ≡ length os = length-counts_of g.S.NativePType.PTYPE c.args.sizes.now ∙ c.requires.lists.same_len ∙ sym (length-counts_of g.O.NativePType.PTYPE c.args.offsets.now) in
    let few = length-pushed os ss c.loop-row.row c.loop-row.positions.items c.loop-row.start c.loop-row.end same_len c.loop-row.invariant.pushed in
    omega (arith, few, c.requires.room, c.loop-row.invariant.capacity, c.loop-row.positions.ok.0)

pub returns : goal.returns
returns g c =
    let os : List ℕ = counts_of g.O.NativePType.PTYPE c.args.offsets.now in
    let ss : List ℕ = counts_of g.S.NativePType.PTYPE c.args.sizes.now in
    let same_len : length ss ≡ length os = length-counts_of g.S.NativePType.PTYPE c.args.sizes.now ∙ c.requires.lists.same_len ∙ sym (length-counts_of g.O.NativePType.PTYPE c.args.offsets.now) in
    let all : length os ≤ c.loop-row.row = omega (arith, length-counts_of g.O.NativePType.PTYPE c.args.offsets.now, c.number_count-row-end.ensures, ap (λ t. length (numbers t c.args.offsets.now)) c.PTYPE.ensures) in
    c.push_positions-2.ensures.items ∙ ArePushed-all os ss c.loop-row.row c.loop-row.positions.items c.loop-row.start c.loop-row.end same_len c.loop-row.invariant.pushed all
