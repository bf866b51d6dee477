use Rattle.std.proofs.Common.{◌≡◌, ◌<◌, length, ap, subst, arith}
use Rattle.std.specs.List.{flat_map, range_with_len}
use Rattle.std.proofs.lemmas.Result.{MatchResult-weaker}
use Rattle.vx_base.specs.Integers.{numbers}
use Rattle.vx_pack.proofs.ReadCounts.{length-counts_of}
use Rattle.vx_pack.proofs.RunPieces.{last_run, no_list_yet, run_begins, run_goes_on}
use Rattle.vx_pack.specs.CountBytes.{counts_of}
use Rattle.vx_pack.specs.Pieces.{ArePushedRows}
use Rattle.vx_pack.specs.StoredLists.{positions_of}
use Rattle.vx_pack.proofs.run_pieces.push_typed_runs.Goals as goal
use Rattle.vx_pack.proofs.run_pieces.push_typed_runs.Goals.{then-goes_on, else-goes_on+in_ok-push_run}

pub loop-i-init : goal.loop-i-init
loop-i-init g c =
    no_list_yet c.args.elements.now (counts_of g.O.NativePType.PTYPE c.args.offsets.now) (counts_of g.S.NativePType.PTYPE c.args.sizes.now)
    c.args.lists.now.items

pub loop-i-preserved : goal.loop-i-preserved
loop-i-preserved g c =
    let t = g.O.NativePType.PTYPE in
    let u = g.S.NativePType.PTYPE in
    let e = c.args.elements.now in
    let os = c.args.offsets.now in
    let ss = c.args.sizes.now in
    let before = c.args.lists.now.items in
    let offset = c.count_of_bytes-offset.result in
    let size = c.count_of_bytes-size.result in
    let inside : c.loop-i.i < length (numbers u ss) =
    omega (arith, c.loop-i-test.true, c.number_count-i-end.ensures, ap (λ p. length (numbers p ss)) c.PTYPE.ensures) in
    elim c.if-goes_on.branch [
      | then-goes_on w ↦
          rw (w.lists-is, w.start-is)
          (run_goes_on t u e os ss c.loop-i.i c.loop-i.start c.loop-i.end offset size c.if-goes_on.end before c.loop-i.lists.items c.requires inside
          c.count_of_bytes-offset.ensures c.count_of_bytes-size.ensures (c.goes_on.ensures.0 w.if-goes_on.true) w.end-is c.loop-i.invariant)
      | else-goes_on+in_ok-push_run w ↦
          rw (w.lists-is, w.start-is)
          (run_begins t u e os ss c.loop-i.i c.loop-i.start c.loop-i.end offset size c.if-goes_on.end before c.loop-i.lists.items
          w.push_run.new.lists.items c.requires inside c.count_of_bytes-offset.ensures c.count_of_bytes-size.ensures w.end-is c.loop-i.invariant
          w.in_ok-push_run.ensures)
    ]

pub returns : goal.returns
returns g c =
    let u = g.S.NativePType.PTYPE in
    let e = c.args.elements.now in
    let starts = counts_of g.O.NativePType.PTYPE c.args.offsets.now in
    let sizes = counts_of u c.args.sizes.now in
    let before = c.args.lists.now.items in
    let after = c.push_run-2.new.lists.items in
    let count : c.loop-i.i ≡ length sizes =
    omega (
      arith,
      length-counts_of u c.args.sizes.now,
      c.loop-i-test.false,
      c.loop-i.auto.i-end,
      c.number_count-i-end.ensures,
      ap (λ p. length (numbers p c.args.sizes.now)) c.PTYPE.ensures,
    ) in
    MatchResult-weaker c.push_run-2.result c.push_run-2.ensures
    (λ x run.
    subst (λ n. ArePushedRows e (flat_map (positions_of starts sizes) (range_with_len 0 n)) before after) count
    (last_run e starts sizes c.loop-i.i c.loop-i.start c.loop-i.end before c.loop-i.lists.items after c.loop-i.invariant run))
    (λ x m. m)
