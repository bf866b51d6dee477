use Rattle.std.proofs.Common.{◌≡◌, ◌∙◌, ◌<◌, length, refl, sym, ap, arith}
use Rattle.std.specs.List.{flat_map, range_with_len}
use Rattle.vx_base.specs.Integers.{numbers}
use Rattle.vx_pack.proofs.JoinedRuns.{list_joined}
use Rattle.vx_pack.proofs.ReadCounts.{length-counts_of}
use Rattle.vx_pack.specs.CountBytes.{counts_of}
use Rattle.vx_pack.specs.StoredLists.{positions_of}
use Rattle.vx_pack.proofs.joined_lists.joined_typed_run.Goals as goal

pub loop-i-preserved : goal.loop-i-preserved
loop-i-preserved g c =
    let t = g.O.NativePType.PTYPE in
    let u = g.S.NativePType.PTYPE in
    let ss = c.args.sizes.now in
    let inside : c.loop-i.i < length (numbers u ss) =
    omega (arith, c.loop-i-test.true, c.number_count-count.ensures, ap (λ p. length (numbers p ss)) c.PTYPE.ensures) in
    list_joined t u c.args.offsets.now ss c.args.len c.count_of_bytes-start.result c.loop-i.i c.loop-i.end c.count_of_bytes-end.result _ c.requires inside
    (sym c.if-count_of_bytes-end.false ∙ c.count_of_bytes.ensures) c.count_of_bytes-end.ensures refl c.loop-i.invariant

pub returns : goal.returns
returns g c =
    let t = g.O.NativePType.PTYPE in
    let u = g.S.NativePType.PTYPE in
    let starts = counts_of t c.args.offsets.now in
    let sizes = counts_of u c.args.sizes.now in
    let count : length sizes ≡ c.loop-i.i =
    omega (
      arith,
      length-counts_of u c.args.sizes.now,
      c.loop-i-test.false,
      c.loop-i.auto.i-end,
      c.number_count-count.ensures,
      ap (λ p. length (numbers p c.args.sizes.now)) c.PTYPE.ensures,
    ) in
    (c.loop-i.invariant.ordered, c.loop-i.invariant.within, ap (λ n. flat_map (positions_of starts sizes) (range_with_len 0 n)) count ∙ c.loop-i.invariant.positions)
