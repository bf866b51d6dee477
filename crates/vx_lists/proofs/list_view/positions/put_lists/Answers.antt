use Rattle.std.proofs.Common.{◌≡◌, ◌+◌, ◌<◌, ℕ, List, length, ap, ◌∙◌, arith}
use Rattle.vx_base.specs.Integers.{numbers}
use Rattle.vx_lists.specs.ListViews.CountBytes.{counts_of}
use Rattle.vx_lists.proofs.ListViews.CountBytes.{length-counts_of}
use Rattle.vx_lists.proofs.ListViews.PlannedRows.{next_start}
use Rattle.vx_lists.proofs.ListViews.PutPositions.{list_put}
use Rattle.vx_lists.proofs.list_view.positions.put_lists.Goals as goal

pub put_positions-requires-clause-room : goal.put_positions-requires-clause-room
put_positions-requires-clause-room g c =
    let s = g.S.NativePType.PTYPE in
    let ss : List ℕ = counts_of s c.args.sizes.now in
    let inside : c.loop-row.row < length ss = omega (arith, length-counts_of s c.args.sizes.now, c.requires.lists.same_len, c.number_count-row-end.ensures, ap (λ t. length (numbers t c.args.offsets.now)) c.PTYPE.ensures) in
    let next = next_start ss c.loop-row.row c.loop-row.at inside c.loop-row.invariant.place in
    omega (arith, next.3, c.count_of_bytes-size.ensures.value, c.loop-row.invariant.len, c.requires.room)

pub loop-row-preserved : goal.loop-row-preserved
loop-row-preserved g c =
    let o = g.O.NativePType.PTYPE in
    let s = g.S.NativePType.PTYPE in
    let os : List ℕ = counts_of o c.args.offsets.now in
    let ss : List ℕ = counts_of s c.args.sizes.now in
    let i : ℕ = c.loop-row.row in
    let same_len : length ss ≡ length os = omega (arith, length-counts_of s c.args.sizes.now, c.requires.lists.same_len, length-counts_of o c.args.offsets.now) in
    let inside : i < length os = omega (arith, length-counts_of o c.args.offsets.now, c.number_count-row-end.ensures, ap (λ t. length (numbers t c.args.offsets.now)) c.PTYPE.ensures) in
    let next = next_start ss i c.loop-row.at (omega arith) c.loop-row.invariant.place in
    let size_is = c.count_of_bytes-size.ensures.value in
    record {
      len = c.put_positions.ensures.len ∙ c.loop-row.invariant.len;
      place = ap (λ n. c.loop-row.at + n) size_is ∙ next.2;
      put = list_put os ss c.loop-row.out c.put_positions.new.out i c.loop-row.at c.count_of_bytes-offset.result c.count_of_bytes-size.result same_len inside c.count_of_bytes-offset.ensures.value size_is c.loop-row.invariant.put c.put_positions.ensures.put;
    }
