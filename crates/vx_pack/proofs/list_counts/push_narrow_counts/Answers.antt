use Rattle.std.proofs.Common.{◌≡◌, ◌++◌, ◌≤◌, ℕ, List, length, take, drop, sum, sym, ap, subst, arith}
use Rattle.std.proofs.lemmas.List.{append-nil, take_all}
use Rattle.vx_base.specs.Integers.{numbers}
use Rattle.vx_pack.specs.CountBytes.{counts_of}
use Rattle.vx_pack.specs.ListItems.{AreListCounts}
use Rattle.vx_pack.proofs.NarrowCounts.{block_joined, block_room}
use Rattle.vx_pack.proofs.ReadCounts.{length-counts_of}
use Rattle.vx_pack.proofs.list_counts.push_narrow_counts.Goals as goal

pub loop-first-init : goal.loop-first-init
loop-first-init g c = record {
  within = omega arith;
  counts = λ ns h. subst (λ xs. AreListCounts c.args.counts.now.total xs c.args.counts.now) (sym (append-nil ns)) h;
}

pub push_block-requires-clause-room : goal.push_block-requires-clause-room
push_block-requires-clause-room g c =
    let all : List ℕ = counts_of g.T.NativePType.PTYPE c.args.sizes.now in
    let ns = c.requires.room.0 in
    let now = c.loop-first.invariant.counts ns c.requires.room.1 in
    omega (arith, now.all, block_room ns all c.loop-first.first c.min-count.result c.loop-first.counts.next now.next, c.requires.room.2)

pub push_block-requires-clause-fits : goal.push_block-requires-clause-fits
push_block-requires-clause-fits g c =
    let now = c.loop-first.invariant.counts c.requires.room.0 c.requires.room.1 in
    omega (arith, now.all, c.requires.fits)

pub loop-first-preserved : goal.loop-first-preserved
loop-first-preserved g c =
    let all : List ℕ = counts_of g.T.NativePType.PTYPE c.args.sizes.now in
    let total = c.args.counts.now.total in
    let first = c.loop-first.first in
    let count = c.min-count.result in
    record {
      within = omega (arith, c.min-count.ensures);
      counts = λ ns h.
          let now = c.loop-first.invariant.counts ns h in
          let same : c.loop-first.counts.total ≡ total = now.all in
          subst (λ xs. AreListCounts total xs c.push_block.new.counts) (block_joined ns all first count)
          (subst (λ m. AreListCounts m ((ns ++ take first all) ++ take count (drop first all)) c.push_block.new.counts) same
          (c.in_ok-push_block.ensures (ns ++ take first all) (subst (λ m. AreListCounts m (ns ++ take first all) c.loop-first.counts)
          (sym same) now)));
    }

pub returns : goal.returns
returns g c = λ ns h.
    let t = g.T.NativePType.PTYPE in
    let all : List ℕ = counts_of t c.args.sizes.now in
    let done : length all ≤ c.loop-first.first =
    omega (
      arith,
      length-counts_of t c.args.sizes.now,
      c.number_count-end.ensures,
      ap (λ p. length (numbers p c.args.sizes.now)) c.PTYPE.ensures,
    ) in
    subst (λ xs. AreListCounts c.args.counts.now.total (ns ++ xs) c.loop-first.counts) (take_all c.loop-first.first all done)
    (c.loop-first.invariant.counts ns h)
