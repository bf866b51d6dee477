use Rattle.std.proofs.Common.{◌≡◌, ◌++◌, ◌+◌, ◌<◌, ◌≤◌, ◌∙◌, ℕ, List, length, get_or, sum, take, sym, ap, subst, arith}
use Rattle.std.proofs.lemmas.List.{append-nil, take_all}
use Rattle.std.proofs.lemmas.List.Sums.{sum_by-append, sum_by_more_le}
use Rattle.vx_base.specs.Integers.{numbers}
use Rattle.vx_pack.specs.CountBytes.{counts_of}
use Rattle.vx_pack.specs.ListItems.{AreListCounts}
use Rattle.vx_pack.proofs.ReadCounts.{counts_step, length-counts_of}
use Rattle.vx_pack.proofs.list_counts.push_typed_counts.Goals as goal

pub loop-i-init : goal.loop-i-init
loop-i-init g c = λ ns h. subst (λ xs. AreListCounts c.args.counts.now.total xs c.args.counts.now) (sym (append-nil ns)) h

pub push-requires-clause-room : goal.push-requires-clause-room
push-requires-clause-room g c =
    let t = g.T.NativePType.PTYPE in
    let counts : List ℕ = counts_of t c.args.sizes.now in
    let i : ℕ = c.loop-i.i in
    let inside : i < length counts =
    omega (
      arith,
      length-counts_of t c.args.sizes.now,
      c.number_count-i-end.ensures,
      ap (λ p. length (numbers p c.args.sizes.now)) c.PTYPE.ensures,
    ) in
    let ns = c.requires.room.0 in
    let now = c.loop-i.invariant ns c.requires.room.1 in
    let within : sum (take i counts) + get_or counts i 0 ≤ sum counts = sum_by_more_le (λ (x : ℕ). x) counts i 0 inside in
    let at : c.loop-i.counts.next ≡ sum ns + sum (take i counts) = now.next ∙ sum_by-append (λ (n : ℕ). n) ns (take i counts) in
    omega (arith, now.all, at, within, c.requires.room.2, c.count_of_bytes.ensures)

pub push-requires-clause-fits : goal.push-requires-clause-fits
push-requires-clause-fits g c =
    let now = c.loop-i.invariant c.requires.room.0 c.requires.room.1 in
    omega (arith, now.all, c.requires.fits)

pub loop-i-preserved : goal.loop-i-preserved
loop-i-preserved g c = λ ns h.
    let t = g.T.NativePType.PTYPE in
    let counts : List ℕ = counts_of t c.args.sizes.now in
    let i : ℕ = c.loop-i.i in
    let inside : i < length counts =
    omega (
      arith,
      length-counts_of t c.args.sizes.now,
      c.number_count-i-end.ensures,
      ap (λ p. length (numbers p c.args.sizes.now)) c.PTYPE.ensures,
    ) in
    let total = c.args.counts.now.total in
    subst (λ xs. AreListCounts total xs c.push.new.self) (counts_step ns counts i c.count_of_bytes.result inside c.count_of_bytes.ensures)
    (c.in_ok-push.ensures total (ns ++ take i counts) (c.loop-i.invariant ns h))

pub returns : goal.returns
returns g c = λ ns h.
    let t = g.T.NativePType.PTYPE in
    let counts : List ℕ = counts_of t c.args.sizes.now in
    let all : length counts ≤ c.loop-i.i =
    omega (
      arith,
      length-counts_of t c.args.sizes.now,
      c.number_count-i-end.ensures,
      ap (λ p. length (numbers p c.args.sizes.now)) c.PTYPE.ensures,
    ) in
    subst (λ xs. AreListCounts c.args.counts.now.total (ns ++ xs) c.loop-i.counts) (take_all c.loop-i.i counts all)
    (c.loop-i.invariant ns h)
