use Rattle.std.proofs.Common.{◌≡◌, ◌∙◌, ◌+◌, ◌<◌, ◌≤◌, ℕ, List, length, get_or, sum, take, ap, refl, arith}
use Rattle.std.proofs.lemmas.List.{take_all}
use Rattle.std.proofs.lemmas.List.Sums.{sum_by_more, sum_by_more_le}
use Rattle.vx_base.specs.Integers.{numbers}
use Rattle.vx_pack.specs.CountBytes.{counts_of}
use Rattle.vx_pack.proofs.ReadCounts.{length-counts_of}
use Rattle.vx_pack.proofs.count_bytes.total_with_typed.Goals as goal

pub returns-in_default : goal.returns-in_default
returns-in_default g c =
    let t = g.T.NativePType.PTYPE in
    let counts : List ℕ = counts_of t c.args.counts.now in
    let i : ℕ = c.loop-i.i in
    let inside : i < length counts =
    omega (
      arith,
      length-counts_of t c.args.counts.now,
      c.number_count-i-end.ensures,
      ap (λ p. length (numbers p c.args.counts.now)) c.PTYPE.ensures,
    ) in
    let within : sum (take i counts) + get_or counts i 0 ≤ sum counts = sum_by_more_le (λ (x : ℕ). x) counts i 0 inside in
    (refl, omega (arith, within, c.count_of_bytes.ensures, c.in-Some.ensures, c.loop-i.invariant))

pub returns-in_default-2 : goal.returns-in_default-2
returns-in_default-2 g c =
    let t = g.T.NativePType.PTYPE in
    let counts : List ℕ = counts_of t c.args.counts.now in
    let i : ℕ = c.loop-i.i in
    let inside : i < length counts =
    omega (
      arith,
      length-counts_of t c.args.counts.now,
      c.number_count-i-end.ensures,
      ap (λ p. length (numbers p c.args.counts.now)) c.PTYPE.ensures,
    ) in
    let within : sum (take i counts) + get_or counts i 0 ≤ sum counts = sum_by_more_le (λ (x : ℕ). x) counts i 0 inside in
    (refl, omega (arith, within, c.count_of_bytes.ensures, c.in_default.ensures, c.loop-i.invariant, c.ranges.limit.fits))

pub loop-i-preserved : goal.loop-i-preserved
loop-i-preserved g c =
    let t = g.T.NativePType.PTYPE in
    let counts : List ℕ = counts_of t c.args.counts.now in
    let i : ℕ = c.loop-i.i in
    let inside : i < length counts =
    omega (
      arith,
      length-counts_of t c.args.counts.now,
      c.number_count-i-end.ensures,
      ap (λ p. length (numbers p c.args.counts.now)) c.PTYPE.ensures,
    ) in
    let more : sum (take (i + 1) counts) ≡ sum (take i counts) + get_or counts i 0 = sum_by_more (λ (x : ℕ). x) counts i 0 inside in
    (omega (arith, more, c.count_of_bytes.ensures, c.in-Some.ensures, c.loop-i.invariant), omega (arith, c.if-more-limit.true))

pub returns : goal.returns
returns g c =
    let t = g.T.NativePType.PTYPE in
    let counts : List ℕ = counts_of t c.args.counts.now in
    let all : length counts ≤ c.loop-i.i =
    omega (
      arith,
      length-counts_of t c.args.counts.now,
      c.number_count-i-end.ensures,
      ap (λ p. length (numbers p c.args.counts.now)) c.PTYPE.ensures,
    ) in
    (c.loop-i.invariant.0 ∙ ap (λ xs. c.args.before + sum xs) (take_all c.loop-i.i counts all), c.loop-i.invariant.1)
