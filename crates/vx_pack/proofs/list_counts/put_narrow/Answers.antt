use Rattle.std.proofs.Common.{◌≡◌, ◌∙◌, ◌+◌, ◌<◌, ◌≤◌, ◌++◌, ℕ, List, length, get_or, sum, take, drop, refl, sym, ap, subst, arith}
use Rattle.std.specs.List.{flat_map}
use Rattle.std.proofs.lemmas.List.{get_or-drop, length-drop, length-set}
use Rattle.std.proofs.lemmas.List.Sums.{sum_by_more}
use Rattle.vx_base.specs.Integers.{numbers}
use Rattle.vx_pack.specs.CountBytes.{counts_of}
use Rattle.vx_pack.specs.ListItems.{AreCountsUpTo}
use Rattle.vx_pack.proofs.NarrowCounts.{counts_put, no_more_put, sum-take-le}
use Rattle.vx_pack.proofs.ReadCounts.{length-counts_of, numbers_few}
use Rattle.vx_pack.proofs.list_counts.put_narrow.Goals as goal

pub loop-i-init : goal.loop-i-init
loop-i-init g c = record { offsets = refl; lens = refl; total = omega arith; put = λ ns os ss h. no_more_put ns os ss c.args.next h }

pub overflow_add-first : goal.overflow_add-first
overflow_add-first g c = omega (arith, c.requires.within, numbers_few g.T.NativePType.PTYPE c.args.sizes.now)

pub narrow_bytes-requires : goal.narrow_bytes-requires
narrow_bytes-requires g c =
    let t = g.T.NativePType.PTYPE in
    let all : List ℕ = counts_of t c.args.sizes.now in
    let ms : List ℕ = drop c.args.first all in
    let i : ℕ = c.loop-i.i in
    let inside : i < length ms = omega (arith, length-drop c.args.first all, length-counts_of t c.args.sizes.now, c.requires.within) in
    let size_is : c.count_of_bytes-size.result ≡ get_or ms i 0 = c.count_of_bytes-size.ensures ∙ sym (get_or-drop c.args.first all i 0) in
    let more : sum (take (i + 1) ms) ≡ sum (take i ms) + get_or ms i 0 = sum_by_more (λ (x : ℕ). x) ms i 0 inside in
    let least : sum (take (i + 1) ms) ≤ sum (take c.args.count ms) = sum-take-le ms (i + 1) c.args.count (omega arith) in
    omega (arith, c.loop-i.invariant.total, more, least, c.requires.fits)

pub narrow_bytes-requires-in-loop-i : goal.narrow_bytes-requires-in-loop-i
narrow_bytes-requires-in-loop-i g c =
    let t = g.T.NativePType.PTYPE in
    let all : List ℕ = counts_of t c.args.sizes.now in
    let ms : List ℕ = drop c.args.first all in
    let i : ℕ = c.loop-i.i in
    let inside : i < length ms = omega (arith, length-drop c.args.first all, length-counts_of t c.args.sizes.now, c.requires.within) in
    let size_is : c.count_of_bytes-size.result ≡ get_or ms i 0 = c.count_of_bytes-size.ensures ∙ sym (get_or-drop c.args.first all i 0) in
    let more : sum (take (i + 1) ms) ≡ sum (take i ms) + get_or ms i 0 = sum_by_more (λ (x : ℕ). x) ms i 0 inside in
    let least : sum (take (i + 1) ms) ≤ sum (take c.args.count ms) = sum-take-le ms (i + 1) c.args.count (omega arith) in
    omega (arith, more, least, c.requires.fits, size_is)

pub overflow_add-at : goal.overflow_add-at
overflow_add-at g c =
    let t = g.T.NativePType.PTYPE in
    let all : List ℕ = counts_of t c.args.sizes.now in
    let ms : List ℕ = drop c.args.first all in
    let i : ℕ = c.loop-i.i in
    let inside : i < length ms = omega (arith, length-drop c.args.first all, length-counts_of t c.args.sizes.now, c.requires.within) in
    let size_is : c.count_of_bytes-size.result ≡ get_or ms i 0 = c.count_of_bytes-size.ensures ∙ sym (get_or-drop c.args.first all i 0) in
    let more : sum (take (i + 1) ms) ≡ sum (take i ms) + get_or ms i 0 = sum_by_more (λ (x : ℕ). x) ms i 0 inside in
    let least : sum (take (i + 1) ms) ≤ sum (take c.args.count ms) = sum-take-le ms (i + 1) c.args.count (omega arith) in
    omega (arith, c.loop-i.invariant.total, more, least, c.requires.fits, size_is)

pub loop-i-preserved : goal.loop-i-preserved
loop-i-preserved g c =
    let t = g.T.NativePType.PTYPE in
    let all : List ℕ = counts_of t c.args.sizes.now in
    let ms : List ℕ = drop c.args.first all in
    let i : ℕ = c.loop-i.i in
    let inside : i < length ms = omega (arith, length-drop c.args.first all, length-counts_of t c.args.sizes.now, c.requires.within) in
    let size_is : c.count_of_bytes-size.result ≡ get_or ms i 0 = c.count_of_bytes-size.ensures ∙ sym (get_or-drop c.args.first all i 0) in
    let more : sum (take (i + 1) ms) ≡ sum (take i ms) + get_or ms i 0 = sum_by_more (λ (x : ℕ). x) ms i 0 inside in
    let least : sum (take (i + 1) ms) ≤ sum (take c.args.count ms) = sum-take-le ms (i + 1) c.args.count (omega arith) in
    let at = c.loop-i.at in
    let size = c.count_of_bytes-size.result in
    record {
      offsets = length-set c.loop-i.offsets i _ ∙ c.loop-i.invariant.offsets;
      lens = length-set c.loop-i.lens i _ ∙ c.loop-i.invariant.lens;
      total = omega (arith, c.loop-i.invariant.total, more, size_is);
      put = λ ns os ss h.
          counts_put ns ms os ss c.loop-i.offsets c.loop-i.lens i at size c.narrow_bytes.result c.narrow_bytes-in-loop-i.result inside
          (omega (arith, c.loop-i.invariant.offsets, c.requires.offsets)) (omega (arith, c.loop-i.invariant.lens, c.requires.lens)) size_is
          c.narrow_bytes.ensures c.narrow_bytes-in-loop-i.ensures (c.loop-i.invariant.put ns os ss h);
    }

pub returns : goal.returns
returns g c = λ ns os ss h.
    let ms : List ℕ = drop c.args.first (counts_of g.T.NativePType.PTYPE c.args.sizes.now) in
    let end : c.loop-i.i ≡ c.args.count = omega (arith, c.loop-i-test.false, c.loop-i.auto.i-end) in
    subst (λ n. AreCountsUpTo (ns ++ take n ms) c.loop-i.at (os ++ flat_map (λ b. b) (take n c.loop-i.offsets)) (ss ++ flat_map (λ b. b)
    (take n c.loop-i.lens)))
    end (c.loop-i.invariant.put ns os ss h)
