use Rattle.std.proofs.Common.{◌≡◌, ◌∙◌, ◌<◌, ◌≤◌, ◌++◌, ◌∷◌, [], ℕ, List, length, get_or, take, drop, refl, sym, ap, arith}
use Rattle.std.proofs.lemmas.List.{get_or-drop, length-drop, length-set, take_all, take_more_set}
use Rattle.vx_pack.specs.CountBytes.{counts_of}
use Rattle.vx_pack.proofs.ReadCounts.{counts_step, length-counts_of, numbers_few}
use Rattle.vx_pack.proofs.count_bytes.put_typed_counts.Goals as goal

pub loop-i-init : goal.loop-i-init
loop-i-init g c = record { room = refl; put = refl }

pub overflow_add-first : goal.overflow_add-first
overflow_add-first g c =
    omega (arith, c.requires.within, c.loop-i.invariant.room, numbers_few g.T.NativePType.PTYPE c.args.bytes.now)

pub loop-i-preserved : goal.loop-i-preserved
loop-i-preserved g c =
    let all : List ℕ = counts_of g.T.NativePType.PTYPE c.args.bytes.now in
    let ms : List ℕ = drop c.args.first all in
    let i : ℕ = c.loop-i.i in
    let count = c.count_of_bytes.result in
    let inside : i < length ms =
    omega (
      arith,
      length-drop c.args.first all,
      length-counts_of g.T.NativePType.PTYPE c.args.bytes.now,
      c.requires.within,
      c.loop-i.invariant.room,
    ) in
    let is : count ≡ get_or ms i 0 = c.count_of_bytes.ensures ∙ sym (get_or-drop c.args.first all i 0) in
    record {
      room = length-set c.loop-i.out i _ ∙ c.loop-i.invariant.room;
      put =
          take_more_set c.loop-i.out i count (omega (arith, c.loop-i.invariant.room)) ∙ ap (λ xs. xs ++ count ∷ []) c.loop-i.invariant.put
          ∙ counts_step [] ms i count inside is;
    }

pub returns : goal.returns
returns g c =
    let all : length c.loop-i.out ≤ c.loop-i.i = omega (arith, c.loop-i-test.false, c.loop-i.invariant.room) in
    let end : c.loop-i.i ≡ length c.args.out.now = omega (arith, c.loop-i-test.false, c.loop-i.auto.i-end, c.loop-i.invariant.room) in
    sym (take_all c.loop-i.i c.loop-i.out all) ∙ c.loop-i.invariant.put
    ∙ ap (λ n. take n (drop c.args.first (counts_of g.T.NativePType.PTYPE c.args.bytes.now))) end
