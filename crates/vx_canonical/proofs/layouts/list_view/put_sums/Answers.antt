use Rattle.std.proofs.Common.{◌≡◌, ◌<◌, ◌+◌, ◌-◌, ◌*◌, ◌^◌, length, take, map, refl, sym, ap, subst, ◌∙◌, arith}
use Rattle.std.specs.Prelude.{pos, unsigned_abs}
use Rattle.std.proofs.lemmas.List.{map_more}
use Rattle.vx_base.specs.Integers.{numbers, number_nth, bytes_of, Holds}
use Rattle.vx_base.specs.declared.ptypes.PType.TheVariants.{U64}
use Rattle.vx_base.proofs.NumberLists.{numbers_written, numbers_none}
use Rattle.vx_base.proofs.Positions.{signed_position}
use Rattle.vx_canonical.proofs.JoinedListViews.{wide_holds, sum_read}
use Rattle.std.proofs.lemmas.List.{take_all}
use Rattle.vx_canonical.proofs.layouts.list_view.put_sums.Goals as goal

pub overflow_add-sum : goal.overflow_add-sum
overflow_add-sum g c =
    let t = g.T.NativePType.PTYPE in
    let bs = c.args.bytes.now in
    let zs = numbers t bs in
    let i = c.loop-i.i in
    let z = c.int_at-number.result in
    let count = ap (λ p. length (numbers p bs)) c.PTYPE.ensures in
    let within : i < length zs = omega (arith, count) in
    let read : z ≡ number_nth zs i = c.int_at-number.ensures.value ∙ ap (λ p. number_nth (numbers p bs) i) c.PTYPE-in-loop-i.ensures in
    let holds = subst (λ p. Holds p z) c.PTYPE-in-loop-i.ensures c.int_at-number.ensures.holds in
    let cast = sum_read t zs c.args.base i z c.requires.positions within read holds in
    let fits = subst (λ k. k < 2 ^ 64) (sym cast) (c.requires.short i (pos 0) within) in
    omega (arith, fits)

pub loop-i-init : goal.loop-i-init
loop-i-init g c = numbers_none U64

pub loop-i-preserved : goal.loop-i-preserved
loop-i-preserved g c =
    let t = g.T.NativePType.PTYPE in
    let bs = c.args.bytes.now in
    let zs = numbers t bs in
    let base = c.args.base in
    let i = c.loop-i.i in
    let z = c.int_at-number.result in
    let count = ap (λ p. length (numbers p bs)) c.PTYPE.ensures in
    let within : i < length zs = omega (arith, count) in
    let read : z ≡ number_nth zs i = c.int_at-number.ensures.value ∙ ap (λ p. number_nth (numbers p bs) i) c.PTYPE-in-loop-i.ensures in
    let holds = subst (λ p. Holds p z) c.PTYPE-in-loop-i.ensures c.int_at-number.ensures.holds in
    let sum = base + unsigned_abs (number_nth zs i) in
    let fits : sum < 2 ^ 64 = c.requires.short i (pos 0) within in
    let cast : base + _ ≡ sum = sum_read t zs base i z c.requires.positions within read holds in
    let written : c.put_int.new.out ≡ bytes_of U64 (pos sum) = c.put_int.ensures ∙ ap (bytes_of U64) (signed_position _ (rw cast fits) ∙ ap pos cast) in
    numbers_written U64 c.loop-i.out c.put_int.new.out 8 (length zs) i (i * 8 + 8 - i * 8) (pos sum) (map (λ y. pos (base + unsigned_abs y)) (take i zs)) refl written (wide_holds sum fits) (omega arith) within c.loop-i.invariant
    ∙ sym (map_more (λ y. pos (base + unsigned_abs y)) zs i (pos 0) within)

pub returns : goal.returns
returns g c =
    let t = g.T.NativePType.PTYPE in
    let bs = c.args.bytes.now in
    let zs = numbers t bs in
    let i = c.loop-i.i in
    let count = ap (λ p. length (numbers p bs)) c.PTYPE.ensures in
    let all : take i zs ≡ zs = take_all i zs (omega (arith, count)) in
    let whole : take (i * 8) c.loop-i.out ≡ c.loop-i.out = take_all (i * 8) c.loop-i.out (omega (arith, count)) in
    record { len = omega arith; numbers = sym (ap (numbers U64) whole) ∙ c.loop-i.invariant ∙ ap (map (λ y. pos (c.args.base + unsigned_abs y))) all }
