use Rattle.std.proofs.Common.{◌≡◌, ◌<◌, ◌/◌, length, get_or, replicate, pos, of_z, to_z, sym, ap, ◌∙◌, arith}
use Rattle.std.specs.Int.{w128}
use Rattle.std.proofs.lemmas.Bool.{eqb-true}
use Rattle.std.proofs.lemmas.List.{get_or-replicate, length-replicate}
use Rattle.vx_base.specs.Integers.{byte_width, numbers}
use Rattle.vx_base.specs.Picked.{positions_of}
use Rattle.vx_base.proofs.NumberBytes.{number_passed}
use Rattle.vx_base.proofs.NumberLists.{length_numbers}
use Rattle.vx_base.proofs.Zeroes.{zeroes_repeated}
use Rattle.vx_base.proofs.gathered_numbers.picks_zeroes.Goals as goal

pub int_at-requires : goal.int_at-requires
int_at-requires c =
    let t = c.args.ptype in
    let bs = c.args.bytes.now in
    let p = c.in-Repeated.position in
    let n = c.in-Repeated.len in
    let told : c.args.selection.now ≡ replicate n p = sym c.picks.ensures ∙ ap positions_of c.in-Repeated.is in
    let first : get_or c.args.selection.now 0 0 ≡ p = ap (λ ps. get_or ps 0 0) told ∙ get_or-replicate n 0 p 0 (omega arith) in
    let inside : p < length bs / byte_width t = rw first at (c.requires 0 0 (omega (arith, ap length told, length-replicate n p))) in
    omega (arith, length_numbers t bs, inside)

pub returns-then-len-gt0 : goal.returns-then-len-gt0
returns-then-len-gt0 c = λ is_zero.
    let t = c.args.ptype in
    let z = c.int_at.result in
    let told : c.args.selection.now ≡ replicate c.in-Repeated.len c.in-Repeated.position = sym c.picks.ensures ∙ ap positions_of c.in-Repeated.is in
    let none : of_z w128 z ≡ 0 = eqb-true (of_z w128 z) 0 is_zero in
    let zero_there : z ≡ pos 0 = sym (number_passed t z c.int_at.ensures.holds) ∙ ap (to_z w128) none in
    zeroes_repeated (numbers t c.args.bytes.now) c.in-Repeated.position c.in-Repeated.len c.args.selection.now told (sym c.int_at.ensures.value ∙ zero_there)
