use Rattle.std.proofs.Common.{◌≡◌, ◌*◌, ◌≤◌, ap, ◌∙◌, arith}
use Rattle.std.specs.Prelude.{length, slice_range}
use Rattle.std.proofs.Math.Nat.{mul-le-mul_right}
use Rattle.vx_base.specs.Integers.{byte_width, numbers}
use Rattle.vx_base.proofs.NumberLists.{numbers_room, numbers_between}
use Rattle.vx_lists.proofs.list_view.plan.bytes_of_run.Goals as goal

pub overflow_mul-result : goal.overflow_mul-result
overflow_mul-result g c =
    let t = g.T.NativePType.PTYPE in
    let width = c.byte_width-width.result in
    let wide : width ≡ byte_width t = c.byte_width-width.ensures ∙ ap byte_width c.PTYPE.ensures in
    let span : c.args.start * width ≤ c.args.end * width = mul-le-mul_right width c.requires.ordered in
    let room : c.args.end * byte_width t ≤ length c.args.bytes.now = numbers_room t c.args.bytes.now c.args.end c.requires.within in
    omega (arith, span, room, ap (λ w. c.args.end * w) wide)

pub overflow_mul-result-2 : goal.overflow_mul-result-2
overflow_mul-result-2 g c =
    let t = g.T.NativePType.PTYPE in
    let width = c.byte_width-width.result in
    let wide : width ≡ byte_width t = c.byte_width-width.ensures ∙ ap byte_width c.PTYPE.ensures in
    let room : c.args.end * byte_width t ≤ length c.args.bytes.now = numbers_room t c.args.bytes.now c.args.end c.requires.within in
    omega (arith, room, ap (λ w. c.args.end * w) wide)

pub slice_bounds-result-end : goal.slice_bounds-result-end
slice_bounds-result-end g c =
    let t = g.T.NativePType.PTYPE in
    let width = c.byte_width-width.result in
    let wide : width ≡ byte_width t = c.byte_width-width.ensures ∙ ap byte_width c.PTYPE.ensures in
    let room : c.args.end * byte_width t ≤ length c.args.bytes.now = numbers_room t c.args.bytes.now c.args.end c.requires.within in
    let here : c.args.end * width ≤ length c.args.bytes.now = omega (arith, room, ap (λ w. c.args.end * w) wide) in
    here

pub returns : goal.returns
returns g c =
    let t = g.T.NativePType.PTYPE in
    let bs = c.args.bytes.now in
    let wide : c.byte_width-width.result ≡ byte_width t = c.byte_width-width.ensures ∙ ap byte_width c.PTYPE.ensures in
    ap (λ w. numbers t (slice_range bs (c.args.start * w) (c.args.end * w))) wide
    ∙ numbers_between t bs c.args.start c.args.end c.requires.ordered (numbers_room t bs c.args.end c.requires.within)
