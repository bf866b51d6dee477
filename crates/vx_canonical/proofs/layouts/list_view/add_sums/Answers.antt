use Rattle.std.proofs.Common.{◌≡◌, ◌*◌, ◌/◌, ◌++◌, length, ap, ◌∙◌, arith}
use Rattle.vx_base.specs.Integers.{numbers}
use Rattle.vx_base.specs.declared.ptypes.PType.TheVariants.{U64}
use Rattle.vx_base.proofs.Gathered.{numbers_append}
use Rattle.vx_canonical.proofs.JoinedListViews.{bytes_added}
use Rattle.vx_canonical.proofs.layouts.list_view.add_sums.Goals as goal

pub returns-clause-numbers : goal.returns-clause-numbers
returns-clause-numbers g c =
    let t = g.T.NativePType.PTYPE in
    let bs = c.args.bytes.now in
    let old = c.args.out.now.items in
    let part = c.put_sums.new.out in
    let start = c.len-start.result in
    let count = ap (λ p. length (numbers p bs)) c.PTYPE.ensures in
    let long : length old ≡ start = omega arith in
    let size = c.in_ok-resize.ensures.len in
    let room : length part ≡ length (numbers t bs) * 8 =
    omega (arith, count, size, long, c.len-start.ensures, c.saturating_add.ensures, c.saturating_mul-more.ensures, c.number_count.ensures, c.deref_mut.ensures.len, c.put_sums.ensures.len, c.resize.new.self.small) in
    let added = bytes_added old c.resize.new.self.items part c.deref_mut.result.now _ _ start c.saturating_add.result _ c.resize.new.self.len c.in_ok-resize.ensures.items long (omega arith) c.deref_mut.ensures.value c.in_ok-resize.ensures.len c.deref_mut.ensures.len (omega arith) in
    ap (numbers U64) added ∙ numbers_append U64 old part (length old / 8) (length (numbers t bs)) (omega (arith, c.requires.whole)) room ∙ ap (λ ys. numbers U64 old ++ ys) c.put_sums.ensures.numbers
