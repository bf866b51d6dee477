use Rattle.std.proofs.Common.{◌≡◌, ◌<◌, ◌-◌, ◌∙◌, refl, ap, set, length, arith}
use Rattle.vx_base.specs.Integers.{numbers, number_nth}
use Rattle.vx_base.specs.Rows.{whole, count_in}
use Rattle.vx_tree.specs.Tree.{primitive, non_nullable}
use Rattle.vx_tree.specs.Meaning.{tree_len}
use Rattle.vx_tree.specs.Patches.{overwritten, patch_positions}
use Rattle.vx_tree.proofs.Patched.{IsNamed, row_of_named, AreWritten-next, AreWritten-all}
use Rattle.vx_tree.proofs.validity.patch.write_typed.Goals as goal

pub number_less-requires-clause-low : goal.number_less-requires-clause-low
number_less-requires-clause-low g c =
    let p = g.T.NativePType.PTYPE in
    let t = primitive p c.args.bytes.now non_nullable in
    let row = c.loop-row.row in
    let z = number_nth (numbers p c.args.bytes.now) row in
    let inside : row < tree_len t = omega (arith, c.loop-row-test.true, c.len-row-end.ensures, ap length c.view-bits.ensures, c.requires.as_many) in
    let named : IsNamed c.args.offset (length c.args.out.now) (whole z) z = row_of_named c.args.offset (length c.args.out.now) row t z refl c.requires.named inside in
    rw c.PTYPE.ensures named.low

pub put-requires : goal.put-requires
put-requires g c =
    let p = g.T.NativePType.PTYPE in
    let t = primitive p c.args.bytes.now non_nullable in
    let row = c.loop-row.row in
    let z = number_nth (numbers p c.args.bytes.now) row in
    let inside : row < tree_len t = omega (arith, c.loop-row-test.true, c.len-row-end.ensures, ap length c.view-bits.ensures, c.requires.as_many) in
    let named : IsNamed c.args.offset (length c.args.out.now) (whole z) z = row_of_named c.args.offset (length c.args.out.now) row t z refl c.requires.named inside in
    let place : c.number_less.result ≡ count_in (whole z) - c.args.offset = rw c.PTYPE.ensures at c.number_less.ensures in
    rw (place, c.loop-row.invariant.long, ← named.told) named.below

pub loop-row-preserved : goal.loop-row-preserved
loop-row-preserved g c =
    let p = g.T.NativePType.PTYPE in
    let t = primitive p c.args.bytes.now non_nullable in
    let row = c.loop-row.row in
    let z = number_nth (numbers p c.args.bytes.now) row in
    let as_many : length c.view-bits.result ≡ tree_len t = ap length c.view-bits.ensures ∙ c.requires.as_many in
    let inside : row < tree_len t = omega (arith, c.loop-row-test.true, c.len-row-end.ensures, as_many) in
    let place : c.number_less.result ≡ count_in (whole z) - c.args.offset = rw c.PTYPE.ensures at c.number_less.ensures in
    AreWritten-next c.args.out.now t c.args.offset c.view-bits.result c.loop-row.out c.put.new.self row (count_in (whole z)) c.value.result as_many inside refl c.value.ensures c.loop-row.invariant
    (c.put.ensures ∙ ap (λ k. set c.loop-row.out k c.value.result) place)

pub returns : goal.returns
returns g c =
    let t = primitive g.T.NativePType.PTYPE c.args.bytes.now non_nullable in
    let as_many : length c.view-bits.result ≡ tree_len t = ap length c.view-bits.ensures ∙ c.requires.as_many in
    let done : c.loop-row.row ≡ tree_len t = omega (arith, c.loop-row-test.false, c.loop-row.auto.row-end, c.len-row-end.ensures, as_many) in
    AreWritten-all c.args.out.now t c.args.offset c.view-bits.result c.loop-row.out c.loop-row.row as_many done c.loop-row.invariant
    ∙ ap (overwritten c.args.out.now (patch_positions c.args.offset t)) c.view-bits.ensures
