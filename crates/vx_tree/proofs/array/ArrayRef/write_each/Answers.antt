use Rattle.std.proofs.Common.{◌≡◌, ◌<◌, length, arith}
use Rattle.std.proofs.lemmas.Int.{ints}
use Rattle.vx_base.specs.Kinds.{integer_type}
use Rattle.vx_base.proofs.NumberBytes.{number_passed}
use Rattle.vx_tree.specs.Meaning.{tree_len, row_at, kind_of}
use Rattle.vx_tree.proofs.Patched.{IsNamed, row_of_named, place_named, AreWritten-next, AreWritten-all}
use Rattle.vx_tree.proofs.array.ArrayRef.write_each.Goals as goal

pub to_position-requires-clause-low : goal.to_position-requires-clause-low
to_position-requires-clause-low c =
    let t = c.args.self.now in
    let row = c.loop-row.row in
    let z = c.in-Some.number in
    let inside : row < tree_len t = omega (arith, c.loop-row-test.true, c.len-row-end.ensures, c.requires.as_many) in
    let named : IsNamed c.args.offset (length c.args.out.now) (row_at t row) z = row_of_named c.args.offset (length c.args.out.now) row t z c.in-Some.ensures.value c.requires.named inside in
    rw (number_passed (integer_type (kind_of t)) z c.in-Some.ensures.holds) (omega (arith, ints, named.low))

pub overflow_sub-to_position : goal.overflow_sub-to_position
overflow_sub-to_position c =
    let t = c.args.self.now in
    let row = c.loop-row.row in
    let z = c.in-Some.number in
    let inside : row < tree_len t = omega (arith, c.loop-row-test.true, c.len-row-end.ensures, c.requires.as_many) in
    let named : IsNamed c.args.offset (length c.args.out.now) (row_at t row) z = row_of_named c.args.offset (length c.args.out.now) row t z c.in-Some.ensures.value c.requires.named inside in
    (place_named c.args.offset (length c.args.out.now) c.to_position.result (row_at t row) z _ named (number_passed (integer_type (kind_of t)) z c.in-Some.ensures.holds) c.to_position.ensures).0

pub put-requires : goal.put-requires
put-requires c =
    let t = c.args.self.now in
    let row = c.loop-row.row in
    let z = c.in-Some.number in
    let inside : row < tree_len t = omega (arith, c.loop-row-test.true, c.len-row-end.ensures, c.requires.as_many) in
    let named : IsNamed c.args.offset (length c.args.out.now) (row_at t row) z = row_of_named c.args.offset (length c.args.out.now) row t z c.in-Some.ensures.value c.requires.named inside in
    let place = place_named c.args.offset (length c.args.out.now) c.to_position.result (row_at t row) z _ named (number_passed (integer_type (kind_of t)) z c.in-Some.ensures.holds) c.to_position.ensures in
    rw c.loop-row.invariant.long place.1

pub loop-row-preserved : goal.loop-row-preserved
loop-row-preserved c =
    let t = c.args.self.now in
    let row = c.loop-row.row in
    let z = c.in-Some.number in
    let inside : row < tree_len t = omega (arith, c.loop-row-test.true, c.len-row-end.ensures, c.requires.as_many) in
    let named : IsNamed c.args.offset (length c.args.out.now) (row_at t row) z = row_of_named c.args.offset (length c.args.out.now) row t z c.in-Some.ensures.value c.requires.named inside in
    let place = place_named c.args.offset (length c.args.out.now) c.to_position.result (row_at t row) z _ named (number_passed (integer_type (kind_of t)) z c.in-Some.ensures.holds) c.to_position.ensures in
    AreWritten-next c.args.out.now t c.args.offset c.args.values.now.bits c.loop-row.out c.put.new.self row c.to_position.result c.value.result c.requires.as_many inside place.2 c.value.ensures c.loop-row.invariant c.put.ensures

pub returns : goal.returns
returns c =
    let done : c.loop-row.row ≡ tree_len c.args.self.now = omega (arith, c.loop-row-test.false, c.loop-row.auto.row-end, c.len-row-end.ensures, c.requires.as_many) in
    AreWritten-all c.args.out.now c.args.self.now c.args.offset c.args.values.now.bits c.loop-row.out c.loop-row.row c.requires.as_many done c.loop-row.invariant
