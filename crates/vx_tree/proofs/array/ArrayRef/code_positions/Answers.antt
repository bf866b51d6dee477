use Rattle.std.proofs.Common.{map}
use Rattle.std.specs.Prelude.{unsigned_abs}
use Rattle.vx_base.specs.Integers.{numbers}
use Rattle.vx_tree.specs.Faults.{indices_fault}
use Rattle.vx_tree.specs.Named.{HasNumbers}
use Rattle.vx_tree.proofs.Dictionaries.{all_faultless, call_passed}
use Rattle.vx_tree.proofs.Named.{numbers_named, positions_are_indices}
use Rattle.vx_tree.proofs.array.ArrayRef.code_positions.Goals as goal

pub returns-in-Some : goal.returns-in-Some
returns-in-Some c =
    let t = c.args.self.now in
    let len = c.args.len in
    let bs = c.in-Some.bytes.now in
    let has : HasNumbers t c.in-Some.ptype bs = rw (c.in-Some.ptype-is, c.in-Some.bytes-is) c.in-Some.ensures in
    let named = positions_are_indices t len (map unsigned_abs (numbers c.in-Some.ptype bs)) (numbers_named t c.in-Some.ptype bs len has (all_faultless t len c.requires.codes)) in
    rw c.of_numbers.ensures named

pub returns-in-None : goal.returns-in-None
returns-in-None c =
    call_passed c.indices.result _ (indices_fault c.args.len c.args.self.now) (all_faultless c.args.self.now c.args.len c.requires.codes) c.indices.ensures.ok c.indices.ensures.refuses
