use Rattle.std.proofs.Common.{◌≤◌, [], length, map, sum, refl, sym, subst, arith}
use Rattle.std.proofs.lemmas.List.{length-map}
use Rattle.std.specs.Prelude.{unsigned_abs}
use Rattle.std.specs.List.{All}
use Rattle.vx_views.specs.BuildFaults.{lengths_of}
use Rattle.vx_uses.proofs.PackedRows.{pieces_within}
use Rattle.vx_uses.proofs.writer.write_values.Goals as goal

pub invariant_of-result : goal.invariant_of-result
invariant_of-result g c = record { resolve = λ row inside. c.in_ok-buffers.ensures.read_back.resolve [] row refl inside }

pub returns-clause-read_back : goal.returns-clause-read_back
returns-clause-read_back g c =
    let numbers = map g.P.Number.value c.args.lens.now in
    let count = c.in_ok-buffers.ensures.built.one_each in
    λ row inside. c.in_ok-buffers.ensures.read_back.read [] row refl (omega (arith, count, length-map numbers unsigned_abs, length-map c.args.lens.now g.P.Number.value))

pub returns-clause-within : goal.returns-clause-within
returns-clause-within g c =
    let built = c.in_ok-buffers.ensures.built in
    let lens = lengths_of (map g.P.Number.value c.args.lens.now) in
    subst (λ bs. All (λ b. length b ≤ c.args.limit) bs) (sym built.pieces)
    (pieces_within c.args.limit c.args.heap lens 0 built.ends (sum lens) built.cut.cut.pieces)
