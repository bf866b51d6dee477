use Rattle.std.proofs.Common.{◌≡◌, true, ap, ◌∙◌}
use Rattle.std.proofs.lemmas.List.{take_all}
use Rattle.std.proofs.lemmas.List.Elements.{All-push}
use Rattle.vx_structs.specs.Structs.{arrays_of, is_struct}
use Rattle.vx_structs.proofs.Structs.JoinedColumns.{shared-more}
use Rattle.vx_structs.proofs.concat.shared_arrays.Goals as goal

pub loop-array-preserved : goal.loop-array-preserved
loop-array-preserved c =
    let before = c.loop-array.shared.items in
    let t = c.in_ok-try_clone.field-0 in
    let here : is_struct t ≡ true = ap is_struct c.in_ok-try_clone.ensures ∙ c.as_array.ensures.layout in
    record {
      same = shared-more c.args.arrays.now c.loop-array.array-index c.array-item.result before c.push.new.self.items t c.loop-array-test.true c.array-item.is c.loop-array.invariant.same
          (c.in_ok-try_clone.ensures ∙ c.as_array.ensures.value) c.in_ok-push.ensures.items;
      are = rw c.in_ok-push.ensures.items (All-push (λ u. is_struct u ≡ true) before t c.loop-array.invariant.are here);
    }

pub returns-clause-shared : goal.returns-clause-shared
returns-clause-shared c = c.loop-array.invariant.same ∙ ap arrays_of (take_all c.loop-array.array-index c.args.arrays.now c.loop-array-test.false)

pub returns-clause-records : goal.returns-clause-records
returns-clause-records c = c.loop-array.invariant.are
