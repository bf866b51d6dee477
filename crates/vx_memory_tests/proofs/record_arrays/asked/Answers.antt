use Rattle.std.proofs.Common.{◌≡◌, ◌∷◌, [], length, ap, sym, ◌∙◌}
use Rattle.std.proofs.lemmas.Iterator.{items_from_drains}
use Rattle.std.proofs.lemmas.Iterator.Adapters.{YieldsList-from_vec}
use Rattle.std.proofs.lemmas.List.{map-id}
use Rattle.vx_tree.specs.Tree.{Tree}
use Rattle.vx_memory_tests.proofs.record_arrays.asked.Goals as goal

pub new-requires-clause-formed : goal.new-requires-clause-formed
new-requires-clause-formed c = λ all came.
    let chain = YieldsList-from_vec {s = c.into_iter.result} c.in_ok-columns.columns.items c.into_iter.ensures.rest (c.into_iter.ensures.len ∙ c.in_ok-columns.columns.ok.0) in
    let items : all ≡ c.args.column ∷ [] = sym (map-id all) ∙ items_from_drains all (came.1.0, came.1.1, λ _. (came.0, came.1.2)) chain ∙ c.in_ok-columns.ensures in
    rw items (tt, record { named = ap (λ names. length names) c.in_ok-names.ensures; lens = (c.requires, tt) })
