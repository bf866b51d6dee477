use Rattle.std.proofs.Common.{◌≡◌, map}
use Rattle.vx_structs.proofs.array.StructArray.try_from_iter_with_validity.Given as goal

abbrev pub invariant-loop-name : goal.invariant-loop-name
invariant-loop-name g l = record {
  names : l.names.items ≡ map (λ field. field.0) l.yielded;
  columns : l.columns.items ≡ map (λ field. field.1) l.yielded;
  validity : l.validity ≡ l.fn.validity;
}
