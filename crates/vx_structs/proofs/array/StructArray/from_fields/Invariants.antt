use Rattle.std.proofs.Common.{◌≡◌, map, take}
use Rattle.vx_structs.proofs.array.StructArray.from_fields.Given as goal

abbrev pub invariant-loop-name : goal.invariant-loop-name
invariant-loop-name l = record {
  names : l.names.items ≡ map (λ field. field.0) (take l.name-index l.fields);
  columns : l.columns.items ≡ map (λ field. field.1) (take l.name-index l.fields);
}
