use Rattle.std.proofs.Common.{◌≡◌, Some, None, map, take}
use Rattle.vx_base.specs.Fields.{place_of_name}
use Rattle.vx_structs.specs.Structs.Faults.{names_fault}
use Rattle.vx_structs.specs.Structs.{column_at_place}
use Rattle.vx_structs.proofs.columns.columns_named.Given as goal

abbrev pub invariant-loop-name : goal.invariant-loop-name
invariant-loop-name l = record {
  same : map Some l.found.items ≡ map (λ name. column_at_place l.columns (place_of_name l.known name)) (take l.name-index l.names);
  known : names_fault l.known (take l.name-index l.names) ≡ None;
}
