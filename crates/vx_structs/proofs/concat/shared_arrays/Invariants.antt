use Rattle.std.proofs.Common.{◌≡◌, true, take}
use Rattle.std.specs.List.{All}
use Rattle.vx_structs.specs.Structs.{arrays_of, is_struct}
use Rattle.vx_structs.proofs.concat.shared_arrays.Given as goal

abbrev pub invariant-loop-array : goal.invariant-loop-array
invariant-loop-array l = record {
  same : l.shared.items ≡ arrays_of (take l.array-index l.arrays);
  are : All (λ t. is_struct t ≡ true) l.shared.items;
}
