use Rattle.std.proofs.Common.{◌≡◌, ◌++◌, take}
use Rattle.vx_base.proofs.field_names.share_names.Given as goal

abbrev pub invariant-loop-name : goal.invariant-loop-name
invariant-loop-name l = l.out.items ≡ l.initial.out.items ++ take l.name-index l.names
