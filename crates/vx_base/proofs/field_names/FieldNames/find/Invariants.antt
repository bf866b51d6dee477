use Rattle.std.proofs.Common.{ℕ, ◌<◌, ◌≡◌, [], false, get_or}
use Rattle.std.specs.Prelude.{bytes_eq}
use Rattle.vx_base.proofs.field_names.FieldNames.find.Given as goal

abbrev pub invariant-loop-i : goal.invariant-loop-i
invariant-loop-i l = (k : ℕ) → k < l.i → bytes_eq (get_or l.self k []) l.name ≡ false
