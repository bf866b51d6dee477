use Rattle.vx_structs.proofs.Structs.PushedNulls.{pushed_field}
use Rattle.vx_structs.proofs.laws.pushed_fields_are_null_with_their_records.Goals as goal

pub returns : goal.returns
returns c = pushed_field
