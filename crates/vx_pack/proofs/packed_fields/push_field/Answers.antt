use Rattle.std.proofs.Common.{◌∷◌, []}
use Rattle.vx_pack.proofs.packed_fields.push_field.Goals as goal

pub returns-in_ok-push-in-Some : goal.returns-in_ok-push-in-Some
returns-in_ok-push-in-Some c = λ n whole. (c.in-Some.field ∷ [], c.in-Some.ensures n whole, c.in_ok-push-in-Some.ensures.items)
