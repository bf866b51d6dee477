use Rattle.std.proofs.lemmas.Str.{IsUtf8-from_ascii}
use Rattle.vx_c.proofs.lent_views.is_short_text.Goals as goal

pub returns-then-is_ascii : goal.returns-then-is_ascii
returns-then-is_ascii c = λ told. IsUtf8-from_ascii c.args.value.now c.if-is_ascii.ensures.cases
