use Rattle.std.proofs.Common.{◌↔◌, length, IsUtf8}
use Rattle.vx_text.proofs.utf8.is_long_text.Given as goal

abbrev pub invariant-loop-rest : goal.invariant-loop-rest
invariant-loop-rest l = IsUtf8 l.bytes ↔ IsUtf8 l.rest

abbrev pub decreases-loop-rest : goal.decreases-loop-rest
decreases-loop-rest l = length l.rest
