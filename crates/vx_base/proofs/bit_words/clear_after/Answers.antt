use Rattle.std.proofs.Common.{rules}
use Rattle.vx_base.proofs.PackedBits.{unpacked_kept}
use Rattle.vx_base.proofs.bit_words.clear_after.Goals as goal

pub returns-then-len-ne0-clause-kept : goal.returns-then-len-ne0-clause-kept
returns-then-len-ne0-clause-kept c = unpacked_kept c.args.bytes.now _ c.args.len (λ k h. search rules)
