use Rattle.std.proofs.Common.{◌∙◌, arith}
use Rattle.vx_base.proofs.BitWords.{whole_written}
use Rattle.vx_base.proofs.bit_words.put_whole.Goals as goal

pub returns-clause-written : goal.returns-clause-written
returns-clause-written c = whole_written c.args.out.now c.copy_from_slice.new.self c.args.first c.args.word (c.copy_from_slice.ensures.after ∙ c.to_le_bytes.ensures) (omega arith) c.requires
