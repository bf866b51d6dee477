use Rattle.vx_base.proofs.BitWords.{low_kept, low_cleared}
use Rattle.vx_base.proofs.bit_words.low_bits.Goals as goal

pub returns-clause-kept : goal.returns-clause-kept
returns-clause-kept c = λ i h. low_kept c.args.byte c.args.count i c.requires h

pub returns-clause-cleared : goal.returns-clause-cleared
returns-clause-cleared c = λ i h. low_cleared c.args.byte c.args.count i c.requires h
