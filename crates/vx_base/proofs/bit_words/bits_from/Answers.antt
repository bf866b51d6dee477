use Rattle.vx_base.proofs.BitWords.{bits_seen}
use Rattle.vx_base.proofs.bit_words.bits_from.Goals as goal

pub returns : goal.returns
returns c = bits_seen c.args.bytes.now c.args.place c.word_from.result c.word_from.ensures
