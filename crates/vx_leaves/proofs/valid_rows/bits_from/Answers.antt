use Rattle.vx_base.proofs.BitWords.{bits_seen}
use Rattle.vx_leaves.proofs.WordRows.{byte_seen}
use Rattle.vx_leaves.proofs.valid_rows.bits_from.Goals as goal

pub returns-then-bytes-at-lt8-clause-bits : goal.returns-then-bytes-at-lt8-clause-bits
returns-then-bytes-at-lt8-clause-bits c = byte_seen c.args.bytes.now c.args.place

pub returns-clause-bits : goal.returns-clause-bits
returns-clause-bits c = bits_seen c.args.bytes.now c.args.place c.eight_bytes.result c.eight_bytes.ensures
