use Rattle.std.proofs.Common.{◌/◌, ◌%◌, eqb, get_or, ap}
use Rattle.std.proofs.lemmas.Nat.Bits.{shr_and_one}
use Rattle.vx_base.proofs.bit_bytes.read_bit.Goals as goal

pub returns : goal.returns
returns c = ap (λ b. eqb b 1) (shr_and_one (get_or c.args.bytes.now (c.args.place / 8) 0) (c.args.place % 8))
