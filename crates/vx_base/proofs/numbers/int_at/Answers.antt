use Rattle.std.proofs.Common.{◌≡◌, get_or, rules}
use Rattle.std.specs.Prelude.{pos}
use Rattle.vx_base.specs.Integers.{numbers}
use Rattle.vx_base.proofs.NumberLists.{number_read}
use Rattle.vx_base.proofs.numbers.int_at.Goals as goal

pub returns-clause-value : goal.returns-clause-value
returns-clause-value c =
    let e : c.int_of.result ≡ get_or (numbers c.args.ptype c.args.bytes.now) c.args.i (pos 0) = number_read c.args.ptype c.args.bytes.now c.args.i c.int_of.result c.requires (rw c.byte_width-width.ensures at c.int_of.ensures.value) in
    search (rules, e)
