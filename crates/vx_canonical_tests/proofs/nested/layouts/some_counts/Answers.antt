use Rattle.std.proofs.Common.{refl, sym, ◌∙◌, arith}
use Rattle.vx_canonical_tests.proofs.ByteNumbers.{byte_numbers}
use Rattle.vx_canonical_tests.proofs.nested.layouts.some_counts.Goals as goal

pub from_parts-requires : goal.from_parts-requires
from_parts-requires c =
    let count = byte_numbers c.args.numbers.now in
    rw (c.in_ok-bools.ensures, c.in_ok-bytes.ensures) (
      record { len = c.requires ∙ sym count; kind = refl },
      omega (arith, count),
    )
