use Rattle.std.proofs.Common.{refl}
use Rattle.vx_canonical_tests.proofs.canonical.no_values.null_rows.Goals as goal

pub dictionary-requires : goal.dictionary-requires
dictionary-requires c = rw c.in_ok-null_codes.ensures (record { codes = refl; within = λ i l. tt; referenced = λ on. absurd (cc) })
