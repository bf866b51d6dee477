use Rattle.std.proofs.lemmas.Str.{IsUtf8-from_is_utf8, is_utf8-from_IsUtf8}
use Rattle.vx_views.proofs.Utf8Table.{joined_sequences_are_utf8}
use Rattle.vx_views.proofs.text_laws.table_decides_utf8.Goals as goal

pub returns-clause-utf8 : goal.returns-clause-utf8
returns-clause-utf8 c = joined_sequences_are_utf8

pub returns-clause-test : goal.returns-clause-test
returns-clause-test c = λ bytes.
    let law = joined_sequences_are_utf8 bytes in
    (λ joined. is_utf8-from_IsUtf8 bytes (law.0 joined), λ told. law.1 (IsUtf8-from_is_utf8 bytes told))
