use Rattle.vx_c.proofs.Unflagged.{unflagged-rows, kept_plain}
use Rattle.vx_c.proofs.UnflaggedFormed.{kept_formed}
use Rattle.vx_c.proofs.ReadBack.{read_rows}
use Rattle.vx_c.proofs.laws.tables_are_read_back_with_their_rows.Goals as goal

pub returns-clause-rows : goal.returns-clause-rows
returns-clause-rows c = unflagged-rows

pub returns-clause-plain : goal.returns-clause-plain
returns-clause-plain c = kept_plain

pub returns-clause-formed : goal.returns-clause-formed
returns-clause-formed c = kept_formed

pub returns-clause-read : goal.returns-clause-read
returns-clause-read c = read_rows
