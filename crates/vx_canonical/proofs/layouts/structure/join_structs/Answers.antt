use Rattle.std.proofs.Common.{sym, subst}
use Rattle.vx_base.proofs.Refused.{Gives-weaker, Gives-IfOk}
use Rattle.vx_tree.specs.Meaning.{trees_from}
use Rattle.vx_tree.specs.Formed.{column_count}
use Rattle.vx_tree.specs.Parts.{valid_of}
use Rattle.vx_canonical.specs.Joined.{AreColumnsJoined}
use Rattle.vx_canonical.proofs.JoinedRecords.{records_joined}
use Rattle.vx_canonical.proofs.layouts.structure.join_structs.Goals as goal

pub structure-requires : goal.structure-requires
structure-requires c =
    let formed = (records_joined c.args.names c.args.len c.args.arrays.now (trees_from c.args.columns.items) (valid_of c.args.validity) c.requires.records c.requires.columns c.requires.len c.requires.valid).1 in
    record { fits = formed.0; columns = formed.1 }

pub returns-clause-joined : goal.returns-clause-joined
returns-clause-joined c =
    let joined = (records_joined c.args.names c.args.len c.args.arrays.now (trees_from c.args.columns.items) (valid_of c.args.validity) c.requires.records c.requires.columns c.requires.len c.requires.valid).0 in
    Gives-weaker c.structure.result _ _ (λ a e. rw e joined) c.structure.ensures

pub returns-clause-numbers : goal.returns-clause-numbers
returns-clause-numbers c = λ h.
    let ts = c.args.arrays.now in
    let cs = trees_from c.args.columns.items in
    let columns : AreColumnsJoined ts (column_count cs) cs = subst (λ m. AreColumnsJoined ts m cs) (sym c.requires.columns.count) c.requires.columns in
    Gives-IfOk c.structure.result _ _ (λ a e. rw e (columns, h)) c.structure.ensures
