use Rattle.std.proofs.Common.{◌≡◌, length, map, arith, subst}
use Rattle.std.proofs.lemmas.Iterator.Adapters.{YieldsList-from_vec}
use Rattle.std.proofs.lemmas.Result.{IfOk-weaker}
use Rattle.std.specs.Vec.Iter.{into_iter_len}
use Rattle.vx_base.specs.Refusals.{Refuses}
use Rattle.vx_tree.specs.Tree.{non_nullable}
use Rattle.vx_structs.specs.Structs.Faults.{struct_fault}
use Rattle.vx_structs.specs.Structs.{records_by}
use Rattle.vx_uses.proofs.TableColumns.{made_of_columns, columns_refuse}
use Rattle.vx_uses.proofs.tables.table_of.Goals as goal

pub returns-clause-table : goal.returns-clause-table
returns-clause-table c =
    let names = c.in_ok-names.names in
    let n = c.args.len in
    let columns = c.args.columns.items in
    let len : into_iter_len c.into_iter.result ≡ length columns = grind (arith, c.into_iter.ensures.len) in
    let given = YieldsList-from_vec columns c.into_iter.ensures.rest len in
    IfOk-weaker c.try_new-2.result _ (λ a. a ≡ records_by (map (λ name. name.now) c.args.names.now) columns non_nullable n)
    (λ a made. subst (λ ns. a ≡ records_by ns columns non_nullable n) c.in_ok-names.ensures
    (made_of_columns _ c.into_iter.result columns given (λ all. struct_fault names all non_nullable n) (λ all b. b ≡ records_by names all non_nullable n) a made))
    c.try_new-2.ensures.ok

pub returns-clause-refuses : goal.returns-clause-refuses
returns-clause-refuses c =
    let names = c.in_ok-names.names in
    let n = c.args.len in
    let columns = c.args.columns.items in
    let len : into_iter_len c.into_iter.result ≡ length columns = grind (arith, c.into_iter.ensures.len) in
    let given = YieldsList-from_vec columns c.into_iter.ensures.rest len in
    subst (λ ns. Refuses c.try_new-2.result (struct_fault ns columns non_nullable n)) c.in_ok-names.ensures
    (columns_refuse _ c.into_iter.result columns given (λ all. struct_fault names all non_nullable n) (λ all b. b ≡ records_by names all non_nullable n) c.try_new-2.result c.try_new-2.ensures.ok c.try_new-2.ensures.err)
