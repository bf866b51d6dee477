use Rattle.std.proofs.Common.{◌≡◌, ◌∙◌, length, arith}
use Rattle.std.proofs.lemmas.Iterator.Adapters.{YieldsList-from_vec}
use Rattle.std.proofs.lemmas.Result.{err_from_is_err_and}
use Rattle.std.specs.Vec.Iter.{into_iter_len}
use Rattle.vx_structs.specs.Structs.Faults.{struct_fault}
use Rattle.vx_structs.specs.Structs.{records_by}
use Rattle.vx_tree.specs.Parts.{valid_of}
use Rattle.vx_c.proofs.Records.{records-made, records-faultless, records-refused}
use Rattle.vx_c.proofs.layouts.records_of.Goals as goal

pub returns-in_err-records-clause-refuses : goal.returns-in_err-records-clause-refuses
returns-in_err-records-clause-refuses c =
    let len : into_iter_len c.into_iter.result ≡ length c.args.columns.items = grind (arith, c.into_iter.ensures.len) in
    let p = err_from_is_err_and c.from_residual.result c.from_residual.ensures.1 in
    rw (p.1, p.2) (records-refused _ c.into_iter.result c.args.columns.items
    (λ all. struct_fault c.args.names all (valid_of c.args.validity) c.args.len) c.in_err-records.field-0.0
    (YieldsList-from_vec c.args.columns.items c.into_iter.ensures.rest len) c.in_err-records.ensures.err)

pub returns-clause-ok : goal.returns-clause-ok
returns-clause-ok c =
    let len : into_iter_len c.into_iter.result ≡ length c.args.columns.items = grind (arith, c.into_iter.ensures.len) in
    c.into_array.ensures.value ∙ records-made _ c.into_iter.result c.args.columns.items
    (λ all. struct_fault c.args.names all (valid_of c.args.validity) c.args.len)
    (λ all a. a ≡ records_by c.args.names all (valid_of c.args.validity) c.args.len) c.in_ok-records.records
    (YieldsList-from_vec c.args.columns.items c.into_iter.ensures.rest len) c.in_ok-records.ensures.ok

pub returns-clause-refuses : goal.returns-clause-refuses
returns-clause-refuses c =
    let len : into_iter_len c.into_iter.result ≡ length c.args.columns.items = grind (arith, c.into_iter.ensures.len) in
    records-faultless _ c.into_iter.result c.args.columns.items
    (λ all. struct_fault c.args.names all (valid_of c.args.validity) c.args.len)
    (λ all a. a ≡ records_by c.args.names all (valid_of c.args.validity) c.args.len) c.in_ok-records.records
    (YieldsList-from_vec c.args.columns.items c.into_iter.ensures.rest len) c.in_ok-records.ensures.ok
