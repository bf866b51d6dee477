use Rattle.std.proofs.lemmas.Result.{err_from_is_err_and}
use Rattle.vx_run.proofs.RecordSteps.{step-removed, unknown-refused}
use Rattle.vx_run.proofs.record_steps.without_column.Goals as goal

pub returns-clause-ok : goal.returns-clause-ok
returns-clause-ok c =
    step-removed c.args.arrays.now c.args.array c.args.name.now c.as_str-2.result.now c.in_ok-rest.field-0 c.in_ok-records.records c.in-Some._column c.in-Some.rest
    c.into_array.result c.as_str-2.ensures c.in_ok-records.ensures.found c.in_ok-records.ensures.layout c.in_ok-rest.ensures.columns c.in_ok-rest.ensures.rows
    c.in_ok-rest.ensures.kind c.in-Some.is c.into_array.ensures.value

pub returns-in_err-unmasked_field_by_name-clause-refuses : goal.returns-in_err-unmasked_field_by_name-clause-refuses
returns-in_err-unmasked_field_by_name-clause-refuses c =
    let refused = c.in_err-unmasked_field_by_name in
    let p = err_from_is_err_and c.from_residual-in_err-unmasked_field_by_name.result c.from_residual-in_err-unmasked_field_by_name.ensures.1 in
    rw (p.1, p.2) (unknown-refused c.args.arrays.now c.args.array c.args.name.now c.as_str.result.now c.in_ok-records.records refused.field-0.0
    c.as_str.ensures c.in_ok-records.ensures.found c.in_ok-records.ensures.refuses refused.ensures.tests)
