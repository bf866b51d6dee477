use Rattle.std.proofs.Common.{◌≡◌, ◌∙◌, length, None, sym, subst}
use Rattle.vx_base.specs.DTypes.{field_names, field_kinds}
use Rattle.vx_base.specs.Fields.{kind_count}
use Rattle.vx_base.specs.Refusals.{Tests}
use Rattle.vx_tree.specs.Faults.{length_fault}
use Rattle.vx_tree.specs.Parts.{valid_of}
use Rattle.vx_tree.specs.Formed.{WellFormed}
use Rattle.vx_structs.specs.Structs.Faults.{typed_columns_fault, typed_struct_fault}
use Rattle.vx_structs.specs.Structs.{records_by}
use Rattle.vx_structs.proofs.Structs.Faults.{where_faultless, typed_parts_formed, typed_parts_tested, dtypes_counted, length_fault-none}
use Rattle.vx_structs.proofs.checks.check_typed_parts.Goals as goal

pub check_typed_columns-requires : goal.check_typed_columns-requires
check_typed_columns-requires c =
    let names = field_names c.args.fields.now in
    let columns = c.args.columns.now in
    let named : length_fault (length names) (length columns) ≡ None = cc (c.in_ok-check_count.ensures, c.len.ensures, c.names.ensures) in
    c.fields.ensures.count ∙ sym (length_fault-none (length names) (length columns) named)

pub returns-clause-tests : goal.returns-clause-tests
returns-clause-tests c =
    let names = field_names c.args.fields.now in
    let kinds = field_kinds c.args.fields.now in
    let columns = c.args.columns.now in
    let named : length_fault (length names) (length columns) ≡ None = cc (c.in_ok-check_count.ensures, c.len.ensures, c.names.ensures) in
    let tests = subst (λ ks. Tests c.check_typed_columns.result (typed_columns_fault ks c.args.len columns)) c.fields.ensures.kinds c.check_typed_columns.ensures in
    typed_parts_tested c.check_typed_columns.result names kinds columns (valid_of c.args.validity.now) c.args.len named c.in_ok-check.ensures.tests tests

pub returns-clause-formed : goal.returns-clause-formed
returns-clause-formed c =
    let names = field_names c.args.fields.now in
    let kinds = field_kinds c.args.fields.now in
    let valid = valid_of c.args.validity.now in
    let counted : kind_count kinds ≡ length names = sym (dtypes_counted c.fields.result.now kinds c.fields.ensures.kinds) ∙ c.fields.ensures.count in
    where_faultless c.check_typed_columns.result (typed_struct_fault names kinds c.args.columns.now valid c.args.len) (WellFormed (records_by names c.args.columns.now valid c.args.len))
    (typed_parts_formed names kinds c.args.columns.now valid c.args.len counted) (returns-clause-tests c)
