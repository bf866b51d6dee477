use Rattle.std.proofs.Common.{sym, ap, ◌∙◌, subst}
use Rattle.vx_tree.specs.Formed.{WellFormed}
use Rattle.vx_tree.specs.Parts.{valid_of}
use Rattle.vx_structs.specs.Structs.{is_struct}
use Rattle.vx_structs.proofs.Structs.FieldsOfRecords.{IsField-found, shared_is_pushed, nulled_is_pushed, rows-field, kind_of-field, field_fits}
use Rattle.vx_structs.proofs.array.StructArray.field.Goals as goal

pub returns-then-definitely_no_nulls-clause-rows : goal.returns-then-definitely_no_nulls-clause-rows
returns-then-definitely_no_nulls-clause-rows c =
    let p = c.parts-parts.result in
    let same = c.parts-parts.ensures.same in
    let r = c.in_ok-try_clone.field-0 in
    let column = c.in_ok-column.column.now in
    let formed : WellFormed c.args.self.now = subst WellFormed (sym same) c.parts-parts.ensures.formed in
    let pushed = shared_is_pushed c.args.self.now p.names.now p.columns.now (valid_of p.validity.now) p.len same column r
    (sym c.definitely_no_nulls.ensures ∙ c.if-definitely_no_nulls.true) c.in_ok-try_clone.ensures in
    rows-field c.args.self.now c.args.name.now column r (ap is_struct same) formed c.in_ok-column.ensures.found pushed

pub returns-then-definitely_no_nulls-clause-kind : goal.returns-then-definitely_no_nulls-clause-kind
returns-then-definitely_no_nulls-clause-kind c =
    let p = c.parts-parts.result in
    let same = c.parts-parts.ensures.same in
    let r = c.in_ok-try_clone.field-0 in
    let column = c.in_ok-column.column.now in
    let pushed = shared_is_pushed c.args.self.now p.names.now p.columns.now (valid_of p.validity.now) p.len same column r
    (sym c.definitely_no_nulls.ensures ∙ c.if-definitely_no_nulls.true) c.in_ok-try_clone.ensures in
    kind_of-field c.args.self.now c.args.name.now column r (ap is_struct same) c.in_ok-column.ensures.found pushed

pub nulled-requires : goal.nulled-requires
nulled-requires c =
    let p = c.parts-parts.result in
    record {
      fits = field_fits c.args.self.now p.names.now p.columns.now (valid_of p.validity.now) p.len c.args.name.now c.in_ok-column.column.now
          c.parts-parts.ensures.same c.parts-parts.ensures.formed c.in_ok-column.ensures.found;
    }

pub returns-clause-column : goal.returns-clause-column
returns-clause-column c =
    let p = c.parts-parts.result in
    let column = c.in_ok-column.column.now in
    let r = c.in_ok-nulled.field-0 in
    IsField-found c.args.self.now c.args.name.now column r c.in_ok-column.ensures.found
    (nulled_is_pushed c.args.self.now p.names.now p.columns.now (valid_of p.validity.now) p.len c.parts-parts.ensures.same column r
    (sym c.definitely_no_nulls.ensures ∙ c.if-definitely_no_nulls.false) c.in_ok-nulled.ensures.by_row)

pub returns-clause-rows : goal.returns-clause-rows
returns-clause-rows c =
    let p = c.parts-parts.result in
    let same = c.parts-parts.ensures.same in
    let column = c.in_ok-column.column.now in
    let r = c.in_ok-nulled.field-0 in
    let formed : WellFormed c.args.self.now = subst WellFormed (sym same) c.parts-parts.ensures.formed in
    rows-field c.args.self.now c.args.name.now column r (ap is_struct same) formed c.in_ok-column.ensures.found
    (nulled_is_pushed c.args.self.now p.names.now p.columns.now (valid_of p.validity.now) p.len same column r
    (sym c.definitely_no_nulls.ensures ∙ c.if-definitely_no_nulls.false) c.in_ok-nulled.ensures.by_row)

pub returns-clause-kind : goal.returns-clause-kind
returns-clause-kind c =
    let p = c.parts-parts.result in
    let same = c.parts-parts.ensures.same in
    let column = c.in_ok-column.column.now in
    let r = c.in_ok-nulled.field-0 in
    kind_of-field c.args.self.now c.args.name.now column r (ap is_struct same) c.in_ok-column.ensures.found
    (nulled_is_pushed c.args.self.now p.names.now p.columns.now (valid_of p.validity.now) p.len same column r
    (sym c.definitely_no_nulls.ensures ∙ c.if-definitely_no_nulls.false) c.in_ok-nulled.ensures.by_row)
