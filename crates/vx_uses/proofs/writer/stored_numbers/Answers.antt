use Rattle.std.proofs.Common.{◌≡◌, true, false, sym, ◌∙◌, ap}
use Rattle.std.proofs.lemmas.Result.{err_from_is_err_and}
use Rattle.vx_base.specs.Kinds.{is_integers}
use Rattle.vx_canonical.proofs.JoinedNumbers.{numbers_faultless}
use Rattle.vx_tree.specs.CanonicalFaults.{canonical_fault}
use Rattle.vx_tree.specs.Meaning.{kind_of, rows}
use Rattle.vx_uses.proofs.TwoFaults.{only_memory}
use Rattle.vx_uses.proofs.writer.stored_numbers.Goals as goal

pub plain_numbers_are_primitive-requires-clause-plain : goal.plain_numbers_are_primitive-requires-clause-plain
plain_numbers_are_primitive-requires-clause-plain c = c.in_ok-plain.ensures.canonical.plain

pub plain_numbers_are_primitive-requires-clause-numbers : goal.plain_numbers_are_primitive-requires-clause-numbers
plain_numbers_are_primitive-requires-clause-numbers c = ap is_integers c.in_ok-plain.ensures.canonical.same.kind ∙ c.requires

pub unreachable-requires : goal.unreachable-requires
unreachable-requires c =
    let both : true ≡ false = sym c.plain_numbers_are_primitive.ensures ∙ c.in_default.ensures.other.1 in cc

pub returns-clause-rows : goal.returns-clause-rows
returns-clause-rows c = ap rows (c.in_ok-into_data_parts.ensures ∙ c.in-Ok.ensures.own.0) ∙ c.in_ok-plain.ensures.rows

pub returns-clause-kind : goal.returns-clause-kind
returns-clause-kind c = ap kind_of (c.in_ok-into_data_parts.ensures ∙ c.in-Ok.ensures.own.0) ∙ c.in_ok-plain.ensures.canonical.same.kind

pub returns-in_err-plain-clause-err : goal.returns-in_err-plain-clause-err
returns-in_err-plain-clause-err c =
    let p = err_from_is_err_and c.from_residual.result c.from_residual.ensures.1 in
    let t = c.args.column.now in
    rw (p.1, p.2) (only_memory (canonical_fault t) c.in_err-plain.field-0.0 (numbers_faultless t c.requires) c.in_err-plain.ensures.refuses)
