use Rattle.std.proofs.Common.{sym}
use Rattle.std.proofs.lemmas.Result.{err_from_is_err_and}
use Rattle.vx_base.specs.DTypes.{is_nullable}
use Rattle.vx_tree.specs.Joins.{join_fault}
use Rattle.vx_tree.proofs.Dictionaries.{memory_only}
use Rattle.vx_canonical.proofs.JoinedStates.{parts-lens, parts-fault, valid_joined, none_joined, nothing_joined}
use Rattle.vx_canonical.proofs.join.joined_validity.Goals as goal

pub concat-requires : goal.concat-requires
concat-requires c = parts-lens c.args.arrays.now c.in_ok-parts.parts.items c.in_ok-parts.ensures

pub returns-in_err-validity : goal.returns-in_err-validity
returns-in_err-validity c =
    let none = parts-fault c.args.arrays.now c.in_ok-parts.parts.items c.in_ok-parts.ensures c.requires.short in
    let p = err_from_is_err_and c.from_residual-in_err-validity.result c.from_residual-in_err-validity.ensures.1 in
    rw (p.1, p.2) (memory_only (join_fault c.in_ok-parts.parts.items) c.in_err-validity.field-0.0 none c.in_err-validity.ensures.refuses)

pub returns-in-Some : goal.returns-in-Some
returns-in-Some c =
    let e = c.in_ok-validity.ensures.joined in
    valid_joined (is_nullable c.args.nullability) c.args.arrays.now c.in_ok-parts.parts.items _ c.in_ok-parts.ensures c.requires.alike (sym (rw c.in-Some.is at e))

pub returns-in-None : goal.returns-in-None
returns-in-None c =
    let e = c.in_ok-validity.ensures.joined in
    rw c.full.ensures (none_joined (is_nullable c.args.nullability) c.args.arrays.now (nothing_joined c.args.arrays.now c.in_ok-parts.parts.items c.in_ok-parts.ensures (sym (rw c.in-None.is at e))))
