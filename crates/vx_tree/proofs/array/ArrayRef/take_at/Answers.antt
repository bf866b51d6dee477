use Rattle.std.proofs.Common.{◌∙◌, ap, length, subst, sym}
use Rattle.vx_tree.specs.Parts.{valid_of}
use Rattle.vx_tree.specs.Formed.{ValidFits}
use Rattle.vx_tree.specs.Operations.{IsSelected}
use Rattle.vx_tree.proofs.Taken.{taken_at}
use Rattle.vx_tree.proofs.array.ArrayRef.take_at.Goals as goal

pub nulled-requires : goal.nulled-requires
nulled-requires c = record { fits = subst (ValidFits (valid_of c.args.nulls.now)) (sym (c.in_ok-selected.ensures.len ∙ ap length c.selection-selection.ensures)) c.requires.fits }

pub returns-clause-taken : goal.returns-clause-taken
returns-clause-taken c =
    let t = c.args.self.now in
    let s = c.in_ok-selected.selected in
    taken_at t s c.in_ok-nulled.field-0 c.args.positions.now (valid_of c.args.nulls.now)
    (subst (λ ps. IsSelected t ps s) c.selection-selection.ensures c.in_ok-selected.ensures) c.in_ok-nulled.ensures.by_row
