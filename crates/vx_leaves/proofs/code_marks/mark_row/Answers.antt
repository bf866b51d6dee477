use Rattle.std.proofs.Common.{◌≡◌, ◌+◌, length, sym, ap, ◌∙◌, subst}
use Rattle.std.specs.Prelude.{slice_set, unsigned_abs}
use Rattle.vx_base.specs.Kinds.{integer_type}
use Rattle.vx_base.proofs.NumberBytes.{number_passed}
use Rattle.vx_tree.specs.Meaning.{kind_of}
use Rattle.vx_leaves.specs.Dictionaries.{AreNamed}
use Rattle.vx_leaves.proofs.NamedValues.{row_marked}
use Rattle.vx_leaves.proofs.code_marks.mark_row.Goals as goal

pub returns-in-Some : goal.returns-in-Some
returns-in-Some c =
    let number = c.in-Some.number in
    let placed : c.place_of.result ≡ unsigned_abs number = c.place_of.ensures ∙ ap unsigned_abs (number_passed (integer_type (kind_of c.args.codes.now)) number c.in-Some.ensures.holds) in
    subst (λ k. AreNamed c.args.codes.now (c.args.row + 1) (length c.args.out.now) c.args.referenced (slice_set c.args.out.now k c.args.referenced)) (sym placed)
    (row_marked c.args.codes.now c.args.row c.args.referenced c.args.out.now number c.requires.within (sym c.in-Some.ensures.value) c.requires.before)
