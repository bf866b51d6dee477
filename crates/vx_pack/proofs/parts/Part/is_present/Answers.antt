use Rattle.std.proofs.Common.{◌≡◌, ◌∙◌, ◌+◌, ◌<◌, Bool, sym, ap, subst, arith}
use Rattle.std.proofs.lemmas.Result.{IfOk-weaker}
use Rattle.vx_base.specs.Kinds.{Kind}
use Rattle.vx_base.specs.Rows.{is_present}
use Rattle.vx_tree.specs.Meaning.{row_at, tree_len}
use Rattle.vx_pack.proofs.PresentRows.{within_gives}
use Rattle.vx_pack.specs.Parts.{IsWithin, part_len, part_row}
use Rattle.vx_pack.specs.declared.parts.Part.{Part}
use Rattle.vx_pack.proofs.parts.Part.is_present.Goals as goal

pub returns-in-Array : goal.returns-in-Array
returns-in-Array c =
    let a = c.in-Array.array.now in
    let place = c.in-Array.start + c.args.i in
    let within = subst IsWithin c.in-Array.is c.requires.within in
    let below : place < tree_len a = omega (arith, within.0, ap part_len c.in-Array.is) in
    let Tells : Bool → Type 0 = λ b. (k : Kind) → b ≡ is_present (part_row k c.args.self c.args.i) in
    within_gives c.is_valid.result (tree_len a) place Tells below
    (IfOk-weaker c.is_valid.result (λ b. b ≡ is_present (row_at a place)) Tells (λ b given k.
    given ∙ ap (λ (p : Part). is_present (part_row k p c.args.i)) (sym c.in-Array.is)) c.is_valid.ensures.valid)
    c.is_valid.ensures.refuses
