use Rattle.std.proofs.Common.{◌-◌, length, take, drop, length-take, length-drop, refl, sym, ◌∙◌, arith}
use Rattle.std.proofs.lemmas.Bool.{false≢true}
use Rattle.vx_leaves.proofs.ScanEnds.{step_marked, step_unmarked}
use Rattle.vx_leaves.proofs.code_scan.all_marked.Goals as goal

pub loop-cursor-preserved : goal.loop-cursor-preserved
loop-cursor-preserved c =
    let marks = c.args.marks.now in
    let cursor = c.loop-cursor.cursor in
    let rest = take (length marks - cursor) (drop cursor marks) in
    record {
      within = omega (arith, length-take c.min.result rest, length-take (length marks - cursor) (drop cursor marks), length-drop cursor marks);
      marked = step_marked marks cursor c.min.result (length marks - cursor) c.args.referenced (take c.min.result rest) refl c.loop-cursor.invariant.marked (sym c.contains.ensures.value ∙ c.if-contains.false);
    }

pub returns-then-contains-clause-all : goal.returns-then-contains-clause-all
returns-then-contains-clause-all c =
    let marks = c.args.marks.now in
    let cursor = c.loop-cursor.cursor in
    let rest = take (length marks - cursor) (drop cursor marks) in (
      λ is. absurd (false≢true is),
      λ all. absurd (step_unmarked marks cursor c.min.result (length marks - cursor) c.args.referenced (take c.min.result rest) refl (sym c.contains.ensures.value ∙ c.if-contains.true) all),
    )
