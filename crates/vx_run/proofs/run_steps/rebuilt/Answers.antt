use Rattle.vx_run.proofs.StepResults.{step-rebuild}
use Rattle.vx_run.proofs.run_steps.rebuilt.Goals as goal

pub returns-clause-ok : goal.returns-clause-ok
returns-clause-ok c =
    let made = c.in_ok-rebuild.ensures in
    step-rebuild c.args.arrays.now c.args.array c.args.mode c.in_ok-lists.lists c.in_ok-rebuild.field-0 c.into_array.result
    c.in_ok-lists.ensures.found c.in_ok-lists.ensures.layout (record {
      empty = made.empty;
      flagged = made.flagged;
      rebuilt = made.rebuilt;
      trimmed = made.trimmed;
      exact_flagged = made.exact_flagged;
      exact = made.exact;
      same = made.rows;
      refuses = made.refuses;
    }) c.into_array.ensures.value c.into_array.ensures.layout
