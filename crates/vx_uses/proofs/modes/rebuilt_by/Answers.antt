use Rattle.vx_uses.proofs.RebuildModes.{rebuilt_by}
use Rattle.vx_uses.proofs.modes.rebuilt_by.Goals as goal

pub returns-clause-rebuilt : goal.returns-clause-rebuilt
returns-clause-rebuilt c =
    let made = c.in_ok-rebuild.ensures in
    rebuilt_by c.args.mode c.args.lists.now c.in_ok-rebuild.field-0 (record {
      empty = made.empty;
      flagged = made.flagged;
      rebuilt = made.rebuilt;
      trimmed = made.trimmed;
      exact_flagged = made.exact_flagged;
      exact = made.exact;
      refuses = made.refuses;
    })
