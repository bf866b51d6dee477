use Rattle.std.proofs.Common.{◌≡◌, length, sym, ◌∙◌, ap, subst, arith}
use Rattle.std.proofs.lemmas.List.Sums.{count_by-le-length}
use Rattle.vx_base.specs.Trues.{trues}
use Rattle.vx_base.proofs.TrueRuns.{length_trues}
use Rattle.vx_tree.specs.Meaning.{tree_len}
use Rattle.vx_tree.specs.Operations.{AreBelow}
use Rattle.vx_tree.proofs.Filtered.{trues_below}
use Rattle.vx_tree.proofs.array.ArrayRef.filter_within.Goals as goal

pub select_within-requires-clause-within : goal.select_within-requires-clause-within
select_within-requires-clause-within c =
    let mask = c.args.mask.now in
    let n = tree_len c.args.self.now in
    let picks : c.at_positions.result ≡ trues mask = c.at_positions.ensures ∙ c.deref.ensures.value ∙ c.in_ok-positions.ensures in
    subst (AreBelow n) (sym picks) (trues_below mask n c.requires)

pub select_within-requires-clause-countable : goal.select_within-requires-clause-countable
select_within-requires-clause-countable c =
    let mask = c.args.mask.now in
    let picks : c.at_positions.result ≡ trues mask = c.at_positions.ensures ∙ c.deref.ensures.value ∙ c.in_ok-positions.ensures in
    c.fewer_rows_are_countable.ensures (length c.at_positions.result) (omega (arith, ap length picks, length_trues mask, count_by-le-length (λ b. b) mask, c.requires))

pub of_runs-selection-requires : goal.of_runs-selection-requires
of_runs-selection-requires c = c.true_count.ensures ∙ sym (length_trues c.args.mask.now) ∙ sym (ap length c.runs.ensures.trues)

pub select_within-requires-2-clause-within : goal.select_within-requires-2-clause-within
select_within-requires-2-clause-within c =
    let mask = c.args.mask.now in
    let n = tree_len c.args.self.now in
    let picks : c.of_runs-selection.result ≡ trues mask = c.of_runs-selection.ensures ∙ c.runs.ensures.trues in
    subst (AreBelow n) (sym picks) (trues_below mask n c.requires)

pub select_within-requires-2-clause-countable : goal.select_within-requires-2-clause-countable
select_within-requires-2-clause-countable c =
    let mask = c.args.mask.now in
    let picks : c.of_runs-selection.result ≡ trues mask = c.of_runs-selection.ensures ∙ c.runs.ensures.trues in
    c.fewer_rows_are_countable.ensures (length c.of_runs-selection.result) (omega (arith, ap length picks, length_trues mask, count_by-le-length (λ b. b) mask, c.requires))
