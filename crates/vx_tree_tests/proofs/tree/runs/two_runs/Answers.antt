use Rattle.std.proofs.Common.{[], ◌∷◌, arith}
use Rattle.std.proofs.lemmas.List.Elements.{All-nil, All-cons}
use Rattle.vx_tree.specs.Meaning.{tree_len}
use Rattle.vx_tree.specs.Runs.{IsRunWithin}
use Rattle.vx_tree_tests.proofs.tree.runs.two_runs.Goals as goal

pub take_runs-requires : goal.take_runs-requires
take_runs-requires g c =
    let first = c.args.first in
    let second = c.args.second in
    let P = IsRunWithin (tree_len c.args.array.now) in
    All-cons P first (second ∷ []) (grind arith, grind arith) (All-cons P second [] (grind arith, grind arith) (All-nil P))
