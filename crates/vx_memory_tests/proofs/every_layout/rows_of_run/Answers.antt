use Rattle.std.proofs.Common.{[], arith}
use Rattle.std.proofs.lemmas.List.Elements.{All-nil, All-cons}
use Rattle.vx_tree.specs.Meaning.{tree_len}
use Rattle.vx_tree.specs.Runs.{IsRunWithin}
use Rattle.vx_memory_tests.proofs.every_layout.rows_of_run.Goals as goal

pub take_runs-requires : goal.take_runs-requires
take_runs-requires c =
    let P = IsRunWithin (tree_len c.args.array.now) in
    All-cons P c.args.run [] (grind arith, grind arith) (All-nil P)
