use Rattle.std.proofs.Common.{sym}
use Rattle.std.proofs.lemmas.Bool.{eqb-true}
use Rattle.vx_tree.specs.Meaning.{tree_len}
use Rattle.vx_lists.proofs.ListViews.AlikeViews.{no_rows_follow}
use Rattle.vx_lists.proofs.list_view.array.ListViewArray.rebuild.Goals as goal

pub with_flag-requires : goal.with_flag-requires
with_flag-requires c = λ set. no_rows_follow c.args.self.now (eqb-true (tree_len c.args.self.now) 0 (sym c.if-is_empty.ensures))
