use Rattle.vx_lists.proofs.list_view.array.ListViewArray.rebuild_by_take.Goals as goal

pub returns-clause-rebuilt : goal.returns-clause-rebuilt
returns-clause-rebuilt c = c.in_ok-rebuilt.ensures
