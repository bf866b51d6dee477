use Rattle.vx_lists.proofs.list_view.array.ListViewArray.rebuild_by_runs.Goals as goal

pub planned_elements-requires-clause-plan : goal.planned_elements-requires-clause-plan
planned_elements-requires-clause-plan c = c.in_ok-plan.ensures.ok

pub returns-clause-rebuilt : goal.returns-clause-rebuilt
returns-clause-rebuilt c = c.in_ok-rebuilt.ensures
