use Rattle.vx_uses.proofs.trimming.trimmed_lists.Goals as goal

pub returns-clause-trimmed : goal.returns-clause-trimmed
returns-clause-trimmed c = (c.in_ok-start.start, c.in_ok-start.end, c.in_ok-start.ensures.ok, c.in_ok-trim_elements.ensures)
