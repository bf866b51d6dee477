use Rattle.vx_c.proofs.TableFaults.{column-faulty}
use Rattle.vx_c.proofs.reading.column.Goals as goal

pub returns-in-Err-clause-err : goal.returns-in-Err-clause-err
returns-in-Err-clause-err c = column-faulty c.args.nodes.now c.in-Err.fault c.if-nodes-gt-MAX_NODES.false c.in-Err.ensures.err
