use Rattle.std.proofs.Common.{◌-◌, [], length, arith}
use Rattle.vx_c.specs.declared.table.CodraskNode.{CodraskNode}
use Rattle.vx_c.proofs.EarlyFaults.{unknown-last}
use Rattle.vx_c.proofs.TableFaults.{arrays-faulty}
use Rattle.vx_c.proofs.reading.arrays_of.Goals as goal

-- what a read past the end gives
abbrev no_node : CodraskNode
no_node = record {
  kind = 0;
  validity = 0;
  size = 0;
  length = 0;
  offset = 0;
  bytes = record { ref_ptr = (0, 0); now = [] };
  views = record { ref_ptr = (0, 0); now = [] };
  buffers = record { ref_ptr = (0, 0); now = [] };
}

pub returns-in-Err-clause-err : goal.returns-in-Err-clause-err
returns-in-Err-clause-err c =
    arrays-faulty c.args.nodes.now (length c.args.nodes.now - c.loop-read.read) (length c.args.nodes.now - c.loop-read.read - 1) no_node
    c.loop-read.stack c.in-Err.error (omega (arith, c.loop-read-test.true)) (omega (arith, c.loop-read-test.true)) c.loop-read.invariant
    c.in-Err.ensures.err

pub returns-in-Err-clause-early : goal.returns-in-Err-clause-early
returns-in-Err-clause-early c =
    unknown-last c.args.nodes.now (length c.args.nodes.now - c.loop-read.read) (length c.args.nodes.now - c.loop-read.read - 1) no_node
    c.loop-read.stack c.in-Err.error (omega (arith, c.loop-read-test.true)) (omega (arith, c.loop-read-test.true)) c.loop-read.invariant
    c.in-Err.ensures.early
