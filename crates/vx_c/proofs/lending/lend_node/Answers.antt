use Rattle.vx_c.proofs.SameNodes.{lent_places}
use Rattle.vx_c.proofs.lending.lend_node.Goals as goal

pub returns : goal.returns
returns c = λ j. record {
  kind = c.number.ensures j;
  validity = c.args.node.validity;
  size = c.args.node.size;
  length = c.args.node.length;
  offset = c.args.node.offset;
  bytes = record { ref_ptr = (0, 0); now = c.leak.ensures.value j };
  views = record { ref_ptr = (0, 0); now = c.leak-2.ensures.value j };
  buffers = record { ref_ptr = (0, 0); now = lent_places c.lend_buffers.result.now c.args.node.buffers.blocks.items c.lend_buffers.ensures j };
}
