use Rattle.vx_leaves.proofs.ValueRows.{count_of}
use Rattle.vx_leaves.proofs.primitive_array.spread_values.Goals as goal

pub primitive_array-requires-clause-count : goal.primitive_array-requires-clause-count
primitive_array-requires-clause-count c =
    count_of c.args.ptype c.in_ok-spread.spread c.args.n_rows c.in_ok-spread.ensures.len
