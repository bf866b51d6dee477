use Rattle.std.proofs.Common.{arith}
use Rattle.vx_leaves.proofs.CodeRows.{word_faultless}
use Rattle.vx_leaves.proofs.code_checks.typed_faultless_rows.Goals as goal

pub loop-row-preserved : goal.loop-row-preserved
loop-row-preserved g c = record {
  within = omega arith;
  none = word_faultless g.T.NativePType.PTYPE c.args.bytes.now c.args.valid.now c.args.len c.loop-row.row c.word-word.result.1 c.word-word.result.0 c.word-word.ensures.bits
      (c.are_positions.ensures c.if-not-are_positions.false) c.loop-row.invariant.none;
}
