use Rattle.vx_leaves.proofs.NamedValues.{AreNamed-none}
use Rattle.vx_leaves.proofs.code_scan.scan_constant.Goals as goal

pub mark_row-requires-clause-before : goal.mark_row-requires-clause-before
mark_row-requires-clause-before c = AreNamed-none c.args.codes.now c.args.referenced c.args.out.now c.requires.none
