use Rattle.std.proofs.Common.{◌∙◌}
use Rattle.vx_pack.proofs.CountBytes.{counts_formed}
use Rattle.vx_pack.proofs.list_counts.counts_of.Goals as goal

pub primitive-requires : goal.primitive-requires
primitive-requires c = counts_formed c.args.ptype c.requires.0 c.in_ok-bytes.bytes (c.in_ok-bytes.ensures ∙ c.requires.1)
