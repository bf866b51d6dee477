use Rattle.std.proofs.Common.{◌∙◌, ap, replicate}
use Rattle.std.proofs.lemmas.Bool.{false≢true}
use Rattle.vx_leaves.proofs.WordRows.{unmixed}
use Rattle.vx_leaves.proofs.valid_rows.ValidRows.of_mask.Goals as goal

pub returns-in-None : goal.returns-in-None
returns-in-None c =
    c.alike.ensures ∙ ap (λ n. replicate n c.all_true.result) c.len.ensures
    ∙ unmixed c.args.mask.now c.all_true.result (λ mixed. false≢true (c.in-None.ensures.some.1 mixed)) c.all_true.ensures.0 c.all_true.ensures.1
