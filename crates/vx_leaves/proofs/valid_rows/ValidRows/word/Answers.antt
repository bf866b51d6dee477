use Rattle.std.proofs.Common.{ℕ, ◌∙◌, eqb, ap, arith}
use Rattle.vx_base.proofs.Edges.{edges_none}
use Rattle.vx_leaves.proofs.WordRows.{first_bits}
use Rattle.vx_leaves.proofs.valid_rows.ValidRows.word.Goals as goal

pub returns-clause-bits : goal.returns-clause-bits
returns-clause-bits c = λ i l. ap (λ (b : ℕ). eqb b 1) (first_bits c.word_from-word.result.0 c.min-count.result i (omega arith) l) ∙ c.word_from-word.ensures.bits i (omega arith) (omega arith)

pub returns-clause-none : goal.returns-clause-none
returns-clause-none c = λ i l. edges_none c.word_from-word.result.0 c.min-count.result i (omega arith) l
