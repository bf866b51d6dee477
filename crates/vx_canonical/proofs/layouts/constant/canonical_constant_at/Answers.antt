use Rattle.std.proofs.Common.{ap, sym, ◌∙◌, inr}
use Rattle.vx_tree.specs.Parts.{tree_of}
use Rattle.vx_tree.specs.CanonicalFaults.{plain_overflow}
use Rattle.vx_canonical.proofs.CanonicalFaults.{constant_uncounted}
use Rattle.vx_canonical.proofs.CanonicalWithin.{constant_row_picked}
use Rattle.vx_canonical.proofs.layouts.constant.canonical_constant_at.Goals as goal

pub returns-then-not-is_countable-clause-refuses : goal.returns-then-not-is_countable-clause-refuses
returns-then-not-is_countable-clause-refuses c =
    let s = c.in-Constant.scalar in
    let n = c.in-Constant.len in
    let same = sym c.layout.ensures.parts ∙ ap tree_of c.in-Constant.is in
    inr (constant_uncounted c.args.array.now s.kind s.row n same (sym (ap (λ k. plain_overflow k n) c.dtype.ensures.value) ∙ (rw c.if-not-is_countable.true at c.is_countable.ensures)))

pub returns-clause-within : goal.returns-clause-within
returns-clause-within c = constant_row_picked c.args.array.now c.in_ok-rows.rows c.requires.layout
