use Rattle.std.proofs.Common.{◌≡◌, Bool, true, false, List, replicate, sym, ◌∙◌, ap, subst}
use Rattle.vx_base.proofs.MaskCounts.{all_true_from_count, all_false_from_count}
use Rattle.vx_base.specs.Refusals.{Gives}
use Rattle.vx_tree.proofs.validity.concat.bits_of_mask.Goals as goal

pub returns-then-all_true-clause-bits : goal.returns-then-all_true-clause-bits
returns-then-all_true-clause-bits c =
    let mask = c.args.mask.now in
    let same : replicate c.len.result true ≡ mask =
    ap (λ n. replicate n true) c.len.ensures ∙ sym (all_true_from_count mask (c.all_true.ensures.0 c.if-all_true.true)) in
    subst (λ (bits : List Bool). Gives c.new_set.result (λ b. b.bits ≡ bits)) same c.new_set.ensures.bits

pub returns-then-all_false-clause-bits : goal.returns-then-all_false-clause-bits
returns-then-all_false-clause-bits c =
    let mask = c.args.mask.now in
    let same : replicate c.len-then-all_false.result false ≡ mask =
    ap (λ n. replicate n false) c.len-then-all_false.ensures ∙ sym (all_false_from_count mask (c.all_false.ensures.0 c.if-all_false.true)) in
    subst (λ (bits : List Bool). Gives c.new_unset.result (λ b. b.bits ≡ bits)) same c.new_unset.ensures.bits
