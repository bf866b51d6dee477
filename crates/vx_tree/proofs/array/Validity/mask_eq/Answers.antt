use Rattle.std.proofs.Common.{◌≡◌, ◌∙◌, ℕ, true, false, replicate, ap, refl, sym}
use Rattle.std.specs.Prelude.{count_by}
use Rattle.std.proofs.lemmas.List.FromFn.{length-map-range_with_len}
use Rattle.vx_base.proofs.MaskCounts.{all_true_from_count, all_false_from_count}
use Rattle.vx_tree.specs.Tree.{Valid}
use Rattle.vx_tree.specs.Meaning.{is_valid_at, valid_mask}
use Rattle.vx_tree.specs.Parts.{valid_of}
use Rattle.vx_tree.proofs.array.Validity.mask_eq.Goals as goal
use Rattle.vx_tree.proofs.array.Validity.mask_eq.Goals.{then-mine-eq0-via-then-mine-eq0, then-mine-eq0-via-else-mine-eq0+then-mine-len}

-- masks that are nowhere true are alike
all_false : (v u : Valid) (n : ℕ) → count_by (λ b. b) (valid_mask v n) ≡ 0 → count_by (λ b. b) (valid_mask u n) ≡ 0 → valid_mask v n ≡ valid_mask u n
all_false v u n x y =
    all_false_from_count (valid_mask v n) x
    ∙ ap (λ m. replicate m false) (length-map-range_with_len (is_valid_at v) 0 n ∙ sym (length-map-range_with_len (is_valid_at u) 0 n)) ∙ sym (all_false_from_count (valid_mask u n) y)

-- and so are those that are true everywhere
all_true : (v u : Valid) (n : ℕ) → count_by (λ b. b) (valid_mask v n) ≡ n → count_by (λ b. b) (valid_mask u n) ≡ n → valid_mask v n ≡ valid_mask u n
all_true v u n x y =
    let mine = length-map-range_with_len (is_valid_at v) 0 n in
    let theirs = length-map-range_with_len (is_valid_at u) 0 n in
    all_true_from_count (valid_mask v n) (x ∙ sym mine) ∙ ap (λ m. replicate m true) (mine ∙ sym theirs) ∙ sym (all_true_from_count (valid_mask u n) (y ∙ sym theirs))

pub returns-then-mine-eq0-clause-ok : goal.returns-then-mine-eq0-clause-ok
returns-then-mine-eq0-clause-ok c =
    let v = valid_of c.args.self.now in
    let u = valid_of c.args.other.now in
    let n = c.args.len in
    let mine = c.in_ok-mine.ensures.count in
    let theirs = sym c.in_ok-theirs.ensures.count ∙ sym c.if-mine-theirs.false in
    let alike : valid_mask v n ≡ valid_mask u n =
    elim c.then-mine-eq0.branch [
      | then-mine-eq0-via-then-mine-eq0 w ↦ all_false v u n (sym mine ∙ w.if-mine-eq0.true) (theirs ∙ w.if-mine-eq0.true)
      | then-mine-eq0-via-else-mine-eq0+then-mine-len w ↦ all_true v u n (sym mine ∙ w.if-mine-len.true) (theirs ∙ w.if-mine-len.true)
    ] in
    (λ h. alike, λ h. refl)
