use Rattle.std.proofs.Common.{◌≡◌, ◌+◌, ◌/◌, ◌≤◌, ℕ, false, length, replicate, get_or, sym, ap, ◌∙◌, subst, arith}
use Rattle.std.proofs.lemmas.List.{length-replicate}
use Rattle.vx_lists.specs.ListViews.References.{AreMarked}
use Rattle.vx_lists.proofs.list_view.references.mark_lists.Goals as goal

pub mark_all-requires : goal.mark_all-requires
mark_all-requires c =
    let unset = c.in_ok-marked.ensures in
    let len : length c.in_ok-marked.marked ≡ c.args.count = ap length unset ∙ length-replicate c.args.count false in
    record {
      same_len = c.requires.same_len;
      within = λ i inside. subst (λ n. get_or c.args.offsets.now i 0 + get_or c.args.sizes.now i 0 ≤ n) (sym len) (c.requires.within i inside);
      short = omega (arith, len);
      unset = unset ∙ ap (λ n. replicate n false) (sym len);
      empty = c.deref_mut.ensures.value ∙ c.in_ok-runs.ensures.items_if_clones_equal (λ y h. h) ∙ ap (λ (n : ℕ). replicate {A = ℕ} (n / 4096) 0) (sym len);
    }

pub returns : goal.returns
returns c =
    let len : length c.in_ok-marked.marked ≡ c.args.count = ap length c.in_ok-marked.ensures ∙ length-replicate c.args.count false in
    let marked = subst (λ n. AreMarked (λ i. get_or c.args.offsets.now i 0) (λ i. get_or c.args.offsets.now i 0 + get_or c.args.sizes.now i 0) (length c.args.offsets.now) n c.mark_all.new.marked) len c.mark_all.ensures in
    subst (AreMarked (λ i. get_or c.args.offsets.now i 0) (λ i. get_or c.args.offsets.now i 0 + get_or c.args.sizes.now i 0) (length c.args.offsets.now) c.args.count) (sym c.in_ok-freeze.ensures.bits) marked
