use Rattle.std.proofs.Common.{◌≡◌, ◌≤◌, ℕ, None, IfOk, length, map, pos, sum, sym, ◌∙◌, ap, subst}
use Rattle.std.specs.List.{All}
use Rattle.vx_base.specs.Refusals.{Names}
use Rattle.vx_views.specs.BuildFaults.{IsPieceCount, first_too_long, lengths_of}
use Rattle.vx_views.specs.Places.{AreBuilt, ReadBack, value_at}
use Rattle.vx_views.specs.Views.{view_value}
use Rattle.vx_text.specs.Rebuffered.{value_lens, too_many_fault}
use Rattle.vx_text.proofs.HeapCounts.{all_short}
use Rattle.vx_text.proofs.ItemHeaps.{joined_long, lengths_back}
use Rattle.vx_text.proofs.Rebuffering.{anyway, moved-built, moved-long, moved-memory}
use Rattle.vx_text.proofs.rebuffer.move_values.Goals as goal

pub returns-in_err-lens-clause-refuses : goal.returns-in_err-lens-clause-refuses
returns-in_err-lens-clause-refuses c =
    let lens = value_lens c.args.buffers.now c.args.views.now in
    moved-memory c.args.limit lens c.from_residual.result c.from_residual.ensures.1 (λ e same. same ∙ c.in_err-lens.ensures)

pub returns-in_err-check_short-clause-refuses : goal.returns-in_err-check_short-clause-refuses
returns-in_err-check_short-clause-refuses c =
    let lens = value_lens c.args.buffers.now c.args.views.now in
    moved-long c.args.limit lens c.deref.result.now c.from_residual-in_err-check_short.result (c.deref.ensures.value ∙ c.in_ok-lens.ensures) c.from_residual-in_err-check_short.ensures.1
    (λ e same. subst (Names (first_too_long c.args.limit (map pos c.deref.result.now))) (sym same) c.in_err-check_short.ensures)

pub returns-in_err-heap-clause-refuses : goal.returns-in_err-heap-clause-refuses
returns-in_err-heap-clause-refuses c =
    let lens = value_lens c.args.buffers.now c.args.views.now in
    moved-memory c.args.limit lens c.from_residual-in_err-heap.result c.from_residual-in_err-heap.ensures.1 (λ e same. same ∙ c.in_err-heap.ensures)

pub returns-clause-built : goal.returns-clause-built
returns-clause-built c =
    let lens = value_lens c.args.buffers.now c.args.views.now in
    let same : lengths_of (map pos c.deref-3.result.now) ≡ lens = lengths_back c.deref-3.result.now ∙ c.deref-3.ensures.value ∙ c.in_ok-lens.ensures in
    let r = c.build_views.result in
    subst (λ h. IfOk r (λ m. AreBuilt 0 c.args.limit h lens m.0.items m.1)) c.in_ok-heap.ensures
    (subst (λ ns. IfOk r (λ m. AreBuilt 0 c.args.limit c.in_ok-heap.heap ns m.0.items m.1)) same c.build_views.ensures.built)

pub returns-clause-read_back : goal.returns-clause-read_back
returns-clause-read_back c =
    let lens = value_lens c.args.buffers.now c.args.views.now in
    let same : lengths_of (map pos c.deref-3.result.now) ≡ lens = lengths_back c.deref-3.result.now ∙ c.deref-3.ensures.value ∙ c.in_ok-lens.ensures in
    let r = c.build_views.result in
    subst (λ h. IfOk r (λ m. ReadBack 0 (value_at h lens) m.0.items m.1)) c.in_ok-heap.ensures
    (subst (λ ns. IfOk r (λ m. ReadBack 0 (value_at c.in_ok-heap.heap ns) m.0.items m.1)) same c.build_views.ensures.read_back)

pub returns-clause-short : goal.returns-clause-short
returns-clause-short c =
    let lens = value_lens c.args.buffers.now c.args.views.now in
    let fits : first_too_long c.args.limit (map pos lens) ≡ None = subst (λ ns. first_too_long c.args.limit (map pos ns) ≡ None) (c.deref.ensures.value ∙ c.in_ok-lens.ensures) c.in_ok-check_short.ensures in
    anyway (All (λ n. n ≤ c.args.limit) lens) c.build_views.result (all_short c.args.limit lens fits)

pub returns-clause-refuses : goal.returns-clause-refuses
returns-clause-refuses c =
    let value = view_value c.args.buffers.now in
    let lens = value_lens c.args.buffers.now c.args.views.now in
    let fits : first_too_long c.args.limit (map pos lens) ≡ None = subst (λ ns. first_too_long c.args.limit (map pos ns) ≡ None) (c.deref.ensures.value ∙ c.in_ok-lens.ensures) c.in_ok-check_short.ensures in
    let exact : sum lens ≡ length c.in_ok-heap.heap = joined_long value c.args.views.now ∙ sym (ap length c.in_ok-heap.ensures) in
    let counted : (pieces : ℕ) × (IsPieceCount c.args.limit lens pieces × (too_many_fault lens pieces ≡ None)) =
    subst (λ ns. (pieces : ℕ) × (IsPieceCount c.args.limit ns pieces × (too_many_fault ns pieces ≡ None))) (c.deref-2.ensures.value ∙ c.in_ok-lens.ensures) c.in_ok-len.ensures.tests in
    moved-built c.args.limit (length c.in_ok-heap.heap) lens c.deref-3.result.now c.build_views.result (c.deref-3.ensures.value ∙ c.in_ok-lens.ensures) c.requires.limit fits exact counted c.build_views.ensures.refuses
