use Rattle.std.proofs.Common.{◌≡◌, ◌≤◌, ℕ, List, None, length, map, IfOk, true, false, refl, sym, subst, ◌∙◌, ap}
use Rattle.std.specs.List.{All, concat, flat_map}
use Rattle.std.proofs.lemmas.Result.{err_from_is_err_and, IfOk-weaker}
use Rattle.vx_base.specs.Refusals.{Refuses, IsMemoryOr}
use Rattle.vx_base.proofs.FirstFaults.{or_else-second}
use Rattle.vx_views.specs.BuildFaults.{IsPieceCount}
use Rattle.vx_views.specs.Cut.{IsCut}
use Rattle.vx_views.proofs.BuildRefusals.{piece_count}
use Rattle.vx_tree.specs.Faults.{length_fault}
use Rattle.vx_tree.specs.Layouts.{is_view_array}
use Rattle.vx_tree.specs.Meaning.{rows, tree_len}
use Rattle.vx_tree.specs.Operations.{filtered}
use Rattle.vx_text.specs.Rebuffered.{rebuffer_fault, row_lens}
use Rattle.vx_text.specs.Texts.{buffers_of}
use Rattle.vx_uses.specs.Packed.{row_bytes, row_size}
use Rattle.vx_uses.proofs.PackedRows.{sizes_of_rows, views_selected, buffers_within, buffers_joined}
use Rattle.vx_uses.proofs.TwoFaults.{refused_before}
use Rattle.vx_uses.proofs.repacking.kept_and_packed.Goals as goal

pub returns-in_err-kept-clause-refuses : goal.returns-in_err-kept-clause-refuses
returns-in_err-kept-clause-refuses c =
    let column = c.args.column.now in
    let mask = c.args.mask.now in
    let sizes = map row_size (filtered mask (rows column)) in
    let p = err_from_is_err_and c.from_residual.result c.from_residual.ensures.1 in
    let n = piece_count c.args.limit sizes in
    let len = length_fault (tree_len column) (length mask) in
    let told : IsMemoryOr len c.in_err-kept.field-0.0 = subst (λ t. IsMemoryOr (length_fault (tree_len t) (length mask)) c.in_err-kept.field-0.0) c.as_array.ensures.value c.in_err-kept.ensures.refuses in
    (n.0, (n.1, rw (p.1, p.2) (refused_before len (rebuffer_fault c.args.limit sizes n.0) c.in_err-kept.field-0.0 told)))

pub unreachable-requires : goal.unreachable-requires
unreachable-requires c =
    let is = views_selected c.as_array.result.now c.in_ok-kept.kept c.as_array.ensures.layout c.in_ok-kept.ensures.shape in
    let both : true ≡ false = sym is ∙ c.in_default.ensures.other.1 in
    cc

pub returns-clause-within : goal.returns-clause-within
returns-clause-within c =
    IfOk-weaker c.rebuffer.result _ (λ a. All (λ b. length b ≤ c.args.limit) (buffers_of a)) (λ a is. buffers_within c.args.limit c.in-Ok.texts a is) c.rebuffer.ensures.parts

pub returns-clause-only : goal.returns-clause-only
returns-clause-only c =
    let kept : rows c.in-Ok.texts ≡ filtered c.args.mask.now (rows c.args.column.now) =
    ap rows c.in-Ok.ensures.own.0 ∙ c.in_ok-kept.ensures.rows ∙ ap (λ t. filtered c.args.mask.now (rows t)) c.as_array.ensures.value in
    let views : is_view_array c.in-Ok.texts ≡ true = ap is_view_array c.in-Ok.ensures.own.0 ∙ c.in-Ok.ensures.own.1 in
    IfOk-weaker c.rebuffer.result _ (λ a. concat (buffers_of a) ≡ flat_map row_bytes (filtered c.args.mask.now (rows c.args.column.now)))
    (λ a is. buffers_joined c.args.limit c.in-Ok.texts a views is ∙ ap (flat_map row_bytes) kept) c.rebuffer.ensures.parts

pub returns-clause-fewest : goal.returns-clause-fewest
returns-clause-fewest c =
    let sizes : row_lens c.in-Ok.texts ≡ map row_size (filtered c.args.mask.now (rows c.args.column.now)) =
    ap row_lens c.in-Ok.ensures.own.0 ∙ sizes_of_rows c.in_ok-kept.kept c.in-Ok.ensures.own.1
    ∙ ap (map row_size) (c.in_ok-kept.ensures.rows ∙ ap (λ t. filtered c.args.mask.now (rows t)) c.as_array.ensures.value) in
    subst (λ ns. IfOk c.rebuffer.result (λ a. (others : List ℕ) → IsCut c.args.limit ns others → length (buffers_of a) ≤ length others)) sizes c.rebuffer.ensures.fewest

pub returns-clause-refuses : goal.returns-clause-refuses
returns-clause-refuses c =
    let column = c.args.column.now in
    let mask = c.args.mask.now in
    let wanted = map row_size (filtered mask (rows column)) in
    let sizes : row_lens c.in-Ok.texts ≡ wanted =
    ap row_lens c.in-Ok.ensures.own.0 ∙ sizes_of_rows c.in_ok-kept.kept c.in-Ok.ensures.own.1
    ∙ ap (map row_size) (c.in_ok-kept.ensures.rows ∙ ap (λ t. filtered mask (rows t)) c.as_array.ensures.value) in
    let none : length_fault (tree_len column) (length mask) ≡ None = subst (λ t. length_fault (tree_len t) (length mask) ≡ None) c.as_array.ensures.value c.in_ok-kept.ensures.refuses in
    let told : (n : ℕ) × (IsPieceCount c.args.limit wanted n × Refuses c.rebuffer.result (rebuffer_fault c.args.limit wanted n)) =
    subst (λ ns. (n : ℕ) × (IsPieceCount c.args.limit ns n × Refuses c.rebuffer.result (rebuffer_fault c.args.limit ns n))) sizes c.rebuffer.ensures.refuses in
    let fault = rebuffer_fault c.args.limit wanted told.0 in
    (told.0, (told.1.0, subst (λ f. Refuses c.rebuffer.result f) (sym (or_else-second (length_fault (tree_len column) (length mask)) fault fault none refl)) told.1.1))
