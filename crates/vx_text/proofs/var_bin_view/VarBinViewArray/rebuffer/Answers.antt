use Rattle.std.proofs.Common.{◌≡◌, ◌<◌, ◌≤◌, ℕ, List, [], Ok, length, sym, ◌∙◌, ap, subst, arith}
use Rattle.std.specs.Prelude.{slice_index_or}
use Rattle.std.specs.List.{All}
use Rattle.vx_base.specs.DTypes.{dtype_meaning}
use Rattle.vx_base.specs.Kinds.{Kind}
use Rattle.vx_views.specs.Cut.{IsCut}
use Rattle.vx_views.specs.Views.{Resolves}
use Rattle.vx_tree.specs.Formed.{WellFormed}
use Rattle.vx_tree.specs.Meaning.{rows}
use Rattle.vx_tree.specs.Parts.{valid_of}
use Rattle.vx_tree.specs.Tree.{Tree, Valid, view_array}
use Rattle.vx_text.specs.Texts.{buffers_of}
use Rattle.vx_text.specs.Rebuffered.{IsRebuffered, row_lens, value_lens}
use Rattle.vx_text.proofs.Rebuffering.{HasMoved, HasRead, answered-limit, answered-memory, answered-moved, answered-passed, lens_are, moved_fewest, moved_formed, moved_made, moved_rows}
use Rattle.vx_text.proofs.TextParts.{all_resolve}
use Rattle.vx_text.proofs.var_bin_view.VarBinViewArray.rebuffer.Goals as goal

pub returns-then-limit-gt-MAX_BUFFER_LEN-clause-refuses : goal.returns-then-limit-gt-MAX_BUFFER_LEN-clause-refuses
returns-then-limit-gt-MAX_BUFFER_LEN-clause-refuses c = answered-limit c.args.limit (row_lens c.args.self.now) (omega arith)

pub move_values-requires-clause-resolve : goal.move_values-requires-clause-resolve
move_values-requires-clause-resolve c =
    let p = c.parts-parts.result in
    subst (λ ws. (i : ℕ) → i < length ws → Resolves p.buffers.now (slice_index_or ws i [])) (sym c.as_slice.ensures)
    (all_resolve p.views.now p.buffers.now (dtype_meaning p.dtype.now) (valid_of p.validity.now) c.parts-parts.ensures.formed)

-- the lengths of the values that are moved are the rows'
lens_same : (t : Tree) (vs bs ws : List (List ℕ)) (k : Kind) (v : Valid) → t ≡ view_array vs bs k v → WellFormed (view_array vs bs k v) → ws ≡ vs → value_lens bs ws ≡ row_lens t
lens_same t vs bs ws k v is formed same = ap (value_lens bs) same ∙ sym (lens_are vs bs k v formed) ∙ ap row_lens (sym is)

pub returns-in_err-buffers-clause-refuses : goal.returns-in_err-buffers-clause-refuses
returns-in_err-buffers-clause-refuses c =
    let p = c.parts-parts.result in
    let bs = p.buffers.now in
    answered-passed c.args.limit (row_lens c.args.self.now) (value_lens bs c.as_slice.result.now) c.from_residual.result c.in_err-buffers.field-0.0
    (lens_same c.args.self.now p.views.now bs c.as_slice.result.now (dtype_meaning p.dtype.now) (valid_of p.validity.now) c.parts-parts.ensures.same c.parts-parts.ensures.formed c.as_slice.ensures)
    (omega arith) c.from_residual.ensures.1 (λ e same. same) c.in_err-buffers.ensures.refuses

pub returns-in_err-dtype-clause-refuses : goal.returns-in_err-dtype-clause-refuses
returns-in_err-dtype-clause-refuses c =
    answered-memory c.args.limit (row_lens c.args.self.now) c.from_residual-in_err-dtype.result c.from_residual-in_err-dtype.ensures.1 (λ e same. same ∙ c.in_err-dtype.ensures)

pub returns-in_err-validity-clause-refuses : goal.returns-in_err-validity-clause-refuses
returns-in_err-validity-clause-refuses c =
    answered-memory c.args.limit (row_lens c.args.self.now) c.from_residual-in_err-validity.result c.from_residual-in_err-validity.ensures.1 (λ e same. same ∙ c.in_err-validity.ensures)

pub returns-in_err-array-clause-refuses : goal.returns-in_err-array-clause-refuses
returns-in_err-array-clause-refuses c =
    answered-memory c.args.limit (row_lens c.args.self.now) c.from_residual-in_err-array.result c.from_residual-in_err-array.ensures.1 (λ e same. same ∙ c.in_err-array.ensures)

pub var_bin_view-requires : goal.var_bin_view-requires
var_bin_view-requires c =
    let p = c.parts-parts.result in
    let k = dtype_meaning p.dtype.now in
    let v = valid_of p.validity.now in
    let made = c.in_ok-buffers in
    let built : HasMoved c.args.limit p.views.now p.buffers.now made.views made.buffers.items = subst (λ vs. HasMoved c.args.limit vs p.buffers.now made.views made.buffers.items) c.as_slice.ensures made.ensures.built in
    let back : HasRead p.views.now p.buffers.now made.views made.buffers.items = subst (λ vs. HasRead vs p.buffers.now made.views made.buffers.items) c.as_slice.ensures made.ensures.read_back in
    let short : All (λ n. n ≤ c.args.limit) (value_lens p.buffers.now p.views.now) =
    subst (λ vs. All (λ n. n ≤ c.args.limit) (value_lens p.buffers.now vs)) c.as_slice.ensures made.ensures.short in
    subst (λ kind. WellFormed (view_array made.views made.buffers.items kind (valid_of c.in_ok-validity.validity))) (sym c.in_ok-dtype.ensures)
    (subst (λ valid. WellFormed (view_array made.views made.buffers.items k valid)) (sym c.in_ok-validity.ensures)
    (moved_formed c.args.limit p.views.now p.buffers.now made.views made.buffers.items k v c.parts-parts.ensures.formed built back (omega arith) short))

pub returns-clause-parts : goal.returns-clause-parts
returns-clause-parts c =
    let p = c.parts-parts.result in
    let k = dtype_meaning p.dtype.now in
    let v = valid_of p.validity.now in
    let made = c.in_ok-buffers in
    let built : HasMoved c.args.limit p.views.now p.buffers.now made.views made.buffers.items = subst (λ vs. HasMoved c.args.limit vs p.buffers.now made.views made.buffers.items) c.as_slice.ensures made.ensures.built in
    let back : HasRead p.views.now p.buffers.now made.views made.buffers.items = subst (λ vs. HasRead vs p.buffers.now made.views made.buffers.items) c.as_slice.ensures made.ensures.read_back in
    let is : c.from_array.result ≡ view_array made.views made.buffers.items k v =
    c.from_array.ensures ∙ c.in_ok-array.ensures ∙ ap (λ kind. view_array made.views made.buffers.items kind (valid_of c.in_ok-validity.validity)) c.in_ok-dtype.ensures ∙ ap (view_array made.views made.buffers.items k) c.in_ok-validity.ensures in
    subst (λ t. IsRebuffered c.args.limit t c.from_array.result) (sym c.parts-parts.ensures.same)
    (subst (IsRebuffered c.args.limit (view_array p.views.now p.buffers.now k v)) (sym is)
    (moved_made c.args.limit p.views.now p.buffers.now made.views made.buffers.items k v c.parts-parts.ensures.formed built back))

pub returns-clause-rows : goal.returns-clause-rows
returns-clause-rows c =
    let p = c.parts-parts.result in
    let k = dtype_meaning p.dtype.now in
    let v = valid_of p.validity.now in
    let made = c.in_ok-buffers in
    let built : HasMoved c.args.limit p.views.now p.buffers.now made.views made.buffers.items = subst (λ vs. HasMoved c.args.limit vs p.buffers.now made.views made.buffers.items) c.as_slice.ensures made.ensures.built in
    let back : HasRead p.views.now p.buffers.now made.views made.buffers.items = subst (λ vs. HasRead vs p.buffers.now made.views made.buffers.items) c.as_slice.ensures made.ensures.read_back in
    let is : c.from_array.result ≡ view_array made.views made.buffers.items k v =
    c.from_array.ensures ∙ c.in_ok-array.ensures ∙ ap (λ kind. view_array made.views made.buffers.items kind (valid_of c.in_ok-validity.validity)) c.in_ok-dtype.ensures ∙ ap (view_array made.views made.buffers.items k) c.in_ok-validity.ensures in
    ap rows is ∙ moved_rows c.args.limit p.views.now p.buffers.now made.views made.buffers.items k v c.parts-parts.ensures.formed built back ∙ ap rows (sym c.parts-parts.ensures.same)

pub returns-clause-fewest : goal.returns-clause-fewest
returns-clause-fewest c =
    let p = c.parts-parts.result in
    let k = dtype_meaning p.dtype.now in
    let v = valid_of p.validity.now in
    let made = c.in_ok-buffers in
    let built : HasMoved c.args.limit p.views.now p.buffers.now made.views made.buffers.items = subst (λ vs. HasMoved c.args.limit vs p.buffers.now made.views made.buffers.items) c.as_slice.ensures made.ensures.built in
    let back : HasRead p.views.now p.buffers.now made.views made.buffers.items = subst (λ vs. HasRead vs p.buffers.now made.views made.buffers.items) c.as_slice.ensures made.ensures.read_back in
    let is : c.from_array.result ≡ view_array made.views made.buffers.items k v =
    c.from_array.ensures ∙ c.in_ok-array.ensures ∙ ap (λ kind. view_array made.views made.buffers.items kind (valid_of c.in_ok-validity.validity)) c.in_ok-dtype.ensures ∙ ap (view_array made.views made.buffers.items k) c.in_ok-validity.ensures in
    let few : (others : List ℕ) → IsCut c.args.limit (row_lens (view_array p.views.now p.buffers.now k v)) others → length made.buffers.items ≤ length others =
    moved_fewest c.args.limit p.views.now p.buffers.now made.views made.buffers.items k v c.parts-parts.ensures.formed built back in
    subst (λ t. (others : List ℕ) → IsCut c.args.limit (row_lens t) others → length (buffers_of c.from_array.result) ≤ length others) (sym c.parts-parts.ensures.same)
    (λ others cut. subst (λ a. length (buffers_of a) ≤ length others) (sym is) (few others cut))

pub returns-clause-refuses : goal.returns-clause-refuses
returns-clause-refuses c =
    let p = c.parts-parts.result in
    let bs = p.buffers.now in
    let lens = value_lens bs c.as_slice.result.now in
    let same : lens ≡ row_lens c.args.self.now =
    lens_same c.args.self.now p.views.now bs c.as_slice.result.now (dtype_meaning p.dtype.now) (valid_of p.validity.now) c.parts-parts.ensures.same c.parts-parts.ensures.formed c.as_slice.ensures in
    answered-moved c.args.limit (row_lens c.args.self.now) lens (Ok c.from_array.result) same (omega arith) c.in_ok-buffers.ensures.refuses
