-- Rows of texts and byte lists, kept and packed.
use Rattle.std.proofs.Common.{◌≡◌, ◌≤◌, ◌+◌, ◌-◌, ℕ, Bool, true, false, List, [], ◌∷◌, ◌++◌, length, map, drop, if◌then◌else◌, refl, sym, ◌∙◌, ap, subst, arith, length-take}
use Rattle.std.specs.Prelude.{slice_index_or, slice_range, sum}
use Rattle.std.specs.List.{All, concat, flat_map, range_with_len}
use Rattle.std.proofs.lemmas.List.{drop_all, drop-drop, take-append-drop}
use Rattle.std.proofs.lemmas.List.Concat.{length-flat_map}
use Rattle.std.proofs.lemmas.List.Elements.{All-nil, All-cons}
use Rattle.std.proofs.lemmas.List.Folds.{flat_map-map}
use Rattle.std.proofs.lemmas.List.Sums.{sum-map}
use Rattle.std.proofs.lemmas.Simd.{map-map}
use Rattle.vx_base.proofs.ListParts.{map_range_same}
use Rattle.vx_base.specs.Rows.{null}
use Rattle.vx_views.specs.Cut.{ArePieces}
use Rattle.vx_views.specs.Places.{pieces_of}
use Rattle.vx_views.specs.Views.{view_value}
use Rattle.vx_tree.specs.Layouts.{is_view_array}
use Rattle.vx_tree.specs.Meaning.{row_at, rows, is_valid_at, is_texts, value_row}
use Rattle.vx_tree.specs.Shapes.{shape_of, selected_shape}
use Rattle.vx_tree.specs.Tree.{Tree, bools, primitive, constant, dictionary, fixed_list, list_view, structure, view_array}
use Rattle.vx_text.specs.Rebuffered.{bytes_at, row_values, row_lens, heap_of_rows, IsRebuffered}
use Rattle.vx_text.specs.Texts.{buffers_of}
use Rattle.vx_uses.specs.Packed.{row_bytes, row_size}

-- ---- values

value_bytes : (valid u : Bool) (value : List ℕ) → (if valid then value else []) ≡ row_bytes (if valid then value_row u value else null)
value_bytes true true value = refl
value_bytes true false value = refl
value_bytes false u value = refl

-- the values of an array are the bytes of its rows
values_of_rows : (t : Tree) → is_view_array t ≡ true → row_values t ≡ map row_bytes (rows t)
values_of_rows (view_array vs bs k v) is =
    let t = view_array vs bs k v in
    map_range_same (bytes_at t) (λ i. row_bytes (row_at t i)) 0 0 (length vs) (λ i l. value_bytes (is_valid_at v (0 + i)) (is_texts k) (view_value bs (slice_index_or vs (0 + i) [])))
    ∙ sym (map-map row_bytes (row_at t) (range_with_len 0 (length vs)))
values_of_rows (bools b bits v) is = cc
values_of_rows (primitive t bs v) is = cc
values_of_rows (constant k r n) is = cc
values_of_rows (dictionary c v f) is = cc
values_of_rows (fixed_list e k v n) is = cc
values_of_rows (list_view e o s v f) is = cc
values_of_rows (structure ns ts v n) is = cc

-- and their lengths are the sizes of the rows
pub sizes_of_rows : (t : Tree) → is_view_array t ≡ true → row_lens t ≡ map row_size (rows t)
sizes_of_rows t is = ap (map (λ (value : List ℕ). length value)) (values_of_rows t is) ∙ map-map (λ (value : List ℕ). length value) row_bytes (rows t)

-- ---- buffers

pub pieces_within : (limit : ℕ) (heap lens : List ℕ) (from : ℕ) (ends : List ℕ) (to : ℕ) → ArePieces limit lens from ends to → All (λ b. length b ≤ limit) (pieces_of heap from ends)
pieces_within limit heap lens from [] to pieces = All-nil (λ (b : List ℕ). length b ≤ limit)
pieces_within limit heap lens from (end ∷ ends) to pieces =
    All-cons (λ (b : List ℕ). length b ≤ limit) (slice_range heap from end) (pieces_of heap end ends)
    (omega (arith, length-take (end - from) (drop from heap), pieces.1)) (pieces_within limit heap lens end ends to pieces.3)

pieces_joined : (limit : ℕ) (heap lens : List ℕ) (from : ℕ) (ends : List ℕ) (to : ℕ) → ArePieces limit lens from ends to → to ≡ length heap → concat (pieces_of heap from ends) ≡ drop from heap
pieces_joined limit heap lens from [] to pieces whole = sym (drop_all from heap (omega (arith, pieces, whole)))
pieces_joined limit heap lens from (end ∷ ends) to pieces whole =
    let rest : drop (end - from) (drop from heap) ≡ drop end heap = drop-drop (end - from) from heap ∙ ap (λ n. drop n heap) (omega (arith, pieces.0)) in
    ap (λ bs. slice_range heap from end ++ bs) (pieces_joined limit heap lens end ends to pieces.3 whole ∙ sym rest)
    ∙ take-append-drop (end - from) (drop from heap)

-- no buffer passes the limit
pub buffers_within : (limit : ℕ) (t a : Tree) → IsRebuffered limit t a → All (λ b. length b ≤ limit) (buffers_of a)
buffers_within limit t a is =
    subst (λ bs. All (λ b. length b ≤ limit) bs) (sym is.pieces)
    (pieces_within limit (heap_of_rows t) (row_lens t) 0 is.ends (sum (row_lens t)) is.cut.cut.pieces)

-- one after another, the buffers are the bytes of the rows
pub buffers_joined : (limit : ℕ) (t a : Tree) → is_view_array t ≡ true → IsRebuffered limit t a → concat (buffers_of a) ≡ flat_map row_bytes (rows t)
buffers_joined limit t a views is =
    let whole : sum (row_lens t) ≡ length (heap_of_rows t) =
    sum-map (λ (value : List ℕ). length value) (row_values t) ∙ sym (length-flat_map (λ (value : List ℕ). value) (row_values t)) in
    ap concat is.pieces
    ∙ pieces_joined limit (heap_of_rows t) (row_lens t) 0 is.ends (sum (row_lens t)) is.cut.cut.pieces whole
    ∙ ap (flat_map (λ (value : List ℕ). value)) (values_of_rows t views)
    ∙ flat_map-map (λ (value : List ℕ). value) row_bytes (rows t)

-- ---- the layout

-- selected rows of views are views
pub views_selected : (t r : Tree) → is_view_array t ≡ true → shape_of r ≡ selected_shape (shape_of t) → is_view_array r ≡ true
views_selected (view_array vs bs k v) (view_array ws cs l w) is same = refl
views_selected (view_array vs bs k v) (bools b bits w) is same = cc
views_selected (view_array vs bs k v) (primitive p cs w) is same = cc
views_selected (view_array vs bs k v) (constant l r n) is same = cc
views_selected (view_array vs bs k v) (dictionary c w f) is same = cc
views_selected (view_array vs bs k v) (fixed_list e n w m) is same = cc
views_selected (view_array vs bs k v) (list_view e o s w f) is same = cc
views_selected (view_array vs bs k v) (structure ns ts w n) is same = cc
views_selected (bools b bits v) r is same = cc
views_selected (primitive t bs v) r is same = cc
views_selected (constant k q n) r is same = cc
views_selected (dictionary c v f) r is same = cc
views_selected (fixed_list e k v n) r is same = cc
views_selected (list_view e o s v f) r is same = cc
views_selected (structure ns ts v n) r is same = cc
