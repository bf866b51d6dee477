-- What the parts of texts and byte lists make.
use Rattle.std.proofs.Common.{ℕ, ◌<◌, ◌≡◌, Bool, true, false, List, [], length, replicate, refl, sym, ◌∙◌, ap, subst, inl, inr, zero-add, arith}
use Rattle.std.specs.Prelude.{slice_index_or, if◌then◌else◌}
use Rattle.std.proofs.lemmas.Bool.{cases_Bool}
use Rattle.std.proofs.lemmas.List.FromFn.{get_or-map-range_with_len}
use Rattle.vx_base.specs.Bits.{bool_at}
use Rattle.vx_base.specs.Rows.{null}
use Rattle.vx_base.specs.Kinds.{Kind, booleans, integers, texts, binaries, lists, fixed_lists, records, is_nullable_kind}
use Rattle.vx_views.specs.Views.{view_value, number_le, Resolves}
use Rattle.vx_views.specs.Sound.{IsSoundView}
use Rattle.vx_tree.specs.Tree.{Tree, view_array, Valid}
use Rattle.vx_tree.specs.Meaning.{is_valid_at, is_texts, valid_mask, value_row}
use Rattle.vx_tree.specs.Formed.{WellFormed, value_kind}
use Rattle.vx_tree.proofs.ViewArrays.{valid_views_made}
use Rattle.vx_text.specs.Texts.{AllResolve, AreViewParts, HasValues, array_of_views, emptied_views, view_data, view_data_of}
use Rattle.vx_text.specs.TextFaults.{is_values}

-- ---- kinds

pub kind_of_values : (k : Kind) (n : Bool) → is_values k ≡ true → is_nullable_kind k ≡ n → k ≡ value_kind (is_texts k) n
kind_of_values (texts m) n values e = ap texts e
kind_of_values (binaries m) n values e = ap binaries e
kind_of_values (booleans m) n values e = cc
kind_of_values (integers t m) n values e = cc
kind_of_values (lists k m) n values e = cc
kind_of_values (fixed_lists k size m) n values e = cc
kind_of_values (records names ks m) n values e = cc

-- ---- the array

mask_bit : (v : Valid) (n i : ℕ) → i < n → bool_at (valid_mask v n) i ≡ is_valid_at v i
mask_bit v n i l = get_or-map-range_with_len (is_valid_at v) 0 n i i false l (zero-add i)

pub formed_of_parts : (views bs ws : List (List ℕ)) (k : Kind) (v : Valid) → AreViewParts views bs k v → ws ≡ emptied_views views (valid_mask v (length views)) → WellFormed (view_array ws bs k v)
formed_of_parts views bs ws k v parts e =
    let made = valid_views_made views ws v e in (
      rw made.len parts.fits,
      record {
        kind = parts.kind;
        sound = λ i l valid.
            let here : i < length views = rw made.len at l in
            let same : slice_index_or ws i [] ≡ slice_index_or views i [] = made.views i here ∙ ap (λ (b : Bool). if b then slice_index_or views i [] else replicate 16 0) valid in
            subst (IsSoundView bs (is_texts k)) (sym same) (parts.sound i here (mask_bit v (length views) i here ∙ valid));
        zeroes = λ i l none.
            let here : i < length views = rw made.len at l in
            made.views i here ∙ ap (λ (b : Bool). if b then slice_index_or views i [] else replicate 16 0) none;
      },
    )

same_row : (b u : Bool) (bs : List (List ℕ)) (w view : List ℕ) → w ≡ (if b then view else replicate 16 0) → (if b then value_row u (view_value bs w) else null) ≡ (if b then value_row u (view_value bs view) else null)
same_row true u bs w view e = ap (λ x. value_row u (view_value bs x)) e
same_row false u bs w view e = refl

pub values_of_parts : (views bs : List (List ℕ)) (k : Kind) (v : Valid) → HasValues views bs k v (array_of_views views bs k v)
values_of_parts views bs k v i l =
    let ws = emptied_views views (valid_mask v (length views)) in
    same_row (is_valid_at v i) (is_texts k) bs (slice_index_or ws i []) (slice_index_or views i []) ((valid_views_made views ws v refl).views i l)

-- ---- the views of an array resolve

zeroes_resolve : (bs : List (List ℕ)) → Resolves bs (replicate 16 0)
unfolding number_le
zeroes_resolve bs long = absurd (omega arith)

pub all_resolve : (vs bs : List (List ℕ)) (k : Kind) (v : Valid) → WellFormed (view_array vs bs k v) → AllResolve (view_data vs bs)
all_resolve vs bs k v formed i l =
    elim (cases_Bool (is_valid_at v i)) [
      | inl valid ↦ (formed.1.sound i l valid).resolves
      | inr none ↦ subst (Resolves bs) (sym (formed.1.zeroes i l none)) (zeroes_resolve bs)
    ]

pub resolved : (t : Tree) (vs bs : List (List ℕ)) (k : Kind) (v : Valid) → t ≡ view_array vs bs k v → WellFormed (view_array vs bs k v) → AllResolve (view_data_of t)
resolved t vs bs k v same formed = subst (λ u. AllResolve (view_data_of u)) (sym same) (all_resolve vs bs k v formed)

pub resolved_data : (vs bs ws cs : List (List ℕ)) (k : Kind) (v : Valid) → WellFormed (view_array vs bs k v) → ws ≡ vs → cs ≡ bs → AllResolve (view_data ws cs)
resolved_data vs bs ws cs k v formed a b =
    subst (λ xs. AllResolve (view_data xs cs)) (sym a) (subst (λ ys. AllResolve (view_data vs ys)) (sym b) (all_resolve vs bs k v formed))
