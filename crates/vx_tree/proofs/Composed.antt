-- Slices of slices, selections of selections, and what becomes of a dictionary's values.
use Rattle.std.proofs.Common.{◌+◌, ◌<◌, ◌≡◌, Bool, true, length, refl, sym, ◌∙◌, ap, subst, arith}
use Rattle.std.specs.Prelude.{slice_index}
use Rattle.std.proofs.lemmas.List.{length-map, get_or-map}
use Rattle.vx_tree.specs.Meaning.{row_at}
use Rattle.vx_tree.specs.Tree.{Tree, bools, primitive, constant, dictionary, fixed_list, list_view, structure, view_array}
use Rattle.vx_tree.specs.Layouts.{is_dictionary, values_in}
use Rattle.vx_tree.specs.Shapes.{State, taken_state, tree_state, nulled_shape, taken_shape, Shape, bool_shape, primitive_shape, constant_shape, dictionary_shape, fixed_list_shape, list_view_shape, struct_shape, view_shape, sliced_shape, selected_shape, shape_of}
use Rattle.vx_tree.specs.Composed.{SlicesCompose, SelectionsCompose, KeepsValues}
use Rattle.vx_tree.proofs.Needs.{needs_of_needs}

sliced_twice : (x : Shape) → sliced_shape (sliced_shape x) ≡ sliced_shape x
sliced_twice (bool_shape s) = refl
sliced_twice (primitive_shape s) = refl
sliced_twice (constant_shape k r) = refl
sliced_twice (dictionary_shape v s f) = refl
sliced_twice (fixed_list_shape s) = refl
sliced_twice (list_view_shape e o z s f) = refl
sliced_twice (struct_shape s) = refl
sliced_twice (view_shape bs s) = refl

selected_twice : (x : Shape) → selected_shape (selected_shape x) ≡ selected_shape x
selected_twice (bool_shape s) = refl
selected_twice (primitive_shape s) = refl
selected_twice (constant_shape k r) = refl
selected_twice (dictionary_shape v s f) = refl
selected_twice (fixed_list_shape s) = refl
selected_twice (list_view_shape e o z s f) = refl
selected_twice (struct_shape s) = refl
selected_twice (view_shape bs s) = refl

pub slices_compose : SlicesCompose
slices_compose t r s start n from m h k l =
    record {
      len = k.len;
      kind = k.kind ∙ h.kind;
      shape = k.shape ∙ ap sliced_shape h.shape ∙ sliced_twice (shape_of t);
      plain = λ p. k.plain (h.plain p);
      needs = needs_of_needs t r s h.needs k.needs;
      rows = λ i small.
          let place : start + (from + i) ≡ start + from + i = omega arith in
          k.rows i small ∙ h.rows (from + i) (omega arith) ∙ ap (row_at t) place;
    }

pub selections_compose : SelectionsCompose
selections_compose t r s ps qs h k below =
    record {
      len = k.len ∙ sym (length-map qs (slice_index ps));
      kind = k.kind ∙ h.kind;
      shape = k.shape ∙ ap selected_shape h.shape ∙ selected_twice (shape_of t);
      plain = λ p. k.plain (h.plain p);
      needs = needs_of_needs t r s h.needs k.needs;
      rows = λ i small.
          let inside : i < length qs = rw (length-map qs (slice_index ps)) at small in
          k.rows i inside ∙ h.rows (slice_index qs i) (below i 0 inside) ∙ ap (row_at t) (sym (get_or-map (slice_index ps) qs i 0 0 inside));
    }

-- ---- the values of a dictionary

-- a dictionary of these values
abbrev HasValues : Tree → Shape → Type 0
HasValues v (dictionary_shape w s f) = w ≡ v
HasValues v _ = ⊥

values_told : (v r : Tree) → HasValues v (shape_of r) → (is_dictionary r ≡ true) × (values_in r ≡ v)
values_told v (dictionary c w f) h = (refl, h)
values_told v (bools b bits u) h = absurd h
values_told v (primitive p bs u) h = absurd h
values_told v (constant k r n) h = absurd h
values_told v (fixed_list e k u n) h = absurd h
values_told v (list_view e o s u f) h = absurd h
values_told v (structure ns ts u n) h = absurd h
values_told v (view_array vs bs k u) h = absurd h

kept : (becomes : Shape → Shape) → ((v : Tree) (s : State) (f : Bool) → HasValues v (becomes (dictionary_shape v s f))) → KeepsValues becomes
kept becomes h (dictionary c v f) r is same = values_told v r (subst (HasValues v) (sym same) (h v (taken_state (tree_state v) (tree_state c)) f))
kept becomes h (bools b bits u) r is same = absurd (cc)
kept becomes h (primitive p bs u) r is same = absurd (cc)
kept becomes h (constant k x n) r is same = absurd (cc)
kept becomes h (fixed_list e k u n) r is same = absurd (cc)
kept becomes h (list_view e o s u f) r is same = absurd (cc)
kept becomes h (structure ns ts u n) r is same = absurd (cc)
kept becomes h (view_array vs bs k u) r is same = absurd (cc)

pub sliced_keeps : KeepsValues sliced_shape
sliced_keeps = kept sliced_shape (λ v s f. refl)

pub selected_keeps : KeepsValues selected_shape
selected_keeps = kept selected_shape (λ v s f. refl)

pub nulled_keeps : (index : State) → KeepsValues (λ x. nulled_shape x index)
nulled_keeps index = kept (λ x. nulled_shape x index) (λ v s f. refl)

pub taken_keeps : (index : State) → KeepsValues (λ x. taken_shape x index)
taken_keeps index = kept (λ x. taken_shape x index) (λ v s f. refl)
