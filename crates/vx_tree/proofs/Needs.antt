-- What arrays need, by what their parts need.
use Rattle.std.proofs.Common.{ℕ, ◌*◌, ◌^◌, ◌≡◌, Bool, true, false, List, [], ◌∷◌, Some, refl, sym, ◌∙◌, ap}
use Rattle.std.specs.Prelude.{nat_lt, if◌then◌else◌}
use Rattle.std.specs.List.{AllZip}
use Rattle.vx_base.specs.Kinds.{Kind}
use Rattle.vx_base.specs.Refusals.{overflow, or_else}
use Rattle.vx_tree.specs.Tree.{Tree, bools, primitive, constant, dictionary, fixed_list, list_view, structure, view_array, Trees, Valid}
use Rattle.vx_tree.specs.Meaning.{trees_from}
use Rattle.vx_tree.specs.Layouts.{is_constant}
use Rattle.vx_tree.specs.Shapes.{Shape, bool_shape, primitive_shape, constant_shape, dictionary_shape, fixed_list_shape, list_view_shape, struct_shape, view_shape, shape_of, selected_shape}
use Rattle.vx_tree.specs.Extents.{extent, fixed_list_extent, struct_extent}
use Rattle.vx_tree.specs.CanonicalFaults.{canonical_fault}
use Rattle.vx_tree.specs.Needs.{HasNeedsOf, HaveNeedsOf}

pub needs_of_needs : (t r s : Tree) → HasNeedsOf t r → HasNeedsOf r s → HasNeedsOf t s
needs_of_needs t r s h k =
    record { extent = k.extent ∙ h.extent; take = λ n. k.take n ∙ h.take n; canonical = λ n. k.canonical n ∙ h.canonical n }

-- ---- layouts

pub dictionaries_need : (c d v : Tree) (f g : Bool) → HasNeedsOf (dictionary c v f) (dictionary d v g)
dictionaries_need c d v f g = record { extent = refl; take = λ n. refl; canonical = λ n. refl }

pub views_need : (vs ws bs : List (List ℕ)) (k l : Kind) (v w : Valid) → HasNeedsOf (view_array vs bs k v) (view_array ws bs l w)
views_need vs ws bs k l v w = record { extent = refl; take = λ n. refl; canonical = λ n. refl }

pub lists_need : (e o s o2 s2 : Tree) (v w : Valid) (f g : Bool) → HasNeedsOf o o2 → HasNeedsOf s s2 → HasNeedsOf (list_view e o s v f) (list_view e o2 s2 w g)
lists_need e o s o2 s2 v w f g x y =
    record {
      extent = refl;
      take = λ n. refl;
      canonical = λ n i. or_else (canonical_fault e) (or_else (x.canonical n i) (y.canonical n i));
    }

pub fixed_lists_need : (e r : Tree) (k m n : ℕ) (v w : Valid) → HasNeedsOf e r → HasNeedsOf (fixed_list e k v m) (fixed_list r k w n)
fixed_lists_need e r k m n v w h =
    record {
      extent = ap fixed_list_extent h.extent;
      take = λ j i. if nat_lt (j * k) (2 ^ 64) then h.take (j * k) i else Some overflow;
      canonical = λ j. h.canonical (j * k);
    }

pub records_need : (ns : List (List ℕ)) (ts us : Trees) (v w : Valid) (m n : ℕ) → HaveNeedsOf ts us → HasNeedsOf (structure ns ts v m) (structure ns us w n)
records_need ns ts us v w m n h = record { extent = ap struct_extent h.extents; take = h.take; canonical = h.canonical }

pub columns_need : (R : Tree → Tree → Type 0) → ((t u : Tree) → R t u → HasNeedsOf t u) → (ts us : List Tree) → AllZip R ts us → HaveNeedsOf (trees_from ts) (trees_from us)
columns_need R one [] [] h = record { extents = refl; take = λ n. refl; canonical = λ n. refl }
columns_need R one [] (u ∷ us) h = absurd h
columns_need R one (t ∷ ts) [] h = absurd h
columns_need R one (t ∷ ts) (u ∷ us) h =
    let here = one t u h.0 in
    let rest = columns_need R one ts us h.1 in
    record {
      extents = λ i. extent (here.extent i) (rest.extents i);
      take = λ n i. or_else (here.take n i) (rest.take n i);
      canonical = λ n i. or_else (here.canonical n i) (rest.canonical n i);
    }

-- ---- which are constant

constant_by : Shape → Bool
constant_by (constant_shape k r) = true
constant_by _ = false

constant_told : (t : Tree) → is_constant t ≡ constant_by (shape_of t)
unfolding constant_by
constant_told (bools b bits v) = refl
constant_told (primitive t bs v) = refl
constant_told (constant k r n) = refl
constant_told (dictionary c v f) = refl
constant_told (fixed_list e k v n) = refl
constant_told (list_view e o s v f) = refl
constant_told (structure ns ts v n) = refl
constant_told (view_array vs bs k v) = refl

constant_selected : (x : Shape) → constant_by (selected_shape x) ≡ constant_by x
unfolding constant_by
constant_selected (bool_shape s) = refl
constant_selected (primitive_shape s) = refl
constant_selected (constant_shape k r) = refl
constant_selected (dictionary_shape v s f) = refl
constant_selected (fixed_list_shape s) = refl
constant_selected (list_view_shape e o z s f) = refl
constant_selected (struct_shape s) = refl
constant_selected (view_shape bs s) = refl

pub same_constant : (t s : Tree) → shape_of s ≡ selected_shape (shape_of t) → is_constant s ≡ is_constant t
same_constant t s e = constant_told s ∙ ap constant_by e ∙ constant_selected (shape_of t) ∙ sym (constant_told t)
