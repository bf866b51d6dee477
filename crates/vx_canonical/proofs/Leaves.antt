-- Booleans, numbers, texts and byte lists in plain layout.
use Rattle.std.proofs.Common.{◌≡◌, true, length, refl, sym, ◌∙◌, ap}
use Rattle.vx_base.specs.Kinds.{booleans, integers}
use Rattle.vx_tree.specs.Tree.{Tree, bools, primitive, constant, dictionary, fixed_list, list_view, structure, view_array, Valid}
use Rattle.vx_tree.specs.Layouts.{is_leaf}
use Rattle.vx_tree.specs.Meaning.{tree_len, is_valid_at, is_texts}
use Rattle.vx_tree.specs.Shapes.{Shape, view_shape, shape_of, selected_shape}
use Rattle.vx_tree.specs.Formed.{WellFormed, IsViewArray, value_kind}
use Rattle.vx_tree.specs.Extents.{Extent, leaf_extent, view_extent, extent_of}
use Rattle.vx_tree.specs.Slots.{validity_of, under_validity}
use Rattle.vx_canonical.specs.Canonical.{IsCanonical, IsCanonicalValid}
use Rattle.vx_canonical.proofs.CanonicalArrays.{same_nullable, valid_row}

pub leaf_fits : (t : Tree) (w : Valid) → is_leaf t ≡ true → WellFormed t → IsCanonicalValid (validity_of t) (tree_len t) w → WellFormed (under_validity t w)
leaf_fits (bools b bits v) w k f h = h.fits
leaf_fits (primitive t bs v) w k f h = (h.fits, f.1)
leaf_fits (constant q r n) w k f h = absurd (cc)
leaf_fits (dictionary c v b) w k f h = absurd (cc)
leaf_fits (fixed_list e q v n) w k f h = absurd (cc)
leaf_fits (list_view e o s v b) w k f h = absurd (cc)
leaf_fits (structure ns ts v n) w k f h = absurd (cc)
leaf_fits (view_array vs bs q v) w k f h =
    let views : IsViewArray vs bs q v = f.1 in (
      h.fits,
      record {
        kind = views.kind ∙ ap (value_kind (is_texts q)) (sym (same_nullable v w h.state));
        sound = λ i l e. views.sound i l (sym (h.bits i l) ∙ e);
        zeroes = λ i l e. views.zeroes i l (sym (h.bits i l) ∙ e);
      },
    )

canonical : (t : Tree) (w : Valid) → is_leaf t ≡ true → IsCanonicalValid (validity_of t) (tree_len t) w → IsCanonical t (under_validity t w)
canonical (bools b bits v) w k h =
    record {
      same = record {
        len = refl;
        kind = ap booleans (same_nullable v w h.state);
        rows = λ i l. valid_row (is_valid_at w i) (is_valid_at v i) _ _ (h.bits i l) refl;
      };
      plain = h.plain;
      state = h.state;
      extent = refl;
      flag = refl;
      kept = tt;
    }
canonical (primitive t bs v) w k h =
    record {
      same = record {
        len = refl;
        kind = ap (integers t) (same_nullable v w h.state);
        rows = λ i l. valid_row (is_valid_at w i) (is_valid_at v i) _ _ (h.bits i l) refl;
      };
      plain = h.plain;
      state = h.state;
      extent = refl;
      flag = refl;
      kept = tt;
    }
canonical (constant q r n) w k h = absurd (cc)
canonical (dictionary c v b) w k h = absurd (cc)
canonical (fixed_list e q v n) w k h = absurd (cc)
canonical (list_view e o s v b) w k h = absurd (cc)
canonical (structure ns ts v n) w k h = absurd (cc)
canonical (view_array vs bs q v) w k h =
    record {
      same = record {
        len = refl;
        kind = refl;
        rows = λ i l. valid_row (is_valid_at w i) (is_valid_at v i) _ _ (h.bits i l) refl;
      };
      plain = h.plain;
      state = h.state;
      extent = refl;
      flag = refl;
      kept = (refl, refl);
    }

pub leaf_canonical : (t r : Tree) (w : Valid) → is_leaf t ≡ true → IsCanonicalValid (validity_of t) (tree_len t) w → r ≡ under_validity t w → IsCanonical t r
leaf_canonical t r w k h e = rw e (canonical t w k h)

-- ---- leaves of which rows are picked: the layout and the buffers stay

shape_extent : Shape → Extent
shape_extent (view_shape bs s) = view_extent (length bs)
shape_extent _ = leaf_extent

pub leaf_picked : (t s : Tree) → is_leaf t ≡ true → shape_of s ≡ selected_shape (shape_of t) → (is_leaf s ≡ true) × (extent_of s ≡ extent_of t)
unfolding shape_extent
leaf_picked (bools a b v) (bools d c w) k e = (refl, refl)
leaf_picked (bools a b v) _ k e = absurd (cc)
leaf_picked (primitive p b v) (primitive q c w) k e = (refl, refl)
leaf_picked (primitive p b v) _ k e = absurd (cc)
leaf_picked (view_array vs bs q v) (view_array ws cs l w) k e = (refl, ap shape_extent e)
leaf_picked (view_array vs bs q v) _ k e = absurd (cc)
leaf_picked _ s k e = absurd (cc)

pub ruleset leaves = (leaf_fits, leaf_canonical)
