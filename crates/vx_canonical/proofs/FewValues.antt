-- Values that are made plain before they are picked.
use Rattle.std.proofs.Common.{ℕ, ◌≡◌, true, List, refl, ◌∙◌}
use Rattle.std.specs.Prelude.{slice_index}
use Rattle.vx_tree.specs.Tree.{Tree, bools, primitive, constant, dictionary, fixed_list, list_view, structure, view_array}
use Rattle.vx_tree.specs.Meaning.{tree_len, kind_of}
use Rattle.vx_tree.specs.Layouts.{is_leaf}
use Rattle.vx_tree.specs.Plain.{IsPlain}
use Rattle.vx_tree.specs.Operations.{AreBelow}
use Rattle.vx_canonical.specs.Canonical.{IsCanonical, IsCanonicalAt, IsCanonicalWithin, IsPickedWithin}
use Rattle.vx_canonical.specs.LeafKinds.{is_leaf_kind}

-- the rows
pub plain_picked : (v w r : Tree) (ps : List ℕ) → AreBelow (tree_len v) ps → IsCanonical v w → IsCanonicalAt w ps r → IsCanonicalAt v ps r
plain_picked v w r ps below x h =
    record {
      len = h.len;
      kind = h.kind ∙ x.same.kind;
      plain = h.plain;
      state = h.state ∙ x.state;
      extent = h.extent ∙ x.extent;
      flag = h.flag;
      rows = λ i l. h.rows i l ∙ x.same.rows (slice_index ps i) (below i 0 l);
    }

-- what is plain and of a kind that has no rows in it
pub plain_leaf : (t : Tree) → IsPlain t → is_leaf_kind (kind_of t) ≡ true → is_leaf t ≡ true
plain_leaf (bools b bits v) h e = refl
plain_leaf (primitive p bs v) h e = refl
plain_leaf (constant k x n) h e = absurd h
plain_leaf (dictionary c v f) h e = absurd h
plain_leaf (fixed_list d k v n) h e = absurd (cc)
plain_leaf (list_view d o s v f) h e = absurd (cc)
plain_leaf (structure ns ts v n) h e = absurd (cc)
plain_leaf (view_array vs bs k v) h e = refl

-- picked of what was picked
leaf_picked_twice : (t s r : Tree) → is_leaf s ≡ true → IsPickedWithin t s → IsPickedWithin s r → IsPickedWithin t r
leaf_picked_twice (bools b bits v) s r e h g = tt
leaf_picked_twice (primitive p bs v) s r e h g = tt
leaf_picked_twice (constant k x n) s r e h g = tt
leaf_picked_twice (dictionary c v f) s r e h g = λ some. leaf_picked_twice v s r e (h some) g
leaf_picked_twice (fixed_list d k v n) (fixed_list i j w m) r e h g = absurd (cc)
leaf_picked_twice (fixed_list d k v n) s r e h g = absurd h
leaf_picked_twice (list_view d o z v f) (list_view i p q w l) r e h g = absurd (cc)
leaf_picked_twice (list_view d o z v f) s r e h g = absurd h
leaf_picked_twice (structure ns ts v n) (structure ms us w m) r e h g = absurd (cc)
leaf_picked_twice (structure ns ts v n) s r e h g = absurd h
leaf_picked_twice (view_array vs bs q v) (view_array ws cs l w) (view_array xs ds m x) e h g = g ∙ h
leaf_picked_twice (view_array vs bs q v) (view_array ws cs l w) _ e h g = absurd g
leaf_picked_twice (view_array vs bs q v) s r e h g = absurd h

-- and the parts of what was made plain
pub plain_leaf_picked : (t s r : Tree) → is_leaf s ≡ true → IsCanonical t s → IsCanonicalWithin t s → IsPickedWithin s r → IsPickedWithin t r
plain_leaf_picked (bools b bits v) s r e x h g = tt
plain_leaf_picked (primitive p bs v) s r e x h g = tt
plain_leaf_picked (constant k y n) s r e x h g = tt
plain_leaf_picked (dictionary c v f) s r e x h g = λ some. leaf_picked_twice v s r e (h some) g
plain_leaf_picked (fixed_list d k v n) (fixed_list i j w m) r e x h g = absurd (cc)
plain_leaf_picked (fixed_list d k v n) s r e x h g = absurd h
plain_leaf_picked (list_view d o z v f) (list_view i p q w l) r e x h g = absurd (cc)
plain_leaf_picked (list_view d o z v f) s r e x h g = absurd h
plain_leaf_picked (structure ns ts v n) (structure ms us w m) r e x h g = absurd (cc)
plain_leaf_picked (structure ns ts v n) s r e x h g = absurd h
plain_leaf_picked (view_array vs bs q v) (view_array ws cs l w) (view_array xs ds m y) e x h g = g ∙ x.kept.1
plain_leaf_picked (view_array vs bs q v) (view_array ws cs l w) _ e x h g = absurd g
plain_leaf_picked (view_array vs bs q v) s r e x h g = absurd x.kept
