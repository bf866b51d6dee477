-- The same parts under another validity.
use Rattle.std.proofs.Common.{◌≡◌, true, refl, ap}
use Rattle.vx_base.specs.Kinds.{booleans, integers, lists, fixed_lists, records}
use Rattle.vx_tree.specs.Tree.{Tree, bools, primitive, constant, dictionary, fixed_list, list_view, structure, view_array, Valid}
use Rattle.vx_tree.specs.Meaning.{tree_len, kind_of, kinds_of, is_valid_at}
use Rattle.vx_tree.specs.Shapes.{bool_shape, primitive_shape, fixed_list_shape, list_view_shape, struct_shape}
use Rattle.vx_tree.specs.Formed.{WellFormed}
use Rattle.vx_tree.specs.Slots.{validity_of, under_validity, keeps_parts}
use Rattle.vx_tree.specs.Operations.{IsNulled, IsValidNulled}
use Rattle.vx_tree.proofs.Nulled.{nullable_nulled, two}

-- ---- rows that become null

pub parts_fit : (t : Tree) (u w : Valid) → keeps_parts t ≡ true → WellFormed t → IsValidNulled (validity_of t) u (tree_len t) w → WellFormed (under_validity t w)
parts_fit (bools b bits v) u w k f h = h.fits
parts_fit (primitive t bs v) u w k f h = (h.fits, f.1)
parts_fit (constant q r n) u w k f h = absurd (cc)
parts_fit (dictionary c v b) u w k f h = absurd (cc)
parts_fit (fixed_list e q v n) u w k f h = (h.fits, f.1)
parts_fit (list_view e o s v b) u w k f h = (h.fits, f.1)
parts_fit (structure ns ts v n) u w k f h = (h.fits, f.1)
parts_fit (view_array vs bs q v) u w k f h = absurd (cc)

nulled : (t : Tree) (u w : Valid) → keeps_parts t ≡ true → IsValidNulled (validity_of t) u (tree_len t) w → IsNulled t u (under_validity t w)
nulled (bools b bits v) u w k h =
    record {
      len = refl;
      kind = ap booleans (nullable_nulled v u w h.state);
      shape = ap bool_shape h.state;
      plain = h.plain;
      extent = refl;
      needs = λ p. record { extent = refl; take = λ n. refl; canonical = λ n. refl };
      rows = λ i l. two (is_valid_at w i) (is_valid_at v i) (is_valid_at u i) _ (h.bits i l);
    }
nulled (primitive t bs v) u w k h =
    record {
      len = refl;
      kind = ap (integers t) (nullable_nulled v u w h.state);
      shape = ap primitive_shape h.state;
      plain = h.plain;
      extent = refl;
      needs = λ p. record { extent = refl; take = λ n. refl; canonical = λ n. refl };
      rows = λ i l. two (is_valid_at w i) (is_valid_at v i) (is_valid_at u i) _ (h.bits i l);
    }
nulled (constant q r n) u w k h = absurd (cc)
nulled (dictionary c v b) u w k h = absurd (cc)
nulled (fixed_list e q v n) u w k h =
    record {
      len = refl;
      kind = ap (fixed_lists (kind_of e) q) (nullable_nulled v u w h.state);
      shape = ap fixed_list_shape h.state;
      plain = λ p q. (p.0, h.plain p.1 q);
      extent = refl;
      needs = λ p. record { extent = refl; take = λ n. refl; canonical = λ n. refl };
      rows = λ i l. two (is_valid_at w i) (is_valid_at v i) (is_valid_at u i) _ (h.bits i l);
    }
nulled (list_view e o s v b) u w k h =
    record {
      len = refl;
      kind = ap (lists (kind_of e)) (nullable_nulled v u w h.state);
      shape = ap (λ st. list_view_shape e (kind_of o) (kind_of s) st b) h.state;
      plain = λ p q. (p.0, p.1, p.2, h.plain p.3 q);
      extent = refl;
      needs = λ p. record { extent = refl; take = λ n. refl; canonical = λ n. refl };
      rows = λ i l. two (is_valid_at w i) (is_valid_at v i) (is_valid_at u i) _ (h.bits i l);
    }
nulled (structure ns ts v n) u w k h =
    record {
      len = refl;
      kind = ap (records ns (kinds_of ts)) (nullable_nulled v u w h.state);
      shape = ap struct_shape h.state;
      plain = λ p q. (p.0, h.plain p.1 q);
      extent = refl;
      needs = λ p. record { extent = refl; take = λ n. refl; canonical = λ n. refl };
      rows = λ i l. two (is_valid_at w i) (is_valid_at v i) (is_valid_at u i) _ (h.bits i l);
    }
nulled (view_array vs bs q v) u w k h = absurd (cc)

pub parts_nulled : (t r : Tree) (u w : Valid) → keeps_parts t ≡ true → IsValidNulled (validity_of t) u (tree_len t) w → r ≡ under_validity t w → IsNulled t u r
parts_nulled t r u w k h e = rw e (nulled t u w k h)

pub ruleset under_nulls = (parts_fit, parts_nulled)
