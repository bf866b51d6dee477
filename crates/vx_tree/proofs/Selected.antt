-- What selecting gives, layout by layout.
use Rattle.std.proofs.Common.{ℕ, ◌≡◌, ◌∙◌, Bool, true, false, List, None, length, map, refl, ap}
use Rattle.std.specs.Prelude.{ℤ, pos, slice_index}
use Rattle.std.proofs.lemmas.List.{get_or-map, length-map}
use Rattle.vx_base.specs.Bits.{bool_at}
use Rattle.vx_base.specs.declared.ptypes.PType.{PType}
use Rattle.vx_base.specs.Integers.{numbers, number_nth}
use Rattle.vx_base.specs.Kinds.{booleans, integers, lists, is_plain_integers}
use Rattle.vx_tree.specs.Tree.{Tree, bools, primitive, constant, dictionary, fixed_list, list_view, structure, view_array, Valid, non_nullable, all_valid, all_invalid, by_array}
use Rattle.vx_tree.specs.Meaning.{row_at, kind_of, is_valid_at, nullable}
use Rattle.vx_tree.specs.Shapes.{bool_shape, primitive_shape, list_view_shape, state_of, is_nullable_state}
use Rattle.vx_tree.proofs.Needs.{lists_need}
use Rattle.vx_tree.specs.Formed.{ValidFits, IsCounts}
use Rattle.vx_tree.specs.Faults.{take_overflow}
use Rattle.vx_tree.specs.Operations.{IsSelected, IsValidSelected, ValidHasAll, AreBelow}

-- ---- states

pub nullable-state : (v : Valid) → nullable v ≡ is_nullable_state (state_of v)
nullable-state non_nullable = refl
nullable-state all_valid = refl
nullable-state all_invalid = refl
nullable-state (by_array t) = refl

-- ---- what is asked

-- a validity that fits can be read at positions below its length
pub ValidHasAll-from_fits : (v : Valid) (n : ℕ) (ps : List ℕ) → ValidFits v n → AreBelow n ps → ValidHasAll v ps
ValidHasAll-from_fits non_nullable n ps h w = tt
ValidHasAll-from_fits all_valid n ps h w = tt
ValidHasAll-from_fits all_invalid n ps h w = tt
ValidHasAll-from_fits (by_array t) n ps h w = (h.kind, rw h.len w)

-- integers and booleans are counted row by row
pub integers_can_be_selected : (t : Tree) (n : ℕ) → is_plain_integers (kind_of t) ≡ true → take_overflow t n ≡ None
integers_can_be_selected (bools b bits v) n e = refl
integers_can_be_selected (primitive t bs v) n e = refl
integers_can_be_selected (constant k r m) n e = refl
integers_can_be_selected (dictionary c v f) n e = refl
integers_can_be_selected (fixed_list x k v m) n e = cc
integers_can_be_selected (list_view x o s v f) n e = refl
integers_can_be_selected (structure ns ts v m) n e = cc
integers_can_be_selected (view_array vs bs u v) n e = refl

pub counts_can_be_selected : (t : Tree) (n : ℕ) → IsCounts t → take_overflow t n ≡ None
counts_can_be_selected t n h = integers_can_be_selected t n h.kind

pub booleans_can_be_selected : (t : Tree) (n : ℕ) (b : Bool) → kind_of t ≡ booleans b → take_overflow t n ≡ None
booleans_can_be_selected (bools a bits v) n b e = refl
booleans_can_be_selected (primitive t bs v) n b e = refl
booleans_can_be_selected (constant k r m) n b e = refl
booleans_can_be_selected (dictionary c v f) n b e = refl
booleans_can_be_selected (fixed_list x k v m) n b e = cc
booleans_can_be_selected (list_view x o s v f) n b e = refl
booleans_can_be_selected (structure ns ts v m) n b e = cc
booleans_can_be_selected (view_array vs bs u v) n b e = refl

-- ---- rows, at one position

pub number_row : (t : PType) (bs new : List ℕ) (v w : Valid) (i k : ℕ) → is_valid_at w i ≡ is_valid_at v k → number_nth (numbers t new) i ≡ number_nth (numbers t bs) k
    → row_at (primitive t new w) i ≡ row_at (primitive t bs v) k
number_row t bs new v w i k a b = rw (a, b) refl

list_row : (e o s o2 s2 : Tree) (v w : Valid) (f f2 : Bool) (i k : ℕ) → is_valid_at w i ≡ is_valid_at v k → row_at o2 i ≡ row_at o k → row_at s2 i ≡ row_at s k
    → row_at (list_view e o2 s2 w f2) i ≡ row_at (list_view e o s v f) k
list_row e o s o2 s2 v w f f2 i k a b c = rw (a, b, c) refl

pub bool_row : (a b : ℕ) (bits new : List Bool) (v w : Valid) (i k : ℕ) → is_valid_at w i ≡ is_valid_at v k → bool_at new i ≡ bool_at bits k → row_at (bools b new w) i ≡ row_at (bools a bits v) k
bool_row a b bits new v w i k x y = rw (x, y) refl

-- ---- layouts

pub bools_selected : (t u : Tree) (a b : ℕ) (bits new : List Bool) (v w : Valid) (ps : List ℕ) → t ≡ bools a bits v → u ≡ bools b new w → new ≡ map (bool_at bits) ps → IsValidSelected v ps w → IsSelected t ps u
bools_selected t u a b bits new v w ps x y made h =
    rw (x, y) (record {
      len = ap length made ∙ length-map ps (bool_at bits);
      kind = ap booleans h.kind;
      shape = ap bool_shape h.state;
      plain = h.plain;
      needs = record { extent = refl; take = λ n. refl; canonical = λ n. refl };
      rows = λ i l. bool_row a b bits new v w i (slice_index ps i) (h.bits i l) (ap (λ (xs : List Bool). bool_at xs i) made ∙ get_or-map (bool_at bits) ps i 0 false l);
    })

pub numbers_selected : (t u : Tree) (p : PType) (bs new : List ℕ) (v w : Valid) (ps : List ℕ) → t ≡ primitive p bs v → u ≡ primitive p new w → numbers p new ≡ map (number_nth (numbers p bs)) ps → IsValidSelected v ps w → IsSelected t ps u
numbers_selected t u p bs new v w ps x y made h =
    rw (x, y) (record {
      len = ap length made ∙ length-map ps (number_nth (numbers p bs));
      kind = ap (integers p) h.kind;
      shape = ap primitive_shape h.state;
      plain = h.plain;
      needs = record { extent = refl; take = λ n. refl; canonical = λ n. refl };
      rows = λ i l. number_row p bs new v w i (slice_index ps i) (h.bits i l) (ap (λ (zs : List ℤ). number_nth zs i) made ∙ get_or-map (number_nth (numbers p bs)) ps i 0 (pos 0) l);
    })

pub lists_selected : (t u e o s o2 s2 : Tree) (v w : Valid) (f : Bool) (ps : List ℕ) → t ≡ list_view e o s v f → u ≡ list_view e o2 s2 w false
    → IsSelected o ps o2 → IsSelected s ps s2 → IsValidSelected v ps w → IsSelected t ps u
lists_selected t u e o s o2 s2 v w f ps a b x y h =
    rw (a, b) (record {
      len = x.len;
      kind = ap (lists (kind_of e)) h.kind;
      shape = λ i. list_view_shape e (x.kind i) (y.kind i) (h.state i) false;
      plain = λ p. (p.0, x.plain p.1, y.plain p.2, h.plain p.3);
      needs = lists_need e o s o2 s2 v w f false x.needs y.needs;
      rows = λ i l. list_row e o s o2 s2 v w f false i (slice_index ps i) (h.bits i l) (x.rows i l) (y.rows i l);
    })
