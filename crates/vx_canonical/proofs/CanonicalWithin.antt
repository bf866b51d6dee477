-- The plain layout at every depth.
use Rattle.std.proofs.Common.{ℕ, ◌*◌, ◌≡◌, Bool, true, false, List, [], ◌∷◌, refl, sym, ◌∙◌, ap, subst, arith}
use Rattle.std.specs.Prelude.{Result, Ok, Err, IfOk, if◌then◌else◌}
use Rattle.std.specs.List.{AllZip}
use Rattle.std.specs.Global.{Vec}
use Rattle.vx_base.specs.declared.errors.VortexError.{VortexError}
use Rattle.vx_base.specs.Kinds.{Kind, fixed_lists, records, is_nullable_kind}
use Rattle.vx_base.specs.Rows.{Rows, Fields, null, items, record_of}
use Rattle.vx_tree.specs.Tree.{Tree, bools, primitive, constant, dictionary, fixed_list, list_view, structure, view_array, Trees, no_trees, tree, Valid}
use Rattle.vx_tree.specs.Meaning.{kind_of, kinds_of, row_at, fields_at, rows_range, is_valid_at, trees_from}
use Rattle.vx_tree.specs.Shapes.{State, never_null, none_null, every_null, told, Shape, bool_shape, primitive_shape, constant_shape, dictionary_shape, fixed_list_shape, list_view_shape, struct_shape, view_shape, state_of, shape_of, selected_shape, nulled_shape}
use Rattle.vx_tree.specs.Layouts.{is_leaf, is_constant}
use Rattle.vx_tree.specs.Formed.{WellFormed, ValidFits}
use Rattle.vx_tree.specs.Fitting.{AllFormed}
use Rattle.vx_tree.specs.declared.array.Layout.{Layout}
use Rattle.vx_tree.specs.declared.array.Layout.TheVariants as layout
use Rattle.vx_tree.specs.declared.array.Validity.{Validity}
use Rattle.vx_tree.specs.Parts.{tree_of}
use Rattle.vx_tree.specs.Plain.{IsPlain, ArePlain}
use Rattle.vx_tree.specs.Slots.{under_validity}
use Rattle.vx_tree.specs.Operations.{IsNulled}
use Rattle.vx_canonical.specs.Canonical.{IsCanonical, IsCanonicalAt, IsPlainLike, IsCanonicalWithin, AreCanonicalWithin, IsPickedWithin, ArePickedWithin, HasPartsOf}

-- ---- arrays with no parts

pub leaf_within : (t r : Tree) → is_leaf t ≡ true → IsCanonicalWithin t r
leaf_within (bools b bits v) r e = tt
leaf_within (primitive p bs v) r e = tt
leaf_within (constant k x n) r e = tt
leaf_within (dictionary c v f) r e = absurd (cc)
leaf_within (fixed_list d k v n) r e = absurd (cc)
leaf_within (list_view d o s v f) r e = absurd (cc)
leaf_within (structure ns ts v n) r e = absurd (cc)
leaf_within (view_array vs bs k v) r e = tt

pub leaf_made_within : (t : Tree) (made : Result Tree VortexError) → is_leaf t ≡ true → IfOk made (IsCanonicalWithin t)
leaf_made_within t (Ok r) e = leaf_within t r e
leaf_made_within t (Err x) e = tt

pub constant_within : (t : Tree) (made : Result Tree VortexError) → is_constant t ≡ true → IfOk made (IsCanonicalWithin t)
constant_within (constant k x n) (Ok r) e = tt
constant_within (constant k x n) (Err x2) e = tt
constant_within _ made e = absurd (cc)

pub constant_picked : (t : Tree) (made : Result Tree VortexError) → is_constant t ≡ true → IfOk made (IsPickedWithin t)
constant_picked (constant k x n) (Ok r) e = tt
constant_picked (constant k x n) (Err x2) e = tt
constant_picked _ made e = absurd (cc)

pub constant_row_within : (t r : Tree) → is_constant t ≡ true → IsCanonicalWithin t r
constant_row_within (constant k x n) r e = tt
constant_row_within _ r e = absurd (cc)

pub constant_row_picked : (t r : Tree) → is_constant t ≡ true → IsPickedWithin t r
constant_row_picked (constant k x n) r e = tt
constant_row_picked _ r e = absurd (cc)

-- the buffers that a shape tells
abbrev shape_buffers : Shape → List (List ℕ)
shape_buffers (view_shape bs s) = bs
shape_buffers _ = []

pub leaf_picked_within : (t s r : Tree) → is_leaf t ≡ true → shape_of s ≡ selected_shape (shape_of t) → IsCanonical s r → IsPickedWithin t r
leaf_picked_within (bools b bits v) s r k e h = tt
leaf_picked_within (primitive p bs v) s r k e h = tt
leaf_picked_within (constant q x n) s r k e h = tt
leaf_picked_within (dictionary c v f) s r k e h = absurd (cc)
leaf_picked_within (fixed_list d q v n) s r k e h = absurd (cc)
leaf_picked_within (list_view d o z v f) s r k e h = absurd (cc)
leaf_picked_within (structure ns ts v n) s r k e h = absurd (cc)
leaf_picked_within (view_array vs bs q v) (view_array ws cs l w) (view_array xs ds m x) k e h = h.kept.1 ∙ ap shape_buffers e
leaf_picked_within (view_array vs bs q v) (view_array ws cs l w) _ k e h = absurd h.kept
leaf_picked_within (view_array vs bs q v) _ r k e h = absurd (cc)

-- ---- by the parts

pub fixed_lists_within : (t r e d : Tree) (k n : ℕ) (v w : Valid) → t ≡ fixed_list e k v n → r ≡ fixed_list d k w n → IsCanonical e d → IsCanonicalWithin e d → IsCanonicalWithin t r
fixed_lists_within t r e d k n v w a b x y = rw (a, b) (x, y)

pub lists_within : (t r e o s d p q : Tree) (v w : Valid) (f : Bool) → t ≡ list_view e o s v f → r ≡ list_view d p q w f → IsCanonical e d → IsCanonicalWithin e d → IsCanonical o p → IsCanonical s q → IsCanonicalWithin t r
lists_within t r e o s d p q v w f a b x y z g = rw (a, b) (x, y, z, g)

pub records_within : (t r : Tree) (ns ms : List (List ℕ)) (ts us : Trees) (v w : Valid) (n m : ℕ) → t ≡ structure ns ts v n → r ≡ structure ms us w m → AreCanonicalWithin ts us → IsCanonicalWithin t r
records_within t r ns ms ts us v w n m a b x = rw (a, b) x

pub dictionary_within : (t r c v : Tree) (f : Bool) → t ≡ dictionary c v f → IsCanonicalWithin (dictionary c v false) r → IsCanonicalWithin t r
dictionary_within t r c v f a x = rw a x

pub AreCanonicalWithin-from_each : (ts us : List Tree) → AllZip IsCanonical ts us → AllZip IsCanonicalWithin ts us → AreCanonicalWithin (trees_from ts) (trees_from us)
AreCanonicalWithin-from_each [] [] h g = tt
AreCanonicalWithin-from_each [] (u ∷ us) h g = absurd h
AreCanonicalWithin-from_each (t ∷ ts) [] h g = absurd h
AreCanonicalWithin-from_each (t ∷ ts) (u ∷ us) h g = (h.0, g.0, AreCanonicalWithin-from_each ts us h.1 g.1)

-- ---- of rows that are picked

plain_like : (t r : Tree) (ps : List ℕ) → IsCanonicalAt t ps r → IsPlainLike t r
plain_like t r ps h = record { kind = h.kind; plain = h.plain; state = h.state; extent = h.extent; flag = h.flag }

pub fixed_lists_picked : (t r e d : Tree) (k n m : ℕ) (v w : Valid) (qs : List ℕ) → t ≡ fixed_list e k v n → r ≡ fixed_list d k w m → IsCanonicalAt e qs d → IsPickedWithin e d → IsPickedWithin t r
fixed_lists_picked t r e d k n m v w qs a b x y = rw (a, b) (plain_like e d qs x, y)

pub lists_picked : (t r e o s d p q : Tree) (v w : Valid) (f g : Bool) → t ≡ list_view e o s v f → r ≡ list_view d p q w g → IsCanonical e d → IsCanonicalWithin e d → kind_of p ≡ kind_of o → kind_of q ≡ kind_of s → IsPickedWithin t r
lists_picked t r e o s d p q v w f g a b x y z h = rw (a, b) (x, y, z, h)

pub records_picked : (t r : Tree) (ns ms : List (List ℕ)) (ts us : Trees) (v w : Valid) (n m : ℕ) → t ≡ structure ns ts v n → r ≡ structure ms us w m → ArePickedWithin ts us → IsPickedWithin t r
records_picked t r ns ms ts us v w n m a b x = rw (a, b) x

pub dictionary_picked : (t r c d v : Tree) (f : Bool) → t ≡ dictionary c v f → IsCanonicalWithin (dictionary d v false) r → IsPickedWithin t r
dictionary_picked t r c d v f a x = rw a x

pub ArePickedWithin-from_each : (ps : List ℕ) (ts us : List Tree) → AllZip (λ t u. IsCanonicalAt t ps u) ts us → AllZip IsPickedWithin ts us → ArePickedWithin (trees_from ts) (trees_from us)
ArePickedWithin-from_each ps [] [] h g = tt
ArePickedWithin-from_each ps [] (u ∷ us) h g = absurd h
ArePickedWithin-from_each ps (t ∷ ts) [] h g = absurd h
ArePickedWithin-from_each ps (t ∷ ts) (u ∷ us) h g = (plain_like t u ps h.0, g.0, ArePickedWithin-from_each ps ts us h.1 g.1)

-- ---- rows that become null over the same parts

pub same_parts_picked : (v s r : Tree) → IsPickedWithin v s → HasPartsOf s r → IsPickedWithin v r
same_parts_picked (bools b bits v) s r h p = tt
same_parts_picked (primitive q bs v) s r h p = tt
same_parts_picked (constant k x n) s r h p = tt
same_parts_picked (dictionary c v f) s r h p = λ some. same_parts_picked v s r (h some) p
same_parts_picked (fixed_list e k v n) (fixed_list d j w m) (fixed_list g l x o) h p = subst (λ y. IsPlainLike e y × IsPickedWithin e y) (sym p) h
same_parts_picked (fixed_list e k v n) (fixed_list d j w m) _ h p = absurd p
same_parts_picked (fixed_list e k v n) _ r h p = absurd h
same_parts_picked (list_view e o s v f) (list_view d y z w g) (list_view i j k x l) h p =
    (subst (IsCanonical e) (sym p.0) h.0, subst (IsCanonicalWithin e) (sym p.0) h.1, p.1 ∙ h.2, p.2 ∙ h.3)
same_parts_picked (list_view e o s v f) (list_view d y z w g) _ h p = absurd p
same_parts_picked (list_view e o s v f) _ r h p = absurd h
same_parts_picked (structure ns ts v n) (structure ms us w m) (structure ls ws x o) h p = subst (ArePickedWithin ts) (sym p) h
same_parts_picked (structure ns ts v n) (structure ms us w m) _ h p = absurd p
same_parts_picked (structure ns ts v n) _ r h p = absurd h
same_parts_picked (view_array vs bs k v) (view_array ws cs j w) (view_array xs ds l x) h p = p ∙ h
same_parts_picked (view_array vs bs k v) (view_array ws cs j w) _ h p = absurd p
same_parts_picked (view_array vs bs k v) _ r h p = absurd h

-- the layouts that have parts, numbered
abbrev layout_of : Tree → ℕ
layout_of (fixed_list e k v n) = 1
layout_of (structure ns ts v n) = 2
layout_of (list_view e o s v f) = 3
layout_of (view_array vs bs k v) = 4
layout_of _ = 0

abbrev shape_layout : Shape → ℕ
shape_layout (fixed_list_shape s) = 1
shape_layout (struct_shape s) = 2
shape_layout (list_view_shape e o z s f) = 3
shape_layout (view_shape bs s) = 4
shape_layout _ = 0

layout_told : (t : Tree) → layout_of t ≡ shape_layout (shape_of t)
layout_told (bools b bits v) = refl
layout_told (primitive t bs v) = refl
layout_told (constant k r n) = refl
layout_told (dictionary c v f) = refl
layout_told (fixed_list e k v n) = refl
layout_told (list_view e o s v f) = refl
layout_told (structure ns ts v n) = refl
layout_told (view_array vs bs u v) = refl

constant_layout : (x : Shape) (s : State) → shape_layout (nulled_shape x s) ≡ shape_layout x
constant_layout (bool_shape s) index = refl
constant_layout (primitive_shape s) index = refl
constant_layout (constant_shape k r) never_null = refl
constant_layout (constant_shape k r) none_null = refl
constant_layout (constant_shape k r) every_null = refl
constant_layout (constant_shape k r) told = refl
constant_layout (dictionary_shape v s f) index = refl
constant_layout (fixed_list_shape s) index = refl
constant_layout (list_view_shape e o z s f) index = refl
constant_layout (struct_shape s) index = refl
constant_layout (view_shape bs s) index = refl

nulled_layout : (s q : Tree) (u : Valid) → IsNulled s u q → layout_of q ≡ layout_of s
nulled_layout s q u h = layout_told q ∙ ap shape_layout h.shape ∙ constant_layout (shape_of s) (state_of u) ∙ sym (layout_told s)

-- lists of one size

pub fixed_lists_nulled_fit : (s q e : Tree) (k n : ℕ) (u w : Valid) → q ≡ fixed_list e k w n → IsNulled s u q → AllFormed s → WellFormed (fixed_list e k w n) → WellFormed (under_validity s w)
fixed_lists_nulled_fit (fixed_list d j v m) q e k n u w a h f g =
    let long : n ≡ m = rw a at h.len in
    (subst (ValidFits w) long g.0, f.0.1)
fixed_lists_nulled_fit s q e k n u w a h f g = let x : 1 ≡ layout_of s = sym (ap layout_of a) ∙ nulled_layout s q u h in absurd (omega (arith, x))

lists_null : (a b c : Bool) (x y : Rows) → (if a then items x else null) ≡ (if b then (if c then items y else null) else null)
    → (if a then items y else null) ≡ (if b then (if c then items y else null) else null)
lists_null true true true x y h = refl
lists_null true true false x y h = absurd (cc)
lists_null true false c x y h = absurd (cc)
lists_null false true true x y h = absurd (cc)
lists_null false true false x y h = refl
lists_null false false c x y h = refl

pub fixed_lists_nulled : (s q r e : Tree) (k n : ℕ) (u w : Valid) → q ≡ fixed_list e k w n → r ≡ under_validity s w → IsNulled s u q → IsNulled s u r × HasPartsOf s r
fixed_lists_nulled (fixed_list d j v m) q r e k n u w a b h =
    let x : IsNulled (fixed_list d j v m) u (fixed_list e k w n) = rw a at h in
    rw b (
      record {
        len = refl;
        kind = ap (fixed_lists (kind_of d) j) (ap is_nullable_kind x.kind);
        shape = x.shape;
        plain = λ p y. (p.0, (x.plain p y).1);
        extent = refl;
        needs = λ p. record { extent = refl; take = λ i. refl; canonical = λ i. refl };
        rows = λ i l. lists_null (is_valid_at w i) (is_valid_at u i) (is_valid_at v i) (rows_range (row_at e) (i * k) k) (rows_range (row_at d) (i * j) j) (x.rows i l);
      },
      refl,
    )
fixed_lists_nulled s q r e k n u w a b h = let x : 1 ≡ layout_of s = sym (ap layout_of a) ∙ nulled_layout s q u h in absurd (omega (arith, x))

-- records

pub records_nulled_fit : (s q : Tree) (ns : List (List ℕ)) (ts : Trees) (n : ℕ) (u w : Valid) → q ≡ structure ns ts w n → IsNulled s u q → AllFormed s → WellFormed (structure ns ts w n) → WellFormed (under_validity s w)
records_nulled_fit (structure ms us v m) q ns ts n u w a h f g =
    let long : n ≡ m = rw a at h.len in
    (subst (ValidFits w) long g.0, f.0.1)
records_nulled_fit s q ns ts n u w a h f g = let x : 2 ≡ layout_of s = sym (ap layout_of a) ∙ nulled_layout s q u h in absurd (omega (arith, x))

records_null : (a b c : Bool) (x y : Fields) → (if a then record_of x else null) ≡ (if b then (if c then record_of y else null) else null)
    → (if a then record_of y else null) ≡ (if b then (if c then record_of y else null) else null)
records_null true true true x y h = refl
records_null true true false x y h = absurd (cc)
records_null true false c x y h = absurd (cc)
records_null false true true x y h = absurd (cc)
records_null false true false x y h = refl
records_null false false c x y h = refl

pub records_nulled : (s q r : Tree) (ns : List (List ℕ)) (ts : Trees) (n : ℕ) (u w : Valid) → q ≡ structure ns ts w n → r ≡ under_validity s w → IsNulled s u q → IsNulled s u r × HasPartsOf s r
records_nulled (structure ms us v m) q r ns ts n u w a b h =
    let x : IsNulled (structure ms us v m) u (structure ns ts w n) = rw a at h in
    rw b (
      record {
        len = refl;
        kind = ap (records ms (kinds_of us)) (ap is_nullable_kind x.kind);
        shape = x.shape;
        plain = λ p y. (p.0, (x.plain p y).1);
        extent = refl;
        needs = λ p. record { extent = refl; take = λ i. refl; canonical = λ i. refl };
        rows = λ i l. records_null (is_valid_at w i) (is_valid_at u i) (is_valid_at v i) (fields_at ts ns i) (fields_at us ms i) (x.rows i l);
      },
      refl,
    )
records_nulled s q r ns ts n u w a b h = let x : 2 ≡ layout_of s = sym (ap layout_of a) ∙ nulled_layout s q u h in absurd (omega (arith, x))

-- the elements that a shape tells
abbrev shape_elements : Tree → Shape → Tree
shape_elements d (list_view_shape e o z s f) = e
shape_elements d _ = d

-- the types of offsets and sizes that a shape tells
abbrev shape_offsets : Kind → Shape → Kind
shape_offsets k (list_view_shape e o z s f) = o
shape_offsets k _ = k

abbrev shape_sizes : Kind → Shape → Kind
shape_sizes k (list_view_shape e o z s f) = z
shape_sizes k _ = k

-- other layouts
pub parts_nulled : (s q : Tree) (u : Valid) → IsNulled s u q → (layout_of q ≡ 1 → ⊥) → (layout_of q ≡ 2 → ⊥) → HasPartsOf s q
parts_nulled (bools b bits v) q u h one two = tt
parts_nulled (primitive p bs v) q u h one two = tt
parts_nulled (constant k x n) q u h one two = tt
parts_nulled (dictionary c v f) q u h one two = tt
parts_nulled (fixed_list e k v n) q u h one two = absurd (one (nulled_layout (fixed_list e k v n) q u h))
parts_nulled (structure ns ts v n) q u h one two = absurd (two (nulled_layout (structure ns ts v n) q u h))
parts_nulled (list_view e o s v f) (list_view d p z w g) u h one two =
    (ap (shape_elements e) h.shape, ap (shape_offsets (kind_of o)) h.shape, ap (shape_sizes (kind_of s)) h.shape)
parts_nulled (list_view e o s v f) q u h one two = let x = nulled_layout (list_view e o s v f) q u h in absurd (omega (arith, x))
parts_nulled (view_array vs bs k v) (view_array ws cs j w) u h one two = ap shape_buffers h.shape
parts_nulled (view_array vs bs k v) q u h one two = let x = nulled_layout (view_array vs bs k v) q u h in absurd (omega (arith, x))

-- what no arm before took is neither lists of one size nor records
not_fixed : (l : Layout) → ((e : Tree) (k : ℕ) (v : Validity) (n : ℕ) → l ≡ layout.FixedSizeList e k v n → ⊥) → layout_of (tree_of l) ≡ 1 → ⊥
not_fixed (layout.FixedSizeList e k v n) other h = other e k v n refl
not_fixed _ other h = omega (arith, h)

not_records : (l : Layout) → ((ns : List (List ℕ)) (cs : Vec Tree) (v : Validity) (n : ℕ) → l ≡ layout.Struct ns cs v n → ⊥) → layout_of (tree_of l) ≡ 2 → ⊥
not_records (layout.Struct ns cs v n) other h = other ns cs v n refl
not_records _ other h = omega (arith, h)

pub others_nulled : (s q : Tree) (u : Valid) (l : Layout) → tree_of l ≡ q → IsNulled s u q → ((e : Tree) (k : ℕ) (v : Validity) (n : ℕ) → l ≡ layout.FixedSizeList e k v n → ⊥)
    → ((ns : List (List ℕ)) (cs : Vec Tree) (v : Validity) (n : ℕ) → l ≡ layout.Struct ns cs v n → ⊥) → HasPartsOf s q
others_nulled s q u l same h one two = parts_nulled s q u h (λ x. not_fixed l one (ap layout_of same ∙ x)) (λ x. not_records l two (ap layout_of same ∙ x))

-- ---- of itself

mutual
  pub within_itself : ((u : Tree) → IsPlain u → IsCanonical u u) → (t : Tree) → IsPlain t → IsCanonicalWithin t t
  within_itself one (bools b bits v) h = tt
  within_itself one (primitive p bs v) h = tt
  within_itself one (constant k r n) h = absurd h
  within_itself one (dictionary c v f) h = absurd h
  within_itself one (fixed_list e k v n) h = (one e h.0, within_itself one e h.0)
  within_itself one (list_view e o s v f) h = (one e h.0, within_itself one e h.0, one o h.1, one s h.2)
  within_itself one (structure ns ts v n) h = all_within_themselves one ts h.0
  within_itself one (view_array vs bs k v) h = tt

  all_within_themselves : ((u : Tree) → IsPlain u → IsCanonical u u) → (ts : Trees) → ArePlain ts → AreCanonicalWithin ts ts
  all_within_themselves one no_trees h = tt
  all_within_themselves one (tree t ts) h = (one t h.0, within_itself one t h.0, all_within_themselves one ts h.1)

pub ruleset no_parts = (leaf_made_within, constant_within, constant_picked, constant_row_within, constant_row_picked)
