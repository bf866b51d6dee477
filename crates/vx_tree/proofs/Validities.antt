-- What the calls of a validity give.
use Rattle.std.proofs.Common.{ℕ, ◌+◌, ◌<◌, ◌≡◌, ◌↔◌, Bool, true, false, cond, arith, eqb, List, [], ◌∷◌, length, map, replicate, Some, refl, sym, ◌∙◌, ap, subst, zero-add, inl, inr}
use Rattle.std.specs.Prelude.{◌&&◌, ◌||◌, IfSome, IsTrue, is_some, slice_index, count_by, pos, negsuc}
use Rattle.std.specs.List.{range_with_len}
use Rattle.std.proofs.lemmas.Bool.{eq-eqb}
use Rattle.std.proofs.lemmas.Bool.Decides.{eqb_tells}
use Rattle.std.proofs.lemmas.List.Sums.{sum_by-cons}
use Rattle.std.proofs.lemmas.List.FromFn.{fill_by_all, length-map-range_with_len, get_or-map-range_with_len}
use Rattle.vx_base.specs.Bits.{bool_at, both}
use Rattle.vx_base.specs.Rows.{Row, null, boolean, whole, bytes, text, items, record_of, truth_of, count_in, is_present, position_in}
use Rattle.vx_base.specs.Kinds.{booleans}
use Rattle.vx_base.proofs.ListParts.{map_range_same}
use Rattle.vx_base.proofs.MaskCounts.{count-all_true, count-all_false, count-true, count-false, all_true_from_count, all_false_from_count}
use Rattle.vx_tree.specs.Tree.{Tree, bools, constant, Valid, non_nullable, all_valid, all_invalid, by_array}
use Rattle.vx_tree.specs.Meaning.{tree_len, row_at, is_valid_at, nullable, valid_mask}
use Rattle.vx_tree.specs.Shapes.{State, never_null, none_null, every_null, told, state_of, taken_state, tree_state}
use Rattle.vx_tree.specs.Formed.{ValidFits}
use Rattle.vx_tree.specs.Named.{IsRepeated, AreIndices}
use Rattle.vx_tree.specs.Operations.{IsSelected, IsValidityOf, IsValidNulled}
use Rattle.vx_tree.specs.Validities.{pair_of, both_pairs, opposite, has_no_nulls, kept_array, made_nullable, full_valid, valid_from, simplest, IsOpposite, IsValidTaken, nullable_state, IsTrivialCast, BothCommutes, BothAssociates, BothRepeats, BothHasUnit, TrivialCasts}
use Rattle.vx_tree.proofs.Masks.{all_true_mask, all_valid_mask, all_invalid_mask}
use Rattle.vx_tree.proofs.Positions.{mask_long}
use Rattle.vx_tree.proofs.Nulled.{nullable_nulled}

-- ---- whether a row is null

-- a test of the mask decides it
pub none_false : (b : Bool) (v : Valid) (n : ℕ) (mask : List Bool) → mask ≡ valid_mask v n → (IsTrue b ↔ (count_by (λ x. x) mask ≡ length mask)) → b ≡ has_no_nulls v n
none_false true v n mask e h =
    sym (eq-eqb (count_by (λ x. x) (valid_mask v n)) n (sym (ap (count_by (λ x. x)) e) ∙ h.0 refl ∙ mask_long v mask n e))
none_false false v n mask e h = elim (eqb_tells (count_by (λ x. x) (valid_mask v n)) n) [
  | inl alike ↦ let all = h.1 (ap (count_by (λ x. x)) e ∙ alike.1 ∙ sym (mask_long v mask n e)) in absurd (cc)
  | inr apart ↦ sym apart.0
]

-- none of no rows is
pub no_rows : (v : Valid) (n : ℕ) → n ≡ 0 → has_no_nulls v n ≡ true
no_rows v n e = rw e refl

full_has_none : (v : Valid) (n : ℕ) → replicate n true ≡ valid_mask v n → has_no_nulls v n ≡ true
full_has_none v n e = eq-eqb (count_by (λ x. x) (valid_mask v n)) n (ap (count_by (λ x. x)) (sym e) ∙ count-all_true n)

-- ---- booleans

-- a validity of booleans has them as its mask
pub valid_from-mask : (first : ℕ) (bits : List Bool) (b : Bool) → valid_mask (valid_from first bits (full_valid b)) (length bits) ≡ bits
valid_from-mask first bits b = elim (eqb_tells (count_by (λ x. x) bits) (length bits)) [
  | inl alike ↦ rw alike.0 (sym (full b (length bits)) ∙ sym (all_true_from_count bits alike.1))
  | inr apart ↦ rw apart.0 (elim (eqb_tells (count_by (λ x. x) bits) 0) [
    | inl none ↦ rw none.0 (sym (all_invalid_mask all_invalid (length bits) refl) ∙ sym (all_false_from_count bits none.1))
    | inr some ↦ rw some.0 (sym (fill_by_all (bool_at bits) bits (length bits) false refl (λ i l. refl)))
  ])
]
  where
    full : (b : Bool) (n : ℕ) → replicate n true ≡ valid_mask (full_valid b) n
    full true n = all_valid_mask all_valid n refl
    full false n = all_true_mask non_nullable n refl

-- ---- the simplest

pub simplest-mask : (v : Valid) (n : ℕ) → valid_mask (simplest v n) n ≡ valid_mask v n
simplest-mask non_nullable n = refl
simplest-mask all_valid n = refl
simplest-mask all_invalid n = refl
simplest-mask (by_array t) n =
    let mask = valid_mask (by_array t) n in
    let long : length mask ≡ n = mask_long (by_array t) mask n refl in
    elim (eqb_tells (count_by (λ x. x) mask) n) [
      | inl alike ↦ rw alike.0 (sym (all_valid_mask all_valid n refl) ∙ ap (λ k. replicate k true) (sym long) ∙ sym (all_true_from_count mask (alike.1 ∙ sym long)))
      | inr apart ↦ rw apart.0 (elim (eqb_tells (count_by (λ x. x) mask) 0) [
        | inl none ↦ rw none.0 (sym (all_invalid_mask all_invalid n refl) ∙ ap (λ k. replicate k false) (sym long) ∙ sym (all_false_from_count mask none.1))
        | inr some ↦ rw some.0 refl
      ])
    ]

null_and_valid : (bs : List Bool) → count_by opposite bs + count_by (λ b. b) bs ≡ length bs
null_and_valid [] = refl
null_and_valid (true ∷ bs) = omega (arith, null_and_valid bs, count-true bs, sum_by-cons (λ (b : Bool). cond (opposite b) 1 0) true bs)
null_and_valid (false ∷ bs) = omega (arith, null_and_valid bs, count-false bs, sum_by-cons (λ (b : Bool). cond (opposite b) 1 0) false bs)

-- a row is valid or null
pub nulls_and_valid : (v : Valid) (n : ℕ) → count_by opposite (valid_mask v n) + count_by (λ b. b) (valid_mask v n) ≡ n
nulls_and_valid v n = null_and_valid (valid_mask v n) ∙ mask_long v (valid_mask v n) n refl

-- ---- valid in both

pub both_of : (f g : ℕ → Bool) (ks : List ℕ) → both (map f ks) (map g ks) ≡ map (λ k. f k && g k) ks
both_of f g [] = refl
both_of f g (k ∷ ks) = ap (λ bs. (f k && g k) ∷ bs) (both_of f g ks)

pub pair_joined : (v u w : Valid) (n : ℕ) → nullable w ≡ (nullable v || nullable u) → ((i : ℕ) → i < n → is_valid_at w i ≡ (is_valid_at v i && is_valid_at u i)) → pair_of w n ≡ both_pairs (pair_of v n) (pair_of u n)
pair_joined v u w n e h =
    let masks : valid_mask w n ≡ both (valid_mask v n) (valid_mask u n) =
    map_range_same (is_valid_at w) (λ k. is_valid_at v k && is_valid_at u k) 0 0 n (λ j l. rw zero-add (h j l)) ∙ sym (both_of (is_valid_at v) (is_valid_at u) (range_with_len 0 n)) in
    λ i. (e i, masks i)

pub and_true : (b : Bool) → b ≡ (b && true)
and_true true = refl
and_true false = refl

pub and_false : (b : Bool) → false ≡ (b && false)
and_false true = refl
and_false false = refl

nullable_made : (u : Valid) → nullable (made_nullable u) ≡ true
nullable_made non_nullable = refl
nullable_made all_valid = refl
nullable_made all_invalid = refl
nullable_made (by_array t) = refl

valid_made : (u : Valid) (i : ℕ) → is_valid_at (made_nullable u) i ≡ is_valid_at u i
valid_made non_nullable i = refl
valid_made all_valid i = refl
valid_made all_invalid i = refl
valid_made (by_array t) i = refl

pub state_made : (u : Valid) → state_of (made_nullable u) ≡ nullable_state (state_of u)
state_made non_nullable = refl
state_made all_valid = refl
state_made all_invalid = refl
state_made (by_array t) = refl

pub pair_all_valid : (u : Valid) (n : ℕ) → pair_of (made_nullable u) n ≡ both_pairs (pair_of all_valid n) (pair_of u n)
pair_all_valid u n = pair_joined all_valid u (made_nullable u) n (nullable_made u) (λ i h. valid_made u i)

-- two arrays
pub arrays_joined : (m o : Tree) (w : Valid) (n : ℕ) → IsValidNulled (by_array m) (by_array o) (tree_len m) w → tree_len m ≡ n → pair_of w n ≡ both_pairs (pair_of (by_array m) n) (pair_of (by_array o) n)
arrays_joined m o w n joined long = pair_joined (by_array m) (by_array o) w n (nullable_nulled (by_array m) (by_array o) w joined.state) (λ i h. joined.bits i (rw long h))

-- ---- the other way

pub array_turned : {b : ℕ} (t : Tree) (w : Valid) (xs bits : List Bool) (n : ℕ) → w ≡ by_array (bools b bits non_nullable) → bits ≡ map (λ i. opposite (bool_at xs i)) (range_with_len 0 (length xs))
    → xs ≡ map (λ i. truth_of (row_at t i)) (range_with_len 0 (tree_len t)) → ValidFits (by_array t) n → IsOpposite (by_array t) n w
array_turned t w xs bits n a b c h =
    let long : length xs ≡ tree_len t = ap length c ∙ length-map-range_with_len (λ i. truth_of (row_at t i)) 0 (tree_len t) in
    rw a (record {
      fits = record { len = ap length b ∙ length-map-range_with_len (λ i. opposite (bool_at xs i)) 0 (length xs) ∙ long ∙ h.len; kind = refl };
      state = refl;
      bits = λ i l.
          let inside : i < tree_len t = rw h.len l in
          ap (λ bs. bool_at bs i) b ∙ get_or-map-range_with_len (λ k. opposite (bool_at xs k)) 0 (length xs) i i false (rw long inside) (zero-add i)
          ∙ ap opposite (ap (λ bs. bool_at bs i) c ∙ get_or-map-range_with_len (λ k. truth_of (row_at t k)) 0 (tree_len t) i i false inside (zero-add i));
    })

-- ---- at indices

told_taken : (s : State) → taken_state told s ≡ told
told_taken never_null = refl
told_taken none_null = refl
told_taken every_null = refl
told_taken told = refl

-- of a row that is null any value will do
truth_named : (f : ℕ → Bool) (r : Row) (k : ℕ) → IfSome (position_in r) (λ p. k ≡ p) → is_some (position_in r) ≡ is_present r → (f k && is_present r) ≡ (f (count_in r) && is_present r)
truth_named f null k same present = sym (and_false (f k)) ∙ and_false (f 0)
truth_named f (whole (pos n)) k same present = ap (λ j. f j && true) same
truth_named f (whole (negsuc n)) k same present = absurd (cc)
truth_named f (boolean b) k same present = absurd (cc)
truth_named f (bytes b) k same present = absurd (cc)
truth_named f (text b) k same present = absurd (cc)
truth_named f (items rs) k same present = absurd (cc)
truth_named f (record_of fs) k same present = absurd (cc)

pub truths_taken : (t indices s : Tree) (x w : Valid) (ps : List ℕ) → IsValidityOf indices x → AreIndices indices (tree_len t) ps → IsSelected t ps s → IsValidNulled (by_array s) x (tree_len indices) w → IsValidTaken (by_array t) indices w
truths_taken t indices s x w ps valid are selected n =
    record {
      fits = n.fits;
      state = n.state ∙ told_taken (state_of x) ∙ sym (told_taken (tree_state indices));
      bits = λ i l.
          let inside : i < length ps = rw are.len l in
          let p = are.each i l in
          n.bits i l ∙ ap (λ b. truth_of (row_at s i) && b) (valid.bits i l)
          ∙ ap (λ r. truth_of r && is_present (row_at indices i)) (selected.rows i inside)
          ∙ truth_named (λ k. truth_of (row_at t k)) (row_at indices i) (slice_index ps i) p.told p.present;
    }

-- ---- laws

or_commutes : (a b : Bool) → (a || b) ≡ (b || a)
or_commutes true true = refl
or_commutes true false = refl
or_commutes false true = refl
or_commutes false false = refl

or_associates : (a b c : Bool) → ((a || b) || c) ≡ (a || (b || c))
or_associates true b c = refl
or_associates false b c = refl

or_repeats : (a : Bool) → (a || a) ≡ a
or_repeats true = refl
or_repeats false = refl

or_false : (a : Bool) → (a || false) ≡ a
or_false true = refl
or_false false = refl

and_commutes : (a b : Bool) → (a && b) ≡ (b && a)
and_commutes true true = refl
and_commutes true false = refl
and_commutes false true = refl
and_commutes false false = refl

and_associates : (a b c : Bool) → ((a && b) && c) ≡ (a && (b && c))
and_associates true b c = refl
and_associates false b c = refl

and_repeats : (a : Bool) → (a && a) ≡ a
and_repeats true = refl
and_repeats false = refl

masks_commute : (xs ys : List Bool) → both xs ys ≡ both ys xs
masks_commute [] [] = refl
masks_commute [] (y ∷ ys) = refl
masks_commute (x ∷ xs) [] = refl
masks_commute (x ∷ xs) (y ∷ ys) = λ i. and_commutes x y i ∷ masks_commute xs ys i

masks_associate : (xs ys zs : List Bool) → both (both xs ys) zs ≡ both xs (both ys zs)
masks_associate [] [] zs = refl
masks_associate [] (y ∷ ys) [] = refl
masks_associate [] (y ∷ ys) (z ∷ zs) = refl
masks_associate (x ∷ xs) [] zs = refl
masks_associate (x ∷ xs) (y ∷ ys) [] = refl
masks_associate (x ∷ xs) (y ∷ ys) (z ∷ zs) = λ i. and_associates x y z i ∷ masks_associate xs ys zs i

masks_repeat : (xs : List Bool) → both xs xs ≡ xs
masks_repeat [] = refl
masks_repeat (x ∷ xs) = λ i. and_repeats x i ∷ masks_repeat xs i

masks_unit : (xs : List Bool) (start : ℕ) → both xs (map (is_valid_at non_nullable) (range_with_len start (length xs))) ≡ xs
masks_unit [] start = refl
masks_unit (x ∷ xs) start = λ i. sym (and_true x) i ∷ masks_unit xs (start + 1) i

pub pairs_commute : BothCommutes
pairs_commute p q = λ i. (or_commutes p.0 q.0 i, masks_commute p.1 q.1 i)

pub pairs_associate : BothAssociates
pairs_associate p q r = λ i. (or_associates p.0 q.0 r.0 i, masks_associate p.1 q.1 r.1 i)

pub pairs_repeat : BothRepeats
pairs_repeat p = λ i. (or_repeats p.0 i, masks_repeat p.1 i)

pub pairs_have_unit : BothHasUnit
pairs_have_unit p = λ i. (or_false p.0 i, masks_unit p.1 0 i)

some_same : {A : Type 0} (x y : A) → Some x ≡ Some y → x ≡ y
some_same x y e = cc

-- a cast where there are no rows
cast_of_none : (v : Valid) → IsTrivialCast v false 0
cast_of_none v = record {
  given = λ w none some. (refl, some_same non_nullable w some);
  refused = λ r fault. absurd (cc);
}

invalid_has_some : (n : ℕ) → eqb n 0 ≡ false → has_no_nulls all_invalid n ≡ false
invalid_has_some n ne = elim (eqb_tells (count_by (λ x. x) (valid_mask all_invalid n)) n) [
  | inl alike ↦
      let none : n ≡ 0 = sym alike.1 ∙ ap (count_by (λ x. x)) (sym (all_invalid_mask all_invalid n refl)) ∙ count-all_false n in
      let same = eq-eqb n 0 none in
      absurd (cc)
  | inr other ↦ other.0
]

-- and where there are
cast_of_some : (v : Valid) (n : ℕ) → eqb n 0 ≡ false → IsTrivialCast v false n
cast_of_some non_nullable n ne = record {
  given = λ w none some. (rw (ne, full_has_none non_nullable n (all_true_mask non_nullable n refl)) refl, some_same non_nullable w (rw ne at some));
  refused = λ r fault. let f = rw ne at fault in absurd (cc);
}
cast_of_some all_valid n ne = record {
  given = λ w none some. (rw (ne, full_has_none all_valid n (all_valid_mask all_valid n refl)) refl, some_same non_nullable w (rw ne at some));
  refused = λ r fault. let f = rw ne at fault in absurd (cc);
}
cast_of_some all_invalid n ne = record {
  given = λ w none some. let f = rw ne at none in absurd (cc);
  refused = λ r fault. let f = rw ne at fault in rw (ne, invalid_has_some n ne) f;
}
cast_of_some (by_array t) n ne = record {
  given = λ w none some. let f = rw ne at some in absurd (cc);
  refused = λ r fault. let f = rw ne at fault in absurd (cc);
}

pub trivial_casts : TrivialCasts
trivial_casts v true n = record {
  given = λ w none some. (refl, some_same (made_nullable v) w some);
  refused = λ r fault. absurd (cc);
}
trivial_casts v false n = elim (eqb_tells n 0) [
  | inl alike ↦ subst (IsTrivialCast v false) (sym alike.1) (cast_of_none v)
  | inr apart ↦ cast_of_some v n apart.0
]

-- rows that are all one truth value are turned at once
pub repeated_turned : (t : Tree) (w : Valid) (b : Bool) (n : ℕ) → w ≡ by_array (constant (booleans false) (boolean b) (tree_len t)) → b ≡ opposite (truth_of (row_at t 0)) → IsRepeated t → ValidFits (by_array t) n → IsOpposite (by_array t) n w
repeated_turned t w b n a e r h =
    rw a (record {
      fits = record { len = h.len; kind = refl };
      state = refl;
      bits = λ i l. e ∙ ap (λ x. opposite (truth_of x)) (sym (r.alike i));
    })

-- of an array and a state that says that no row is null, the array stays
pub kept_of_no_null : (v : Valid) → IfSome (kept_array non_nullable v) (λ t. v ≡ by_array t)
kept_of_no_null non_nullable = tt
kept_of_no_null all_valid = tt
kept_of_no_null all_invalid = tt
kept_of_no_null (by_array t) = refl

pub kept_of_all_valid : (v : Valid) → IfSome (kept_array all_valid v) (λ t. made_nullable v ≡ by_array t)
kept_of_all_valid non_nullable = tt
kept_of_all_valid all_valid = tt
kept_of_all_valid all_invalid = tt
kept_of_all_valid (by_array t) = refl
