-- An array of which no flag is set is as well formed as with its flags.
use Rattle.std.proofs.Common.{◌≡◌, ◌+◌, ◌≤◌, ℕ, Bool, false, List, length, refl, sym, ◌∙◌, ap, subst, arith}
use Rattle.std.specs.Prelude.{pos}
use Rattle.vx_base.specs.Integers.{numbers}
use Rattle.vx_base.specs.Kinds.{Kind, is_integers, is_plain_integers}
use Rattle.vx_base.specs.Rows.{Row, whole, count_in}
use Rattle.vx_tree.specs.Fitting.{AllFormed, ColumnsFormed, ValidityFormed}
use Rattle.vx_tree.specs.Formed.{ValidFits, IsCounts, IsListView, IsCode, IsDictionary, AllLen, column_count, IsStruct, value_kind, IsViewArray}
use Rattle.vx_tree.specs.Meaning.{tree_len, row_at, is_valid_at, is_texts}
use Rattle.vx_tree.specs.Tree.{Tree, bools, primitive, constant, dictionary, fixed_list, list_view, structure, view_array, Trees, no_trees, tree}
use Rattle.vx_tree.specs.Tree.{Valid, non_nullable, all_valid, all_invalid, by_array}
use Rattle.vx_c.specs.Unflagged.{unflagged, unflagged_trees, unflagged_valid}
use Rattle.vx_c.proofs.Unflagged.{kept_len, kept_nullable, kept_kind, kept_row, kept_valid}

-- ---- parts

same_row : (t : Tree) (i : ℕ) → row_at (unflagged t) i ≡ row_at t i
same_row t i = ap (λ (f : ℕ → Row). f i) (kept_row t)

same_bit : (v : Valid) (i : ℕ) → is_valid_at (unflagged_valid v) i ≡ is_valid_at v i
same_bit v i = ap (λ (f : ℕ → Bool). f i) (kept_valid v)

fits_kept : (v : Valid) (n : ℕ) → ValidFits v n → ValidFits (unflagged_valid v) n
fits_kept non_nullable n fits = tt
fits_kept all_valid n fits = tt
fits_kept all_invalid n fits = tt
fits_kept (by_array t) n fits = record { len = kept_len t ∙ fits.len; kind = kept_kind t ∙ fits.kind }

counts_kept : (t : Tree) → IsCounts t → IsCounts (unflagged t)
counts_kept t h = record {
  kind = ap is_plain_integers (kept_kind t) ∙ h.kind;
  counts = λ i inside. same_row t i ∙ h.counts i (omega (arith, inside, kept_len t)) ∙ ap (λ (r : Row). whole (pos (count_in r))) (sym (same_row t i));
}

lists_kept : (e o s : Tree) (f : Bool) → IsListView e o s f → IsListView (unflagged e) (unflagged o) (unflagged s) false
lists_kept e o s f h = record {
  offsets = counts_kept o h.offsets;
  sizes = counts_kept s h.sizes;
  same_len = kept_len s ∙ h.same_len ∙ sym (kept_len o);
  within = λ i inside.
      let within : count_in (row_at o i) + count_in (row_at s i) ≤ tree_len e = h.within i (omega (arith, inside, kept_len o)) in
      omega (arith, within, ap count_in (same_row o i), ap count_in (same_row s i), kept_len e);
  follows = λ set. absurd (cc);
}

dictionary_kept : (c v : Tree) (f : Bool) → IsDictionary c v f → IsDictionary (unflagged c) (unflagged v) false
dictionary_kept c v f h = record {
  codes = ap is_integers (kept_kind c) ∙ h.codes;
  within = λ i inside.
      let code : IsCode (tree_len v) (row_at c i) = h.within i (omega (arith, inside, kept_len c)) in
      subst (λ (n : ℕ). IsCode n (row_at (unflagged c) i)) (sym (kept_len v)) (subst (λ (r : Row). IsCode (tree_len v) r) (sym (same_row c i)) code);
  referenced = λ set. absurd (cc);
}

count_kept : (ts : Trees) → column_count (unflagged_trees ts) ≡ column_count ts
count_kept no_trees = refl
count_kept (tree t ts) = ap (λ n. n + 1) (count_kept ts)

lens_kept : (n : ℕ) (ts : Trees) → AllLen n ts → AllLen n (unflagged_trees ts)
lens_kept n no_trees all = tt
lens_kept n (tree t ts) all = (kept_len t ∙ all.0, lens_kept n ts all.1)

struct_kept : (names : List (List ℕ)) (ts : Trees) (n : ℕ) → IsStruct names ts n → IsStruct names (unflagged_trees ts) n
struct_kept names ts n h = record { named = h.named ∙ sym (count_kept ts); lens = lens_kept n ts h.lens }

views_kept : (vs bs : List (List ℕ)) (k : Kind) (v : Valid) → IsViewArray vs bs k v → IsViewArray vs bs k (unflagged_valid v)
views_kept vs bs k v h = record {
  kind = h.kind ∙ ap (value_kind (is_texts k)) (sym (kept_nullable v));
  sound = λ i inside valid. h.sound i inside (sym (same_bit v i) ∙ valid);
  zeroes = λ i inside none. h.zeroes i inside (sym (same_bit v i) ∙ none);
}

-- ---- arrays

mutual
  pub kept_formed : (t : Tree) → AllFormed t → AllFormed (unflagged t)
  kept_formed (bools b bits v) h = (fits_kept v (length bits) h.0, kept_validity v h.1)
  kept_formed (primitive t bs v) h = ((fits_kept v (length (numbers t bs)) h.0.0, h.0.1), h.1, kept_validity v h.2)
  kept_formed (constant k r n) h = h
  kept_formed (dictionary c v f) h = (dictionary_kept c v f h.0, kept_formed c h.1, kept_formed v h.2)
  kept_formed (fixed_list e k v n) h =
      ((fits_kept v n h.0.0, kept_len e ∙ h.0.1), kept_formed e h.1, kept_validity v h.2, omega (arith, h.3, kept_len e))
  kept_formed (list_view e o s v f) h =
      ((subst (ValidFits (unflagged_valid v)) (sym (kept_len o)) (fits_kept v (tree_len o) h.0.0), lists_kept e o s f h.0.1), kept_formed e h.1, kept_formed o h.2, kept_formed s h.3, kept_validity v h.4)
  kept_formed (structure ns ts v n) h = ((fits_kept v n h.0.0, struct_kept ns ts n h.0.1), kept_columns ts h.1, kept_validity v h.2)
  kept_formed (view_array vs bs k v) h = ((fits_kept v (length vs) h.0.0, views_kept vs bs k v h.0.1), h.1, kept_validity v h.2)

  kept_columns : (ts : Trees) → ColumnsFormed ts → ColumnsFormed (unflagged_trees ts)
  kept_columns no_trees h = tt
  kept_columns (tree t ts) h = (kept_formed t h.0, kept_columns ts h.1)

  kept_validity : (v : Valid) → ValidityFormed v → ValidityFormed (unflagged_valid v)
  kept_validity non_nullable h = tt
  kept_validity all_valid h = tt
  kept_validity all_invalid h = tt
  kept_validity (by_array t) h = kept_formed t h
