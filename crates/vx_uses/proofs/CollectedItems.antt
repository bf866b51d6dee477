-- The rows of items that may be none.
use Rattle.std.proofs.Common.{◌≡◌, ℕ, Bool, true, false, cond, List, [], ◌∷◌, length, map, Some, None, refl, sym, ◌∙◌, ap}
use Rattle.std.specs.Prelude.{◌==◌, ℤ, Option, count_by, is_some, unwrap_or}
use Rattle.std.specs.Iterator.{Drains}
use Rattle.std.proofs.lemmas.Iterator.{YieldsList, items_from_drains}
use Rattle.std.proofs.lemmas.List.{length-map, map-id}
use Rattle.vx_base.specs.Rows.{null, boolean, whole}
use Rattle.vx_tree.specs.Meaning.{nullable, valid_mask}
use Rattle.vx_tree.specs.Operations.{masked}
use Rattle.vx_tree.specs.Tree.{bools, non_nullable, all_valid, all_invalid, by_array}
use Rattle.vx_tree.specs.Validities.{valid_from}
use Rattle.vx_tree.proofs.Validities.{valid_from-mask}
use Rattle.vx_leaves.specs.Leaves.{number_or_zero}
use Rattle.vx_uses.specs.Collected.{number_row, truth_row}

-- what came is what was given
pub all_came : {S A : Type 0} (steps : S → Option A → S → Type 0) (s : S) (all items : List A) → Drains steps s all → YieldsList steps (λ x. x) s items → all ≡ items
all_came steps s all items came given = sym (map-id all) ∙ items_from_drains all (came.1.0, came.1.1, λ _. (came.0, came.1.2)) given

nullable_from : (full none : Bool) (bits : List Bool) → nullable (cond full all_valid (cond none all_invalid (by_array (bools 0 bits non_nullable)))) ≡ true
nullable_from true none bits = refl
nullable_from false true bits = refl
nullable_from false false bits = refl

-- null may stand among items that may be none
pub nullable_items : (bits : List Bool) → nullable (valid_from 0 bits all_valid) ≡ true
nullable_items bits = nullable_from (count_by (λ b. b) bits == length bits) (count_by (λ b. b) bits == 0) bits

-- the mask of n rows tells which items are there
there : {A : Type 0} (items : List (Option A)) (n : ℕ) → n ≡ length items → valid_mask (valid_from 0 (map is_some items) all_valid) n ≡ map is_some items
there items n len =
    ap (valid_mask (valid_from 0 (map is_some items) all_valid)) (len ∙ sym (length-map items is_some)) ∙ valid_from-mask 0 (map is_some items) true

masked_numbers : {A : Type 0} (value : A → ℤ) (items : List (Option A)) → masked (map is_some items) (map whole (map (number_or_zero value) items)) ≡ map (number_row value) items
masked_numbers value [] = refl
masked_numbers value (None ∷ items) = ap (λ rs. null ∷ rs) (masked_numbers value items)
masked_numbers value (Some item ∷ items) = ap (λ rs. whole (value item) ∷ rs) (masked_numbers value items)

pub rows_of_items : {A : Type 0} (value : A → ℤ) (items : List (Option A)) → let zs = map (number_or_zero value) items in
    masked (valid_mask (valid_from 0 (map is_some items) all_valid) (length zs)) (map whole zs) ≡ map (number_row value) items
rows_of_items value items =
    let zs = map (number_or_zero value) items in
    ap (λ mask. masked mask (map whole zs)) (there items (length zs) (length-map items (number_or_zero value))) ∙ masked_numbers value items

masked_truths : (items : List (Option Bool)) → masked (map is_some items) (map boolean (map (λ item. unwrap_or item false) items)) ≡ map truth_row items
masked_truths [] = refl
masked_truths (None ∷ items) = ap (λ rs. null ∷ rs) (masked_truths items)
masked_truths (Some item ∷ items) = ap (λ rs. boolean item ∷ rs) (masked_truths items)

pub rows_of_truths : (items : List (Option Bool)) → let bits = map (λ item. unwrap_or item false) items in
    masked (valid_mask (valid_from 0 (map is_some items) all_valid) (length bits)) (map boolean bits) ≡ map truth_row items
rows_of_truths items =
    let bits = map (λ item. unwrap_or item false) items in
    ap (λ mask. masked mask (map boolean bits)) (there items (length bits) (length-map items (λ item. unwrap_or item false))) ∙ masked_truths items
