-- Flags say nothing of rows: an array of which none is set has the same rows.
use Rattle.std.proofs.Common.{◌≡◌, ◌+◌, ◌*◌, ℕ, suc, List, [], ◌∷◌, map, refl, ap}
use Rattle.std.specs.Prelude.{slice_index_or, if◌then◌else◌}
use Rattle.vx_base.specs.Bits.{bool_at}
use Rattle.vx_base.specs.Integers.{numbers, number_nth}
use Rattle.vx_base.specs.Kinds.{booleans, integers, lists, fixed_lists, records, kind, is_nullable_kind, or_nullable}
use Rattle.vx_base.specs.Rows.{null, boolean, whole, items, record_of, field, truth_of, position_in, count_in}
use Rattle.vx_views.specs.Views.{view_value}
use Rattle.vx_tree.specs.Tree.{Tree, bools, primitive, constant, dictionary, fixed_list, list_view, structure, view_array, Trees, no_trees, tree}
use Rattle.vx_tree.specs.Tree.{Valid, non_nullable, all_valid, all_invalid, by_array}
use Rattle.vx_tree.specs.Meaning.{tree_len, kind_of, kinds_of, row_at, fields_at, is_valid_at, nullable, picked, rows_range, is_texts, value_row, trees_from}
use Rattle.vx_canonical.specs.Canonical.{HasRowsOf}
use Rattle.vx_tree.specs.Plain.{IsPlain, ArePlain, IsPlainValid}
use Rattle.vx_c.specs.Unflagged.{unflagged, unflagged_trees, unflagged_valid, node_count, trees_count, valid_count, nodes_of}

pub kept_len : (t : Tree) → tree_len (unflagged t) ≡ tree_len t
kept_len (bools b bits v) = refl
kept_len (primitive t bs v) = refl
kept_len (constant k r n) = refl
kept_len (dictionary c v f) = kept_len c
kept_len (fixed_list e k v n) = refl
kept_len (list_view e o s v f) = kept_len o
kept_len (structure ns ts v n) = refl
kept_len (view_array vs bs k v) = refl

pub kept_nullable : (v : Valid) → nullable (unflagged_valid v) ≡ nullable v
kept_nullable non_nullable = refl
kept_nullable all_valid = refl
kept_nullable all_invalid = refl
kept_nullable (by_array t) = refl

mutual
  pub kept_kind : (t : Tree) → kind_of (unflagged t) ≡ kind_of t
  kept_kind (bools b bits v) = ap booleans (kept_nullable v)
  kept_kind (primitive t bs v) = ap (integers t) (kept_nullable v)
  kept_kind (constant k r n) = refl
  kept_kind (dictionary c v f) = λ j. or_nullable (is_nullable_kind (kept_kind c j)) (kept_kind v j)
  kept_kind (fixed_list e k v n) = λ j. fixed_lists (kept_kind e j) k (kept_nullable v j)
  kept_kind (list_view e o s v f) = λ j. lists (kept_kind e j) (kept_nullable v j)
  kept_kind (structure ns ts v n) = λ j. records ns (kept_kinds ts j) (kept_nullable v j)
  kept_kind (view_array vs bs k v) = refl

  kept_kinds : (ts : Trees) → kinds_of (unflagged_trees ts) ≡ kinds_of ts
  kept_kinds no_trees = refl
  kept_kinds (tree t ts) = λ j. kind (kept_kind t j) (kept_kinds ts j)

mutual
  pub kept_row : (t : Tree) → row_at (unflagged t) ≡ row_at t
  kept_row (bools b bits v) = λ j i. if kept_valid v j i then boolean (bool_at bits i) else null
  kept_row (primitive t bs v) = λ j i. if kept_valid v j i then whole (number_nth (numbers t bs) i) else null
  kept_row (constant k r n) = refl
  kept_row (dictionary c v f) = λ j i. picked (kept_row v j) (position_in (kept_row c j i))
  kept_row (fixed_list e k v n) = λ j i. if kept_valid v j i then items (rows_range (kept_row e j) (i * k) k) else null
  kept_row (list_view e o s v f) =
      λ j i. if kept_valid v j i then items (rows_range (kept_row e j) (count_in (kept_row o j i)) (count_in (kept_row s j i))) else null
  kept_row (structure ns ts v n) = λ j i. if kept_valid v j i then record_of (kept_fields ts ns i j) else null
  kept_row (view_array vs bs k v) = λ j i. if kept_valid v j i then value_row (is_texts k) (view_value bs (slice_index_or vs i [])) else null

  kept_fields : (ts : Trees) (ns : List (List ℕ)) (i : ℕ) → fields_at (unflagged_trees ts) ns i ≡ fields_at ts ns i
  kept_fields no_trees ns i = refl
  kept_fields (tree t ts) [] i = refl
  kept_fields (tree t ts) (n ∷ ns) i = λ j. field n (kept_row t j i) (kept_fields ts ns i j)

  pub kept_valid : (v : Valid) → is_valid_at (unflagged_valid v) ≡ is_valid_at v
  kept_valid non_nullable = refl
  kept_valid all_valid = refl
  kept_valid all_invalid = refl
  kept_valid (by_array t) = λ j i. truth_of (kept_row t j i)

pub unflagged-rows : (t : Tree) → HasRowsOf t (unflagged t)
unflagged-rows t = record { len = kept_len t; kind = kept_kind t; rows = λ i inside j. kept_row t j i }

-- ---- plain layouts

mutual
  pub kept_plain : (t : Tree) → IsPlain t → IsPlain (unflagged t)
  kept_plain (bools b bits v) plain = kept_plain_valid v plain
  kept_plain (primitive t bs v) plain = kept_plain_valid v plain
  kept_plain (constant k r n) plain = absurd plain
  kept_plain (dictionary c v f) plain = absurd plain
  kept_plain (fixed_list e k v n) plain = (kept_plain e plain.0, kept_plain_valid v plain.1)
  kept_plain (list_view e o s v f) plain = (kept_plain e plain.0, kept_plain o plain.1, kept_plain s plain.2, kept_plain_valid v plain.3)
  kept_plain (structure ns ts v n) plain = (kept_plain_trees ts plain.0, kept_plain_valid v plain.1)
  kept_plain (view_array vs bs k v) plain = kept_plain_valid v plain

  kept_plain_trees : (ts : Trees) → ArePlain ts → ArePlain (unflagged_trees ts)
  kept_plain_trees no_trees plain = tt
  kept_plain_trees (tree t ts) plain = (kept_plain t plain.0, kept_plain_trees ts plain.1)

  kept_plain_valid : (v : Valid) → IsPlainValid v → IsPlainValid (unflagged_valid v)
  kept_plain_valid non_nullable plain = tt
  kept_plain_valid all_valid plain = tt
  kept_plain_valid all_invalid plain = tt
  kept_plain_valid (by_array t) plain = kept_plain t plain

-- ---- columns

pub unflagged-trees_from : (ts : List Tree) → unflagged_trees (trees_from ts) ≡ trees_from (map unflagged ts)
unflagged-trees_from [] = refl
unflagged-trees_from (t ∷ ts) = ap (tree (unflagged t)) (unflagged-trees_from ts)

-- ---- how many nodes

mutual
  pub kept_count : (t : Tree) → node_count (unflagged t) ≡ node_count t
  kept_count (bools b bits v) = ap suc (kept_valid_count v)
  kept_count (primitive t bs v) = ap suc (kept_valid_count v)
  kept_count (constant k r n) = refl
  kept_count (dictionary c v f) = λ j. suc (kept_count c j + kept_count v j)
  kept_count (fixed_list e k v n) = λ j. suc (kept_valid_count v j + kept_count e j)
  kept_count (list_view e o s v f) = λ j. suc (kept_valid_count v j + (kept_count e j + (kept_count o j + kept_count s j)))
  kept_count (structure ns ts v n) = λ j. suc (kept_valid_count v j + kept_trees_count ts j)
  kept_count (view_array vs bs k v) = ap suc (kept_valid_count v)

  kept_trees_count : (ts : Trees) → trees_count (unflagged_trees ts) ≡ trees_count ts
  kept_trees_count no_trees = refl
  kept_trees_count (tree t ts) = λ j. kept_count t j + kept_trees_count ts j

  kept_valid_count : (v : Valid) → valid_count (unflagged_valid v) ≡ valid_count v
  kept_valid_count non_nullable = refl
  kept_valid_count all_valid = refl
  kept_valid_count all_invalid = refl
  kept_valid_count (by_array t) = kept_count t

pub trees_count-from : (ts : List Tree) → trees_count (trees_from ts) ≡ nodes_of ts
trees_count-from [] = refl
trees_count-from (t ∷ ts) = ap (λ n. node_count t + n) (trees_count-from ts)
