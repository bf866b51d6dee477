-- The table of a plain array, as a list of nodes.
use Rattle.std.specs.Prelude.{◌≡◌, ◌+◌, ◌*◌, ◌/◌, ◌^◌, ◌<◌, ◌≤◌, ◌++◌, ℕ, Bool, false, List, [], ◌∷◌, length, map}
use Rattle.std.specs.Prelude.{replicate, take, drop, Ok, None}
use Rattle.std.specs.List.{range_with_len}
use Rattle.vx_base.specs.Integers.{numbers}
use Rattle.vx_tree.specs.Fitting.{AllFormed}
use Rattle.vx_tree.specs.Meaning.{tree_len, is_texts}
use Rattle.vx_tree.specs.Plain.{IsPlain}
use Rattle.vx_tree.specs.Tree.{Tree, bools, primitive, constant, dictionary, fixed_list, list_view, structure, view_array}
use Rattle.vx_tree.specs.Tree.{Trees, no_trees, tree, Valid, non_nullable, all_valid, all_invalid, by_array}
use Rattle.vx_pack.specs.BitBytes.{bits_bytes}
use Rattle.vx_c.specs.declared.reading.TheConstants.{MAX_NODES}
use Rattle.vx_c.specs.declared.table.CodraskBytes.{CodraskBytes}
use Rattle.vx_c.specs.declared.table.CodraskNode.{CodraskNode}
use Rattle.vx_c.specs.declared.table.CodraskView.{CodraskView}
use Rattle.vx_c.specs.declared.table.NodeKind.{NodeKind}
use Rattle.vx_c.specs.declared.table.NodeKind.TheVariants.{Bool as bool_kind, Number, FixedSizeList, ListView, Struct}
use Rattle.vx_c.specs.NodeKinds.{kind_number, view_kind, valid_number}
use Rattle.vx_c.specs.Tables.{names_fault, column_of}
use Rattle.vx_c.specs.Unflagged.{unflagged, node_count}

-- ---- one node

-- a view, and bytes that are lent, wherever they lie
abbrev pub view_with : List ℕ → CodraskView
view_with bs = record { bytes = bs }

abbrev pub bytes_with : List ℕ → CodraskBytes
bytes_with bs = record { bytes = record { ref_ptr = (0, 0); now = bs } }

-- a node of the number of a kind and of a validity, of so many rows: the size of each list, the first bit, bytes, views and
-- buffers, wherever they lie
abbrev pub node_numbered : ℕ → ℕ → ℕ → ℕ → ℕ → List ℕ → List (List ℕ) → List (List ℕ) → CodraskNode
node_numbered k v len each first bs vs cs = record {
  kind = k;
  validity = v;
  size = each;
  length = len;
  offset = first;
  bytes = record { ref_ptr = (0, 0); now = bs };
  views = record { ref_ptr = (0, 0); now = map view_with vs };
  buffers = record { ref_ptr = (0, 0); now = map bytes_with cs };
}

-- a node of bytes, or of views and buffers
abbrev pub bytes_node : NodeKind → Valid → ℕ → List ℕ → CodraskNode
bytes_node k v len bs = node_numbered (kind_number k) (valid_number v) len 0 0 bs [] []

abbrev pub views_node : NodeKind → Valid → List (List ℕ) → List (List ℕ) → CodraskNode
views_node k v vs cs = node_numbered (kind_number k) (valid_number v) (length vs) 0 0 [] vs cs

-- a node whose parts follow: the size of each list, and names
abbrev pub parent_node : NodeKind → Valid → ℕ → ℕ → List (List ℕ) → CodraskNode
parent_node k v len each names = node_numbered (kind_number k) (valid_number v) len each 0 [] [] names

-- a node of booleans that begin at a bit of the first byte, which is false before it
abbrev pub bits_node : Valid → ℕ → List Bool → CodraskNode
bits_node v b bits = node_numbered (kind_number bool_kind) (valid_number v) (length bits) 0 b (bits_bytes (replicate b false ++ bits)) [] []

-- ---- a table

-- the node of an array, that of its validity array, then those of its parts in order
abbrev mutual
  pub table_of : Tree → List CodraskNode
  table_of (bools b bits v) = bits_node v b bits ∷ valid_table v
  table_of (primitive t bs v) = bytes_node (Number t) v (length (numbers t bs)) bs ∷ valid_table v
  table_of (constant k r n) = []
  table_of (dictionary c v f) = []
  table_of (fixed_list e k v n) = parent_node FixedSizeList v n k [] ∷ (valid_table v ++ table_of e)
  table_of (list_view e o s v f) =
      parent_node ListView v (tree_len o) 0 [] ∷ (valid_table v ++ (table_of e ++ (table_of o ++ table_of s)))
  table_of (structure ns ts v n) = parent_node Struct v n 0 ns ∷ (valid_table v ++ tables_of ts)
  table_of (view_array vs bs k v) = views_node (view_kind (is_texts k)) v vs bs ∷ valid_table v

  pub tables_of : Trees → List CodraskNode
  tables_of no_trees = []
  tables_of (tree t ts) = table_of t ++ tables_of ts

  pub valid_table : Valid → List CodraskNode
  valid_table non_nullable = []
  valid_table all_valid = []
  valid_table all_invalid = []
  valid_table (by_array t) = table_of t

-- ---- what a machine holds

-- at each depth rows that a machine word counts, bits that begin in the first byte, and names that are texts
abbrev mutual
  pub IsHeld : Tree → Type 0
  IsHeld (bools b bits v) = (b < 8) × (b + length bits < 2 ^ 64) × IsHeldValid v
  IsHeld (primitive t bs v) = IsHeldValid v
  IsHeld (constant k r n) = Unit {0}
  IsHeld (dictionary c v f) = Unit {0}
  IsHeld (fixed_list e k v n) = IsHeld e × IsHeldValid v
  IsHeld (list_view e o s v f) = (tree_len e < 2 ^ 64) × IsHeld e × IsHeld o × IsHeld s × IsHeldValid v
  IsHeld (structure ns ts v n) = (names_fault ns ≡ None) × AreHeld ts × IsHeldValid v
  IsHeld (view_array vs bs k v) = IsHeldValid v

  pub AreHeld : Trees → Type 0
  AreHeld no_trees = Unit {0}
  AreHeld (tree t ts) = IsHeld t × AreHeld ts

  pub IsHeldValid : Valid → Type 0
  IsHeldValid non_nullable = Unit {0}
  IsHeldValid all_valid = Unit {0}
  IsHeldValid all_invalid = Unit {0}
  IsHeldValid (by_array t) = IsHeld t

-- ---- the law

-- the table of a plain array, well formed at every depth, is the column that is the array without its flags, where it has no more
-- nodes than a table may have
abbrev pub TablesAreRead : Type 0
TablesAreRead =
    (t : Tree) → AllFormed t → IsPlain t → IsHeld t → node_count t ≤ MAX_NODES → column_of (table_of t) ≡ Ok (unflagged t)
