-- Which column a table of nodes is, and which fault it has.
use Rattle.std.specs.Prelude.{◌+◌, ◌*◌, ◌%◌, ◌^◌, ◌==◌, ℕ, suc, false, List, [], ◌∷◌, length, map, take, drop, nat_lt, nat_le}
use Rattle.std.specs.Prelude.{if◌then◌else◌, Option, Some, None, Result, Ok, Err, slice_index_or}
use Rattle.std.specs.Int.{w128, from_le_bytes, to_le_bytes}
use Rattle.std.specs.Str.{is_utf8}
use Rattle.vx_base.specs.Bits.{unpacked}
use Rattle.vx_base.specs.Integers.{numbers}
use Rattle.vx_base.specs.Kinds.{Kind, texts, binaries}
use Rattle.vx_base.specs.Refusals.{Refusal, length_mismatch, overflow, not_utf8, or_else, first_fault}
use Rattle.vx_tree.specs.Tree.{Tree, bools, primitive, dictionary, fixed_list, list_view, structure, Valid, non_nullable, all_valid, all_invalid, by_array}
use Rattle.vx_tree.specs.Meaning.{tree_len, nullable, trees_from}
use Rattle.vx_tree.specs.Faults.{validity_fault}
use Rattle.vx_leaves.specs.Dictionaries.{dictionary_fault}
use Rattle.vx_leaves.specs.Spread.{whole_fault}
use Rattle.vx_lists.specs.FixedSizeLists.{fixed_list_fault}
use Rattle.vx_lists.specs.ListViews.Faults.{list_view_fault}
use Rattle.vx_structs.specs.Structs.Faults.{struct_fault}
use Rattle.vx_text.specs.Texts.{array_of_views}
use Rattle.vx_text.specs.TextFaults.{view_array_fault}
use Rattle.vx_c.specs.declared.table.CodraskNode.{CodraskNode}
use Rattle.vx_c.specs.declared.table.CodraskView.{CodraskView}
use Rattle.vx_c.specs.declared.table.NodeKind.{NodeKind}
use Rattle.vx_c.specs.declared.table.NodeKind.TheVariants.{Bool, Number, Utf8, Binary, Dictionary, FixedSizeList, ListView, Struct}
use Rattle.vx_c.specs.declared.reading.TheConstants.{MAX_NODES}
use Rattle.vx_c.specs.NodeKinds.{kind_numbered}

-- what is wrong with a node or with a step, or with the number of nodes or of steps
pub data NodeFault : Type 0 where
  -- no kind has the number
  unknown_kind : NodeFault
  -- no validity has the number, or a dictionary has one of its own
  bad_validity : NodeFault
  -- the nodes that follow are fewer arrays than the node has parts
  missing_nodes : NodeFault
  -- the nodes are no array, or several
  not_one_array : NodeFault
  -- more nodes than a table may have
  too_many_nodes : NodeFault
  -- no step of the kind has the mode
  bad_mode : NodeFault
  -- more steps than a run may have
  too_many_steps : NodeFault
  -- the parts are refused
  refused : Refusal → NodeFault

-- ---- what a node has

abbrev pub buffers_in : CodraskNode → List (List ℕ)
buffers_in n = map (λ b. b.bytes.now) n.buffers.now

-- the 16 bytes of the number that a view's bytes are
abbrev pub view_bytes : CodraskView → List ℕ
view_bytes v = to_le_bytes w128 (from_le_bytes w128 v.bytes)

abbrev pub views_in : CodraskNode → List (List ℕ)
views_in n = map view_bytes n.views.now

-- bits from a place on, up to one that cannot be counted, or past the bytes
abbrev pub bits_fault : List ℕ → ℕ → ℕ → Option Refusal
bits_fault bytes from len =
    if nat_lt (from + len) (2 ^ 64) then (if nat_le (from + len) (8 * length bytes) then None else Some length_mismatch) else Some overflow

-- bytes that are not UTF-8
abbrev pub utf8_fault : List ℕ → ℕ → Option Refusal
utf8_fault bytes place = if is_utf8 bytes then None else Some (not_utf8 place)

-- the first name that is not UTF-8
abbrev pub name_fault : List (List ℕ) → ℕ → Option Refusal
name_fault names i = utf8_fault (slice_index_or names i []) i

abbrev pub names_fault : List (List ℕ) → Option Refusal
names_fault names = first_fault (name_fault names) (length names)

-- ---- one node: `ts` are the arrays of the nodes after it, the nearest first

-- an array and those that are left, where there is no fault
abbrev pub unless : Option Refusal → Tree → List Tree → Result (Tree × List Tree) NodeFault
unless None t ts = Ok (t, ts)
unless (Some r) t ts = Err (refused r)

-- texts, or byte lists, by the views of a node
abbrev pub views_made : CodraskNode → Kind → Valid → List Tree → Result (Tree × List Tree) NodeFault
views_made n k v ts = unless (view_array_fault (views_in n) (buffers_in n) k v) (array_of_views (views_in n) (buffers_in n) k v) ts

-- so many columns under the names of a node
abbrev pub records_made : CodraskNode → Valid → List Tree → Result (Tree × List Tree) NodeFault
records_made n v ts =
    let names = buffers_in n in
    if nat_lt (length ts) (length names) then Err missing_nodes
    else unless (or_else (names_fault names) (struct_fault names (take (length names) ts) v n.length))
    (structure names (trees_from (take (length names) ts)) v n.length) (drop (length names) ts)

-- the array of a node of a kind, under a validity, and the arrays that are not its parts: whole bytes before the first bit go
abbrev pub layout_made : NodeKind → CodraskNode → Valid → List Tree → Result (Tree × List Tree) NodeFault
layout_made Bool n v ts =
    unless (or_else (bits_fault n.bytes.now n.offset n.length) (validity_fault v n.length))
    (bools (n.offset % 8) (unpacked n.bytes.now n.offset n.length) v) ts
layout_made (Number t) n v ts =
    unless (or_else (whole_fault t n.bytes.now) (validity_fault v (length (numbers t n.bytes.now)))) (primitive t n.bytes.now v) ts
layout_made Utf8 n v ts = views_made n (texts (nullable v)) v ts
layout_made Binary n v ts = views_made n (binaries (nullable v)) v ts
layout_made Dictionary n non_nullable (codes ∷ values ∷ ts) = unless (dictionary_fault codes values) (dictionary codes values false) ts
layout_made Dictionary n non_nullable _ = Err missing_nodes
layout_made Dictionary n _ ts = Err bad_validity
layout_made FixedSizeList n v (e ∷ ts) = unless (fixed_list_fault e n.size v n.length) (fixed_list e n.size v n.length) ts
layout_made FixedSizeList n v [] = Err missing_nodes
layout_made ListView n v (e ∷ o ∷ s ∷ ts) = unless (list_view_fault e o s v) (list_view e o s v false) ts
layout_made ListView n v _ = Err missing_nodes
layout_made Struct n v ts = records_made n v ts

-- the array is put before those that are left, where it has as many rows as the node says
abbrev pub put : CodraskNode → Result (Tree × List Tree) NodeFault → Result (List Tree) NodeFault
put n (Ok (t, ts)) = if tree_len t == n.length then Ok (t ∷ ts) else Err (refused length_mismatch)
put n (Err f) = Err f

-- the nearest array as a validity
abbrev pub nearest_valid : List Tree → Result (Valid × List Tree) NodeFault
nearest_valid (t ∷ ts) = Ok (by_array t, ts)
nearest_valid [] = Err missing_nodes

-- the validity of this number, which may be the nearest array, and the arrays that are left
abbrev pub valid_of_number : ℕ → List Tree → Result (Valid × List Tree) NodeFault
valid_of_number n ts =
    if n == 0 then Ok (non_nullable, ts) else if n == 1 then Ok (all_valid, ts) else if n == 2 then Ok (all_invalid, ts)
    else if n == 3 then nearest_valid ts else Err bad_validity

-- a kind under a validity
abbrev pub valid_made : NodeKind → CodraskNode → Result (Valid × List Tree) NodeFault → Result (Tree × List Tree) NodeFault
valid_made k n (Ok (v, ts)) = layout_made k n v ts
valid_made k n (Err f) = Err f

abbrev pub kind_made : Option NodeKind → CodraskNode → List Tree → Result (Tree × List Tree) NodeFault
kind_made None n ts = Err unknown_kind
kind_made (Some k) n ts = valid_made k n (valid_of_number n.validity ts)

-- the arrays from a node on, the nearest first
abbrev pub node_made : CodraskNode → List Tree → Result (List Tree) NodeFault
node_made n ts = put n (kind_made (kind_numbered n.kind) n ts)

-- ---- a table, from its last node to its first

-- the same, and a fault is that of the node of this number
abbrev pub at_node : ℕ → Result (List Tree) NodeFault → Result (List Tree) (ℕ × NodeFault)
at_node i (Ok ts) = Ok ts
at_node i (Err f) = Err (i, f)

abbrev pub then_node : ℕ → CodraskNode → Result (List Tree) (ℕ × NodeFault) → Result (List Tree) (ℕ × NodeFault)
then_node i n (Ok ts) = at_node i (node_made n ts)
then_node i n (Err f) = Err f

-- the arrays of the nodes from number i on, the nearest first
abbrev pub arrays_from : ℕ → List CodraskNode → Result (List Tree) (ℕ × NodeFault)
arrays_from i [] = Ok []
arrays_from i (n ∷ ns) = then_node i n (arrays_from (suc i) ns)

-- the array that is the only one
abbrev pub only : Result (List Tree) (ℕ × NodeFault) → Result Tree (ℕ × NodeFault)
only (Ok (t ∷ [])) = Ok t
only (Ok _) = Err (0, not_one_array)
only (Err f) = Err f

-- the column that a table is, or its first fault, from the last node to the first
abbrev pub column_of : List CodraskNode → Result Tree (ℕ × NodeFault)
column_of ns = if nat_lt MAX_NODES (length ns) then Err (0, too_many_nodes) else only (arrays_from 0 ns)

-- the fault of a table
abbrev pub fault_in : {A E : Type 0} → Result A E → Option E
fault_in (Ok a) = None
fault_in (Err e) = Some e

abbrev pub table_fault : List CodraskNode → Option (ℕ × NodeFault)
table_fault ns = fault_in (column_of ns)
