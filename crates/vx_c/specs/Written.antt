-- The tables of arrays, as they are written.
use Rattle.std.specs.Prelude.{◌≡◌, ◌+◌, ◌<◌, ◌++◌, ℕ, Bool, false, List, [], ◌∷◌, length, map, replicate, Ok, None}
use Rattle.std.specs.List.{flat_map}
use Rattle.vx_tree.specs.Tree.{Tree, Valid, by_array}
use Rattle.vx_c.specs.declared.table.CodraskNode.{CodraskNode}
use Rattle.vx_c.specs.declared.table.NodeKind.{NodeKind}
use Rattle.vx_c.specs.declared.table.NodeKind.TheVariants as kind
use Rattle.vx_c.specs.declared.written.WrittenNode.{WrittenNode}
use Rattle.vx_c.specs.NodeKinds.{kind_number, valid_number}
use Rattle.vx_c.specs.Tables.{arrays_from, bits_fault}
use Rattle.vx_pack.specs.BitBytes.{bits_bytes}
use Rattle.vx_c.specs.TablesOf.{table_of}
use Rattle.vx_c.specs.Unflagged.{unflagged_valid, nodes_of}

-- ---- nodes, wherever their blocks lie

-- the node with its blocks at no place
abbrev pub plainly : CodraskNode → CodraskNode
plainly n = record {
  kind = n.kind;
  validity = n.validity;
  size = n.size;
  length = n.length;
  offset = n.offset;
  bytes = record { ref_ptr = (0, 0); now = n.bytes.now };
  views = record { ref_ptr = (0, 0); now = n.views.now };
  buffers = record { ref_ptr = (0, 0); now = map (λ b. record { bytes = record { ref_ptr = (0, 0); now = b.bytes.now } }) n.buffers.now };
}

-- the node that C gets of one that is written, its blocks at no place
abbrev pub node_of : WrittenNode → CodraskNode
node_of w = record {
  kind = kind_number w.kind;
  validity = w.validity;
  size = w.size;
  length = w.length;
  offset = w.offset;
  bytes = record { ref_ptr = (0, 0); now = w.bytes.items };
  views = record { ref_ptr = (0, 0); now = w.views.items };
  buffers = record { ref_ptr = (0, 0); now = map (λ b. record { bytes = record { ref_ptr = (0, 0); now = b.items } }) w.buffers.blocks.items };
}

-- ---- tables

-- the nodes are the tables of these arrays: whatever nodes follow, these arrays stand before those that follow
abbrev pub AreTablesOf : List CodraskNode → List Tree → Type 0
AreTablesOf nodes arrays =
    (i : ℕ) (rest : List CodraskNode) (others : List Tree) → arrays_from (length nodes + i) rest ≡ Ok others
    → arrays_from i (nodes ++ rest) ≡ Ok (arrays ++ others)

-- the tables of these arrays were put after some nodes, each node with the bytes that it has there and no others
pub record IsWritten (old : List WrittenNode) (arrays : List Tree) (new : List WrittenNode) : Type 0 where
  pub more : List WrittenNode
  pub put : new ≡ old ++ more
  pub len : length more ≡ nodes_of arrays
  pub tables : AreTablesOf (map node_of more) arrays
  pub exact : map node_of more ≡ flat_map table_of arrays

-- ---- one node

-- the array of a validity
abbrev pub valid_trees : Valid → List Tree
valid_trees (by_array t) = t ∷ []
valid_trees _ = []

-- a node and the table of its validity were put after some nodes
pub record IsPut (node : WrittenNode) (v : Valid) (old new : List WrittenNode) : Type 0 where
  pub mid : List WrittenNode
  pub first : mid ≡ old ++ node ∷ []
  pub valid : IsWritten mid (valid_trees (unflagged_valid v)) new

-- the node of an array whose parts follow, and the table of its validity, were put after some nodes
pub record IsParent (k : NodeKind) (size len : ℕ) (names : List (List ℕ)) (v : Valid) (old new : List WrittenNode) : Type 0 where
  pub node : WrittenNode
  pub kind : node.kind ≡ k
  pub validity : node.validity ≡ valid_number v
  pub size_is : node.size ≡ size
  pub len_is : node.length ≡ len
  pub begins : node.offset ≡ 0
  pub no_bytes : node.bytes.items ≡ []
  pub no_views : node.views.items ≡ []
  pub names_are : map (λ b. b.items) node.buffers.blocks.items ≡ names
  pub put : IsPut node v old new

-- a node of truth values that begin at a bit of their first byte, under the validity of a number: no bit is set before them or
-- after them, and there are as many bytes as they need
pub record IsBitsNode (first : ℕ) (bits : List Bool) (validity : ℕ) (node : WrittenNode) : Type 0 where
  pub kind : node.kind ≡ kind.Bool
  pub number : node.validity ≡ validity
  pub size_is : node.size ≡ 0
  pub len : node.length ≡ length bits
  pub low : first < 8
  pub begins : node.offset ≡ first
  pub is : node.bytes.items ≡ bits_bytes (replicate first false ++ bits)
  pub no_views : node.views.items ≡ []
  pub no_buffers : node.buffers.blocks.items ≡ []
  pub faultless : bits_fault node.bytes.items node.offset node.length ≡ None
