-- The nodes that are put are the tables of their arrays, each with the bytes that it has there.
use Rattle.std.proofs.Common.{◌≡◌, ℕ, Bool, List, [], ◌∷◌, ◌++◌, length, map, refl, sym, ◌∙◌, ap, append-nil}
use Rattle.std.specs.Global.{Vec}
use Rattle.std.specs.List.{flat_map}
use Rattle.std.proofs.lemmas.Simd.{map-map}
use Rattle.vx_base.specs.declared.ptypes.PType.{PType}
use Rattle.vx_base.specs.Integers.{numbers}
use Rattle.vx_tree.specs.Meaning.{trees_from}
use Rattle.vx_tree.specs.Tree.{Tree, Valid, non_nullable, all_valid, all_invalid, by_array}
use Rattle.vx_c.specs.declared.table.CodraskNode.{CodraskNode}
use Rattle.vx_c.specs.declared.table.NodeKind.{NodeKind}
use Rattle.vx_c.specs.declared.table.NodeKind.TheVariants.{Number}
use Rattle.vx_c.specs.declared.written.WrittenNode.{WrittenNode}
use Rattle.vx_c.specs.NodeKinds.{kind_number, valid_number}
use Rattle.vx_c.specs.TablesOf.{view_with, bytes_with, bytes_node, views_node, parent_node, bits_node, table_of, tables_of, valid_table}
use Rattle.vx_c.specs.Written.{IsParent, IsBitsNode, node_of, valid_trees}

-- ---- lists of tables

-- the table of a validity, and those that follow
pub exact-valid : (u : Valid) (us : List Tree) → flat_map table_of (valid_trees u ++ us) ≡ valid_table u ++ flat_map table_of us
exact-valid non_nullable us = refl
exact-valid all_valid us = refl
exact-valid all_invalid us = refl
exact-valid (by_array t) us = refl

-- those of columns
pub exact-columns : (ts : List Tree) → tables_of (trees_from ts) ≡ flat_map table_of ts
exact-columns [] = refl
exact-columns (t ∷ ts) = ap (λ (ns : List CodraskNode). table_of t ++ ns) (exact-columns ts)

-- one after another
pub exact-two : (t u : Tree) → flat_map table_of (t ∷ u ∷ []) ≡ table_of t ++ table_of u
exact-two t u = ap (λ (ns : List CodraskNode). table_of t ++ ns) (append-nil (table_of u))

pub exact-three : (t u v : Tree) → flat_map table_of (t ∷ u ∷ v ∷ []) ≡ table_of t ++ (table_of u ++ table_of v)
exact-three t u v = ap (λ (ns : List CodraskNode). table_of t ++ ns) (exact-two u v)

-- ---- nodes

-- the blocks of buffers, at no place
blocks-placed : (blocks : List (Vec ℕ)) (bs : List (List ℕ)) → map (λ (b : Vec ℕ). b.items) blocks ≡ bs
    → map (λ (b : Vec ℕ). bytes_with b.items) blocks ≡ map bytes_with bs
blocks-placed blocks bs same = sym (map-map bytes_with (λ (b : Vec ℕ). b.items) blocks) ∙ ap (map bytes_with) same

pub bits_exact : (w : WrittenNode) (first : ℕ) (bits : List Bool) (n : ℕ) (u : Valid) → IsBitsNode first bits n w → n ≡ valid_number u → node_of w ≡ bits_node u first bits
bits_exact w first bits n u node same = λ j. record {
  kind = kind_number (node.kind j);
  validity = (node.number ∙ same) j;
  size = node.size_is j;
  length = node.len j;
  offset = node.begins j;
  bytes = record { ref_ptr = (0, 0); now = node.is j };
  views = record { ref_ptr = (0, 0); now = node.no_views j };
  buffers = record { ref_ptr = (0, 0); now = map (λ (b : Vec ℕ). bytes_with b.items) (node.no_buffers j) };
}

pub numbers_exact : (w : WrittenNode) (t : PType) (bs : List ℕ) (n : ℕ) (u : Valid) → w.kind ≡ Number t → w.validity ≡ n → w.size ≡ 0
    → w.length ≡ length (numbers t bs) → w.offset ≡ 0 → w.bytes.items ≡ bs → w.views.items ≡ [] → w.buffers.blocks.items ≡ [] → n ≡ valid_number u
    → node_of w ≡ bytes_node (Number t) u (length (numbers t bs)) bs
numbers_exact w t bs n u kind number size len begins bytes views buffers same = λ j. record {
  kind = kind_number (kind j);
  validity = (number ∙ same) j;
  size = size j;
  length = len j;
  offset = begins j;
  bytes = record { ref_ptr = (0, 0); now = bytes j };
  views = record { ref_ptr = (0, 0); now = views j };
  buffers = record { ref_ptr = (0, 0); now = map (λ (b : Vec ℕ). bytes_with b.items) (buffers j) };
}

pub values_exact : (w : WrittenNode) (k : NodeKind) (vs bs : List (List ℕ)) (n : ℕ) (u : Valid) → w.kind ≡ k → w.validity ≡ n → w.size ≡ 0
    → w.length ≡ length vs → w.offset ≡ 0 → w.bytes.items ≡ [] → w.views.items ≡ map view_with vs → map (λ (b : Vec ℕ). b.items) w.buffers.blocks.items ≡ bs
    → n ≡ valid_number u → node_of w ≡ views_node k u vs bs
values_exact w k vs bs n u kind number size len begins bytes views buffers same = λ j. record {
  kind = kind_number (kind j);
  validity = (number ∙ same) j;
  size = size j;
  length = len j;
  offset = begins j;
  bytes = record { ref_ptr = (0, 0); now = bytes j };
  views = record { ref_ptr = (0, 0); now = views j };
  buffers = record { ref_ptr = (0, 0); now = blocks-placed w.buffers.blocks.items bs buffers j };
}

pub parent_exact : (k : NodeKind) (size len : ℕ) (names : List (List ℕ)) (v u : Valid) (old new : List WrittenNode) → (parent : IsParent k size len names v old new)
    → valid_number v ≡ valid_number u → node_of parent.node ≡ parent_node k u len size names
parent_exact k size len names v u old new parent same = λ j. record {
  kind = kind_number (parent.kind j);
  validity = (parent.validity ∙ same) j;
  size = parent.size_is j;
  length = parent.len_is j;
  offset = parent.begins j;
  bytes = record { ref_ptr = (0, 0); now = parent.no_bytes j };
  views = record { ref_ptr = (0, 0); now = parent.no_views j };
  buffers = record { ref_ptr = (0, 0); now = blocks-placed parent.node.buffers.blocks.items names parent.names_are j };
}
