-- A packed form has the kind and as many rows as it is the packed form of.
use Rattle.std.proofs.Common.{◌≡◌, ◌∙◌, ℕ, suc, List, length, map, refl, ap}
use Rattle.std.proofs.lemmas.List.{length-map}
use Rattle.vx_base.specs.Kinds.{Kind, booleans, integers, texts, binaries, lists, fixed_lists, records, Kinds, no_kinds, kind}
use Rattle.vx_base.specs.Rows.{Row, truth_of}
use Rattle.vx_tree.specs.Meaning.{kind_of, kinds_of, tree_len}
use Rattle.vx_tree.specs.Tree.{Tree, Trees, no_trees, tree}
use Rattle.vx_tree.specs.Values.{bytes_in}
use Rattle.vx_text.specs.Items.{Item, IsArrayOf}
use Rattle.vx_pack.specs.Packed.{ArePacked, IsPacked, list_sizes, items_or_blank, number_or_zero, packed_valid}
use Rattle.vx_pack.proofs.BytesOfNumbers.{length-numbers_read}
use Rattle.vx_pack.proofs.PackedLists.{tree_len-packed_lists}
use Rattle.vx_pack.proofs.PackedValid.{nullable-packed_valid}

-- ---- how many rows

array_len : (k : Kind) (items : List Item) (t : Tree) → IsArrayOf k items t → tree_len t ≡ length items
array_len k items t h = ap tree_len h.tree ∙ h.parts.one_each

values_len : (k : Kind) (rs : List Row) (t : Tree) → IsArrayOf k (map bytes_in rs) t → tree_len t ≡ length rs
values_len k rs t h = array_len k (map bytes_in rs) t h ∙ length-map rs bytes_in

pub packed_len : (k : Kind) (rs : List Row) (t : Tree) → IsPacked k rs t → tree_len t ≡ length rs
packed_len (booleans n) rs t h = ap tree_len h ∙ length-map rs truth_of
packed_len (integers p n) rs t h = ap tree_len h ∙ length-numbers_read p (map number_or_zero rs) ∙ length-map rs number_or_zero
packed_len (texts n) rs t h = values_len (texts n) rs t h
packed_len (binaries n) rs t h = values_len (binaries n) rs t h
packed_len (lists k n) rs t h =
    ap tree_len h.1.2 ∙ tree_len-packed_lists h.1.0 (list_sizes k rs) (packed_valid n rs)
    ∙ length-map rs (λ r. length (items_or_blank k 0 r))
packed_len (fixed_lists k size n) rs t h = ap tree_len h.1.2
packed_len (records names ks n) rs t h = ap tree_len h.2

-- ---- the kind

array_kind : (k : Kind) (items : List Item) (t : Tree) → IsArrayOf k items t → kind_of t ≡ k
array_kind k items t h = ap kind_of h.tree

mutual
  pub packed_kind : (k : Kind) (rs : List Row) (t : Tree) → IsPacked k rs t → kind_of t ≡ k
  packed_kind (booleans n) rs t h = ap kind_of h ∙ ap booleans (nullable-packed_valid n rs)
  packed_kind (integers p n) rs t h = ap kind_of h ∙ ap (integers p) (nullable-packed_valid n rs)
  packed_kind (texts n) rs t h = array_kind (texts n) (map bytes_in rs) t h
  packed_kind (binaries n) rs t h = array_kind (binaries n) (map bytes_in rs) t h
  packed_kind (lists k n) rs t h =
      ap kind_of h.1.2 ∙ (λ i. lists (packed_kind k _ h.1.0 h.1.1 i) (nullable-packed_valid n rs i))
  packed_kind (fixed_lists k size n) rs t h =
      ap kind_of h.1.2 ∙ (λ i. fixed_lists (packed_kind k _ h.1.0 h.1.1 i) size (nullable-packed_valid n rs i))
  packed_kind (records names ks n) rs t h =
      ap kind_of h.2 ∙ (λ i. records names (packed_kinds 0 ks rs h.0 h.1 i) (nullable-packed_valid n rs i))

  pub packed_kinds : (c : ℕ) (ks : Kinds) (rs : List Row) (us : Trees) → ArePacked c ks rs us → kinds_of us ≡ ks
  packed_kinds c no_kinds rs no_trees h = refl
  packed_kinds c no_kinds rs (tree t us) h = absurd h
  packed_kinds c (kind k ks) rs no_trees h = absurd h
  packed_kinds c (kind k ks) rs (tree t us) h = λ i. kind (packed_kind k _ t h.0 i) (packed_kinds (suc c) ks rs us h.1 i)
