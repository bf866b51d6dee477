-- The laws of the packed form.
use Rattle.std.proofs.Common.{◌≡◌, ◌∙◌, ℕ, suc, List, map, sym, ap, subst, arith, inl, inr}
use Rattle.std.specs.List.{flat_map}
use Rattle.vx_base.specs.Kinds.{Kind, booleans, integers, texts, binaries, lists, fixed_lists, records, Kinds, no_kinds, kind}
use Rattle.vx_base.specs.Rows.{Row}
use Rattle.vx_tree.specs.Meaning.{kind_of, rows}
use Rattle.vx_tree.specs.Tree.{Tree, Trees, no_trees, tree}
use Rattle.vx_tree.specs.Values.{bytes_in}
use Rattle.vx_text.specs.Items.{Item, IsArrayOf}
use Rattle.vx_pack.specs.Packed.{ArePacked, AreTooLarge, HasTooManyBuffers, IsPacked, field_or_default, items_or_blank}
use Rattle.vx_pack.specs.PackedLaws.{PackedIsHeld, PackedKeepsRows, PackedOnce, PackedTellsRows}
use Rattle.vx_pack.proofs.PackedLen.{packed_kind}
use Rattle.vx_pack.proofs.PackedOne.{packed_is_one}
use Rattle.vx_pack.proofs.PackedRows.{packed_rows}

pub packed_keeps_rows : PackedKeepsRows
packed_keeps_rows k rs t fits h = record { kind = packed_kind k rs t h; rows = packed_rows k rs t fits h }

same_packed : (k l : Kind) (rs ss : List Row) (t u : Tree) → k ≡ l → rs ≡ ss → IsPacked k rs t → IsPacked l ss u → t ≡ u
same_packed k l rs ss t u kinds same h j =
    packed_is_one l ss t u (subst (λ x. IsPacked x ss t) kinds (subst (λ x. IsPacked k x t) same h)) j

pub packed_tells_rows : PackedTellsRows
packed_tells_rows k l rs ss t u fit gfit h j = (
  (λ e. (
    sym (packed_kind k rs t h) ∙ ap kind_of e ∙ packed_kind l ss u j,
    sym (packed_rows k rs t fit h) ∙ ap rows e ∙ packed_rows l ss u gfit j,
  )),
  (λ both. same_packed k l rs ss t u both.0 both.1 h j),
)

pub packed_once : PackedOnce
packed_once k rs t u fits h j =
    sym (same_packed k (kind_of t) rs (rows t) t u (sym (packed_kind k rs t h)) (sym (packed_rows k rs t fits h)) h j)

-- ---- what has a packed form can be held

array_is_held : (k : Kind) (its : List Item) (t : Tree) → IsArrayOf k its t → HasTooManyBuffers its → ⊥
array_is_held k its t h (pieces, count, many) = omega (arith, h.parts.numbered, count h.parts.ends h.parts.cut)

mutual
  pub packed_is_held : PackedIsHeld
  packed_is_held (booleans n) rs t h large = large
  packed_is_held (integers p n) rs t h large = large
  packed_is_held (texts n) rs t h large = array_is_held (texts n) (map bytes_in rs) t h large
  packed_is_held (binaries n) rs t h large = array_is_held (binaries n) (map bytes_in rs) t h large
  packed_is_held (lists k n) rs t h (inl many) = omega (arith, h.0)
  packed_is_held (lists k n) rs t h (inr large) = packed_is_held k (flat_map (items_or_blank k 0) rs) h.1.0 h.1.1 large
  packed_is_held (fixed_lists k size n) rs t h (inl many) = omega (arith, h.0)
  packed_is_held (fixed_lists k size n) rs t h (inr large) = packed_is_held k (flat_map (items_or_blank k size) rs) h.1.0 h.1.1 large
  packed_is_held (records names ks n) rs t h large = packed_columns_are_held 0 ks rs h.0 h.1 large

  packed_columns_are_held : (c : ℕ) (ks : Kinds) (rs : List Row) (us : Trees) → ArePacked c ks rs us → AreTooLarge c ks rs → ⊥
  packed_columns_are_held c no_kinds rs us h large = large
  packed_columns_are_held c (kind k ks) rs no_trees h large = h
  packed_columns_are_held c (kind k ks) rs (tree t us) h (inl large) = packed_is_held k (map (field_or_default k c) rs) t h.0 large
  packed_columns_are_held c (kind k ks) rs (tree t us) h (inr large) = packed_columns_are_held (suc c) ks rs us h.1 large
