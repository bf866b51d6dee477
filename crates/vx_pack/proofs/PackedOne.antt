-- Rows of a kind have one packed form.
use Rattle.std.proofs.Common.{◌≡◌, ◌∙◌, ◌<◌, ℕ, suc, List, [], length, map, refl, sym, ap, arith}
use Rattle.std.specs.List.{flat_map}
use Rattle.std.proofs.lemmas.List.{ext_get_or}
use Rattle.std.specs.Option.{is_some}
use Rattle.vx_base.specs.Kinds.{Kind, booleans, integers, texts, binaries, lists, fixed_lists, records, Kinds, no_kinds, kind}
use Rattle.vx_base.specs.Kinds.{is_nullable_kind}
use Rattle.vx_base.specs.Rows.{Row}
use Rattle.vx_tree.specs.Tree.{Tree, fixed_list, structure, view_array, Trees, no_trees, tree}
use Rattle.vx_tree.specs.Values.{bytes_in}
use Rattle.vx_text.specs.Items.{AreCut, Item, IsArrayOf, heap_lens, heap_of, item_view, valid_items}
use Rattle.vx_views.proofs.CutPieces.{longest_same}
use Rattle.vx_views.specs.Cut.{IsMaximalCut}
use Rattle.vx_views.specs.Places.{pieces_of}
use Rattle.vx_views.specs.declared.view.TheConstants.{MAX_BUFFER_LEN}
use Rattle.vx_pack.specs.Packed.{ArePacked, field_or_default, items_or_blank, list_sizes, packed_lists, packed_valid}
use Rattle.vx_pack.specs.PackedLaws.{PackedIsOne}

-- ---- texts and byte lists

pub maximal_cut_is_one : (limit : ℕ) (lens ends others : List ℕ) → IsMaximalCut limit lens ends → IsMaximalCut limit lens others
    → ends ≡ others
maximal_cut_is_one limit lens ends others cut other =
    longest_same limit lens ends others 0 0 refl cut.cut.pieces cut.longest other.cut.pieces other.longest

-- the cut of items, their buffers and their views are determined
module _ (items : List Item) where
  same_ends : (bs cs vs ws : List (List ℕ)) (h : AreCut items bs vs) (j : AreCut items cs ws) → h.ends ≡ j.ends
  same_ends bs cs vs ws h j = maximal_cut_is_one MAX_BUFFER_LEN (heap_lens items) h.ends j.ends h.cut j.cut

  same_buffers : (bs cs vs ws : List (List ℕ)) → AreCut items bs vs → AreCut items cs ws → bs ≡ cs
  same_buffers bs cs vs ws h j = h.pieces ∙ ap (pieces_of (heap_of items) 0) (same_ends bs cs vs ws h j) ∙ sym j.pieces

  same_views : (bs cs vs ws : List (List ℕ)) → AreCut items bs vs → AreCut items cs ws → vs ≡ ws
  same_views bs cs vs ws h j =
      ext_get_or [] vs ws (h.one_each ∙ sym j.one_each) (λ i l.
      let inside : i < length items = omega (arith, h.one_each) in
      h.each i inside ∙ ap (λ ends. item_view items ends i) (same_ends bs cs vs ws h j) ∙ sym (j.each i inside))

  pub array_is_one : (k : Kind) (t u : Tree) → IsArrayOf k items t → IsArrayOf k items u → t ≡ u
  array_is_one k t u h j =
      let views : h.views ≡ j.views = same_views h.buffers j.buffers h.views j.views h.parts j.parts in
      let buffers : h.buffers ≡ j.buffers = same_buffers h.buffers j.buffers h.views j.views h.parts j.parts in
      h.tree ∙ (λ i. view_array (views i) (buffers i) k (valid_items (is_nullable_kind k) (map is_some items))) ∙ sym j.tree

-- ---- at every depth

mutual
  pub packed_is_one : PackedIsOne
  packed_is_one (booleans n) rs t u h j = h ∙ sym j
  packed_is_one (integers p n) rs t u h j = h ∙ sym j
  packed_is_one (texts n) rs t u h j = array_is_one (map bytes_in rs) (texts n) t u h j
  packed_is_one (binaries n) rs t u h j = array_is_one (map bytes_in rs) (binaries n) t u h j
  packed_is_one (lists k n) rs t u h j =
      let elements : h.1.0 ≡ j.1.0 = packed_is_one k (flat_map (items_or_blank k 0) rs) h.1.0 j.1.0 h.1.1 j.1.1 in
      h.1.2 ∙ ap (λ e. packed_lists e (list_sizes k rs) (packed_valid n rs)) elements ∙ sym j.1.2
  packed_is_one (fixed_lists k size n) rs t u h j =
      let elements : h.1.0 ≡ j.1.0 = packed_is_one k (flat_map (items_or_blank k size) rs) h.1.0 j.1.0 h.1.1 j.1.1 in
      h.1.2 ∙ ap (λ e. fixed_list e size (packed_valid n rs) (length rs)) elements ∙ sym j.1.2
  packed_is_one (records names ks n) rs t u h j =
      let columns : h.0 ≡ j.0 = packed_columns_are_one 0 ks rs h.0 j.0 h.1 j.1 in
      h.2 ∙ ap (λ us. structure names us (packed_valid n rs) (length rs)) columns ∙ sym j.2

  pub packed_columns_are_one : (c : ℕ) (ks : Kinds) (rs : List Row) (us vs : Trees) → ArePacked c ks rs us → ArePacked c ks rs vs → us ≡ vs
  packed_columns_are_one c no_kinds rs no_trees no_trees h j = refl
  packed_columns_are_one c no_kinds rs no_trees (tree u vs) h j = absurd j
  packed_columns_are_one c no_kinds rs (tree t us) vs h j = absurd h
  packed_columns_are_one c (kind k ks) rs no_trees vs h j = absurd h
  packed_columns_are_one c (kind k ks) rs (tree t us) no_trees h j = absurd j
  packed_columns_are_one c (kind k ks) rs (tree t us) (tree u vs) h j =
      λ i. tree (packed_is_one k (map (field_or_default k c) rs) t u h.0 j.0 i) (packed_columns_are_one (suc c) ks rs us vs h.1 j.1 i)
