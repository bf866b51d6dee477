-- What is packed is plain.
use Rattle.std.proofs.Common.{ℕ, suc, Bool, true, false, List, map, subst, sym}
use Rattle.std.specs.List.{flat_map}
use Rattle.std.specs.Option.{is_some}
use Rattle.vx_base.specs.Kinds.{Kind, booleans, integers, texts, binaries, lists, fixed_lists, records, Kinds, no_kinds, kind, is_nullable_kind}
use Rattle.vx_base.specs.Rows.{Row, is_present}
use Rattle.vx_canonical.proofs.PlainValues.{valid_from-has}
use Rattle.vx_tree.specs.Plain.{IsPlain, ArePlain, IsPlainValid}
use Rattle.vx_tree.specs.Tree.{Tree, Trees, no_trees, tree}
use Rattle.vx_tree.specs.Values.{bytes_in}
use Rattle.vx_text.specs.Items.{Item, IsArrayOf, valid_items}
use Rattle.vx_pack.specs.Packed.{IsPacked, ArePacked, packed_valid, items_or_blank, field_or_default}

plain_valid : (n : Bool) (rs : List Row) → IsPlainValid (packed_valid n rs)
plain_valid false rs = tt
plain_valid true rs = valid_from-has IsPlainValid (map is_present rs) tt tt tt

plain_items : (n : Bool) (present : List Bool) → IsPlainValid (valid_items n present)
plain_items false present = tt
plain_items true present = valid_from-has IsPlainValid present tt tt tt

plain_array : (k : Kind) (items : List Item) (t : Tree) → IsArrayOf k items t → IsPlain t
plain_array k items t made = subst IsPlain (sym made.tree) (plain_items (is_nullable_kind k) (map is_some items))

mutual
  pub packed_plain : (k : Kind) (rs : List Row) (t : Tree) → IsPacked k rs t → IsPlain t
  packed_plain (booleans n) rs t is = subst IsPlain (sym is) (plain_valid n rs)
  packed_plain (integers p n) rs t is = subst IsPlain (sym is) (plain_valid n rs)
  packed_plain (texts n) rs t is = plain_array (texts n) (map bytes_in rs) t is
  packed_plain (binaries n) rs t is = plain_array (binaries n) (map bytes_in rs) t is
  packed_plain (lists k n) rs t is =
      subst IsPlain (sym is.1.2) (packed_plain k (flat_map (items_or_blank k 0) rs) is.1.0 is.1.1, tt, tt, plain_valid n rs)
  packed_plain (fixed_lists k size n) rs t is =
      subst IsPlain (sym is.1.2) (packed_plain k (flat_map (items_or_blank k size) rs) is.1.0 is.1.1, plain_valid n rs)
  packed_plain (records names ks n) rs t is = subst IsPlain (sym is.2) (all_plain 0 ks rs is.0 is.1, plain_valid n rs)

  all_plain : (c : ℕ) (ks : Kinds) (rs : List Row) (us : Trees) → ArePacked c ks rs us → ArePlain us
  all_plain c no_kinds rs no_trees are = tt
  all_plain c no_kinds rs (tree t us) are = absurd are
  all_plain c (kind k ks) rs no_trees are = absurd are
  all_plain c (kind k ks) rs (tree t us) are = (packed_plain k (map (field_or_default k c) rs) t are.0, all_plain (suc c) ks rs us are.1)
