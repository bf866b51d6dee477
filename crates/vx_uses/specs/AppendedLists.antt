-- Lists that are appended and laid end to end.
use Rattle.std.specs.Prelude.{◌≡◌, true, false, List, length, Option, None}
use Rattle.std.specs.List.{flat_map}
use Rattle.vx_base.specs.declared.ptypes.PType.TheVariants.{U64}
use Rattle.vx_base.specs.Kinds.{Kind, integers, lists}
use Rattle.vx_base.specs.Refusals.{Refusal, or_else}
use Rattle.vx_base.specs.Rows.{Row}
use Rattle.vx_tree.specs.CanonicalFaults.{plain_overflow}
use Rattle.vx_tree.specs.Meaning.{kind_of}
use Rattle.vx_tree.specs.Plain.{IsPlain}
use Rattle.vx_tree.specs.RowParts.{items_in}
use Rattle.vx_tree.specs.Tree.{Tree}
use Rattle.vx_lists.specs.ListViews.Faults.{total_fault}
use Rattle.vx_lists.specs.ListViews.{is_list_view, offsets_of, sizes_of, flag_of}

-- lists in plain layout, as they are joined: not flagged, with offsets and sizes of type U64
pub record AreJoinedLists (t : Tree) : Type 0 where
  pub layout : is_list_view t ≡ true
  pub plain : IsPlain t
  pub flag : flag_of t ≡ false
  pub offsets : kind_of (offsets_of t) ≡ integers U64 false
  pub sizes : kind_of (sizes_of t) ≡ integers U64 false

-- lists of a kind, laid end to end with offsets and sizes of type U64: they have more elements than such a number counts, or
-- than can be taken
abbrev pub end_to_end_fault : Kind → List Row → Option Refusal
end_to_end_fault (lists item m) rs =
    or_else (total_fault U64 (length (flat_map items_in rs))) (plain_overflow item (length (flat_map items_in rs)))
end_to_end_fault _ rs = None
