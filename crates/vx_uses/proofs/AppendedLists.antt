-- Lists of two columns, joined, cut and laid end to end.
use Rattle.std.proofs.Common.{◌≡◌, Bool, true, false, List, [], ◌∷◌, ◌++◌, length, map, Option, Some, None, refl, sym, ◌∙◌, ap, inl, inr, arith}
use Rattle.std.specs.List.{flat_map, range_with_len}
use Rattle.std.proofs.lemmas.Bool.Decides.{eqb_tells}
use Rattle.vx_base.specs.declared.ptypes.PType.TheVariants.{U64}
use Rattle.vx_base.specs.Kinds.{Kind, lists, texts, binaries, integer_type}
use Rattle.vx_base.specs.Refusals.{Refusal, or_else}
use Rattle.vx_base.specs.Rows.{Row, null, boolean, whole, bytes, text, items, record_of, list_in}
use Rattle.vx_tree.specs.Faults.{take_overflow}
use Rattle.vx_tree.specs.Fitting.{AllFormed}
use Rattle.vx_tree.specs.Formed.{WellFormed, value_kind}
use Rattle.vx_tree.specs.Meaning.{kind_of, is_texts, nullable, rows, row_at, tree_len}
use Rattle.vx_tree.specs.Plain.{IsPlain}
use Rattle.vx_tree.specs.RowParts.{items_in}
use Rattle.vx_tree.specs.Tree.{Tree, bools, primitive, constant, dictionary, fixed_list, list_view, structure, view_array}
use Rattle.vx_tree.proofs.Counted.{take_overflow-fewer}
use Rattle.vx_canonical.proofs.PlainKinds.{take_overflow-plain}
use Rattle.vx_lists.specs.declared.list_view.rebuild.ListViewRebuildMode.TheVariants.{MakeZeroCopyToList}
use Rattle.vx_lists.specs.ListViews.Faults.{total_fault, either_total_fault, rebuild_overflow, rebuild_fault}
use Rattle.vx_lists.specs.ListViews.Layout.{StandsFor, items_of}
use Rattle.vx_lists.specs.ListViews.{is_list_view, list_layout_of, list_rows, rebuilt_ptype, total_of}
use Rattle.vx_lists.proofs.ListViews.TidyLayouts.{canonical_len}
use Rattle.vx_uses.specs.AppendedLists.{AreJoinedLists, end_to_end_fault}

-- ---- the layout of lists

values_are_no_lists : (u n : Bool) (k item : Kind) (m : Bool) → k ≡ value_kind u n → k ≡ lists item m → ⊥
values_are_no_lists true n k item m values is = let no : texts n ≡ lists item m = sym values ∙ is in cc
values_are_no_lists false n k item m values is = let no : binaries n ≡ lists item m = sym values ∙ is in cc

pub plain_lists : (t : Tree) (item : Kind) (m : Bool) → WellFormed t → IsPlain t → kind_of t ≡ lists item m → is_list_view t ≡ true
plain_lists (list_view e o s v f) item m formed plain is = refl
plain_lists (constant k r n) item m formed plain is = absurd plain
plain_lists (dictionary c v f) item m formed plain is = absurd plain
plain_lists (view_array vs bs k v) item m formed plain is = absurd (values_are_no_lists (is_texts k) (nullable v) k item m formed.1.kind is)
plain_lists (bools b bits v) item m formed plain is = cc
plain_lists (primitive t bs v) item m formed plain is = cc
plain_lists (fixed_list e k v n) item m formed plain is = cc
plain_lists (structure ns ts v n) item m formed plain is = cc

-- ---- what laying them end to end refuses

items_same : (r : Row) → items_of (list_in r) ≡ items_in r
items_same null = refl
items_same (boolean b) = refl
items_same (whole z) = refl
items_same (bytes b) = refl
items_same (text b) = refl
items_same (items rs) = refl
items_same (record_of fs) = refl

items_joined : (rs : List Row) → flat_map items_of (map list_in rs) ≡ flat_map items_in rs
items_joined [] = refl
items_joined (r ∷ rs) = λ i. items_same r i ++ items_joined rs i

or_same : (fault : Option Refusal) → or_else fault fault ≡ fault
or_same None = refl
or_same (Some r) = refl

-- how many elements the lists have in all
total_joined : (t : Tree) → StandsFor (list_layout_of t) (list_rows t) → total_of t ≡ length (flat_map items_in (rows t))
total_joined t stands =
    sym (canonical_len (list_layout_of t) stands.well_formed) ∙ ap (λ ls. length (flat_map items_of ls)) stands.same
    ∙ ap length (items_joined (rows t))

-- the law of list views: a well-formed one stands for its lists
abbrev ListViewsStand : Type 0
ListViewsStand = (t : Tree) → WellFormed t → is_list_view t ≡ true → StandsFor (list_layout_of t) (list_rows t)

some_refused : (t : Tree) → AreJoinedLists t → AllFormed t → ListViewsStand → rebuild_overflow t ≡ end_to_end_fault (kind_of t) (rows t)
some_refused (list_view e o s v f) joined formed stands =
    let t = list_view e o s v f in
    let total = length (flat_map items_in (rows t)) in
    let count = total_joined t (stands t formed.0 refl) in (
    λ i. or_else (either_total_fault (rebuilt_ptype (integer_type (joined.offsets i))) (rebuilt_ptype (integer_type (joined.sizes i))) (count i)) (take_overflow e (count i))
    )
    ∙ ap (λ fault. or_else fault (take_overflow e total)) (or_same (total_fault U64 total))
    ∙ ap (or_else (total_fault U64 total)) (take_overflow-plain e formed.1 joined.plain.0 total)
some_refused (bools b bits v) joined formed stands = let is = joined.layout in cc
some_refused (primitive t bs v) joined formed stands = let is = joined.layout in cc
some_refused (constant k r n) joined formed stands = let is = joined.layout in cc
some_refused (dictionary c v f) joined formed stands = let is = joined.layout in cc
some_refused (fixed_list e k v n) joined formed stands = let is = joined.layout in cc
some_refused (structure ns ts v n) joined formed stands = let is = joined.layout in cc
some_refused (view_array vs bs k v) joined formed stands = let is = joined.layout in cc

-- no lists are not refused
none_refused : (t : Tree) → AreJoinedLists t → AllFormed t → tree_len t ≡ 0 → end_to_end_fault (kind_of t) (rows t) ≡ None
none_refused (list_view e o s v f) joined formed none =
    let t = list_view e o s v f in
    ap (λ n. end_to_end_fault (kind_of t) (map (row_at t) (range_with_len 0 n))) none
    ∙ sym (take_overflow-plain e formed.1 joined.plain.0 0) ∙ take_overflow-fewer e formed.1 0 (omega arith)
none_refused (bools b bits v) joined formed none = let is = joined.layout in cc
none_refused (primitive t bs v) joined formed none = let is = joined.layout in cc
none_refused (constant k r n) joined formed none = let is = joined.layout in cc
none_refused (dictionary c v f) joined formed none = let is = joined.layout in cc
none_refused (fixed_list e k v n) joined formed none = let is = joined.layout in cc
none_refused (structure ns ts v n) joined formed none = let is = joined.layout in cc
none_refused (view_array vs bs k v) joined formed none = let is = joined.layout in cc

pub joined_refused : (t : Tree) → AreJoinedLists t → AllFormed t → ListViewsStand → rebuild_fault MakeZeroCopyToList t ≡ end_to_end_fault (kind_of t) (rows t)
joined_refused t joined formed stands = elim (eqb_tells (tree_len t) 0) [
  | inl alike ↦ rw alike.0 (sym (none_refused t joined formed alike.1))
  | inr apart ↦ rw (apart.0, joined.flag) (some_refused t joined formed stands)
]
