-- Lists that stand in runs: the rows of each run are a piece.
use Rattle.std.proofs.Common.{◌≡◌, ◌∙◌, ◌+◌, ◌-◌, ◌<◌, ◌≤◌, ◌⊎◌, inl, inr, ℕ, List, [], ◌∷◌, ◌++◌, length, map, get_or, refl, sym, ap}
use Rattle.std.proofs.Common.{subst, arith, zero-add}
use Rattle.std.specs.List.{flat_map, range_with_len}
use Rattle.std.proofs.lemmas.List.{append-nil, append_assoc, map-append}
use Rattle.std.proofs.lemmas.List.Elements.{All-cons, All-nil}
use Rattle.vx_base.proofs.ListParts.{map_range_same}
use Rattle.vx_base.proofs.Runs.{range_append}
use Rattle.vx_base.specs.Integers.{numbers}
use Rattle.vx_base.specs.Kinds.{Kind}
use Rattle.vx_base.specs.Rows.{Row}
use Rattle.vx_base.specs.declared.ptypes.PType.{PType}
use Rattle.vx_tree.specs.Meaning.{kind_of, row_at, tree_len}
use Rattle.vx_tree.specs.Tree.{Tree}
use Rattle.vx_pack.proofs.JoinedPieces.{AreJoined-append, AreJoined-nil}
use Rattle.vx_pack.proofs.JoinedRuns.{all_items_of_lists}
use Rattle.vx_pack.proofs.PieceRows.{pieces_rows-one}
use Rattle.vx_pack.proofs.StoredLists.{positions_more}
use Rattle.vx_pack.specs.CountBytes.{counts_of}
use Rattle.vx_pack.specs.Packed.{items_or_blank}
use Rattle.vx_pack.specs.Parts.{IsPartOf, part_row}
use Rattle.vx_pack.specs.Pieces.{AreJoined, ArePushedRows, IsPiece}
use Rattle.vx_pack.specs.StoredLists.{AreListBytes, AreStoredLists, all_positions, positions_of, stored_sizes, stored_starts}
use Rattle.vx_pack.specs.declared.parts.Part.{Part}
use Rattle.vx_pack.specs.declared.pieces.Piece.{Piece}
use Rattle.vx_pack.specs.declared.pieces.Piece.TheVariants as piece
use Rattle.vx_pack.specs.declared.stored_lists.StoredLists.{StoredLists}

-- ---- rows at positions

pushed-nil : (e : Tree) (ps : List Piece) → ArePushedRows e [] ps ps
pushed-nil e ps = ([], AreJoined-nil (kind_of e), sym (append-nil ps))

pushed-append : (e : Tree) (ks ms : List ℕ) (before now after : List Piece) → ArePushedRows e ks before now → ArePushedRows e ms now after
    → ArePushedRows e (ks ++ ms) before after
pushed-append e ks ms before now after first second =
    let k = kind_of e in
    let f = row_at e in (
      first.0 ++ second.0,
      subst (λ rs. AreJoined k rs (first.0 ++ second.0)) (sym (map-append f ks ms))
          (AreJoined-append k (map f ks) (map f ms) first.0 second.0 first.1 second.1),
      second.2 ∙ ap (λ ps. ps ++ second.0) first.2 ∙ append_assoc before first.0 second.0,
    )

-- those of a run, as one piece
pub run_pushed : (e : Tree) (start n : ℕ) (p : Part) (before after : List Piece) → IsPartOf e start n p → after ≡ before ++ piece.Rows p ∷ []
    → ArePushedRows e (range_with_len start n) before after
run_pushed e start n p before after h is =
    let k = kind_of e in (
      piece.Rows p ∷ [],
      record {
        each = All-cons (IsPiece k) (piece.Rows p) [] h.part (All-nil (IsPiece k));
        rows =
            pieces_rows-one k (piece.Rows p)
            ∙ ap (λ m. map (part_row k p) (range_with_len 0 m)) h.len
            ∙ map_range_same (part_row k p) (row_at e) 0 start n
            (λ j l. h.rows k (0 + j) ∙ ap (λ i. row_at e (start + i)) (zero-add j));
      },
      is,
    )

-- a run without rows is none
pub no_run_pushed : (e : Tree) (start end : ℕ) (ps : List Piece) → end ≤ start → ArePushedRows e (range_with_len start (end - start)) ps ps
no_run_pushed e start end ps none =
    let size : end - start ≡ 0 = omega arith in
    rw size (pushed-nil e ps)

-- ---- run by run

-- the rows of the lists before place i: those that are pushed, and after them a run, which lies among the elements
pub record AreRunsUpTo (e : Tree) (starts sizes : List ℕ) (i start end : ℕ) (before now : List Piece) : Type 0 where
  pub ordered : start ≤ end
  pub within : end ≤ tree_len e
  pub pushed :
      (ks : List ℕ) × ArePushedRows e ks before now
      × (flat_map (positions_of starts sizes) (range_with_len 0 i) ≡ ks ++ range_with_len start (end - start))

pub no_list_yet : (e : Tree) (starts sizes : List ℕ) (ps : List Piece) → AreRunsUpTo e starts sizes 0 0 0 ps ps
no_list_yet e starts sizes ps = record {
  ordered = omega arith;
  within = omega arith;
  pushed = ([], pushed-nil e ps, refl);
}

-- the last run is pushed
pub last_run : (e : Tree) (starts sizes : List ℕ) (i start end : ℕ) (before now after : List Piece)
    → AreRunsUpTo e starts sizes i start end before now → ArePushedRows e (range_with_len start (end - start)) now after
    → ArePushedRows e (flat_map (positions_of starts sizes) (range_with_len 0 i)) before after
last_run e starts sizes i start end before now after h run =
    subst (λ ks. ArePushedRows e ks before after) (sym h.pushed.2)
    (pushed-append e h.pushed.0 (range_with_len start (end - start)) before now after h.pushed.1 run)

-- where a list ends, among so many elements
list_ends : (t u : PType) (os ss : List ℕ) (n i offset size : ℕ) → AreListBytes t os u ss n → i < length (numbers u ss)
    → offset ≡ get_or (counts_of t os) i 0 → size ≡ get_or (counts_of u ss) i 0 → offset + size ≤ n
list_ends t u os ss n i offset size lists inside at_offset at_size = omega (arith, at_offset, at_size, lists.within i inside)

-- and where the run ends with which it goes on
run_ends : (n offset size end : ℕ) → (size ≡ 0) ⊎ (offset ≡ end) → offset + size ≤ n → end ≤ n → end + size ≤ n
run_ends n offset size end meets ends within = elim meets [ inl none ↦ omega (arith, none, within) | inr met ↦ omega (arith, met, ends) ]

-- a list that goes on with the run, or has no elements
pub run_goes_on : (t u : PType) (e : Tree) (os ss : List ℕ) (i start end offset size more : ℕ) (before now : List Piece)
    → AreListBytes t os u ss (tree_len e) → i < length (numbers u ss) → offset ≡ get_or (counts_of t os) i 0 → size ≡ get_or (counts_of u ss) i 0
    → (size ≡ 0) ⊎ (offset ≡ end) → more ≡ end + size → AreRunsUpTo e (counts_of t os) (counts_of u ss) i start end before now
    → AreRunsUpTo e (counts_of t os) (counts_of u ss) (i + 1) start more before now
run_goes_on t u e os ss i start end offset size more before now lists inside at_offset at_size meets is h =
    let starts = counts_of t os in
    let sizes = counts_of u ss in
    let ordered = h.ordered in
    let ends = list_ends t u os ss (tree_len e) i offset size lists inside at_offset at_size in
    let from : start + (end - start) ≡ end = omega (arith, ordered) in
    let long : (end - start) + size ≡ more - start = omega (arith, ordered, is) in
    let place : range_with_len offset size ≡ range_with_len end size = elim meets [
      | inl none ↦ ap (range_with_len offset) none ∙ sym (ap (range_with_len end) none)
      | inr met ↦ ap (λ k. range_with_len k size) met
    ] in
    let reach = run_ends (tree_len e) offset size end meets ends h.within in
    let here : positions_of starts sizes (0 + i) ≡ range_with_len (start + (end - start)) size =
    ap (positions_of starts sizes) (zero-add i) ∙ (λ j. range_with_len (sym at_offset j) (sym at_size j)) ∙ place ∙ ap (λ k. range_with_len k size) (sym from) in
    let ks = h.pushed.0 in
    record {
      ordered = omega (arith, ordered, is);
      within = omega (arith, is, reach);
      pushed = (
        ks,
        h.pushed.1,
        positions_more starts sizes 0 i
            ∙ (λ j. h.pushed.2 j ++ here j)
            ∙ append_assoc ks (range_with_len start (end - start)) (range_with_len (start + (end - start)) size)
            ∙ ap (λ ms. ks ++ ms) (range_append start (end - start) size ∙ ap (range_with_len start) long),
      );
    }

-- a list with which a run begins, once the one before it is pushed
pub run_begins : (t u : PType) (e : Tree) (os ss : List ℕ) (i start end offset size more : ℕ) (before now after : List Piece)
    → AreListBytes t os u ss (tree_len e) → i < length (numbers u ss) → offset ≡ get_or (counts_of t os) i 0 → size ≡ get_or (counts_of u ss) i 0
    → more ≡ offset + size → AreRunsUpTo e (counts_of t os) (counts_of u ss) i start end before now
    → ArePushedRows e (range_with_len start (end - start)) now after
    → AreRunsUpTo e (counts_of t os) (counts_of u ss) (i + 1) offset more before after
run_begins t u e os ss i start end offset size more before now after lists inside at_offset at_size is h run =
    let starts = counts_of t os in
    let sizes = counts_of u ss in
    let ends = list_ends t u os ss (tree_len e) i offset size lists inside at_offset at_size in
    let long : size ≡ more - offset = omega (arith, is) in
    let old = flat_map (positions_of starts sizes) (range_with_len 0 i) in
    let here : positions_of starts sizes (0 + i) ≡ range_with_len offset (more - offset) =
    ap (positions_of starts sizes) (zero-add i) ∙ (λ j. range_with_len (sym at_offset j) (sym at_size j)) ∙ ap (range_with_len offset) long in
    record {
      ordered = omega (arith, is);
      within = omega (arith, is, ends);
      pushed = (old, last_run e starts sizes i start end before now after h run, positions_more starts sizes 0 i ∙ ap (λ ms. old ++ ms) here);
    }

-- ---- the rows of stored lists

pub joined_of_stored : (item : Kind) (blank : ℕ) (rs : List Row) (s : StoredLists) (ps : List Piece) → AreStoredLists item rs s
    → AreJoined (kind_of s.elements.now) (map (row_at s.elements.now) (all_positions (stored_starts s) (stored_sizes s))) ps
    → AreJoined item (flat_map (items_or_blank item blank) rs) ps
joined_of_stored item blank rs s ps stored h =
    let rows = all_items_of_lists item blank 0 rs stored.there ∙ stored.rows in
    subst (λ k. AreJoined k (flat_map (items_or_blank item blank) rs) ps) stored.kind
    (subst (λ xs. AreJoined (kind_of s.elements.now) xs ps) (sym rows) h)
