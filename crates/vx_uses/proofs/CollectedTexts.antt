-- Texts that came of an iterator over items that may be none.
use Rattle.std.proofs.Common.{◌≡◌, ℕ, ◌+◌, ◌<◌, ◌≤◌, true, List, length, map, take, get_or, Some, None, refl, sym, ◌∙◌, ap, subst, inl, inr, le-leb, arith}
use Rattle.std.specs.Prelude.{◌^◌, Option, IsSome, if◌then◌else◌}
use Rattle.std.specs.Borrow.{Bor}
use Rattle.std.specs.Iterator.{Drains}
use Rattle.std.proofs.lemmas.Iterator.{YieldsList}
use Rattle.std.proofs.lemmas.Iterator.Consumers.{YieldsList-so_far, YieldsList-turn}
use Rattle.std.proofs.lemmas.List.{ext_get_or, length-map, get_or-map, get_or-take, map-id}
use Rattle.vx_base.proofs.FirstFaults.{or_else-first, or_else-second, first_fault-found, first_fault-same}
use Rattle.vx_base.specs.Kinds.{texts}
use Rattle.vx_base.specs.Refusals.{Refusal, IsMemoryOr, first_fault, or_else, overflow, refusal_of}
use Rattle.vx_base.specs.Rows.{Row, null}
use Rattle.vx_base.specs.declared.errors.VortexError.{VortexError}
use Rattle.vx_views.proofs.BuildRefusals.{piece_count}
use Rattle.vx_views.specs.BuildFaults.{IsPieceCount, numbering_fault}
use Rattle.vx_views.specs.declared.view.TheConstants.{MAX_BUFFER_LEN}
use Rattle.vx_tree.specs.Meaning.{tree_len, row_at, rows}
use Rattle.vx_tree.specs.Tree.{Tree}
use Rattle.vx_text.specs.Collected.{maybe_value, AreRefused, IsFirstFaulty}
use Rattle.vx_text.specs.Items.{Item, IsArrayOf, item_at, item_fault, item_row, items_fault, heap_lens}
use Rattle.vx_uses.proofs.CollectedItems.{all_came}

-- by the law that each row has its place
pub rows_of_texts : ((t : Tree) → length (rows t) ≡ tree_len t) → ((t : Tree) (i : ℕ) (d : Row) → i < tree_len t → get_or (rows t) i d ≡ row_at t i)
    → (items : List Item) (a : Tree) → IsArrayOf (texts true) items a → rows a ≡ map (item_row true) items
rows_of_texts rows_len rows_each items a is =
    let len : tree_len a ≡ length items = ap tree_len is.tree ∙ is.parts.one_each in
    ext_get_or null (rows a) (map (item_row true) items) (rows_len a ∙ len ∙ sym (length-map items (item_row true)))
    (λ i inside.
    let in_a : i < tree_len a = omega (arith, rows_len a) in
    let in_items : i < length items = omega (arith, len) in
    rows_each a i null in_a ∙ is.rows i in_items ∙ sym (get_or-map (item_row true) items i None null in_items))

-- an array of items has no more buffers than can be numbered
numbered : (items : List Item) (a : Tree) (pieces : ℕ) → IsArrayOf (texts true) items a → IsPieceCount MAX_BUFFER_LEN (heap_lens items) pieces → numbering_fault 0 pieces ≡ None
numbered items a pieces is counted =
    let few : 0 + pieces ≤ 2 ^ 32 = omega (arith, counted is.parts.ends is.parts.cut, is.parts.numbered) in
    ap (λ b. if b then None else Some overflow) (le-leb (0 + pieces) (2 ^ 32) few)

module _ {S : Type 0} (steps : S → Option (Option (Bor (List ℕ))) → S → Type 0) (s : S) (items : List (Option (Bor (List ℕ)))) (given : YieldsList steps (λ x. x) s items) where
  abbrev values : List Item
  values = map maybe_value items

  abbrev fault : ℕ → Option Refusal
  fault i = item_fault true true i (item_at values i)

  pub texts_made : (a : Tree) → (all : List (Option (Bor (List ℕ)))) → Drains steps s all → IsArrayOf (texts true) (map maybe_value all) a → IsArrayOf (texts true) values a
  texts_made a all came is = subst (λ xs. IsArrayOf (texts true) (map maybe_value xs) a) (all_came steps s all items came given) is

  pub texts_faultless : (a : Tree) (all : List (Option (Bor (List ℕ)))) → Drains steps s all → items_fault true true (map maybe_value all) ≡ None → IsArrayOf (texts true) (map maybe_value all) a
      → (pieces : ℕ) → IsPieceCount MAX_BUFFER_LEN (heap_lens values) pieces → or_else (items_fault true true values) (numbering_fault 0 pieces) ≡ None
  texts_faultless a all came none is pieces counted =
      or_else-second (items_fault true true values) (numbering_fault 0 pieces) None
      (subst (λ xs. items_fault true true (map maybe_value xs) ≡ None) (all_came steps s all items came given) none)
      (numbered values a pieces (texts_made a all came is) counted)

  -- the first faulty item is that of the list
  first_faulty : (e : VortexError) → IsFirstFaulty steps s maybe_value (texts true) e → items_fault true true values ≡ refusal_of e
  first_faulty e is =
      let n = length is.before in
      let so_far : is.before ≡ take n items = sym (map-id is.before) ∙ YieldsList-so_far given is.before is.came.0 is.came.1 in
      let turn = YieldsList-turn given is.before is.came.0 is.came.1 (Some is.first) is.rest is.first refl is.came.2 in
      let inside : n < length items = turn.0 in
      let here : item_at values n ≡ maybe_value is.first = get_or-map maybe_value items n is.first None inside ∙ ap maybe_value (sym turn.1) in
      let found : fault n ≡ refusal_of e = ap (item_fault true true n) here ∙ is.here.1 in
      let before : (i : ℕ) → i < n → item_at (map maybe_value is.before) i ≡ item_at values i = λ i within.
      get_or-map maybe_value is.before i is.first None within ∙ ap (λ xs. maybe_value (get_or xs i is.first)) so_far ∙ ap maybe_value (get_or-take n items i is.first within)
      ∙ sym (get_or-map maybe_value items i is.first None (omega arith)) in
      let other : ℕ → Option Refusal = λ i. item_fault true true i (item_at (map maybe_value is.before) i) in
      let none : first_fault fault n ≡ None = sym (first_fault-same other fault n (λ i within. ap (item_fault true true i) (before i within)))
      ∙ subst (λ k. first_fault other k ≡ None) (length-map is.before maybe_value) is.faultless in
      first_fault-found fault (length values) n none (subst IsSome (sym found) is.here.0) (omega (arith, length-map items maybe_value)) ∙ found

  -- what is refused, with how many pieces there would be
  pub texts_refused : (e : VortexError) → AreRefused steps s maybe_value (texts true) e
      → (pieces : ℕ) × (IsPieceCount MAX_BUFFER_LEN (heap_lens values) pieces × IsMemoryOr (or_else (items_fault true true values) (numbering_fault 0 pieces)) e)
  texts_refused e (inl memory) = let n = piece_count MAX_BUFFER_LEN (heap_lens values) in (n.0, (n.1, inl memory))
  texts_refused e (inr (inl (some, same))) = let none = subst IsSome (sym same) some in absurd (cc)
  texts_refused e (inr (inr (texts_are, inl first))) =
      let n = piece_count MAX_BUFFER_LEN (heap_lens values) in
      (n.0, (n.1, inr (or_else-first (items_fault true true values) (numbering_fault 0 n.0) (refusal_of e) (first_faulty e first) first.here.0)))
  texts_refused e (inr (inr (texts_are, inr many))) =
      let all : many.all ≡ items = all_came steps s many.all items many.came given in
      let counted : IsPieceCount MAX_BUFFER_LEN (heap_lens values) many.pieces = subst (λ xs. IsPieceCount MAX_BUFFER_LEN (heap_lens (map maybe_value xs)) many.pieces) all many.counted in
      let none : items_fault true true values ≡ None = subst (λ xs. items_fault true true (map maybe_value xs) ≡ None) all many.faultless in
      (many.pieces, (counted, inr (or_else-second (items_fault true true values) (numbering_fault 0 many.pieces) (refusal_of e) none many.many.1)))
