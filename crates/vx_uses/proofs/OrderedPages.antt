-- What refuses a page that is put in another order.
use Rattle.std.proofs.Common.{◌≡◌, ℕ, ◌-◌, ◌≤◌, Bool, true, false, cond, Option, Some, None, refl, sym, ◌∙◌, ap, arith}
use Rattle.vx_base.specs.Kinds.{is_integers}
use Rattle.vx_base.specs.Refusals.{Refusal, mismatched_types, or_else}
use Rattle.vx_tree.specs.Tree.{Tree}
use Rattle.vx_tree.specs.Faults.{slice_fault, indices_fault, take_overflow, take_fault}
use Rattle.vx_tree.specs.Meaning.{tree_len, kind_of}
use Rattle.vx_uses.specs.Uses.{page_fault}

-- the faults of an order of so many rows
abbrev pub order_fault : ℕ → Tree → Option Refusal
order_fault len order = cond (is_integers (kind_of order)) (indices_fault len order) (Some mismatched_types)

joined : (b : Bool) (first second : Option Refusal) (r : Refusal) → or_else (cond b first (Some r)) second ≡ cond b (or_else first second) (Some r)
joined true first second r = refl
joined false first second r = refl

none_after : (fault : Option Refusal) → or_else fault None ≡ fault
none_after None = refl
none_after (Some f) = refl

module _ (column page order : Tree) (start end : ℕ) (len : tree_len page ≡ end - start) (needs : (n : ℕ) → take_overflow page n ≡ take_overflow column n)
    (within : slice_fault (tree_len column) start end ≡ None) where
  -- the fault of taking from the page is that of the page, then of counting so many rows of the column
  pub faults_in_order : or_else (page_fault column start end order) (take_overflow column (tree_len order)) ≡ take_fault page order
  faults_in_order =
      ap (λ f. or_else (or_else f (order_fault (end - start) order)) (take_overflow column (tree_len order))) within
      ∙ ap (λ n. or_else (order_fault n order) (take_overflow column (tree_len order))) (sym len)
      ∙ ap (λ f. or_else (order_fault (tree_len page) order) f) (sym (needs (tree_len order)))
      ∙ joined (is_integers (kind_of order)) (indices_fault (tree_len page) order) (take_overflow page (tree_len order)) mismatched_types

  -- no more rows than the page has can be counted
  pub fault_no_longer : ((n : ℕ) → n ≤ tree_len page → take_overflow page n ≡ None) → tree_len order ≤ end - start
      → page_fault column start end order ≡ take_fault page order
  fault_no_longer fewer short =
      let none : take_overflow column (tree_len order) ≡ None = sym (needs (tree_len order)) ∙ fewer (tree_len order) (omega (arith, len)) in
      sym (none_after (page_fault column start end order))
      ∙ ap (λ f. or_else (page_fault column start end order) f) (sym none)
      ∙ faults_in_order
