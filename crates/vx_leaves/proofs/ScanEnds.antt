-- Where a scan of codes ends, and what the marks of a block say of the values.
use Rattle.std.proofs.Common.{ℕ, zero, suc, ◌+◌, ◌-◌, ◌<◌, ◌≤◌, ◌%◌, ◌≡◌, Bool, true, false, not, List, [], ◌∷◌, length, take, drop, length-take, length-drop, inl, inr, refl, sym, ◌∙◌, ap, subst, arith}
use Rattle.std.specs.Bool.{beq}
use Rattle.std.specs.List.{list_any}
use Rattle.std.proofs.lemmas.Bool.{false≢true, cases_lt}
use Rattle.std.proofs.lemmas.List.{get_or-take, get_or-drop}
use Rattle.vx_base.specs.Bits.{bool_at}
use Rattle.vx_base.specs.Rows.{position_in}
use Rattle.vx_tree.specs.Tree.{Tree}
use Rattle.vx_tree.specs.Meaning.{tree_len, row_at}
use Rattle.vx_leaves.specs.Dictionaries.{IsNamedBefore, AreNamed}
use Rattle.vx_leaves.specs.Scan.{MayEnd, IsScanEnd, NameAllBefore}

-- ---- the least place at which a scan may end

-- up to place n it may not end
abbrev pub NoneUpTo : ℕ → (ℕ → Type 0) → ℕ → Type 0
NoneUpTo len Found n = (k : ℕ) → k ≤ n → ¬ (MayEnd len Found k)

module _ (len : ℕ) (Found : ℕ → Type 0) (start : ℕ) (whole : start % 2048 ≡ 0) (none : NoneUpTo len Found start) where
  next_block : (k : ℕ) → start < k → k ≤ start + 2048 → k % 2048 ≡ 0 → k ≡ start + 2048
  next_block k after upto k_whole = omega arith

  pub none_found : ¬ (Found (start + 2048)) → NoneUpTo len Found (start + 2048)
  none_found missing k upto may = elim (cases_lt start k) [ inl after ↦ missing (subst Found (next_block k after upto may.1) may.3) | inr before ↦ none k before may ]

  pub found_here : start + 2048 < len → Found (start + 2048) → IsScanEnd len Found (start + 2048)
  found_here within found = record {
    there = inr (omega arith, omega arith, within, found);
    least = λ k before may. elim (cases_lt start k) [
      | inl after ↦ let next : k ≡ start + 2048 = next_block k after (omega arith) may.1 in absurd (omega arith)
      | inr upto ↦ none k upto may
    ];
  }

-- ---- marks

module _ (c : Tree) (n count : ℕ) (r : Bool) (bits : List Bool) (named : AreNamed c n count r bits) where
  -- a mark stays
  pub still_marked : (m : ℕ) (new : List Bool) (j : ℕ) → n ≤ m → AreNamed c m count r new → j < count → bool_at bits j ≡ r → bool_at new j ≡ r
  still_marked m new j upto after inside is =
      let found : IsNamedBefore c n j = (named.each j inside).0 is in
      let before : found.0 < n = found.1 in
      (after.each j inside).1 (found.0, omega arith, found.2)

  pub names_all : ((j : ℕ) → j < length bits → bool_at bits j ≡ r) → NameAllBefore c count n
  names_all all j inside = (named.each j inside).0 (all j (omega (arith, named.len)))

  pub all_by_names : NameAllBefore c count n → (j : ℕ) → j < length bits → bool_at bits j ≡ r
  all_by_names names j inside = let here : j < count = omega (arith, named.len) in (named.each j here).1 (names j here)

-- ---- one row, however often

module _ (c : Tree) (count : ℕ) (alike : (i : ℕ) → row_at c i ≡ row_at c 0) where
  first_names : (n : ℕ) → NameAllBefore c count n → NameAllBefore c count 1
  first_names n names j inside = let found : IsNamedBefore c n j = names j inside in (0, omega arith, ap position_in (sym (alike found.0)) ∙ found.2)

  -- where the first row names all, a block is enough
  pub block_ends : 2048 < tree_len c → NameAllBefore c count 1 → IsScanEnd (tree_len c) (NameAllBefore c count) 2048
  block_ends more names = record {
    there = inr (omega arith, omega arith, more, λ j inside. let found : IsNamedBefore c 1 j = names j inside in let first : found.0 < 1 = found.1 in (found.0, omega arith, found.2));
    least = λ n before may. let some : 0 < n = may.0 in let whole : n % 2048 ≡ 0 = may.1 in absurd (omega arith);
  }

  -- else it ends with the rows
  pub rows_end : (2048 < tree_len c → ¬ (NameAllBefore c count 1)) → IsScanEnd (tree_len c) (NameAllBefore c count) (tree_len c)
  rows_end missing = record {
    there = inl refl;
    least = λ n before may.
        let some : 0 < n = may.0 in
        let whole : n % 2048 ≡ 0 = may.1 in
        let within : n < tree_len c = may.2 in
        missing (omega arith) (first_names n may.3);
  }

-- ---- marks that are looked at together

none_other : (r : Bool) (bs : List Bool) → list_any (λ y. beq y (not r)) bs ≡ false → (j : ℕ) → j < length bs → bool_at bs j ≡ r
none_other r [] none j inside = absurd (omega arith)
none_other true (true ∷ bs) none zero inside = refl
none_other true (true ∷ bs) none (suc j) inside = none_other true bs none j (omega arith)
none_other true (false ∷ bs) none j inside = absurd (false≢true (sym none))
none_other false (false ∷ bs) none zero inside = refl
none_other false (false ∷ bs) none (suc j) inside = none_other false bs none j (omega arith)
none_other false (true ∷ bs) none j inside = absurd (false≢true (sym none))

other_there : (r : Bool) (bs : List Bool) → list_any (λ y. beq y (not r)) bs ≡ true → ((j : ℕ) → j < length bs → bool_at bs j ≡ r) → ⊥
other_there r [] some all = absurd (false≢true some)
other_there true (true ∷ bs) some all = other_there true bs some (λ j inside. all (suc j) (omega arith))
other_there true (false ∷ bs) some all = false≢true (all 0 (omega arith))
other_there false (false ∷ bs) some all = other_there false bs some (λ j inside. all (suc j) (omega arith))
other_there false (true ∷ bs) some all = false≢true (sym (all 0 (omega arith)))

-- ---- a cursor over marks

-- a place of a step
step_read : (marks : List Bool) (cursor m n : ℕ) (step : List Bool) → step ≡ take m (take n (drop cursor marks)) → (k : ℕ) → k < length step → (bool_at step k ≡ bool_at marks (cursor + k)) × (cursor + k < length marks)
step_read marks cursor m n step made k within =
    let first : k < m = omega (arith, ap length made, length-take m (take n (drop cursor marks))) in
    let second : k < n = omega (arith, ap length made, length-take m (take n (drop cursor marks)), length-take n (drop cursor marks)) in (
      ap (λ bs. bool_at bs k) made ∙ get_or-take m (take n (drop cursor marks)) k false first ∙ get_or-take n (drop cursor marks) k false second ∙ get_or-drop cursor marks k false,
      omega (arith, ap length made, length-take m (take n (drop cursor marks)), length-take n (drop cursor marks), length-drop cursor marks),
    )

-- the places of a step that is all marked
pub step_marked : (marks : List Bool) (cursor m n : ℕ) (r : Bool) (step : List Bool) → step ≡ take m (take n (drop cursor marks)) → ((j : ℕ) → j < cursor → bool_at marks j ≡ r) → list_any (λ y. beq y (not r)) step ≡ false
    → (j : ℕ) → j < cursor + length step → bool_at marks j ≡ r
step_marked marks cursor m n r step made before none j inside = elim (cases_lt j cursor) [
  | inl less ↦ before j less
  | inr after ↦
      let k : ℕ = j - cursor in
      let at : cursor + k ≡ j = omega arith in
      let within : k < length step = omega arith in
      ap (bool_at marks) (sym at) ∙ sym (step_read marks cursor m n step made k within).0 ∙ none_other r step none k within
]

-- a step that is not
pub step_unmarked : (marks : List Bool) (cursor m n : ℕ) (r : Bool) (step : List Bool) → step ≡ take m (take n (drop cursor marks)) → list_any (λ y. beq y (not r)) step ≡ true → ((j : ℕ) → j < length marks → bool_at marks j ≡ r) → ⊥
step_unmarked marks cursor m n r step made some all =
    other_there r step some (λ k within. let read = step_read marks cursor m n step made k within in read.0 ∙ all (cursor + k) read.1)
