-- Elements that are marked in ranges, or by runs of blocks that are marked in the end.
use Rattle.std.proofs.Common.{◌≡◌, ℕ, ◌+◌, ◌-◌, ◌*◌, ◌/◌, ◌<◌, ◌≤◌, Bool, true, false, List, ◌++◌, length, take, drop, replicate, get_or, set, max, refl, sym, ◌∙◌, ap, subst, inl, inr, arith}
use Rattle.std.specs.Prelude.{◌⊎◌, ◌↔◌}
use Rattle.std.proofs.lemmas.Bool.{cases_lt, cases_eq, false≢true}
use Rattle.std.proofs.lemmas.List.{length-append, length-take-le, length-replicate, length-drop, get_or_append_left, get_or-take, get_or-drop, get_or-replicate, get_or_past, get_or-set_same, get_or-set_other}
use Rattle.std.proofs.Math.Seq.{get_or-append_right}
use Rattle.vx_base.specs.Bits.{bool_at}
use Rattle.vx_lists.specs.ListViews.References.{LiesIn, AreMarked, AreBlockRuns, LiesInRuns, IsCovered}

-- ---- a range of booleans that is made true

module _ (bits : List Bool) (start end : ℕ) (ordered : start ≤ end) (within : end ≤ length bits) where
  abbrev filled : List Bool
  filled = take start bits ++ replicate (end - start) true ++ drop end bits

  first_len : length (take start bits) ≡ start
  first_len = length-take-le start bits (omega arith)

  middle_len : length (take start bits ++ replicate (end - start) true) ≡ end
  middle_len = length-append (take start bits) (replicate (end - start) true) ∙ omega (arith, first_len, length-replicate (end - start) true)

  pub length-filled : length filled ≡ length bits
  length-filled = length-append (take start bits ++ replicate (end - start) true) (drop end bits) ∙ omega (arith, middle_len, length-drop end bits)

  filled_before : (k : ℕ) → k < start → bool_at filled k ≡ bool_at bits k
  filled_before k before =
      get_or_append_left (take start bits ++ replicate (end - start) true) (drop end bits) false k (omega (arith, middle_len))
      ∙ get_or_append_left (take start bits) (replicate (end - start) true) false k (omega (arith, first_len))
      ∙ get_or-take start bits k false before

  filled_inside : (k : ℕ) → start ≤ k → k < end → bool_at filled k ≡ true
  filled_inside k from to =
      get_or_append_left (take start bits ++ replicate (end - start) true) (drop end bits) false k (omega (arith, middle_len))
      ∙ get_or-append_right (take start bits) (replicate (end - start) true) k false (omega (arith, first_len))
      ∙ get_or-replicate (end - start) (k - length (take start bits)) true false (omega (arith, first_len))

  filled_after : (k : ℕ) → end ≤ k → bool_at filled k ≡ bool_at bits k
  filled_after k after =
      let place : end + (k - length (take start bits ++ replicate (end - start) true)) ≡ k = omega (arith, middle_len) in
      get_or-append_right (take start bits ++ replicate (end - start) true) (drop end bits) k false (omega (arith, middle_len))
      ∙ get_or-drop end bits (k - length (take start bits ++ replicate (end - start) true)) false
      ∙ ap (bool_at bits) place

  -- true is what was true, and the range
  filled_each : (k : ℕ) → (bool_at filled k ≡ true) ↔ ((bool_at bits k ≡ true) ⊎ ((start ≤ k) × (k < end)))
  filled_each k =
      elim (cases_lt k start) [
        | inl less ↦ ((λ is. inl (sym (filled_before k less) ∙ is)), (λ found. elim found [ inl was ↦ filled_before k less ∙ was | inr here ↦ absurd (let low : start ≤ k = here.0 in omega arith) ]))
        | inr from ↦
            elim (cases_lt k end) [
              | inl to ↦ ((λ _. inr (from, to)), (λ _. filled_inside k from to))
              | inr more ↦ ((λ is. inl (sym (filled_after k more) ∙ is)), (λ found. elim found [ inl was ↦ filled_after k more ∙ was | inr here ↦ absurd (let high : k < end = here.1 in omega arith) ]))
            ]
      ]

-- the same of booleans that are filled so
bool_at-filled : (bits bits' : List Bool) (start end : ℕ) → start ≤ end → end ≤ length bits → bits' ≡ take start bits ++ replicate (end - start) true ++ drop end bits → (k : ℕ) → (bool_at bits' k ≡ true) ↔ ((bool_at bits k ≡ true) ⊎ ((start ≤ k) × (k < end)))
bool_at-filled bits bits' start end ordered within filled_is k = rw filled_is (filled_each bits start end ordered within k)

-- ---- a list

-- a range that is marked covers what was covered, and the range
pub IsCovered-range : (bits bits' : List Bool) (runs : List ℕ) (start end : ℕ) → start ≤ end → end ≤ length bits → bits' ≡ take start bits ++ replicate (end - start) true ++ drop end bits → (k : ℕ) → IsCovered bits' runs k ↔ (IsCovered bits runs k ⊎ ((start ≤ k) × (k < end)))
IsCovered-range bits bits' runs start end ordered within filled_is k =
    let each = bool_at-filled bits bits' start end ordered within filled_is k in (
      (λ covered. elim covered [
        | inl is ↦ elim (each.0 is) [ inl was ↦ inl (inl was) | inr here ↦ inr here ]
        | inr lies ↦ inl (inr lies)
      ]),
      (λ found. elim found [
        | inl covered ↦ elim covered [ inl was ↦ inl (each.1 (inl was)) | inr lies ↦ inr lies ]
        | inr here ↦ inl (each.1 (inr here))
      ]),
    )

-- a longer run has what it had, and the blocks up to its new end
module _ (runs runs' : List ℕ) (first last end : ℕ) (inside : first < length runs) (end_is : end ≡ max (get_or runs first 0) last) (set_is : runs' ≡ set runs first end) (len : length runs' ≡ length runs) where
  here_is : get_or runs' first 0 ≡ max (get_or runs first 0) last
  here_is = ap (λ rs. get_or rs first 0) set_is ∙ get_or-set_same runs first end 0 inside ∙ end_is

  other_is : (b : ℕ) → (b ≡ first → ⊥) → get_or runs' b 0 ≡ get_or runs b 0
  other_is b other = ap (λ rs. get_or rs b 0) set_is ∙ get_or-set_other runs first b end 0 other

  run_of : (k b : ℕ) → b < length runs → b * 4096 ≤ k → k < get_or runs' b 0 * 4096 → LiesInRuns runs (length runs) k ⊎ ((first * 4096 ≤ k) × (k < last * 4096))
  run_of k b below low high =
      elim (cases_eq b first) [
        | inl same ↦
            let now : get_or runs' b 0 ≡ max (get_or runs b 0) last = ap (λ i. get_or runs' i 0) same ∙ here_is ∙ ap (λ i. max (get_or runs i 0) last) (sym same) in
            elim (cases_lt k (last * 4096)) [
              | inl less ↦ inr (omega arith, less)
              | inr more ↦ inl (b, below, low, omega arith)
            ]
        | inr other ↦ inl (b, below, low, let was : get_or runs' b 0 ≡ get_or runs b 0 = other_is b other in omega arith)
      ]

  kept_run : (k b : ℕ) → b < length runs → b * 4096 ≤ k → k < get_or runs b 0 * 4096 → LiesInRuns runs' (length runs') k
  kept_run k b below low high =
      elim (cases_eq b first) [
        | inl same ↦
            let now : get_or runs' b 0 ≡ max (get_or runs b 0) last = ap (λ i. get_or runs' i 0) same ∙ here_is ∙ ap (λ i. max (get_or runs i 0) last) (sym same) in
            (b, omega arith, low, omega arith)
        | inr other ↦ let was : get_or runs' b 0 ≡ get_or runs b 0 = other_is b other in (b, omega arith, low, omega arith)
      ]

  pub LiesInRuns-longer : (k : ℕ) → LiesInRuns runs' (length runs') k ↔ (LiesInRuns runs (length runs) k ⊎ ((first * 4096 ≤ k) × (k < last * 4096)))
  LiesInRuns-longer k = (
    (λ (lies : LiesInRuns runs' (length runs') k). let below : lies.0 < length runs' = lies.1 in run_of k lies.0 (omega arith) lies.2 lies.3),
    (λ found. elim found [
      | inl lies ↦ kept_run k lies.0 lies.1 lies.2 lies.3
      | inr here ↦ let high : k < last * 4096 = here.1 in (first, omega arith, here.0, omega (arith, here_is))
    ]),
  )

-- a long list: the ranges before and after its whole blocks are marked, and a run is longer
module _ (bits some all : List Bool) (runs runs' : List ℕ) (start first last end : ℕ) (low : start ≤ first * 4096) (middle : first ≤ last) (high : last * 4096 ≤ end) (within : end ≤ length bits)
    (some_is : some ≡ take start bits ++ replicate (first * 4096 - start) true ++ drop (first * 4096) bits)
    (all_is : all ≡ take (last * 4096) some ++ replicate (end - last * 4096) true ++ drop end some)
    (longer : (k : ℕ) → LiesInRuns runs' (length runs') k ↔ (LiesInRuns runs (length runs) k ⊎ ((first * 4096 ≤ k) × (k < last * 4096)))) where
  some_len : length some ≡ length bits
  some_len = ap length some_is ∙ length-filled bits start (first * 4096) low (omega arith)

  now_in : (k : ℕ) → IsCovered all runs' k → IsCovered bits runs k ⊎ ((start ≤ k) × (k < end))
  now_in k covered =
      let before = bool_at-filled bits some start (first * 4096) low (omega arith) some_is k in
      let after = bool_at-filled some all (last * 4096) end high (omega (arith, some_len)) all_is k in
      elim covered [
        | inl is ↦ elim (after.0 is) [
          | inl was ↦ elim (before.0 was) [ inl old ↦ inl (inl old) | inr head ↦ inr (head.0, let less : k < first * 4096 = head.1 in omega arith) ]
          | inr tail ↦ inr (let more : last * 4096 ≤ k = tail.0 in omega arith, tail.1)
        ]
        | inr lies ↦ elim ((longer k).0 lies) [
          | inl old ↦ inl (inr old)
          | inr here ↦ let more : first * 4096 ≤ k = here.0 in let less : k < last * 4096 = here.1 in inr (omega arith, omega arith)
        ]
      ]

  was_in : (k : ℕ) → IsCovered bits runs k ⊎ ((start ≤ k) × (k < end)) → IsCovered all runs' k
  was_in k found =
      let before = bool_at-filled bits some start (first * 4096) low (omega arith) some_is k in
      let after = bool_at-filled some all (last * 4096) end high (omega (arith, some_len)) all_is k in
      elim found [
        | inl covered ↦ elim covered [
          | inl old ↦ inl (after.1 (inl (before.1 (inl old))))
          | inr lies ↦ inr ((longer k).1 (inl lies))
        ]
        | inr here ↦ elim (cases_lt k (first * 4096)) [
          | inl head ↦ inl (after.1 (inl (before.1 (inr (here.0, head)))))
          | inr more ↦ elim (cases_lt k (last * 4096)) [
            | inl less ↦ inr ((longer k).1 (inr (more, less)))
            | inr tail ↦ inl (after.1 (inr (tail, here.1)))
          ]
        ]
      ]

  pub IsCovered-run : (k : ℕ) → IsCovered all runs' k ↔ (IsCovered bits runs k ⊎ ((start ≤ k) × (k < end)))
  IsCovered-run k = (now_in k, was_in k)

-- ---- the runs, one after another

-- the first b runs are marked, of which the blocks up to `done` are one
pub record AreRunsMarked (old : List Bool) (runs : List ℕ) (b done : ℕ) (new : List Bool) : Type 0 where
  pub len : length new ≡ length old
  pub done_within : done * 4096 ≤ length old
  pub each : (k : ℕ) → (bool_at new k ≡ true) ↔ ((bool_at old k ≡ true) ⊎ LiesInRuns runs b k)
  pub filled : (k : ℕ) → b * 4096 ≤ k → k < done * 4096 → bool_at new k ≡ true

pub AreRunsMarked-none : (old : List Bool) (runs : List ℕ) → AreRunsMarked old runs 0 0 old
AreRunsMarked-none old runs = record {
  len = refl;
  done_within = omega arith;
  each = λ k. (
    (λ is. inl is),
    (λ found. elim found [ inl was ↦ was | inr lies ↦ absurd (let none : lies.0 < 0 = lies.1 in omega arith) ]),
  );
  filled = λ k from to. absurd (omega arith);
}

-- what lies in a run goes on to lie in one
LiesInRuns-more : (runs : List ℕ) (b k : ℕ) → LiesInRuns runs b k → LiesInRuns runs (b + 1) k
LiesInRuns-more runs b k lies = let before : lies.0 < b = lies.1 in (lies.0, omega arith, lies.2, lies.3)

-- what lies in one run more lies in it or in one before
LiesInRuns-last : (runs : List ℕ) (b k : ℕ) → LiesInRuns runs (b + 1) k → LiesInRuns runs b k ⊎ ((b * 4096 ≤ k) × (k < get_or runs b 0 * 4096))
LiesInRuns-last runs b k lies =
    let before : lies.0 < b + 1 = lies.1 in
    elim (cases_lt lies.0 b) [
      | inl less ↦ inl (lies.0, less, lies.2, lies.3)
      | inr last ↦
          let here : lies.0 ≡ b = omega arith in
          let low : lies.0 * 4096 ≤ k = lies.2 in
          let high : k < get_or runs lies.0 0 * 4096 = lies.3 in
          let same : get_or runs lies.0 0 ≡ get_or runs b 0 = ap (λ i. get_or runs i 0) here in
          inr (omega arith, omega arith)
    ]

module _ (old : List Bool) (runs : List ℕ) (b done : ℕ) (bits : List Bool) (marked : AreRunsMarked old runs b done bits) (from : ℕ) (from_is : from ≡ max b done) where
  -- a run that ends no later than what is done is marked
  pub AreRunsMarked-short : get_or runs b 0 ≤ from → AreRunsMarked old runs (b + 1) done bits
  AreRunsMarked-short short = record {
    len = marked.len;
    done_within = marked.done_within;
    each = λ k. (
      (λ is. elim ((marked.each k).0 is) [ inl was ↦ inl was | inr lies ↦ inr (LiesInRuns-more runs b k lies) ]),
      (λ found. elim found [
        | inl was ↦ (marked.each k).1 (inl was)
        | inr lies ↦ elim (LiesInRuns-last runs b k lies) [
          | inl before ↦ (marked.each k).1 (inr before)
          | inr here ↦ let low : b * 4096 ≤ k = here.0 in let high : k < get_or runs b 0 * 4096 = here.1 in marked.filled k low (omega arith)
        ]
      ]),
    );
    filled = λ k low high. marked.filled k (omega arith) high;
  }

  -- of a longer one what is past that is marked
  module _ (to : ℕ) (to_is : to ≡ get_or runs b 0) (long : from < to) (within : to * 4096 ≤ length old) (bits' : List Bool) (filled_is : bits' ≡ take (from * 4096) bits ++ replicate (to * 4096 - from * 4096) true ++ drop (to * 4096) bits) where
    now_true : (k : ℕ) → (bool_at bits' k ≡ true) ↔ ((bool_at bits k ≡ true) ⊎ ((from * 4096 ≤ k) × (k < to * 4096)))
    now_true = bool_at-filled bits bits' (from * 4096) (to * 4096) (omega arith) (omega (arith, marked.len)) filled_is

    in_run : (k : ℕ) → b * 4096 ≤ k → k < to * 4096 → bool_at bits' k ≡ true
    in_run k low high =
        elim (cases_lt k (from * 4096)) [
          | inl less ↦ (now_true k).1 (inl (marked.filled k low (omega arith)))
          | inr more ↦ (now_true k).1 (inr (more, high))
        ]

    each_long : (k : ℕ) → (bool_at bits' k ≡ true) ↔ ((bool_at old k ≡ true) ⊎ LiesInRuns runs (b + 1) k)
    each_long k = (
      (λ is. elim ((now_true k).0 is) [
        | inl before ↦ elim ((marked.each k).0 before) [ inl was ↦ inl was | inr lies ↦ inr (LiesInRuns-more runs b k lies) ]
        | inr here ↦ let low : from * 4096 ≤ k = here.0 in let high : k < to * 4096 = here.1 in inr (b, omega arith, omega arith, omega arith)
      ]),
      (λ found. elim found [
        | inl was ↦ (now_true k).1 (inl ((marked.each k).1 (inl was)))
        | inr lies ↦ elim (LiesInRuns-last runs b k lies) [
          | inl before ↦ (now_true k).1 (inl ((marked.each k).1 (inr before)))
          | inr here ↦ let high : k < get_or runs b 0 * 4096 = here.1 in in_run k here.0 (omega arith)
        ]
      ]),
    )

    pub AreRunsMarked-long : AreRunsMarked old runs (b + 1) to bits'
    AreRunsMarked-long = record {
      len = ap length filled_is ∙ length-filled bits (from * 4096) (to * 4096) (omega arith) (omega (arith, marked.len)) ∙ marked.len;
      done_within = within;
      each = each_long;
      filled = λ k low high. in_run k (omega arith) high;
    }

-- ---- all lists

-- of n elements, just those that lie in one of the first m lists are covered
pub record AreCovered (starts ends : ℕ → ℕ) (m n : ℕ) (mask : List Bool) (runs : List ℕ) : Type 0 where
  pub len : length mask ≡ n
  pub runs_formed : AreBlockRuns n runs
  pub each : (k : ℕ) → k < n → IsCovered mask runs k ↔ LiesIn starts ends m k

module _ (starts ends : ℕ → ℕ) (n : ℕ) (mask : List Bool) (runs : List ℕ) (unset : mask ≡ replicate n false) (empty : runs ≡ replicate (n / 4096) 0) where
  none_covered : (k : ℕ) → k < n → IsCovered mask runs k → ⊥
  none_covered k inside covered = elim covered [
    | inl is ↦ false≢true (sym (ap (λ bs. bool_at bs k) unset ∙ get_or-replicate n k false false inside) ∙ is)
    | inr lies ↦
        let low : lies.0 < length runs = lies.1 in
        let high : k < get_or runs lies.0 0 * 4096 = lies.3 in
        let zero : get_or runs lies.0 0 ≡ 0 = ap (λ rs. get_or rs lies.0 0) empty ∙ get_or-replicate (n / 4096) lies.0 0 0 (omega (arith, ap length empty, length-replicate {A = ℕ} (n / 4096) 0)) in
        omega arith
  ]

  run_is : (b : ℕ) → get_or runs b 0 ≡ 0
  run_is b = ap (λ rs. get_or rs b 0) empty ∙ elim (cases_lt b (n / 4096)) [
    | inl less ↦ get_or-replicate (n / 4096) b 0 0 less
    | inr past ↦ get_or_past (replicate (n / 4096) 0) b 0 (omega (arith, length-replicate {A = ℕ} (n / 4096) 0))
  ]

  pub AreCovered-none : AreCovered starts ends 0 n mask runs
  AreCovered-none = record {
    len = ap length unset ∙ length-replicate n false;
    runs_formed = record { len = ap length empty ∙ length-replicate {A = ℕ} (n / 4096) 0; within = λ b. omega (arith, run_is b) };
    each = λ k inside. ((λ covered. absurd (none_covered k inside covered)), (λ (found : LiesIn starts ends 0 k). absurd (let none : found.0 < 0 = found.1 in omega arith)));
  }

module _ (starts ends : ℕ → ℕ) (m n : ℕ) (mask mask' : List Bool) (runs runs' : List ℕ) (covered : AreCovered starts ends m n mask runs) (same_len : length mask' ≡ length mask) (formed : AreBlockRuns n runs')
    (now : (k : ℕ) → k < n → IsCovered mask' runs' k ↔ (IsCovered mask runs k ⊎ ((starts m ≤ k) × (k < ends m)))) where
  in_more : (k : ℕ) → LiesIn starts ends m k ⊎ ((starts m ≤ k) × (k < ends m)) → LiesIn starts ends (m + 1) k
  in_more k found = elim found [
    | inl lies ↦ let before : lies.0 < m = lies.1 in (lies.0, omega arith, lies.2, lies.3)
    | inr here ↦ (m, omega arith, here.0, here.1)
  ]

  in_last : (k : ℕ) → LiesIn starts ends (m + 1) k → LiesIn starts ends m k ⊎ ((starts m ≤ k) × (k < ends m))
  in_last k lies =
      let below : lies.0 < m + 1 = lies.1 in
      elim (cases_lt lies.0 m) [
        | inl less ↦ inl (lies.0, less, lies.2, lies.3)
        | inr last ↦
            let here : lies.0 ≡ m = omega arith in
            inr (subst (λ i. starts i ≤ k) here lies.2, subst (λ i. k < ends i) here lies.3)
      ]

  pub AreCovered-more : AreCovered starts ends (m + 1) n mask' runs'
  AreCovered-more = record {
    len = same_len ∙ covered.len;
    runs_formed = formed;
    each = λ k inside. (
      (λ is. in_more k (elim ((now k inside).0 is) [ inl was ↦ inl ((covered.each k inside).0 was) | inr here ↦ inr here ])),
      (λ lies. (now k inside).1 (elim (in_last k lies) [ inl was ↦ inl ((covered.each k inside).1 was) | inr here ↦ inr here ])),
    );
  }

-- what was covered is marked in the end
pub AreMarked-covered : (starts ends : ℕ → ℕ) (m n : ℕ) (mask mask' : List Bool) (runs : List ℕ) → AreCovered starts ends m n mask runs → length mask' ≡ length mask → ((k : ℕ) → k < n → (bool_at mask' k ≡ true) ↔ IsCovered mask runs k) → AreMarked starts ends m n mask'
AreMarked-covered starts ends m n mask mask' runs covered same_len now = record {
  len = same_len ∙ covered.len;
  each = λ k inside. (
    (λ is. (covered.each k inside).0 ((now k inside).0 is)),
    (λ lies. (now k inside).1 ((covered.each k inside).1 lies)),
  );
}
