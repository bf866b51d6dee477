-- Views of the rows in runs.
use Rattle.std.proofs.Common.{ℕ, ◌+◌, ◌<◌, ◌≤◌, ◌≡◌, Bool, true, false, List, [], ◌∷◌, ◌++◌, length, take, map, get_or, leb, set, refl, sym, ◌∙◌, ap, inl, inr, arith}
use Rattle.std.specs.Prelude.{slice_index_or, ◌||◌, if◌then◌else◌}
use Rattle.std.specs.List.{All, range_with_len, flat_map}
use Rattle.std.proofs.lemmas.Bool.{cases_lt, le-leb, lt-leb}
use Rattle.std.proofs.lemmas.Bool.Decides.{nat_tests}
use Rattle.std.proofs.lemmas.List.{take_all, take_more, length-set, get_or-set_other}
use Rattle.std.proofs.lemmas.Grind.{get_or-set_at}
use Rattle.std.proofs.lemmas.List.Elements.{All-nil, All-push}
use Rattle.std.proofs.lemmas.List.FromFn.{fill_by_all}
use Rattle.vx_base.specs.Bits.{bool_at}
use Rattle.vx_base.specs.Selections.{run_positions}
use Rattle.vx_base.specs.Trues.{trues}
use Rattle.vx_base.specs.MaskRuns.{is_in_run, is_in_runs, AreRuns}
use Rattle.vx_base.proofs.MaskRuns.{run_in, run_before, run_past, runs_past, ends_before, or_true, or_false, is_in_runs-push, bool_at-marked, marked_from_trues}
use Rattle.vx_base.proofs.Runs.{All-right}
use Rattle.vx_base.proofs.SharedRuns.{in_none}
use Rattle.vx_views.specs.Views.{view_of}
use Rattle.vx_tree.specs.Operations.{valid_view}
use Rattle.vx_tree.proofs.ViewArrays.{empty_is_zeroes}

-- ---- views of some rows made empty

pub empty_none : (vs : List (List ℕ)) (start : ℕ)
    → (length vs ≡ length vs) × ((j : ℕ) → j < length vs → slice_index_or vs j [] ≡ (if is_in_run (start, start) j then view_of [] 0 0 else slice_index_or vs j []))
empty_none vs start = (refl, λ j l. sym (ap (λ (b : Bool). if b then view_of [] 0 0 else slice_index_or vs j []) (in_none start start j (omega arith))))

-- one row more
pub empty_more : (old vs : List (List ℕ)) (view : List ℕ) (start i : ℕ) → start ≤ i → i < length old → view ≡ view_of [] 0 0
    → (length vs ≡ length old) × ((j : ℕ) → j < length old → slice_index_or vs j [] ≡ (if is_in_run (start, i) j then view_of [] 0 0 else slice_index_or old j []))
    → (length (set vs i view) ≡ length old) × ((j : ℕ) → j < length old → slice_index_or (set vs i view) j [] ≡ (if is_in_run (start, i + 1) j then view_of [] 0 0 else slice_index_or old j []))
empty_more old vs view start i le within empty was = (
  length-set vs i view ∙ was.0,
  λ j l. elim (cases_lt j i) [
    | inl less ↦
        let same : is_in_run (start, i) j ≡ is_in_run (start, i + 1) j = grind (arith, nat_tests) in
        get_or-set_other vs i j view [] (omega (arith, less)) ∙ was.1 j l ∙ ap (λ (b : Bool). if b then view_of [] 0 0 else slice_index_or old j []) same
    | inr ge ↦ elim (cases_lt i j) [
      | inl past ↦
          let same : is_in_run (start, i) j ≡ is_in_run (start, i + 1) j = grind (arith, nat_tests) in
          get_or-set_other vs i j view [] (omega (arith, past)) ∙ was.1 j l ∙ ap (λ (b : Bool). if b then view_of [] 0 0 else slice_index_or old j []) same
      | inr small ↦
          get_or-set_at vs i j view [] (omega (arith, ge, small)) (omega (arith, within, was.0)) ∙ empty
          ∙ sym (ap (λ (b : Bool). if b then view_of [] 0 0 else slice_index_or old j []) (run_in (start, i + 1) j (omega (arith, ge, le)) (omega (arith, small))))
    ]
  ],
)

-- the views of the rows before a place are empty where they lie in none of these runs, which end by the place, one at it; the others
-- are as they were
pub record IsEmptied (at : ℕ) (runs : List (ℕ × ℕ)) (old new : List (List ℕ)) : Type 0 where
  pub long : length new ≡ length old
  pub within : at ≤ length old
  pub past : All (λ run. run.1 ≤ at) runs
  pub least : (n : ℕ) → All (λ run. run.1 ≤ n) runs → at ≤ n
  pub rows : (k : ℕ) → k < length old → slice_index_or new k [] ≡ (if (is_in_runs runs k || leb at k) then slice_index_or old k [] else view_of [] 0 0)

pub IsEmptied-none : (old : List (List ℕ)) → IsEmptied 0 [] old old
IsEmptied-none old = record {
  long = refl;
  within = omega arith;
  past = All-nil (λ (run : ℕ × ℕ). run.1 ≤ 0);
  least = λ n all. omega arith;
  rows = λ k l. sym (ap (λ (b : Bool). if b then slice_index_or old k [] else view_of [] 0 0) (le-leb 0 k (omega arith)));
}

-- the next run begins past the place
pub IsEmptied-next : (at i : ℕ) (runs : List (ℕ × ℕ)) (old new : List (List ℕ)) (d : ℕ × ℕ) → i < length runs → AreRuns (length old) runs → IsEmptied at (take i runs) old new → at ≤ (get_or runs i d).0
IsEmptied-next at i runs old new d l are now = now.least (get_or runs i d).0 (ends_before (length old) i runs d l are)

-- of a row that is not made empty, and of one that is
left_alone : (v e w x : List ℕ) (g a b : Bool) → g ≡ false → a ≡ b → x ≡ (if g then e else w) → w ≡ (if a then v else e) → x ≡ (if b then v else e)
left_alone v e w x g a b off same h was = h ∙ ap (λ (c : Bool). if c then e else w) off ∙ was ∙ ap (λ (c : Bool). if c then v else e) same

made_empty : (v e w x : List ℕ) (g b : Bool) → g ≡ true → b ≡ false → x ≡ (if g then e else w) → x ≡ (if b then v else e)
made_empty v e w x g b on off h = h ∙ ap (λ (c : Bool). if c then e else w) on ∙ sym (ap (λ (c : Bool). if c then v else e) off)

either_way : (a b p q a' b' p' q' : Bool) → a ≡ a' → b ≡ b' → p ≡ p' → q ≡ q' → (a' || p') ≡ ((a' || b') || q') → (a || p) ≡ ((a || b) || q)
either_way a b p q a' b' p' q' ea eb ep eq same = rw (ea, eb, ep, eq) same

-- one run more
pub IsEmptied-more : (at i : ℕ) (runs : List (ℕ × ℕ)) (old now new : List (List ℕ)) (d : ℕ × ℕ) → i < length runs → AreRuns (length old) runs → length new ≡ length now
    → ((k : ℕ) → k < length now → slice_index_or new k [] ≡ (if is_in_run (at, (get_or runs i d).0) k then view_of [] 0 0 else slice_index_or now k []))
    → IsEmptied at (take i runs) old now → IsEmptied (get_or runs i d).1 (take (i + 1) runs) old new
IsEmptied-more at i runs old now new d l are long each was = record {
  long = long ∙ was.long;
  within = are.within i d l;
  past = rw all (All-push (λ (r : ℕ × ℕ). r.1 ≤ run.1) (take i runs) run (λ k e h. omega (arith, ends_before (length old) i runs d l are k e h, some)) (omega arith));
  least = λ n ends. least n (rw all at ends);
  rows = rows;
}
  where
    run : ℕ × ℕ
    run = get_or runs i d

    some : run.0 < run.1
    some = are.filled i d l

    start : at ≤ run.0
    start = IsEmptied-next at i runs old now d l are was

    all : take (i + 1) runs ≡ take i runs ++ run ∷ []
    all = take_more runs i d l

    least : (n : ℕ) → All (λ r. r.1 ≤ n) (take i runs ++ run ∷ []) → run.1 ≤ n
    least n ends = All-right (λ (r : ℕ × ℕ). r.1 ≤ n) (take i runs) (run ∷ []) ends 0 run (omega arith)

    rows : (k : ℕ) → k < length old → slice_index_or new k [] ≡ (if (is_in_runs (take (i + 1) runs) k || leb run.1 k) then slice_index_or old k [] else view_of [] 0 0)
    rows k h =
        let a = is_in_runs (take i runs) k in
        let b = is_in_run run k in
        let g = is_in_run (at, run.0) k in
        let more : is_in_runs (take (i + 1) runs) k ≡ (a || b) = ap (λ rs. is_in_runs rs k) all ∙ is_in_runs-push (take i runs) run k in
        let v = slice_index_or old k [] in
        let e = view_of [] 0 0 in
        let w = slice_index_or now k [] in
        let x = slice_index_or new k [] in
        let here = each k (omega (arith, h, was.long)) in
        let before = was.rows k h in
        rw more (elim (cases_lt k at) [
          | inl less ↦ left_alone v e w x g (a || leb at k) ((a || b) || leb run.1 k) (run_before (at, run.0) k less)
              (either_way a b (leb at k) (leb run.1 k) a false false false refl (run_before run k (omega (arith, less, start))) (lt-leb at k less) (lt-leb run.1 k (omega (arith, less, start, some))) (sym (or_false (a || false)))) here before
          | inr ge ↦ elim (cases_lt k run.0) [
            | inl less ↦ made_empty v e w x g ((a || b) || leb run.1 k) (run_in (at, run.0) k ge less)
                (rw (runs_past (take i runs) k (λ j d m. omega (arith, was.past j d m, ge)), run_before run k less, lt-leb run.1 k (omega (arith, less, some))) refl) here
            | inr past ↦ elim (cases_lt k run.1) [
              | inl less ↦ left_alone v e w x g (a || leb at k) ((a || b) || leb run.1 k) (run_past (at, run.0) k past)
                  (rw (le-leb at k ge, run_in run k past less, or_true a) refl) here before
              | inr after ↦ left_alone v e w x g (a || leb at k) ((a || b) || leb run.1 k) (run_past (at, run.0) k past)
                  (rw (le-leb at k ge, le-leb run.1 k after, or_true a, or_true (a || b)) refl) here before
            ]
          ]
        ])

-- after all of them
pub IsEmptied-all : (at i : ℕ) (runs : List (ℕ × ℕ)) (old now new : List (List ℕ)) → length runs ≤ i
    → ((k : ℕ) → k < length now → slice_index_or new k [] ≡ (if is_in_run (at, length now) k then view_of [] 0 0 else slice_index_or now k []))
    → IsEmptied at (take i runs) old now → (k : ℕ) → k < length old → slice_index_or new k [] ≡ (if is_in_runs runs k then slice_index_or old k [] else view_of [] 0 0)
IsEmptied-all at i runs old now new end each was k h =
    let all : take i runs ≡ runs = take_all i runs end in
    let a = is_in_runs runs k in
    let here = each k (omega (arith, h, was.long)) in
    let before : slice_index_or now k [] ≡ (if (a || leb at k) then slice_index_or old k [] else view_of [] 0 0) = rw all at (was.rows k h) in
    elim (cases_lt k at) [
      | inl less ↦ left_alone (slice_index_or old k []) (view_of [] 0 0) (slice_index_or now k []) (slice_index_or new k []) (is_in_run (at, length now) k) (a || leb at k) a
          (run_before (at, length now) k less) (ap (λ (b : Bool). a || b) (lt-leb at k less) ∙ or_false a) here before
      | inr ge ↦ made_empty (slice_index_or old k []) (view_of [] 0 0) (slice_index_or now k []) (slice_index_or new k []) (is_in_run (at, length now) k) a
          (run_in (at, length now) k ge (omega (arith, h, was.long))) (runs_past runs k (λ j d m. omega (arith, (rw all at was.past) j d m, ge))) here
    ]

-- the rows in the runs of a mask are those that are true
in_runs_of : (mask : List Bool) (runs : List (ℕ × ℕ)) (k : ℕ) → AreRuns (length mask) runs → flat_map run_positions runs ≡ trues mask → k < length mask → is_in_runs runs k ≡ bool_at mask k
in_runs_of mask runs k are same l = sym (bool_at-marked (length mask) runs k l) ∙ ap (λ bits. bool_at bits k) (marked_from_trues mask runs are same)

-- the views of those rows, and 16 zero bytes elsewhere
pub views_kept : (views out : List (List ℕ)) (mask : List Bool) (runs : List (ℕ × ℕ)) → AreRuns (length mask) runs → flat_map run_positions runs ≡ trues mask → length mask ≡ length views
    → length out ≡ length views → ((k : ℕ) → k < length views → slice_index_or out k [] ≡ (if is_in_runs runs k then slice_index_or views k [] else view_of [] 0 0))
    → out ≡ map (valid_view views mask) (range_with_len 0 (length views))
views_kept views out mask runs are same long size each =
    fill_by_all (valid_view views mask) out (length views) [] size (λ k l.
    each k l ∙ ap (λ (b : Bool). if b then slice_index_or views k [] else view_of [] 0 0) (in_runs_of mask runs k are same (rw long l))
    ∙ ap (λ (row : List ℕ). if bool_at mask k then slice_index_or views k [] else row) empty_is_zeroes)
