-- Values laid over the rows where a mask is true, a run after another.
use Rattle.std.proofs.Common.{ℕ, zero, suc, ◌+◌, ◌-◌, ◌*◌, ◌/◌, ◌<◌, ◌≤◌, ◌≡◌, Bool, true, false, cond, List, [], ◌∷◌, length, get_or, take, drop, count_by, inl, inr, refl, sym, ◌∙◌, ap, zero-add, arith}
use Rattle.std.specs.Prelude.{ℤ, pos, slice_range, nat_lt, ◌&&◌}
use Rattle.std.specs.List.{flat_map}
use Rattle.std.proofs.lemmas.Bool.{cases_lt, lt-ltb, le-ltb}
use Rattle.std.proofs.lemmas.Nat.{le-div}
use Rattle.std.proofs.lemmas.Grind.{get_or_after_one}
use Rattle.std.proofs.lemmas.List.{get_or_past}
use Rattle.std.proofs.lemmas.List.Sums.{sum_by-cons}
use Rattle.vx_base.specs.Bits.{bool_at}
use Rattle.vx_base.specs.Integers.{byte_width, number_of, number_nth, numbers}
use Rattle.vx_base.specs.MaskRuns.{is_in_run, is_in_runs, AreRuns}
use Rattle.vx_base.specs.Selections.{run_positions}
use Rattle.vx_base.specs.Trues.{trues}
use Rattle.vx_base.specs.declared.ptypes.PType.{PType}
use Rattle.vx_base.proofs.MaskRuns.{run_in, run_before, run_past, runs_past, ends_before}
use Rattle.vx_base.proofs.NumberLists.{width_pos, length_numbers, number_read}
use Rattle.vx_base.proofs.RunLoops.{row_of_run}
use Rattle.vx_leaves.specs.Spread.{spread}
use Rattle.vx_leaves.proofs.RunRows.{start_of, start_is, count_run, put_runs}

abbrev count : List Bool → ℕ
count mask = count_by (λ b. b) mask

-- the number of a row, by the count of the valid rows before it
pub spread_at : (mask : List Bool) (zs : List ℤ) (k : ℕ) → number_nth (spread mask zs) k ≡ cond (bool_at mask k) (number_nth zs (count (take k mask))) (pos 0)
spread_at [] zs k = refl
spread_at (true ∷ mask) zs zero = refl
spread_at (false ∷ mask) zs zero = refl
spread_at (true ∷ mask) zs (suc k) =
    spread_at mask (drop 1 zs) k
    ∙ ap (λ z. cond (bool_at mask k) z (pos 0)) (get_or_after_one zs (count (take k mask)) (pos 0) ∙ ap (number_nth zs) (sym (sum_by-cons (λ x. cond x 1 0) true (take k mask))))
spread_at (false ∷ mask) zs (suc k) =
    spread_at mask zs k
    ∙ ap (λ n. cond (bool_at mask k) (number_nth zs n) (pos 0)) (sym (sum_by-cons (λ x. cond x 1 0) false (take k mask) ∙ zero-add (count (take k mask))))

pub length-spread : (mask : List Bool) (zs : List ℤ) → length (spread mask zs) ≡ length mask
length-spread [] zs = refl
length-spread (true ∷ mask) zs = omega (arith, length-spread mask (drop 1 zs))
length-spread (false ∷ mask) zs = omega (arith, length-spread mask zs)

-- the values of one run more
module _ (mask : List Bool) (runs : List (ℕ × ℕ)) (are : AreRuns (length mask) runs) (same : flat_map run_positions runs ≡ trues mask) where
  pub spread_run : (zs : List ℤ) (i : ℕ) (d : ℕ × ℕ) (next k : ℕ) (old new : ℤ) → i < length runs → next ≡ count_by (λ b. b) (take (start_of (length mask) runs i) mask)
      → old ≡ cond (is_in_runs (take i runs) k) (number_nth zs (count_by (λ b. b) (take k mask))) (pos 0)
      → new ≡ cond (is_in_run (get_or runs i d) k && nat_lt (next + (k - (get_or runs i d).0)) (length zs)) (number_nth zs (next + (k - (get_or runs i d).0))) old
      → new ≡ cond (is_in_runs (take (i + 1) runs) k) (number_nth zs (count_by (λ b. b) (take k mask))) (pos 0)
  spread_run zs i d next k old new there next_is before here = put_runs (length mask) runs i d k value (pos 0) old new there before (here ∙ by_place)
    where
      run : ℕ × ℕ
      run = get_or runs i d

      value : ℤ
      value = number_nth zs (count_by (λ b. b) (take k mask))

      within : run.1 ≤ length mask
      within = are.within i d there

      rank : run.0 ≤ k → k < run.1 → next + (k - run.0) ≡ count_by (λ b. b) (take k mask)
      rank low high =
          let start = start_is mask runs are same i d there in
          let more = count_run mask run.0 k low (omega (arith, within)) (λ j from upto. row_of_run mask runs i j d are same there from (omega arith)) in
          omega (arith, next_is, ap (λ n. count_by (λ b. b) (take n mask)) start, more)

      not_before : run.0 ≤ k → old ≡ pos 0
      not_before low = before ∙ ap (λ b. cond b value (pos 0)) (runs_past (take i runs) k (λ j e m. let h = ends_before (length mask) i runs d there are j e m in omega arith))

      by_place : cond (is_in_run run k && nat_lt (next + (k - run.0)) (length zs)) (number_nth zs (next + (k - run.0))) old ≡ cond (is_in_run run k) value old
      by_place = elim (cases_lt k run.0) [
        | inl low ↦ ap (λ b. cond (b && nat_lt (next + (k - run.0)) (length zs)) (number_nth zs (next + (k - run.0))) old) (run_before run k low) ∙ sym (ap (λ b. cond b value old) (run_before run k low))
        | inr ge ↦ elim (cases_lt k run.1) [
          | inl high ↦
              ap (λ b. cond (b && nat_lt (next + (k - run.0)) (length zs)) (number_nth zs (next + (k - run.0))) old) (run_in run k ge high)
              ∙ elim (cases_lt (next + (k - run.0)) (length zs)) [
                | inl some ↦ ap (λ b. cond b (number_nth zs (next + (k - run.0))) old) (lt-ltb (next + (k - run.0)) (length zs) some) ∙ ap (number_nth zs) (rank ge high)
                | inr none ↦
                    ap (λ b. cond b (number_nth zs (next + (k - run.0))) old) (le-ltb (next + (k - run.0)) (length zs) none)
                    ∙ not_before ge ∙ sym (get_or_past zs (count_by (λ b. b) (take k mask)) (pos 0) (omega (arith, rank ge high)))
              ] ∙ sym (ap (λ b. cond b value old) (run_in run k ge high))
          | inr past ↦ ap (λ b. cond (b && nat_lt (next + (k - run.0)) (length zs)) (number_nth zs (next + (k - run.0))) old) (run_past run k past) ∙ sym (ap (λ b. cond b value old) (run_past run k past))
        ]
      ]

-- a value is read from its bytes
pub value_read : (t : PType) (bs : List ℕ) (i width : ℕ) (z : ℤ) → width ≡ byte_width t → i * byte_width t + byte_width t ≤ length bs → z ≡ number_of t (slice_range bs (i * width) (i * width + width)) → z ≡ number_nth (numbers t bs) i
value_read t bs i width z wide room e =
    let whole : (i + 1) * byte_width t ≤ length bs = omega arith in
    let within : i + 1 ≤ length bs / byte_width t = le-div (i + 1) (length bs) (byte_width t) (width_pos t) whole in
    number_read t bs i z (omega (arith, length_numbers t bs)) (rw wide at e)
