-- The runs in which a mask is true.
use Rattle.std.proofs.Common.{ℕ, zero, suc, ◌+◌, ◌-◌, ◌<◌, ◌≤◌, ◌≡◌, Bool, true, false, cond, List, [], ◌∷◌, ◌++◌, length, replicate, refl, sym, ◌∙◌, ap, append-nil, map, arith}
use Rattle.std.specs.Prelude.{count_by}
use Rattle.std.specs.List.{filter, flat_map, range_with_len}
use Rattle.std.proofs.lemmas.List.{length-replicate, get_or-replicate}
use Rattle.vx_base.specs.Bits.{bool_at}
use Rattle.vx_base.specs.Selections.{run_positions}
use Rattle.vx_base.specs.Trues.{trues}
use Rattle.vx_base.proofs.Runs.{range_append}
use Rattle.vx_base.proofs.MaskCounts.{count-true, count-false}
use Rattle.std.proofs.lemmas.List.FromFn.{fill_by_all}

-- ---- the positions that are kept of a range

pub kept_none : (f : ℕ → Bool) (start n : ℕ) → ((k : ℕ) → start ≤ k → k < start + n → f k ≡ false) → filter f (range_with_len start n) ≡ []
kept_none f start zero none = refl
kept_none f start (suc n) none =
    rw (none start (omega arith) (omega arith)) (kept_none f (start + 1) n (λ k low high. none k (omega arith) (omega arith)))

pub kept_all : (f : ℕ → Bool) (start n : ℕ) → ((k : ℕ) → start ≤ k → k < start + n → f k ≡ true) → filter f (range_with_len start n) ≡ range_with_len start n
kept_all f start zero all = refl
kept_all f start (suc n) all =
    rw (all start (omega arith) (omega arith)) (ap (λ ks. start ∷ ks) (kept_all f (start + 1) n (λ k low high. all k (omega arith) (omega arith))))

-- a range in two parts
pub range_split : (a b c : ℕ) → a ≤ b → b ≤ c → range_with_len a (c - a) ≡ range_with_len a (b - a) ++ range_with_len b (c - b)
range_split a b c low high =
    let place : a + (b - a) ≡ b = omega arith in
    let count : (b - a) + (c - b) ≡ c - a = omega arith in
    sym (ap (λ p. range_with_len a (b - a) ++ range_with_len p (c - b)) (sym place) ∙ range_append a (b - a) (c - b) ∙ ap (range_with_len a) count)

-- ---- masks of one boolean

pub trues_of_all : (n : ℕ) → flat_map run_positions ((0, n) ∷ []) ≡ trues (replicate n true)
trues_of_all n =
    let long : length (replicate n true) ≡ n = length-replicate n true in
    append-nil (range_with_len 0 (n - 0)) ∙ sym (kept_all (bool_at (replicate n true)) 0 (n - 0) (λ k low high. get_or-replicate n k true false (omega arith)))
    ∙ ap (λ m. filter (bool_at (replicate n true)) (range_with_len 0 m)) (let same : n - 0 ≡ n = omega arith in same ∙ sym long)

pub trues_of_none : (n : ℕ) → [] ≡ trues (replicate n false)
trues_of_none n = sym (kept_none (bool_at (replicate n false)) 0 (length (replicate n false)) (λ k low high. get_or-replicate n k false false (omega (arith, length-replicate n false))))

-- ---- how many there are

count_kept : (f : ℕ → Bool) (ks : List ℕ) → length (filter f ks) ≡ count_by (λ b. b) (map f ks)
count_kept f [] = refl
count_kept f (k ∷ ks) = elim (f k) as (λ b. length (cond b (k ∷ filter f ks) (filter f ks)) ≡ count_by (λ b. b) (b ∷ map f ks)) [
  | true ↦ omega (arith, count_kept f ks, count-true (map f ks))
  | false ↦ omega (arith, count_kept f ks, count-false (map f ks))
]

pub length_trues : (mask : List Bool) → length (trues mask) ≡ count_by (λ b. b) mask
length_trues mask =
    count_kept (bool_at mask) (range_with_len 0 (length mask)) ∙ ap (count_by (λ b. b)) (sym (fill_by_all (bool_at mask) mask (length mask) false refl (λ i l. refl)))
