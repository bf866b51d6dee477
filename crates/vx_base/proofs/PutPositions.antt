-- Positions that are put into a list or pushed, one more, or eight more, behind those that are there.
use Rattle.std.proofs.Common.{◌≡◌, ℕ, ◌+◌, ◌-◌, ◌*◌, ◌<◌, ◌≤◌, ◌^◌, List, [], ◌∷◌, ◌++◌, length, take, set, min, sym, ◌∙◌, ap, inl, inr, arith}
use Rattle.std.specs.List.{range_with_len}
use Rattle.std.proofs.lemmas.Bool.{cases_lt}
use Rattle.std.proofs.lemmas.List.{append_assoc, take_more_set, take-set-le}
use Rattle.vx_base.proofs.Runs.{range_append}

-- ---- one by one, or eight at once

pub position_put : (xs before : List ℕ) (at i start : ℕ) → at + i < length xs → take (at + i) xs ≡ before ++ range_with_len start i
    → take (at + (i + 1)) (set xs (at + i) (start + i)) ≡ before ++ range_with_len start (i + 1)
position_put xs before at i start inside so_far =
    let place : at + (i + 1) ≡ at + i + 1 = omega arith in
    rw place (take_more_set xs (at + i) (start + i) inside ∙ ap (λ ps. ps ++ (start + i) ∷ []) so_far
    ∙ append_assoc before (range_with_len start i) ((start + i) ∷ []) ∙ ap (λ ps. before ++ ps) (range_append start i 1))

pub position_pushed : (before now more : List ℕ) (start k : ℕ) → start ≤ k → now ≡ before ++ range_with_len start (k - start) → more ≡ now ++ k ∷ [] → more ≡ before ++ range_with_len start (k + 1 - start)
position_pushed before now more start k low so_far pushed =
    let place : start + (k - start) ≡ k = omega arith in
    let count : k + 1 - start ≡ (k - start) + 1 = omega arith in
    let last : range_with_len start (k - start) ++ k ∷ [] ≡ range_with_len start (k - start + 1) = ap (λ n. range_with_len start (k - start) ++ n ∷ []) (sym place) ∙ range_append start (k - start) 1 in
    pushed ∙ ap (λ ps. ps ++ k ∷ []) so_far ∙ append_assoc before (range_with_len start (k - start)) (k ∷ []) ∙ ap (λ ps. before ++ ps) (last ∙ ap (range_with_len start) (sym count))

-- the first n of them stay, and where all are there the next is one more
pub positions_put : (xs before : List ℕ) (at i start value n : ℕ) → at + i < length xs → (start + i < 2 ^ 64 → value ≡ start + i) → ((m : ℕ) → m ≤ i → start + m ≤ 2 ^ 64 → take (at + m) xs ≡ before ++ range_with_len start m)
    → n ≤ i + 1 → start + n ≤ 2 ^ 64 → take (at + n) (set xs (at + i) value) ≡ before ++ range_with_len start n
positions_put xs before at i start value n inside value_is so_far few fits = elim (cases_lt n (i + 1)) [
  | inl lt ↦ take-set-le (at + n) xs (at + i) value (omega arith) ∙ so_far n (omega arith) fits
  | inr ge ↦
      let last : n ≡ i + 1 = omega arith in
      let here : value ≡ start + i = value_is (omega arith) in
      rw (last, here) (position_put xs before at i start inside (so_far i (omega arith) (omega arith)))
]

-- eight more, or as many as are left
pub eight_put : (xs new before : List ℕ) (at start size j : ℕ) → 8 * j < size → start + size < 2 ^ 64 → take (at + min (8 * j) size) xs ≡ before ++ range_with_len start (min (8 * j) size)
    → ((n : ℕ) → n ≤ 8 → start + 8 * j + n ≤ 2 ^ 64 → take (at + 8 * j + n) new ≡ take (at + 8 * j) xs ++ range_with_len (start + 8 * j) n)
    → take (at + min (8 * (j + 1)) size) new ≡ before ++ range_with_len start (min (8 * (j + 1)) size)
eight_put xs new before at start size j more end so_far put =
    let done : ℕ = 8 * j in
    let n : ℕ = min 8 (size - done) in
    let low : min done size ≡ done = omega arith in
    let next : min (8 * (j + 1)) size ≡ done + n = omega arith in
    let place : at + (done + n) ≡ at + done + n = omega arith in
    let there : take (at + done) xs ≡ before ++ range_with_len start done = ap (λ k. take (at + k) xs) (sym low) ∙ so_far ∙ ap (λ k. before ++ range_with_len start k) low in
    rw (next, place) (put n (omega arith) (omega arith) ∙ ap (λ ps. ps ++ range_with_len (start + done) n) there
    ∙ append_assoc before (range_with_len start done) (range_with_len (start + done) n) ∙ ap (λ ps. before ++ ps) (range_append start done n))
