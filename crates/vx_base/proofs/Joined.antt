-- The booleans of several masks, one mask after another.
use Rattle.std.proofs.Common.{ℕ, ◌+◌, ◌^◌, ◌<◌, ◌≤◌, ◌≡◌, Bool, List, Some, None, length, get_or, take, count_by, arith}
use Rattle.std.proofs.lemmas.Bool.Decides.{nat_tests}
use Rattle.std.proofs.lemmas.List.Folds.{length-flat_map-take}
use Rattle.std.proofs.lemmas.List.Sums.{count_by-le-length}
use Rattle.vx_base.specs.Booleans.{joined, count_fault}
use Rattle.vx_base.specs.Refusals.{overflow}

pub counted : (n : ℕ) → n < 2 ^ 64 → count_fault n ≡ None
counted n h = grind (arith, nat_tests)

pub uncounted : (n : ℕ) → 2 ^ 64 ≤ n → count_fault n ≡ Some overflow
uncounted n h = grind (arith, nat_tests)

-- no list is longer than what is left of all of them
pub joined_within : (lists : List (List Bool)) (i : ℕ) (d : List Bool) → i < length lists → length (joined (take i lists)) + length (get_or lists i d) ≤ length (joined lists)
joined_within lists i d h = length-flat_map-take (λ bs. bs) lists i d h

-- so many trues as booleans at most
pub trues_within : (lists : List (List Bool)) (i : ℕ) (d : List Bool) → i < length lists
    → count_by (λ b. b) (joined (take i lists)) + count_by (λ b. b) (get_or lists i d) ≤ length (joined lists)
trues_within lists i d h =
    omega (arith, joined_within lists i d h, count_by-le-length (λ (b : Bool). b) (joined (take i lists)), count_by-le-length (λ (b : Bool). b) (get_or lists i d))
