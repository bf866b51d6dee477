-- The numbers of bytes, which are their chunks of WIDTH bytes each.
use Rattle.std.proofs.Common.{ℕ, zero, suc, ◌+◌, ◌-◌, ◌*◌, ◌/◌, ◌<◌, ◌≤◌, ◌≡◌, List, length, take, drop, get_or, ◌∙◌, ap, arith}
use Rattle.std.proofs.lemmas.List.{drop-drop}
use Rattle.std.proofs.lemmas.Nat.{le-div}
use Rattle.std.specs.Prelude.{slice_range}
use Rattle.std.specs.Simd.{first_chunks}

-- the part that begins n elements later, of what is left of the list
part_at : {X : Type 0} (n k : ℕ) (xs : List X) → slice_range (drop n xs) (k * n) (k * n + n) ≡ slice_range xs (suc k * n) (suc k * n + n)
part_at n k xs =
    let from : n + k * n ≡ suc k * n = omega arith in
    let size : k * n + n - k * n ≡ suc k * n + n - suc k * n = omega arith in
    ap (take (k * n + n - k * n)) (drop-drop (k * n) n xs ∙ ap (λ m. drop m xs) from) ∙ ap (λ m. take m (drop (suc k * n) xs)) size

-- the k-th chunk of n elements
chunk_at : {X : Type 0} (n count k : ℕ) (xs : List X) (d : List X) → k < count → get_or (first_chunks n count xs) k d ≡ slice_range xs (k * n) (k * n + n)
chunk_at n zero k xs d h = elim h [ ]
chunk_at n (suc count) zero xs d h =
    let start : 0 ≡ 0 * n = omega arith in
    let size : n ≡ 0 * n + n - 0 * n = omega arith in
    ap (λ m. take n (drop m xs)) start ∙ ap (λ m. take m (drop (0 * n) xs)) size
chunk_at n (suc count) (suc k) xs d h = chunk_at n count k (drop n xs) d (omega (arith, h)) ∙ part_at n k xs

-- a chunk that the list has room for is one of its chunks
pub chunk_within : {X : Type 0} (n k : ℕ) (xs : List X) → 0 < n → k * n + n ≤ length xs → k < length xs / n
chunk_within n k xs some room = le-div (suc k) (length xs) n some (omega (arith, room))

-- and is the part of the list that it should be
pub whole_chunk : {X : Type 0} (n k : ℕ) (xs : List X) (chunks : List (List X)) (chunk d : List X) → 0 < n → k * n + n ≤ length xs → chunks ≡ first_chunks n (length xs / n) xs
    → chunk ≡ get_or chunks k d → chunk ≡ slice_range xs (k * n) (k * n + n)
whole_chunk n k xs chunks chunk d some room all read =
    read ∙ ap (λ cs. get_or cs k d) all ∙ chunk_at n (length xs / n) k xs d (chunk_within n k xs some room)
