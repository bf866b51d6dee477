-- The values that stand in buffers, one after another, and why building views of them has no other fault than that of too
-- many buffers.
use Rattle.std.proofs.Common.{ℕ, zero, suc, ◌+◌, ◌-◌, ◌<◌, ◌≡◌, List, [], ◌∷◌, ◌++◌, length, get_or, take, drop, map, refl, sym, ◌∙◌, ap, add-one, arith}
use Rattle.std.specs.Prelude.{slice_range, sum, pos}
use Rattle.std.specs.List.{flat_map}
use Rattle.std.proofs.Math.Seq.{drop-append-add, take-append_seam}
use Rattle.std.proofs.lemmas.List.{get_or-map}
use Rattle.std.proofs.lemmas.List.Sums.{sum-map, sum_by-cons}
use Rattle.std.proofs.lemmas.List.Concat.{length-flat_map}
use Rattle.vx_base.specs.Integers.{number_nth}
use Rattle.vx_views.specs.BuildFaults.{lengths_of}

-- ---- one of joined lists

part_of : {X : Type 0} (f : X → List ℕ) (xs : List X) (i : ℕ) (d : X) → i < length xs
    → slice_range (flat_map f xs) (sum (take i (map (λ x. length (f x)) xs))) (sum (take (suc i) (map (λ x. length (f x)) xs))) ≡ f (get_or xs i d)
part_of f [] i d l = absurd (omega arith)
part_of f (x ∷ xs) zero d l =
    ap (λ n. take n (f x ++ flat_map f xs)) {x = 0 + length (f x) - 0} {y = length (f x)} (omega arith) ∙ take-append_seam (f x) (flat_map f xs)
part_of f (x ∷ xs) (suc i) d l =
    let lens = map (λ y. length (f y)) xs in
    let a = sum (take i lens) in
    let b = sum (take (suc i) lens) in
    let whole = f x ++ flat_map f xs in
    let start : sum (take (suc i) (map (λ y. length (f y)) (x ∷ xs))) ≡ length (f x) + a = sum_by-cons (λ (n : ℕ). n) (length (f x)) (take i lens) in
    let end : sum (take (suc (suc i)) (map (λ y. length (f y)) (x ∷ xs))) ≡ length (f x) + b = sum_by-cons (λ (n : ℕ). n) (length (f x)) (take (suc i) lens) in
    (λ j. slice_range whole (start j) (end j))
    ∙ ap (λ n. take n (drop (length (f x) + a) whole)) {x = length (f x) + b - (length (f x) + a)} {y = b - a} (omega arith)
    ∙ ap (take (b - a)) (drop-append-add (f x) (flat_map f xs) a) ∙ part_of f xs i d (omega arith)

-- the part of joined lists that one of them is
pub part_at : {X : Type 0} (f : X → List ℕ) (xs : List X) (i : ℕ) (d : X) → i < length xs
    → slice_range (flat_map f xs) (sum (take i (map (λ x. length (f x)) xs))) (sum (take (i + 1) (map (λ x. length (f x)) xs))) ≡ f (get_or xs i d)
part_at f xs i d l = rw add-one (part_of f xs i d l)

-- joined lists have as many elements as the lists together
pub joined_long : {X : Type 0} (f : X → List ℕ) (xs : List X) → sum (map (λ x. length (f x)) xs) ≡ length (flat_map f xs)
joined_long f xs = sum-map (λ x. length (f x)) xs ∙ sym (length-flat_map f xs)

-- ---- lengths as numbers

pub lengths_back : (lens : List ℕ) → lengths_of (map pos lens) ≡ lens
lengths_back [] = refl
lengths_back (n ∷ lens) = ap (λ ns. n ∷ ns) (lengths_back lens)

pub number_at : (lens : List ℕ) (k : ℕ) → k < length lens → number_nth (map pos lens) k ≡ pos (get_or lens k 0)
number_at lens k l = get_or-map pos lens k 0 (pos 0) l
