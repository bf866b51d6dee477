-- What is picked at one position again and again.
use Rattle.std.proofs.Common.{ℕ, zero, suc, ◌+◌, ◌≡◌, ◌∷◌, ◌++◌, List, map, replicate, refl, sym, ◌∙◌, ap}
use Rattle.std.specs.List.{flat_map}
use Rattle.std.proofs.lemmas.Grind.{flat_map-append}
use Rattle.std.proofs.lemmas.List.{append_assoc, replicate-append-replicate}

pub map_repeated : {X Y : Type 0} (f : X → Y) (x : X) (n : ℕ) → map f (replicate n x) ≡ replicate n (f x)
map_repeated f x zero = refl
map_repeated f x (suc n) = ap (λ ys. f x ∷ ys) (map_repeated f x n)

-- pieces that are all the same, end to end
flat_repeated : {X Y : Type 0} (f : X → List Y) (x : X) (n : ℕ) → flat_map (λ ys. ys) (replicate n (f x)) ≡ flat_map f (replicate n x)
flat_repeated f x zero = refl
flat_repeated f x (suc n) = ap (λ ys. f x ++ ys) (flat_repeated f x n)

-- a block of m of them after n
pub block_more : {X Y : Type 0} (f : X → List Y) (old : List Y) (x : X) (n m all : ℕ) (piece before block after : List Y) → piece ≡ f x → before ≡ old ++ flat_map f (replicate n x)
    → block ≡ flat_map (λ ys. ys) (replicate m piece) → after ≡ before ++ block → n + m ≡ all → after ≡ old ++ flat_map f (replicate all x)
block_more f old x n m all piece before block after same was filled appended count =
    let pieces : block ≡ flat_map f (replicate m x) = filled ∙ ap (λ y. flat_map (λ ys. ys) (replicate m y)) same ∙ flat_repeated f x m in
    let joined : flat_map f (replicate n x) ++ flat_map f (replicate m x) ≡ flat_map f (replicate all x) =
    sym (flat_map-append f (replicate n x) (replicate m x)) ∙ ap (flat_map f) (replicate-append-replicate n m x) ∙ ap (λ k. flat_map f (replicate k x)) count in
    appended ∙ ap (λ ys. ys ++ block) was ∙ append_assoc old (flat_map f (replicate n x)) block
    ∙ ap (λ ys. old ++ (flat_map f (replicate n x) ++ ys)) pieces ∙ ap (λ ys. old ++ ys) joined
