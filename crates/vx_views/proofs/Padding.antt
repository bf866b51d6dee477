-- Values with zeroes after them.
use Rattle.std.proofs.Common.{◌≡◌, ℕ, zero, suc, ◌+◌, ◌≤◌, List, [], ◌∷◌, ◌++◌, length, take, drop, replicate, refl, sym, ◌∙◌, ap, arith, length-append}
use Rattle.std.proofs.lemmas.List.{take-replicate, drop-replicate, take-take, take_at, length-take-le, length-replicate}
use Rattle.vx_views.specs.Views.{padded, AreBytes}
use Rattle.vx_views.proofs.FourBytes.{bytes-append}

-- zeroes past the end are not seen
same_zeroes : (n m k : ℕ) (v : List ℕ) → n ≤ m → n ≤ k → take n (v ++ replicate m 0) ≡ take n (v ++ replicate k 0)
same_zeroes zero m k v h l = refl
same_zeroes (suc n) m k [] h l = take-replicate (suc n) m 0 h ∙ sym (take-replicate (suc n) k 0 l)
same_zeroes (suc n) m k (x ∷ v) h l = ap (λ (rest : List ℕ). x ∷ rest) (same_zeroes n m k v (omega arith) (omega arith))

pub length_padded : (n : ℕ) (v : List ℕ) → length (padded n v) ≡ n
unfolding padded
length_padded n v = length-take-le n (v ++ replicate n 0) (omega (arith, length-append v (replicate n 0), length-replicate {A = ℕ} n 0))

pub padded_zero : (v : List ℕ) → padded 0 v ≡ []
unfolding padded
padded_zero v = refl

pub padded_nil : (n : ℕ) → padded n [] ≡ replicate n 0
unfolding padded
padded_nil n = take-replicate n n 0 (omega arith)

pub padded_cons : (n x : ℕ) (v : List ℕ) → padded (suc n) (x ∷ v) ≡ x ∷ padded n v
unfolding padded
padded_cons n x v = ap (λ (rest : List ℕ). x ∷ rest) (same_zeroes n (suc n) n v (omega arith) (omega arith))

-- the front of a padded value
pub take_padded : (m n : ℕ) (v : List ℕ) → m ≤ n → take m (padded n v) ≡ padded m v
unfolding padded
take_padded m n v h = take-take m n (v ++ replicate n 0) h ∙ same_zeroes m n m v h (omega arith)

-- what is left of a padded value
pub drop_padded : (m n k : ℕ) (v : List ℕ) → k ≡ m + n → drop m (padded k v) ≡ padded n (drop m v)
drop_padded zero n k v e = ap (λ j. padded j v) (omega arith)
drop_padded (suc m) n zero v e = absurd (omega arith)
drop_padded (suc m) n (suc k) [] e =
    ap (drop (suc m)) (padded_nil (suc k)) ∙ drop-replicate (suc m) (suc k) 0 ∙ ap (λ (j : ℕ). replicate j 0) (omega arith) ∙ sym (padded_nil n)
drop_padded (suc m) n (suc k) (x ∷ v) e = ap (drop (suc m)) (padded_cons k x v) ∙ drop_padded m n k v (omega arith)

-- a value that is no longer stands in front of its zeroes
pub padded_value : (n : ℕ) (v : List ℕ) → length v ≤ n → take (length v) (padded n v) ≡ v
unfolding padded
padded_value n v h = take-take (length v) n (v ++ replicate n 0) h ∙ take_at v (replicate n 0) (length v) refl

bytes-replicate : (n : ℕ) → AreBytes (replicate n 0)
bytes-replicate zero i = omega arith
bytes-replicate (suc n) zero = omega arith
bytes-replicate (suc n) (suc i) = bytes-replicate n i

pub bytes-take : (n : ℕ) (v : List ℕ) → AreBytes v → AreBytes (take n v)
bytes-take zero v h i = omega arith
bytes-take (suc n) [] h i = h i
bytes-take (suc n) (x ∷ v) h zero = h 0
bytes-take (suc n) (x ∷ v) h (suc i) = bytes-take n v (λ (j : ℕ). h (suc j)) i

pub bytes-drop : (n : ℕ) (v : List ℕ) → AreBytes v → AreBytes (drop n v)
bytes-drop zero v h i = h i
bytes-drop (suc n) [] h i = h i
bytes-drop (suc n) (x ∷ v) h i = bytes-drop n v (λ (j : ℕ). h (suc j)) i

pub bytes-padded : (n : ℕ) (v : List ℕ) → AreBytes v → AreBytes (padded n v)
unfolding padded
bytes-padded n v h = bytes-take n (v ++ replicate n 0) (bytes-append v (replicate n 0) h (bytes-replicate n))
