-- Lists of four bytes, and lists in a row.
use Rattle.std.proofs.Common.{◌≡◌, ℕ, zero, suc, List, [], ◌∷◌, ◌++◌, length, get_or, refl, ap, arith}
use Rattle.vx_views.specs.Views.{AreBytes}

-- the first four elements of a list
abbrev pub four : List ℕ → List ℕ
four xs = get_or xs 0 0 ∷ get_or xs 1 0 ∷ get_or xs 2 0 ∷ get_or xs 3 0 ∷ []

pub four_is : (xs : List ℕ) → length xs ≡ 4 → four xs ≡ xs
four_is (a ∷ b ∷ c ∷ d ∷ []) e = refl
four_is _ e = absurd (omega arith)

-- the first eight elements of a list
abbrev pub eight : List ℕ → List ℕ
eight xs = get_or xs 0 0 ∷ get_or xs 1 0 ∷ get_or xs 2 0 ∷ get_or xs 3 0 ∷ get_or xs 4 0 ∷ get_or xs 5 0 ∷ get_or xs 6 0 ∷ get_or xs 7 0 ∷ []

pub eight_is : (xs : List ℕ) → length xs ≡ 8 → eight xs ≡ xs
eight_is (a ∷ b ∷ c ∷ d ∷ xs) e = ap (λ rest. a ∷ b ∷ c ∷ d ∷ rest) (four_is xs (omega arith))
eight_is _ e = absurd (omega arith)

pub bytes-append : (xs ys : List ℕ) → AreBytes xs → AreBytes ys → AreBytes (xs ++ ys)
bytes-append [] ys h k i = k i
bytes-append (x ∷ xs) ys h k zero = h 0
bytes-append (x ∷ xs) ys h k (suc i) = bytes-append xs ys (λ (j : ℕ). h (suc j)) k i

pub bytes-four : (xs : List ℕ) → AreBytes xs → AreBytes (four xs)
bytes-four xs h zero = h 0
bytes-four xs h (suc zero) = h 1
bytes-four xs h (suc (suc zero)) = h 2
bytes-four xs h (suc (suc (suc zero))) = h 3
bytes-four xs h (suc (suc (suc (suc i)))) = omega arith

-- four lists of four elements in a row
pub sixteen_is : (a b c d : List ℕ) → length a ≡ 4 → length b ≡ 4 → length c ≡ 4 → length d ≡ 4 → four a ++ four b ++ four c ++ four d ≡ a ++ b ++ c ++ d
sixteen_is a b c d p q r s i = four_is a p i ++ four_is b q i ++ four_is c r i ++ four_is d s i

pub sixteen_bytes : (a b c d : List ℕ) → AreBytes a → AreBytes b → AreBytes c → AreBytes d → AreBytes (four a ++ four b ++ four c ++ four d)
sixteen_bytes a b c d p q r s =
    bytes-append (four a ++ four b ++ four c) (four d)
    (bytes-append (four a ++ four b) (four c) (bytes-append (four a) (four b) (bytes-four a p) (bytes-four b q)) (bytes-four c r))
    (bytes-four d s)
