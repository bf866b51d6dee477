-- Reading decimal digits from left to right.
use Rattle.std.proofs.Common.{◌≡◌, ℕ, ◌+◌, ◌<◌, ◌≤◌, List, [], ◌∷◌, length, get_or, drop, drop-cons, add-one, refl, arith}
use Rattle.vx_run.specs.Words.{with_digit, decimal_after}

-- what is left to read, one digit on
pub decimal_after-drop : (n : ℕ) (digits : List ℕ) (i : ℕ) → i < length digits → decimal_after n (drop i digits) ≡ decimal_after (with_digit n (get_or digits i 0)) (drop (i + 1) digits)
decimal_after-drop n digits i h = rw (add-one, drop-cons digits i 0) refl

-- more digits make no number smaller
pub decimal_after-grows : (n : ℕ) (digits : List ℕ) → n ≤ decimal_after n digits
decimal_after-grows n [] = omega arith
decimal_after-grows n (digit ∷ digits) = omega (arith, decimal_after-grows (with_digit n digit) digits)

-- a limit that one more digit reaches is reached by the whole number
pub limit-reached : (limit n : ℕ) (digits : List ℕ) (i whole : ℕ) → i < length digits → decimal_after n (drop i digits) ≡ whole → limit ≤ with_digit n (get_or digits i 0) → limit ≤ whole
limit-reached limit n digits i whole h e reached =
    omega (arith, decimal_after-drop n digits i h, decimal_after-grows (with_digit n (get_or digits i 0)) (drop (i + 1) digits))
