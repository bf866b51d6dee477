-- What the words of a script line stand for.
use Rattle.std.specs.Prelude.{◌≡◌, ◌≢◌, ◌⊎◌, ◌<◌, ℕ, ◌+◌, ◌-◌, ◌*◌, ◌^◌, ◌≤◌, ℤ, pos, ◌-ℤ◌}
use Rattle.std.specs.Prelude.{List, [], ◌∷◌, length, All, if◌then◌else◌, nat_eq}
use Rattle.vx_base.specs.Integers.{Holds}
use Rattle.vx_base.specs.declared.ptypes.PType.{PType}
use Rattle.vx_run.specs.declared.operands.TheConstants.{MOST_DIGITS}

-- a byte that is one of the digits 0 to 9
abbrev pub IsDigit : ℕ → Type 0
IsDigit byte = (48 ≤ byte) × (byte ≤ 57)

-- decimal digits alone, at least one
abbrev pub IsDecimal : List ℕ → Type 0
IsDecimal word = (word ≢ []) × All IsDigit word

-- the number that is written by the digits of n and then one more
abbrev pub with_digit : ℕ → ℕ → ℕ
with_digit n digit = n * 10 + (digit - 48)

-- the number that is written by the digits of n and then more
abbrev pub decimal_after : ℕ → List ℕ → ℕ
decimal_after n [] = n
decimal_after n (digit ∷ digits) = decimal_after (with_digit n digit) digits

-- the number that decimal digits write
abbrev pub decimal : List ℕ → ℕ
decimal digits = decimal_after 0 digits

-- ---- whole numbers

-- a word writes this number, by decimal digits alone
abbrev pub IsNumber : List ℕ → ℕ → Type 0
IsNumber word number = IsDecimal word × (number ≡ decimal word)

-- a word writes no number of a machine word: it is not digits, or too great
abbrev pub IsNoNumber : List ℕ → Type 0
IsNoNumber word = ¬ IsDecimal word ⊎ (2 ^ 64 ≤ decimal word)

-- ---- integers

-- the digits of an integer: all, or those behind a minus (the byte 45)
abbrev pub digits_in : List ℕ → List ℕ
digits_in [] = []
digits_in (byte ∷ bytes) = if nat_eq byte 45 then bytes else byte ∷ bytes

-- the integer that digits write, or a minus and digits
abbrev pub integer_written : List ℕ → ℤ
integer_written [] = pos 0
integer_written (byte ∷ bytes) = if nat_eq byte 45 then pos 0 -ℤ pos (decimal bytes) else pos (decimal (byte ∷ bytes))

-- a word writes this integer, by digits that are not too many, with a minus in front or without
pub record IsInteger (word : List ℕ) (number : ℤ) : Type 0 where
  pub digits : IsDecimal (digits_in word)
  pub few : length (digits_in word) ≤ MOST_DIGITS
  pub written : number ≡ integer_written word

-- a word writes no such integer: it is not digits, or too many, or they write too great a number
abbrev pub IsNoInteger : List ℕ → Type 0
IsNoInteger word =
    ¬ IsDecimal (digits_in word) ⊎ (MOST_DIGITS < length (digits_in word)) ⊎ (2 ^ 64 ≤ decimal (digits_in word))

-- a word writes no integer, or one that a type has not
abbrev pub IsNoIntegerOf : PType → List ℕ → Type 0
IsNoIntegerOf t word = IsNoInteger word ⊎ ¬ Holds t (integer_written word)
