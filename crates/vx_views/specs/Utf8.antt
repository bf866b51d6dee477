-- UTF-8 by the table of its sequences, and where a text may be cut.
use Rattle.std.specs.Prelude.{◌≡◌, ℕ, ◌<◌, ◌≤◌, ◌⊎◌, ◌↔◌, List, [], ◌∷◌, length, slice_index, slice_range, All, Contains, IsUtf8}
use Rattle.std.specs.Int.{IsInRange}
use Rattle.std.specs.List.{concat}

-- the sequences: for each of a sequence's bytes the least and the greatest that may stand there
abbrev pub sequences : List (List (ℕ × ℕ))
sequences =
    ((0x00, 0x7F) ∷ [])
    ∷ ((0xC2, 0xDF) ∷ (0x80, 0xBF) ∷ [])
    ∷ ((0xE0, 0xE0) ∷ (0xA0, 0xBF) ∷ (0x80, 0xBF) ∷ [])
    ∷ ((0xE1, 0xEC) ∷ (0x80, 0xBF) ∷ (0x80, 0xBF) ∷ [])
    ∷ ((0xED, 0xED) ∷ (0x80, 0x9F) ∷ (0x80, 0xBF) ∷ [])
    ∷ ((0xEE, 0xEF) ∷ (0x80, 0xBF) ∷ (0x80, 0xBF) ∷ [])
    ∷ ((0xF0, 0xF0) ∷ (0x90, 0xBF) ∷ (0x80, 0xBF) ∷ (0x80, 0xBF) ∷ [])
    ∷ ((0xF1, 0xF3) ∷ (0x80, 0xBF) ∷ (0x80, 0xBF) ∷ (0x80, 0xBF) ∷ [])
    ∷ ((0xF4, 0xF4) ∷ (0x80, 0x8F) ∷ (0x80, 0xBF) ∷ (0x80, 0xBF) ∷ [])
    ∷ []

-- there are as many bytes as ranges, and each byte lies in its range
abbrev pub LieIn : List (ℕ × ℕ) → List ℕ → Type 0
LieIn [] [] = Unit {0}
LieIn [] (byte ∷ bytes) = ⊥
LieIn (range ∷ ranges) [] = ⊥
LieIn (range ∷ ranges) (byte ∷ bytes) = IsInRange range.0 range.1 byte × LieIn ranges bytes

-- the bytes are a sequence of the table
abbrev pub IsSequence : List ℕ → Type 0
IsSequence bytes = (ranges : List (ℕ × ℕ)) × Contains sequences ranges × LieIn ranges bytes

-- the bytes are a joining of sequences of the table
abbrev pub IsJoinedSequences : List ℕ → Type 0
IsJoinedSequences bytes = (parts : List (List ℕ)) × All IsSequence parts × (concat parts ≡ bytes)

-- position p is the end of the bytes, or the byte there continues no sequence
abbrev pub IsBoundary : List ℕ → ℕ → Type 0
IsBoundary bytes p = (p ≡ length bytes) ⊎ ((p < length bytes) × ¬ (IsInRange 0x80 0xBF (slice_index bytes p)))

-- within UTF-8 bytes the ranges that are UTF-8 are those that begin and end at boundaries
abbrev pub BoundariesDecideRanges : List ℕ → Type 0
BoundariesDecideRanges bytes =
    (start end : ℕ) → start < end → end ≤ length bytes
    → IsUtf8 (slice_range bytes start end) ↔ (IsBoundary bytes start × IsBoundary bytes end)
