-- Values of the valid rows alone, laid over all rows.
use Rattle.std.specs.Prelude.{◌*◌, ◌%◌, ◌^◌, ◌==◌, ℕ, ℤ, pos, Bool, true, false, List, [], ◌∷◌, drop, length, count_by, nat_lt, Option}
use Rattle.std.specs.Prelude.{Some, None, if◌then◌else◌}
use Rattle.vx_base.specs.declared.ptypes.PType.{PType}
use Rattle.vx_base.specs.Integers.{byte_width, number_nth}
use Rattle.vx_base.specs.Refusals.{Refusal, length_mismatch, overflow, or_else}
use Rattle.vx_tree.specs.Tree.{Valid, non_nullable, all_valid, all_invalid, by_array}
use Rattle.vx_tree.specs.Meaning.{valid_mask}
use Rattle.vx_tree.specs.Faults.{validity_fault}

-- a row for each boolean: the values in order where it is true, 0 where it is not
abbrev pub spread : List Bool → List ℤ → List ℤ
spread [] values = []
spread (true ∷ mask) values = number_nth values 0 ∷ spread mask (drop 1 values)
spread (false ∷ mask) values = pos 0 ∷ spread mask values

-- ---- faults of the bytes

-- bytes that are not those of whole numbers
abbrev pub whole_fault : PType → List ℕ → Option Refusal
whole_fault t bytes = if length bytes % byte_width t == 0 then None else Some length_mismatch

-- a state under which no row is null
abbrev pub never_null : Valid → Bool
never_null non_nullable = true
never_null all_valid = true
never_null all_invalid = false
never_null (by_array m) = false

-- bytes that are not those of n numbers
abbrev pub exact_fault : PType → List ℕ → ℕ → Option Refusal
exact_fault t bytes n = if length bytes == n * byte_width t then None else Some length_mismatch

-- fewer bytes than those of n numbers
abbrev pub short_fault : PType → List ℕ → ℕ → Option Refusal
short_fault t bytes n = if nat_lt (length bytes) (n * byte_width t) then Some length_mismatch else None

-- where no row is null there is just one value a row; under an array one for each valid row at least
abbrev pub count_fault : PType → List ℕ → Valid → ℕ → Option Refusal
count_fault t bytes non_nullable n = exact_fault t bytes n
count_fault t bytes all_valid n = exact_fault t bytes n
count_fault t bytes all_invalid n = None
count_fault t bytes (by_array m) n = short_fault t bytes (count_by (λ b. b) (valid_mask (by_array m) n))

-- numbers of n rows that need more bytes than can be counted
abbrev pub size_fault : PType → ℕ → Option Refusal
size_fault t n = if nat_lt (n * byte_width t) (2 ^ 64) then None else Some overflow

-- the validity's fault, more bytes than can be counted, then the bytes'
abbrev pub values_fault : PType → List ℕ → Valid → ℕ → Option Refusal
values_fault t bytes v n = or_else (validity_fault v n) (or_else (size_fault t n) (count_fault t bytes v n))
