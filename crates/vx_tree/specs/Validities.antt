-- What the calls of a validity give, and which fault they answer with.
use Rattle.std.specs.Prelude.{◌≡◌, ◌<◌, ◌==◌, ◌&&◌, ◌||◌, ℕ, Bool, true, false, List, length, count_by, Option}
use Rattle.std.specs.Prelude.{Some, None, if◌then◌else◌}
use Rattle.vx_base.specs.Bits.{both}
use Rattle.vx_base.specs.Kinds.{booleans, is_plain_booleans}
use Rattle.vx_base.specs.Refusals.{Refusal, mismatched_types, has_nulls, or_else}
use Rattle.vx_base.specs.Rows.{count_in, is_present, truth_of, boolean}
use Rattle.vx_tree.specs.Tree.{Tree, bools, constant, Valid, non_nullable, all_valid, all_invalid, by_array}
use Rattle.vx_tree.specs.Meaning.{tree_len, kind_of, row_at, is_valid_at, nullable, valid_mask}
use Rattle.vx_tree.specs.Shapes.{State, never_null, none_null, every_null, told, state_of, taken_state, tree_state}
use Rattle.vx_tree.specs.Formed.{ValidFits}
use Rattle.vx_tree.specs.Faults.{length_fault, slice_fault, position_fault, take_fault, valid_type_fault}

-- ---- the pair that a validity means for n rows: whether null may stand, and which rows are valid

abbrev pub pair_of : Valid → ℕ → Bool × List Bool
pair_of v n = (nullable v, valid_mask v n)

-- of two pairs: null may stand where it may in either, a row is valid where it is in both
abbrev pub both_pairs : Bool × List Bool → Bool × List Bool → Bool × List Bool
both_pairs p q = (p.0 || q.0, both p.1 q.1)

-- of an array and a state that says that no row is null: the array
abbrev pub kept_array : Valid → Valid → Option Tree
kept_array (by_array t) non_nullable = Some t
kept_array (by_array t) all_valid = Some t
kept_array non_nullable (by_array t) = Some t
kept_array all_valid (by_array t) = Some t
kept_array _ _ = None

-- an array of truth values that is true where one value is and another array is
pub record IsAndOf (b : Bool) (o : Tree) (w : Valid) : Type 0 where
  pub fits : ValidFits w (tree_len o)
  pub state : state_of w ≡ told
  pub bits : (i : ℕ) → is_valid_at w i ≡ (b && truth_of (row_at o i))

-- the other truth value
abbrev pub opposite : Bool → Bool
opposite b = if b then false else true

-- no row is null
abbrev pub has_no_nulls : Valid → ℕ → Bool
has_no_nulls v n = (count_by (λ b. b) (valid_mask v n) == n)

-- ---- what a state tells

-- no row is null
abbrev pub is_full_state : State → Bool
is_full_state never_null = true
is_full_state none_null = true
is_full_state every_null = false
is_full_state told = false

-- every row is null
abbrev pub is_null_state : State → Bool
is_null_state never_null = false
is_null_state none_null = false
is_null_state every_null = true
is_null_state told = false

-- ---- made of a validity

-- the validity under which null may stand
abbrev pub made_nullable : Valid → Valid
made_nullable non_nullable = all_valid
made_nullable all_valid = all_valid
made_nullable all_invalid = all_invalid
made_nullable (by_array t) = by_array t

-- the array, where there is one
abbrev pub array_in : Valid → Option Tree
array_in (by_array t) = Some t
array_in _ = None

-- the same where null is asked to be able to stand, else the one under which none may
abbrev pub cast_of : Valid → Bool → Valid
cast_of v true = made_nullable v
cast_of v false = non_nullable

-- n rows of booleans that tell which rows are valid
abbrev pub array_of : Valid → ℕ → Tree
array_of non_nullable n = constant (booleans false) (boolean true) n
array_of all_valid n = constant (booleans false) (boolean true) n
array_of all_invalid n = constant (booleans false) (boolean false) n
array_of (by_array t) n = t

-- the validity of booleans: the given one where all are true, all invalid where none is, else an array of them that begins at a bit
abbrev pub valid_from : ℕ → List Bool → Valid → Valid
valid_from b bits full =
    if count_by (λ b. b) bits == length bits then full
    else (if count_by (λ b. b) bits == 0 then all_invalid else by_array (bools b bits non_nullable))

-- the simplest that says the same of n rows: all valid for an array none of whose rows is null, all invalid for one whose rows all
-- are; else it stays
abbrev pub simplest : Valid → ℕ → Valid
simplest non_nullable n = non_nullable
simplest all_valid n = all_valid
simplest all_invalid n = all_invalid
simplest (by_array t) n =
    if has_no_nulls (by_array t) n then all_valid
    else (if count_by (λ b. b) (valid_mask (by_array t) n) == 0 then all_invalid else by_array t)

-- no null may stand, or no null stands
abbrev pub full_valid : Bool → Valid
full_valid true = all_valid
full_valid false = non_nullable

-- the state of rows that are valid where they are not in another
abbrev pub opposite_state : State → State
opposite_state never_null = never_null
opposite_state none_null = every_null
opposite_state every_null = none_null
opposite_state told = told

-- of a validity under which null may stand each row is turned
pub record IsOpposite (v : Valid) (n : ℕ) (w : Valid) : Type 0 where
  pub fits : ValidFits w n
  pub state : state_of w ≡ opposite_state (state_of v)
  pub bits : (i : ℕ) → i < n → is_valid_at w i ≡ (if nullable v then opposite (is_valid_at v i) else is_valid_at v i)

-- the state under which null may stand
abbrev pub nullable_state : State → State
nullable_state never_null = none_null
nullable_state none_null = none_null
nullable_state every_null = every_null
nullable_state told = told

-- the state of rows that are valid in both
abbrev pub both_states : State → State → State
both_states never_null s = s
both_states none_null s = nullable_state s
both_states every_null s = every_null
both_states told never_null = told
both_states told none_null = told
both_states told every_null = every_null
both_states told told = told

-- the validity of the rows at indices: valid where the index is not null and the validity is true there
pub record IsValidTaken (v : Valid) (indices : Tree) (w : Valid) : Type 0 where
  pub fits : ValidFits w (tree_len indices)
  pub state : state_of w ≡ taken_state (state_of v) (tree_state indices)
  pub bits : (i : ℕ) → i < tree_len indices
      → is_valid_at w i ≡ (is_valid_at v (count_in (row_at indices i)) && is_present (row_at indices i))

-- ---- casts that look at no row

-- the validity under which no null may stand, where its state alone says that none stands
abbrev pub known_plain : Valid → Option Valid
known_plain non_nullable = Some non_nullable
known_plain all_valid = Some non_nullable
known_plain all_invalid = None
known_plain (by_array t) = None

abbrev pub trivial_cast : Valid → Bool → ℕ → Option Valid
trivial_cast v true n = Some (made_nullable v)
trivial_cast v false n = if n == 0 then Some non_nullable else known_plain v

-- ---- faults

-- of a validity whose rows are all null
abbrev pub all_null_fault : Valid → Option Refusal
all_null_fault all_invalid = Some has_nulls
all_null_fault _ = None

abbrev pub trivial_cast_fault : Valid → Bool → ℕ → Option Refusal
trivial_cast_fault v true n = None
trivial_cast_fault v false n = if n == 0 then None else all_null_fault v

-- of a validity of no rows no row is looked at
abbrev pub non_nullable_fault : Valid → ℕ → Option Refusal
non_nullable_fault v n = if n == 0 then None else valid_type_fault v

abbrev pub cast_fault : Valid → Bool → ℕ → Option Refusal
cast_fault v true n = None
cast_fault v false n = or_else (non_nullable_fault v n) (if has_no_nulls v n then None else Some has_nulls)

-- a fault of an array of plain booleans, and of any other array that it is none
abbrev pub plain_fault : Tree → Option Refusal → Option Refusal
plain_fault t fault = if is_plain_booleans (kind_of t) then fault else Some mismatched_types

-- a row of the array, where there is one
abbrev pub valid_position_fault : Valid → ℕ → Option Refusal
valid_position_fault (by_array t) i = plain_fault t (position_fault (tree_len t) i)
valid_position_fault _ i = None

abbrev pub valid_slice_fault : Valid → ℕ → ℕ → Option Refusal
valid_slice_fault (by_array t) start end = plain_fault t (slice_fault (tree_len t) start end)
valid_slice_fault _ start end = None

abbrev pub valid_filter_fault : Valid → ℕ → Option Refusal
valid_filter_fault (by_array t) n = plain_fault t (length_fault (tree_len t) n)
valid_filter_fault _ n = None

abbrev pub valid_take_fault : Valid → Tree → Option Refusal
valid_take_fault (by_array t) indices = plain_fault t (take_fault t indices)
valid_take_fault _ indices = None

-- two arrays: either is none of plain booleans, or one is longer
abbrev pub and_fault : Valid → Valid → Option Refusal
and_fault (by_array t) (by_array u) = plain_fault t (plain_fault u (length_fault (tree_len t) (tree_len u)))
and_fault _ _ = None

-- ---- laws

abbrev pub BothCommutes : Type 0
BothCommutes = (p q : Bool × List Bool) → both_pairs p q ≡ both_pairs q p

abbrev pub BothAssociates : Type 0
BothAssociates = (p q r : Bool × List Bool) → both_pairs (both_pairs p q) r ≡ both_pairs p (both_pairs q r)

abbrev pub BothRepeats : Type 0
BothRepeats = (p : Bool × List Bool) → both_pairs p p ≡ p

-- where no null may stand, nothing changes
abbrev pub BothHasUnit : Type 0
BothHasUnit = (p : Bool × List Bool) → both_pairs p (pair_of non_nullable (length p.1)) ≡ p

-- what a cast gives that looks at no row, the cast gives; where it has a fault, the cast has it
pub record IsTrivialCast (v : Valid) (wanted : Bool) (n : ℕ) : Type 0 where
  pub given : (w : Valid) → trivial_cast_fault v wanted n ≡ None → trivial_cast v wanted n ≡ Some w
      → (cast_fault v wanted n ≡ None) × (cast_of v wanted ≡ w)
  pub refused : (r : Refusal) → trivial_cast_fault v wanted n ≡ Some r → cast_fault v wanted n ≡ Some r

abbrev pub TrivialCasts : Type 0
TrivialCasts = (v : Valid) (wanted : Bool) (n : ℕ) → IsTrivialCast v wanted n
