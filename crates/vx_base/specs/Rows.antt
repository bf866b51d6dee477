-- The meaning of an array: its rows.
use Rattle.std.specs.Prelude.{ℕ, Bool, true, false, ℤ, pos, List, [], ◌∷◌, Option, Some, None}

mutual
  -- null, a truth value, a whole number, bytes, a text (as its bytes), a list of rows, or a record
  pub data Row : Type 0 where
    null : Row
    boolean : Bool → Row
    whole : ℤ → Row
    bytes : List ℕ → Row
    text : List ℕ → Row
    items : Rows → Row
    record_of : Fields → Row

  pub data Rows : Type 0 where
    no_rows : Rows
    row : Row → Rows → Rows

  -- the fields of a record, in order, each with its name
  pub data Fields : Type 0 where
    no_fields : Fields
    field : List ℕ → Row → Fields → Fields

-- the rows of a list row, as a list
abbrev pub list_from : Rows → List Row
list_from no_rows = []
list_from (row r rs) = r ∷ list_from rs

-- a list of rows, as the rows of a list row
abbrev pub rows_from : List Row → Rows
rows_from [] = no_rows
rows_from (r ∷ rs) = row r (rows_from rs)

-- the row is there
abbrev pub is_present : Row → Bool
is_present null = false
is_present _ = true

-- the truth value of a row
abbrev pub truth_of : Row → Bool
truth_of (boolean b) = b
truth_of _ = false

-- the number of a row, where it is one
abbrev pub number_in : Row → Option ℤ
number_in (whole z) = Some z
number_in _ = None

-- the position that a row names, where it is a number that is not negative
abbrev pub position_in : Row → Option ℕ
position_in (whole (pos n)) = Some n
position_in _ = None

-- the same, 0 where it names none
abbrev pub count_in : Row → ℕ
count_in (whole (pos n)) = n
count_in _ = 0

-- the list that a row is, where it is present
abbrev pub list_in : Row → Option (List Row)
list_in (items rs) = Some (list_from rs)
list_in _ = None
