-- Values, one a row, in plain layout.
use Rattle.std.specs.Prelude.{◌≡◌, ◌<◌, ◌≤◌, ◌+◌, ◌^◌, ℕ, suc, ℤ, pos, Bool, true, false, List, [], ◌∷◌, length}
use Rattle.std.specs.Prelude.{map, take, Option, Some, None, is_some, slice_index_or, if◌then◌else◌}
use Rattle.std.specs.List.{All, filter, flat_map, range_with_len}
use Rattle.vx_base.specs.declared.dtypes.DType.{DType}
use Rattle.vx_base.specs.DTypes.{dtype_meaning}
use Rattle.vx_base.specs.declared.scalar_value.ScalarValue.{ScalarValue}
use Rattle.vx_base.specs.declared.scalar_value.ScalarValue.TheVariants as value
use Rattle.vx_base.specs.Kinds.{Kind, Fits, is_nullable_kind}
use Rattle.vx_base.specs.Rows.{Row, null, truth_of}
use Rattle.vx_base.specs.ValueRows.{value_row, option_row, named, row_under}
use Rattle.vx_views.specs.Views.{view_of}
use Rattle.vx_tree.specs.Tree.{Tree, Valid, non_nullable, all_valid}
use Rattle.vx_tree.specs.Meaning.{tree_len, kind_of, row_at}
use Rattle.vx_tree.specs.Shapes.{state_of, tree_state}
use Rattle.vx_tree.specs.Flags.{is_flagged}
use Rattle.vx_tree.specs.Validities.{valid_from}
use Rattle.vx_tree.specs.Plain.{IsPlain}
use Rattle.vx_tree.specs.RowParts.{field_in, is_long, items_in}
use Rattle.vx_tree.specs.Extents.{extent_of, rows_extent}

-- the truth value that a value is, false where it is none
abbrev pub truth_in : Option ScalarValue → Bool
truth_in v = truth_of (option_row v)

-- the number that a value is, 0 where it is none
abbrev pub number_or_zero : Option ScalarValue → ℤ
number_or_zero (Some (value.Int z)) = z
number_or_zero _ = pos 0

-- a value that is there fits a kind
abbrev pub FitsIfThere : Kind → Option ScalarValue → Type 0
FitsIfThere k None = Unit {0}
FitsIfThere k (Some v) = Fits k (named k (value_row v))

-- the validity of values: true where a value is there, if null may stand
abbrev pub values_valid : Bool → List (Option ScalarValue) → Valid
values_valid true vs = valid_from 0 (map is_some vs) all_valid
values_valid false vs = non_nullable

-- the bytes of a value, none where it is no text and no byte list
abbrev pub value_bytes : Option ScalarValue → List ℕ
value_bytes (Some (value.Bytes bs)) = bs
value_bytes (Some (value.Text bs)) = bs
value_bytes _ = []

-- the values that are too long, each a buffer
abbrev pub long_values : List (Option ScalarValue) → List (List ℕ)
long_values [] = []
long_values (v ∷ vs) = if is_long (value_bytes v) then value_bytes v ∷ long_values vs else long_values vs

-- the views of values, of which the long ones stand in buffers numbered from n on
abbrev pub values_views : ℕ → List (Option ScalarValue) → List (List ℕ)
values_views n [] = []
values_views n (v ∷ vs) = view_of (value_bytes v) n 0 ∷ values_views (if is_long (value_bytes v) then n + 1 else n) vs

-- the views and the buffers of values
pub record AreTexts (vs : List (Option ScalarValue)) (ws bs : List (List ℕ)) : Type 0 where
  pub views : ws ≡ values_views 0 vs
  pub buffers : bs ≡ long_values vs
  pub few : length bs ≤ 2 ^ 32

-- the values in plain layout, where they fit the kind
pub record ArePlainValues (k : Kind) (vs : List (Option ScalarValue)) (r : Tree) : Type 0 where
  pub len : tree_len r ≡ length vs
  pub kind : kind_of r ≡ k
  pub plain : IsPlain r
  pub state : tree_state r ≡ state_of (values_valid (is_nullable_kind k) vs)
  pub extent : extent_of r ≡ rows_extent k (map option_row vs)
  pub flag : is_flagged r ≡ false
  pub rows : (i : ℕ) → i < length vs → Fits k (row_under k (slice_index_or vs i None))
      → row_at r i ≡ row_under k (slice_index_or vs i None)

-- ---- rows

-- where each list begins among the rows of all of them
abbrev pub list_places : List Row → List ℕ
list_places rs = map (λ i. length (flat_map items_in (take i rs))) (range_with_len 0 (length rs))

-- how many rows each list has
abbrev pub list_sizes : List Row → List ℕ
list_sizes rs = map (λ r. length (items_in r)) rs

-- these rows, given the names of a kind, in plain layout, each where it fits the kind
pub record ArePlainRows (k : Kind) (rs : List Row) (r : Tree) : Type 0 where
  pub len : tree_len r ≡ length rs
  pub kind : kind_of r ≡ k
  pub plain : IsPlain r
  pub extent : extent_of r ≡ rows_extent k rs
  pub rows : (i : ℕ) → i < length rs → Fits k (named k (slice_index_or rs i null)) → row_at r i ≡ named k (slice_index_or rs i null)

-- the fields of rows from place c on, each of the kind of a data type, in plain layout
abbrev pub ArePlainFields : ℕ → List DType → List Row → List Tree → Type 0
ArePlainFields c [] rs [] = Unit {0}
ArePlainFields c (d ∷ ds) rs (t ∷ ts) = ArePlainRows (dtype_meaning d) (map (field_in c) rs) t × ArePlainFields (suc c) ds rs ts
ArePlainFields c _ rs _ = ⊥

-- a row, given the names of a kind, fits it where it is there
abbrev pub FitsNamed : Kind → Row → Type 0
FitsNamed k null = Unit {0}
FitsNamed k r = Fits k (named k r)

-- each field of rows fits the kind of the data type at its place
abbrev pub FieldsFitNamed : List DType → List Row → Type 0
FieldsFitNamed ds rs = (c : ℕ) (d : DType) → c < length ds
    → All (λ r. FitsNamed (dtype_meaning (slice_index_or ds c d)) (field_in c r)) rs

-- the rows of lists, one list after another, with the place and the length of each
pub record AreSpread (rs qs : List Row) (os ns : List ℕ) : Type 0 where
  pub items : qs ≡ flat_map items_in rs
  pub places : os ≡ list_places rs
  pub sizes : ns ≡ list_sizes rs

-- of values those that are there, each once, behind one that is none, and the place of each value among these
pub record AreGathered (vs ws : List (Option ScalarValue)) (ps : List ℕ) : Type 0 where
  pub few : ws ≡ None ∷ filter is_some vs
  pub within : All (λ p. p < length ws) ps
  pub values : map (λ p. slice_index_or ws p None) ps ≡ vs
