-- A value of a list or of a record is less deep than it.
use Rattle.std.specs.Prelude.{◌≡◌, ◌≤◌, ℕ, List, [], ◌∷◌, map, max, Option, Some, None, refl}
use Rattle.std.proofs.Common.{arith, ap}
use denote.Param.Weighed.{most}
use Rattle.vx_base.specs.declared.scalar_value.ScalarValue.{ScalarValue}
use Rattle.vx_base.specs.declared.scalar_value.ScalarValue.TheVariants as value
use Rattle.vx_base.specs.declared.scalar_value.ScalarValues.TheDeep.{deep-ScalarValue}
use Rattle.vx_base.specs.declared.scalar_value.ScalarValues.TheShapes.{weighed-ScalarValues-values-at-1}
use Rattle.vx_base.specs.Rows.{Rows, no_rows, row, rows_from}
use Rattle.vx_base.specs.Codes.{row_depth, rows_depth, fields_depth}
use Rattle.vx_base.specs.ValueRows.{unnamed, option_row}

abbrev option_deep : Option ScalarValue → ℕ
option_deep v = (weighed-ScalarValues-values-at-1).weight ScalarValue deep-ScalarValue v

unnamed_depth : (rs : Rows) → fields_depth (unnamed rs) ≡ rows_depth rs
unnamed_depth no_rows = refl
unnamed_depth (row r rs) = ap (max (row_depth r)) (unnamed_depth rs)

option_falls : (v : Option ScalarValue) → option_deep v ≤ row_depth (option_row v)
option_falls None = omega arith
option_falls (Some (value.Bool b)) = omega arith
option_falls (Some (value.Int z)) = omega arith
option_falls (Some (value.Bytes bs)) = omega arith
option_falls (Some (value.Text bs)) = omega arith
option_falls (Some (value.List rs)) = omega arith
option_falls (Some (value.Record rs)) = omega (arith, unnamed_depth rs)

pub values_fall : (vs : List (Option ScalarValue)) → max (most option_deep vs) 0 ≤ rows_depth (rows_from (map option_row vs))
values_fall [] = omega arith
values_fall (v ∷ vs) = omega (arith, option_falls v, values_fall vs)
