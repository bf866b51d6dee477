-- One row with its data type.
use Rattle.std.specs.Prelude.{refl}
use Rattle.std.specs.Coded.{Coded, code_by, coded×}
use Rattle.vx_base.specs.Rows.{Row}
use Rattle.vx_base.specs.Kinds.{Kind}
use Rattle.vx_base.specs.Codes.{coded_kind, coded_row}

-- a row of a kind
pub record TypedRow : Type 0 where
  pub kind : Kind
  pub row : Row

abbrev pub coded_typed_row : Coded TypedRow
coded_typed_row =
    code_by (Kind × Row) (coded× coded_kind coded_row) (λ s. (s.kind, s.row)) (λ p. record { kind = p.0; row = p.1 }) (λ _. refl)

abbrev pub typed_row : Kind → Row → TypedRow
typed_row k r = record { kind = k; row = r }
