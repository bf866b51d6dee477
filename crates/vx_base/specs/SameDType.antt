-- Two data types are equal where they say the same kind of rows.
use Rattle.std.specs.Cmp.{IsEquivalence}
use Rattle.std.specs.Prelude.{Bool}
use Rattle.std.specs.Ordering.{on}
use Rattle.std.proofs.lemmas.Cmp.{on_equiv}
use Rattle.vx_base.specs.declared.dtypes.DType.{DType}
use Rattle.vx_base.specs.DTypes.{dtype_meaning}
use Rattle.vx_base.specs.SameKind.{kind_eq, kind_equiv}

abbrev pub dtype_eq : DType → DType → Bool
dtype_eq = on dtype_meaning kind_eq

pub dtype_equiv : IsEquivalence dtype_eq
dtype_equiv = on_equiv dtype_meaning kind_equiv
