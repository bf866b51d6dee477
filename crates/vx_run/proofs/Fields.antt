-- How deep the data types of a record's fields are.
use Rattle.std.proofs.Common.{◌≡◌, ◌+◌, ◌<◌, ◌≤◌, List, ℕ, length, slice_index_or}
use Rattle.vx_base.specs.Codes.{kind_depth, kinds_depth}
use Rattle.vx_base.specs.DTypes.{dtype_meaning, field_kinds, kinds_of}
use Rattle.vx_base.specs.declared.dtypes.DType.{DType, Struct as struct_dtype}
use Rattle.vx_base.specs.declared.nullability.Nullability.{Nullability}
use Rattle.vx_base.specs.declared.struct_fields.StructFields.{StructFields}
use Rattle.vx_base.proofs.ValueFits as values

-- no deeper than all of them
pub field_depth : (ds : List DType) (i : ℕ) (d : DType) → i < length ds → d ≡ slice_index_or ds i d → kind_depth (dtype_meaning d) ≤ kinds_depth (kinds_of ds)
field_depth = values.field_depth

-- a record is one deeper than its fields
pub struct_depth : (d : DType) (fs : StructFields) (n : Nullability) → d ≡ struct_dtype fs n → kind_depth (dtype_meaning d) ≡ kinds_depth (field_kinds fs) + 1
struct_depth = values.struct_depth
