use Rattle.std.proofs.Common.{◌+◌, ◌*◌, ◌↔◌, drop}
use Rattle.vx_base.specs.Codes.{kind_depth, kinds_depth}
use Rattle.vx_base.specs.DTypes.{dtype_meaning, field_names, field_kinds, kinds_of}
use Rattle.vx_base.specs.ValueRows.{ValuesFit, RecordFits}
use Rattle.vx_base.proofs.scalar_value.+fits.Given as goal

abbrev pub decreases-fits : goal.decreases-fits
decreases-fits l = 4 * kind_depth (dtype_meaning l.dtype.now)

abbrev pub decreases-all_fit : goal.decreases-all_fit
decreases-all_fit l = 4 * kind_depth (dtype_meaning l.dtype.now) + 1

abbrev pub decreases-all_fit_size : goal.decreases-all_fit_size
decreases-all_fit_size l = 4 * kind_depth (dtype_meaning l.dtype.now) + 2

abbrev pub decreases-fields_fit : goal.decreases-fields_fit
decreases-fields_fit l = 4 * kinds_depth (field_kinds l.fields.now) + 1

abbrev pub invariant-all_fit-loop-value : goal.invariant-all_fit-loop-value
invariant-all_fit-loop-value l =
    ValuesFit (dtype_meaning l.dtype) (drop l.value-index l.values) ↔ ValuesFit (dtype_meaning l.dtype) l.values

abbrev pub invariant-fields_fit-loop-i : goal.invariant-fields_fit-loop-i
invariant-fields_fit-loop-i l =
    RecordFits (drop l.i (field_names l.fields)) (kinds_of (drop l.i l.dtypes)) (drop l.i l.values)
    ↔ RecordFits (field_names l.fields) (kinds_of l.dtypes) l.values
