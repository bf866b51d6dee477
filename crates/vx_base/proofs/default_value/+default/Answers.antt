use Rattle.std.proofs.Common.{◌≡◌, ◌∙◌, ◌++◌, ◌∷◌, [], sym, ap, subst, take}
use Rattle.std.specs.Prelude.{Option}
use Rattle.std.specs.List.{AllZip}
use Rattle.vx_base.specs.declared.dtypes.DType.{DType}
use Rattle.vx_base.specs.declared.scalar_value.ScalarValue.{ScalarValue}
use Rattle.vx_base.proofs.Defaults.{fixed_default, record_default, zip_push, take_push}
use Rattle.vx_base.specs.Defaults.{default_row}
use Rattle.vx_base.specs.Kinds.{Fits}
use Rattle.vx_base.specs.DTypes.{dtype_meaning, is_nullable}
use Rattle.vx_base.specs.ValueRows.{row_under}
use Rattle.vx_base.proofs.default_value.+default.Goals as goal

pub default_of-returns-in_ok-rows-in-FixedSizeList :
    goal.default_of-returns-in_ok-rows-in-FixedSizeList
default_of-returns-in_ok-rows-in-FixedSizeList t c =
    fixed_default (dtype_meaning c.args.dtype.now) (dtype_meaning c.in-FixedSizeList.items.value) c.in-FixedSizeList.size (is_nullable c.in-FixedSizeList.field-2)
    c.in_ok-item-in-FixedSizeList.item c.in_ok-repeated-in-FixedSizeList.field-0.items c.in_ok-rows-in-FixedSizeList.rows
    (ap dtype_meaning c.in-FixedSizeList.is) (sym c.is_nullable.ensures ∙ c.if-is_nullable.false)
    (subst (λ d. Fits (dtype_meaning d) (default_row (dtype_meaning d)) → row_under (dtype_meaning d) c.in_ok-item-in-FixedSizeList.item ≡ default_row (dtype_meaning d)) c.deref.ensures c.in_ok-item-in-FixedSizeList.ensures)
    c.in_ok-repeated-in-FixedSizeList.ensures c.in_ok-rows-in-FixedSizeList.ensures

pub default_of-returns-in_ok-values-in-Struct : goal.default_of-returns-in_ok-values-in-Struct
default_of-returns-in_ok-values-in-Struct t c =
    record_default c.args.dtype.now c.in-Struct.fields c.in-Struct.field-1 c.fields.result.now c.in_ok-defaults_of-in-Struct.field-0.items c.in_ok-values-in-Struct.values
    c.in-Struct.is (sym c.is_nullable.ensures ∙ c.if-is_nullable.false) c.fields.ensures.kinds c.in_ok-defaults_of-in-Struct.ensures c.in_ok-values-in-Struct.ensures

pub defaults_of-loop-dtype-preserved : goal.defaults_of-loop-dtype-preserved
defaults_of-loop-dtype-preserved t c =
    let R : DType → Option ScalarValue → Type 0 = λ d v. Fits (dtype_meaning d) (default_row (dtype_meaning d)) → row_under (dtype_meaning d) v ≡ default_row (dtype_meaning d) in
    let grown = zip_push R (take c.loop-dtype.dtype-index c.args.dtypes.now) c.loop-dtype.values.items c.dtype-item.result c.in_ok-default_of.field-0
    c.loop-dtype.invariant c.in_ok-default_of.ensures in
    subst (λ ds. AllZip R ds c.push.new.self.items) (sym (take_push c.args.dtypes.now c.loop-dtype.dtype-index c.dtype-item.result c.loop-dtype-test.true c.dtype-item.is))
    (subst (λ vs. AllZip R (take c.loop-dtype.dtype-index c.args.dtypes.now ++ c.dtype-item.result ∷ []) vs) (sym c.in_ok-push.ensures.items) grown)
