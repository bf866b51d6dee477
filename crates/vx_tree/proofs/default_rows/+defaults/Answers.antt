use Rattle.std.proofs.Common.{◌≡◌, ◌∙◌, ◌*◌, ◌++◌, ◌∷◌, [], false, sym, ap, subst, take, arith}
use Rattle.std.specs.List.{AllZip}
use Rattle.vx_base.specs.declared.dtypes.DType.{DType}
use Rattle.vx_base.specs.DTypes.{dtype_meaning, is_nullable, field_kinds, field_names}
use Rattle.vx_base.specs.Kinds.{fixed_lists, records, is_nullable_kind}
use Rattle.vx_base.specs.Refusals.{Gives}
use Rattle.vx_base.proofs.Defaults.{zip_push, take_push}
use Rattle.vx_base.proofs.Refused.{Gives-weaker}
use Rattle.vx_base.proofs.StructKinds.{struct_kind}
use Rattle.vx_base.proofs.ValueFits.{field_depth, struct_depth}
use Rattle.vx_tree.specs.Tree.{Tree}
use Rattle.vx_tree.specs.DefaultRows.{AreDefaults}
use Rattle.vx_tree.proofs.DefaultRows.{list_defaults, own_defaults, default_columns_fit, record_defaults}
use Rattle.vx_tree.proofs.default_rows.+defaults.Goals as goal

pub default_columns-defaults_of-requires : goal.default_columns-defaults_of-requires
default_columns-defaults_of-requires t c =
    (omega (arith, field_depth c.args.dtypes.now c.loop-dtype.dtype-index c.dtype-item.result c.loop-dtype-test.true c.dtype-item.is, c.decreases), tt)

pub default_columns-loop-dtype-preserved : goal.default_columns-loop-dtype-preserved
default_columns-loop-dtype-preserved t c =
    let R : DType → Tree → Type 0 = λ d r. AreDefaults (dtype_meaning d) c.args.len r in
    let grown = zip_push R (take c.loop-dtype.dtype-index c.args.dtypes.now) c.loop-dtype.columns.items c.dtype-item.result c.in_ok-defaults_of.field-0
    c.loop-dtype.invariant c.in_ok-defaults_of.ensures in
    subst (λ ds. AllZip R ds c.push.new.self.items) (sym (take_push c.args.dtypes.now c.loop-dtype.dtype-index c.dtype-item.result c.loop-dtype-test.true c.dtype-item.is))
    (subst (λ vs. AllZip R (take c.loop-dtype.dtype-index c.args.dtypes.now ++ c.dtype-item.result ∷ []) vs) (sym c.in_ok-push.ensures.items) grown)

pub default_lists-returns-in_ok-elements-in-Some : goal.default_lists-returns-in_ok-elements-in-Some
default_lists-returns-in_ok-elements-in-Some t c =
    let k = dtype_meaning c.args.items.now in
    let elements = c.in_ok-elements-in-Some.elements in
    let count : c.in-Some.count ≡ c.args.len * c.args.size = omega (arith, c.in-Some.ensures) in
    let made : AreDefaults k (c.args.len * c.args.size) elements = subst (λ n. AreDefaults k n elements) count c.in_ok-elements-in-Some.ensures in
    Gives-weaker c.fixed_size_list.result _ _ (λ a e. list_defaults a elements k c.args.size c.args.len e made) c.fixed_size_list.ensures

pub default_lists-repeated_list-requires : goal.default_lists-repeated_list-requires
default_lists-repeated_list-requires t c =
    own_defaults (dtype_meaning c.args.items.now) c.args.size c.in_ok-elements-in-None.elements c.in_ok-elements-in-None.ensures

pub default_lists-returns-in_ok-elements-in-None : goal.default_lists-returns-in_ok-elements-in-None
default_lists-returns-in_ok-elements-in-None t c =
    subst (λ k. Gives c.repeated_list.result (AreDefaults (fixed_lists k c.args.size false) c.args.len)) c.in_ok-elements-in-None.ensures.kind c.repeated_list.ensures

pub default_records-records_of-requires : goal.default_records-records_of-requires
default_records-records_of-requires t c =
    let fs = c.args.fields.now in
    default_columns_fit (field_names fs) c.fields.result.now c.args.len c.in_ok-columns.columns.items (sym c.fields.ensures.count) c.in_ok-columns.ensures

pub default_records-returns : goal.default_records-returns
default_records-returns t c =
    let fs = c.args.fields.now in
    Gives-weaker c.records_of.result _ _
    (λ a e. subst (λ ks. AreDefaults (records (field_names fs) ks false) c.args.len a) c.fields.ensures.kinds
    (record_defaults a (field_names fs) c.fields.result.now c.in_ok-columns.columns.items c.args.len e c.in_ok-columns.ensures))
    c.records_of.ensures

pub defaults_of-default_records-requires : goal.defaults_of-default_records-requires
defaults_of-default_records-requires t c =
    let parts = c.in-Struct in
    (omega (arith, struct_depth c.args.dtype.now parts.fields parts.field-1 parts.is, c.decreases), tt)

pub defaults_of-returns-in-FixedSizeList : goal.defaults_of-returns-in-FixedSizeList
defaults_of-returns-in-FixedSizeList t c =
    let parts = c.in-FixedSizeList in
    let whole : dtype_meaning c.args.dtype.now ≡ fixed_lists (dtype_meaning parts.items.value) parts.size (is_nullable parts.field-2) = ap dtype_meaning parts.is in
    let none : is_nullable parts.field-2 ≡ false = sym (ap is_nullable_kind whole) ∙ sym c.is_nullable.ensures ∙ c.if-is_nullable.false in
    let kind : dtype_meaning c.args.dtype.now ≡ fixed_lists (dtype_meaning c.deref.result.now) parts.size false =
    whole ∙ ap (fixed_lists (dtype_meaning parts.items.value) parts.size) none ∙ ap (λ d. fixed_lists (dtype_meaning d) parts.size false) (sym c.deref.ensures) in
    subst (λ k. Gives c.default_lists.result (AreDefaults k c.args.len)) (sym kind) c.default_lists.ensures

pub defaults_of-returns-in-Struct : goal.defaults_of-returns-in-Struct
defaults_of-returns-in-Struct t c =
    let parts = c.in-Struct in
    let fs = parts.fields in
    let kind : dtype_meaning c.args.dtype.now ≡ records (field_names fs) (field_kinds fs) false =
    struct_kind c.args.dtype.now fs parts.field-1 parts.is ∙ ap (records (field_names fs) (field_kinds fs)) (sym c.is_nullable.ensures ∙ c.if-is_nullable.false) in
    subst (λ k. Gives c.default_records.result (AreDefaults k c.args.len)) (sym kind) c.default_records.ensures
