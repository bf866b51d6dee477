use Rattle.std.proofs.Common.{◌≡◌, ◌∙◌, ap, map}
use Rattle.vx_base.specs.Kinds.{records, kinds_from}
use Rattle.vx_base.specs.DTypes.{dtype_meaning, field_names, field_kinds, is_nullable}
use Rattle.vx_tree.specs.Meaning.{kinds_of, trees_from}
use Rattle.vx_tree.proofs.Columns.{kinds_of-columns, column_count-columns}
use Rattle.vx_tree.proofs.layouts.structure.record_dtype.Goals as goal

pub new-requires-2 : goal.new-requires-2
new-requires-2 c =
    rw (c.in_ok-names.ensures, c.in_ok-dtypes.ensures.ok) (c.requires ∙ column_count-columns c.args.columns.now c.in_ok-column_dtypes.field-0.items c.in_ok-column_dtypes.ensures)

pub returns : goal.returns
returns c =
    let names : field_names c.new-2.result ≡ c.args.names.now = c.new-2.ensures.names ∙ c.in_ok-names.ensures in
    let kinds : field_kinds c.new-2.result ≡ kinds_of (trees_from c.args.columns.now) =
    c.new-2.ensures.kinds ∙ ap (λ v. kinds_from (map dtype_meaning v.items)) c.in_ok-dtypes.ensures.ok ∙ kinds_of-columns c.args.columns.now c.in_ok-column_dtypes.field-0.items c.in_ok-column_dtypes.ensures in
    c.new_struct.ensures ∙ (λ i. records (names i) (kinds i) (is_nullable c.args.nullability))
