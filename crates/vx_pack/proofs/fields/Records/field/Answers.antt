use Rattle.std.proofs.Common.{◌+◌, ◌<◌, length, sym, subst}
use Rattle.vx_tree.specs.Columns.{AllReach}
use Rattle.vx_tree.specs.Meaning.{trees_from}
use Rattle.vx_pack.proofs.PartRows.{reach_at, field_of_column, field_of_record}
use Rattle.vx_pack.specs.Records.{AreRecords, IsField}
use Rattle.vx_pack.proofs.fields.Records.field.Goals as goal

pub part_of-requires : goal.part_of-requires
part_of-requires c =
    let reach : AllReach (c.in-Columns.start + c.in-Columns.len) (trees_from c.in-Columns.columns.now) = rw c.in-Columns.is at c.requires.reach in
    let below : c.args.place < length c.in-Columns.columns.now = rw c.in-Columns.is at c.requires.in_bounds in
    reach_at (c.in-Columns.start + c.in-Columns.len) c.in-Columns.columns.now c.args.place c.index-columns-place.result reach below c.index-columns-place.is

pub returns-in-Columns : goal.returns-in-Columns
returns-in-Columns c = λ names ks formed.
    let below : c.args.place < length c.in-Columns.columns.now = rw c.in-Columns.is at c.requires.in_bounds in
    let here = subst (AreRecords names ks) c.in-Columns.is formed in
    let found = field_of_column names ks c.in-Columns.columns.now c.in-Columns.start c.in-Columns.len c.args.place c.index-columns-place.result c.part_of.result
    here.kinds.0 here.kinds.1 below c.index-columns-place.is c.part_of.ensures in
    subst (λ rs. IsField names ks rs c.args.place c.part_of.result) (sym c.in-Columns.is) (record { part = found.part; len = found.len; rows = found.rows })

pub returns-in-Values : goal.returns-in-Values
returns-in-Values c = λ names ks formed.
    let below : c.args.place < length c.in-Values.values.now = rw c.in-Values.is at c.requires.in_bounds in
    let here = subst (AreRecords names ks) c.in-Values.is formed in
    let found = field_of_record names ks c.in-Values.values.now c.from_ref.result.now c.index-values-place.result c.args.place c.part_of_values.result
    here.kinds below c.index-values-place.is c.from_ref.ensures.value c.part_of_values.ensures in
    subst (λ rs. IsField names ks rs c.args.place c.part_of_values.result) (sym c.in-Values.is) (record { part = found.part; len = found.len; rows = found.rows })
