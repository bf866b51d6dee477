use Rattle.std.proofs.Common.{sym, ap, ◌∙◌}
use Rattle.vx_structs.specs.Structs.Faults.{column_lens_fault}
use Rattle.vx_structs.proofs.Structs.Faults.{columns_fit}
use Rattle.vx_structs.proofs.array.StructArray.of_columns.Goals as goal

pub structure-requires-clause-columns : goal.structure-requires-clause-columns
structure-requires-clause-columns c =
    columns_fit c.args.names c.args.columns.items c.args.len c.requires (ap (column_lens_fault c.args.len) (sym c.deref.ensures.value) ∙ c.in_ok-check_columns.ensures)
