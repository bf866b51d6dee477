use Rattle.std.proofs.Common.{map, ◌∙◌, ap}
use Rattle.vx_base.specs.Rows.{whole}
use Rattle.vx_tree.specs.Meaning.{rows}
use Rattle.vx_uses.proofs.reader.column_of_bytes.Goals as goal

pub returns-clause-rows : goal.returns-clause-rows
returns-clause-rows g c =
    ap rows c.into_array.ensures.value
    ∙ c.rows_of_numbers.ensures.all g.T.NativePType.PTYPE (map g.T.Number.value c.in_ok-numbers.numbers) c.in_ok-column.column c.in_ok-column.ensures.parts
    ∙ ap (map whole) c.in_ok-numbers.ensures
