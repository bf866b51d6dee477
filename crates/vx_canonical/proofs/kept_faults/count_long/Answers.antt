use Rattle.std.proofs.Common.{◌≡◌, ◌+◌, ◌<◌, ◌≤◌, ℕ, Bool, true, false, List, length, map, take, ap, sym, ◌∙◌, add-zero, arith}
use Rattle.std.specs.Prelude.{count_by, slice_index_or}
use Rattle.std.specs.Int.{from_bool}
use Rattle.std.proofs.lemmas.List.{length-map, get_or-map}
use Rattle.std.proofs.lemmas.List.Sums.{count_by_more_yes, count_by_more_no}
use Rattle.vx_base.specs.Rows.{Row, null}
use Rattle.vx_base.specs.ValueRows.{option_row}
use Rattle.vx_tree.specs.RowParts.{is_long_row}
use Rattle.vx_canonical.proofs.kept_faults.count_long.Goals as goal

-- one row more
counted : (rs : List Row) (i : ℕ) (b : Bool) → i < length rs → is_long_row (slice_index_or rs i null) ≡ b
    → count_by is_long_row (take (i + 1) rs) ≡ count_by is_long_row (take i rs) + from_bool b
counted rs i true within here = count_by_more_yes is_long_row rs i null within here
counted rs i false within here = count_by_more_no is_long_row rs i null within here ∙ sym (add-zero (count_by is_long_row (take i rs)))

from_bool_few : (b : Bool) → from_bool b ≤ 1
from_bool_few true = omega arith
from_bool_few false = omega arith

pub loop-value-preserved : goal.loop-value-preserved
loop-value-preserved c =
    let vs = c.args.values.now in
    let i = c.loop-value.value-index in
    let within : i < length vs = omega arith in
    let here : is_long_row (slice_index_or (map option_row vs) i null) ≡ c.is_long.result =
    ap is_long_row (get_or-map option_row vs i c.value-item.result null within ∙ ap option_row (sym c.value-item.is)) ∙ sym c.is_long.ensures in
    let more = counted (map option_row vs) i c.is_long.result (omega (arith, within, length-map vs option_row)) here in
    (omega (arith, more, c.from-count.ensures, c.loop-value.invariant.0), omega (arith, c.from-count.ensures, from_bool_few c.is_long.result, c.loop-value.invariant.1))
