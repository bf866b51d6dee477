use Rattle.std.proofs.Common.{length, sym, ap, ◌∙◌}
use Rattle.vx_tree.specs.Parts.{valid_of}
use Rattle.vx_tree.proofs.RowLists.{length-valid_mask}
use Rattle.vx_leaves.proofs.bool_ext.BoolArrayBoolArrayExt.to_mask_fill_null_false.Goals as goal

pub and-requires : goal.and-requires
and-requires c =
    let parts = c.parts-parts.result in
    let len = length parts.bits.now.bits in
    sym (ap length (c.in-Some.ensures len c.parts-parts.ensures.formed) ∙ length-valid_mask (valid_of parts.validity.now) len)

pub from_buffer_within-requires : goal.from_buffer_within-requires
from_buffer_within-requires c =
    sym (ap length c.in_ok-valid-in_default.ensures ∙ length-valid_mask (valid_of c.parts-parts.result.validity.now) c.len.result ∙ c.len.ensures)

pub returns-in_ok-valid-in_default : goal.returns-in_ok-valid-in_default
returns-in_ok-valid-in_default c =
    rw c.parts-parts.ensures.same (rw (c.in_ok-valid-in_default.ensures, c.len.ensures) at c.from_buffer_within.ensures)
