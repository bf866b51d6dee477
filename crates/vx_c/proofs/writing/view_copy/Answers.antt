use Rattle.std.proofs.Common.{◌≡◌, ◌∙◌, List, ℕ, ap}
use Rattle.std.specs.Int.{w128, from_le_bytes, to_le_bytes}
use Rattle.vx_c.specs.TablesOf.{view_with}
use Rattle.vx_c.proofs.Sixteen.{le_bytes_16}
use Rattle.vx_c.proofs.writing.view_copy.Goals as goal

pub returns-clause-read : goal.returns-clause-read
returns-clause-read c =
    let same : to_le_bytes w128 (from_le_bytes w128 c.args.view.now) ≡ c.args.view.now =
    le_bytes_16 c.args.view.now c.as_u128.ensures.formed.sixteen c.as_u128.ensures.formed.bytes in
    ap (λ (bs : List ℕ). to_le_bytes w128 (from_le_bytes w128 bs)) (c.to_le_bytes.ensures ∙ ap (to_le_bytes w128) c.as_u128.ensures.number ∙ same) ∙ same

pub returns-clause-bytes : goal.returns-clause-bytes
returns-clause-bytes c =
    ap view_with (c.to_le_bytes.ensures ∙ ap (to_le_bytes w128) c.as_u128.ensures.number
    ∙ le_bytes_16 c.args.view.now c.as_u128.ensures.formed.sixteen c.as_u128.ensures.formed.bytes)
