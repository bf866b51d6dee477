use Rattle.std.proofs.Common.{◌≡◌, ◌*◌, ◌∙◌, arith}
use Rattle.vx_base.specs.Integers.{byte_width}
use Rattle.vx_base.proofs.Refused.{Gives-weaker}
use Rattle.vx_base.proofs.Zeroes.{zeroes-of_bytes}
use Rattle.vx_base.proofs.byte_buffer.zero_numbers.Goals as goal

pub returns-clause-zeroes : goal.returns-clause-zeroes
returns-clause-zeroes c =
    let zeroes = c.in_ok-bytes.ensures.items_if_clones_equal (λ y h. h) in
    let size : c.saturating_mul.result ≡ c.args.len * byte_width c.args.ptype = omega (arith, rw c.byte_width.ensures at c.saturating_mul.ensures, c.in_ok-bytes.ensures.len, c.in_ok-bytes.bytes.small) in
    Gives-weaker c.from_vec.result _ _ (λ b e. zeroes-of_bytes c.args.ptype c.args.len c.saturating_mul.result b (e ∙ zeroes) size) c.from_vec.ensures
