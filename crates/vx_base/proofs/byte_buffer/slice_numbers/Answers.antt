use Rattle.std.proofs.Common.{◌≡◌, length, ap, ◌∙◌}
use Rattle.std.specs.Prelude.{slice_range, ◌*◌, ◌-◌}
use Rattle.vx_base.specs.Integers.{numbers, byte_width}
use Rattle.vx_base.proofs.Refused.{Gives-weaker, Gives-IfOk}
use Rattle.vx_base.proofs.NumberLists.{numbers_between, numbers_long, numbers_room}
use Rattle.vx_base.proofs.byte_buffer.slice_numbers.Goals as goal

pub returns-clause-ok : goal.returns-clause-ok
returns-clause-ok c =
    let bs = c.args.bytes.now in
    let t = c.args.ptype in
    let room = numbers_room t bs c.args.range.end c.requires.in_bounds in
    let part = rw c.byte_width-width.ensures at c.slice.ensures in
    Gives-weaker c.slice.result (λ b. b ≡ slice_range bs (c.args.range.start * byte_width t) (c.args.range.end * byte_width t))
    (λ b. numbers t b ≡ slice_range (numbers t bs) c.args.range.start c.args.range.end)
    (λ b e. ap (numbers t) e ∙ numbers_between t bs c.args.range.start c.args.range.end c.requires.start_le_end room) part

pub returns-clause-len : goal.returns-clause-len
returns-clause-len c =
    let bs = c.args.bytes.now in
    let t = c.args.ptype in
    let room = numbers_room t bs c.args.range.end c.requires.in_bounds in
    let part = rw c.byte_width-width.ensures at c.slice.ensures in
    Gives-IfOk c.slice.result (λ b. b ≡ slice_range bs (c.args.range.start * byte_width t) (c.args.range.end * byte_width t))
    (λ b. length b ≡ (c.args.range.end - c.args.range.start) * byte_width t)
    (λ b e. ap length e ∙ numbers_long t bs c.args.range.start c.args.range.end c.requires.start_le_end room) part
