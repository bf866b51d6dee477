use Rattle.std.proofs.Common.{rules, ◌*◌, ◌≡◌, length, map, ap, ◌∙◌}
use Rattle.std.specs.List.{flat_map}
use Rattle.vx_base.specs.Integers.{byte_width, numbers, number_nth}
use Rattle.vx_base.specs.Selections.{bytes_of_position}
use Rattle.vx_base.proofs.Refused.{Gives-weaker, Gives-IfOk}
use Rattle.vx_base.proofs.Gathered.{numbers_gathered, length_gathered}
use Rattle.vx_base.proofs.gathered_numbers.gather_numbers.Goals as goal

-- what was appended to nothing
picked : (c : goal.After-from_vec) → c.in_ok-picked.picked.items ≡ flat_map (bytes_of_position (byte_width c.args.ptype) c.args.bytes.now) c.args.selection.now
picked c = search rules

pub returns-clause-ok : goal.returns-clause-ok
returns-clause-ok c =
    let t = c.args.ptype in
    let bs = c.args.bytes.now in
    Gives-weaker c.from_vec.result (λ b. b ≡ c.in_ok-picked.picked.items) (λ b. numbers t b ≡ map (number_nth (numbers t bs)) c.args.selection.now)
    (λ b e. ap (numbers t) (e ∙ picked c) ∙ numbers_gathered t bs c.args.selection.now c.requires) c.from_vec.ensures

pub returns-clause-len : goal.returns-clause-len
returns-clause-len c =
    let t = c.args.ptype in
    Gives-IfOk c.from_vec.result (λ b. b ≡ c.in_ok-picked.picked.items) (λ b. length b ≡ length c.args.selection.now * byte_width t)
    (λ b e. ap length (e ∙ picked c) ∙ length_gathered t c.args.bytes.now c.args.selection.now c.requires) c.from_vec.ensures
