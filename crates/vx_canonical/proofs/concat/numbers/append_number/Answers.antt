use Rattle.std.proofs.Common.{◌≡◌, ◌∙◌, ap}
use Rattle.vx_base.specs.Integers.{bytes_of}
use Rattle.vx_base.proofs.NumberBytes.{number_passed}
use Rattle.vx_canonical.proofs.JoinedNumbers.{appended_more, repeated_within, repeated_picked}
use Rattle.vx_canonical.proofs.concat.numbers.append_number.Goals as goal

pub append_picked-requires : goal.append_picked-requires
append_picked-requires c =
    let written : c.put_int.new.out ≡ bytes_of c.args.ptype c.args.number = c.put_int.ensures ∙ ap (bytes_of c.args.ptype) (number_passed c.args.ptype c.args.number c.requires) in
    repeated_within c.args.ptype c.args.number c.args.len c.put_int.new.out c.repeated.result written c.repeated.ensures

pub returns : goal.returns
returns c =
    let written : c.put_int.new.out ≡ bytes_of c.args.ptype c.args.number = c.put_int.ensures ∙ ap (bytes_of c.args.ptype) (number_passed c.args.ptype c.args.number c.requires) in
    appended_more _ _
    (λ bs. repeated_picked c.args.ptype c.args.number c.args.len c.put_int.new.out c.repeated.result bs c.requires written c.repeated.ensures)
    c.in_ok-append_picked.ensures
