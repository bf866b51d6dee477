use Rattle.std.proofs.Common.{sym, ◌∙◌}
use Rattle.std.proofs.lemmas.Slice.Eq.{bytes_eq-Decides}
use Rattle.vx_pack.proofs.SameBytes.{same_number_bytes}
use Rattle.vx_pack.proofs.same_numbers.same_numbers.Goals as goal

pub returns : goal.returns
returns c =
    let decides = bytes_eq-Decides c.in-Some.first.now c.in-Some-number_bytes.second.now in
    same_number_bytes c.args.ptype c.args.a c.args.b c.in-Some.first.now c.in-Some-number_bytes.second.now c.eq.result c.in-Some.ensures c.in-Some-number_bytes.ensures c.requires.same_len
    ((λ yes. decides.0 (sym c.eq.ensures ∙ yes)), (λ same. c.eq.ensures ∙ decides.1 same))
