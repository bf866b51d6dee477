use Rattle.std.proofs.Common.{subst}
use Rattle.vx_c.specs.Parts.{Describes}
use Rattle.vx_c.proofs.PartsMade.{codes_are}
use Rattle.vx_c.proofs.passing.are_codes.Goals as goal

pub returns : goal.returns
returns c = λ told t described.
    let here = c.in-Numbers in
    codes_are here.ptype here.bytes.now _ c.args.count t (subst (λ p. Describes p t) here.is described) (c.are_places_by_type.ensures told)
