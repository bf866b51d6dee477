use Rattle.std.proofs.Common.{sym, ◌∙◌}
use Rattle.vx_base.specs.DTypes.{dtype_meaning}
use Rattle.vx_base.specs.SameKind.{kind_eq-Decides}
use Rattle.vx_pack.proofs.rows_equal.same_kind.Goals as goal

pub returns : goal.returns
returns c =
    let decides = kind_eq-Decides (dtype_meaning c.args.a.now) (dtype_meaning c.args.b.now) in
    ((λ yes. decides.0 (sym c.eq.ensures ∙ yes)), (λ same. c.eq.ensures ∙ decides.1 same))
