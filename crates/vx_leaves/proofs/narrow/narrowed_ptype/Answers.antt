use Rattle.std.proofs.Common.{rules, sym, ap, ◌∙◌, to_z, of_z}
use Rattle.std.specs.Int.{w128}
use Rattle.std.specs.Prelude.{FitsSigned}
use Rattle.std.proofs.lemmas.Int.{to_z-of_z}
use Rattle.vx_base.specs.Integers.{numbers}
use Rattle.vx_leaves.specs.Narrow.{kept, type_between}
use Rattle.vx_leaves.proofs.NarrowedTypes.{type_between_is}
use Rattle.vx_leaves.proofs.narrow.narrowed_ptype.Goals as goal

pub returns : goal.returns
returns c =
    let t = c.args.ptype in
    let m = c.span-least.result.0 in
    let k = c.span-least.result.1 in
    let m_fits : FitsSigned w128 m = search rules in
    let k_fits : FitsSigned w128 k = search rules in
    c.ptype_between.ensures
    ∙ ap (λ x. type_between t x (to_z w128 (of_z w128 k))) (to_z-of_z w128 m m_fits)
    ∙ ap (type_between t m) (to_z-of_z w128 k k_fits)
    ∙ sym (type_between_is t (kept c.args.mask.now (numbers t c.args.bytes.now)) m k c.span-least.ensures)
