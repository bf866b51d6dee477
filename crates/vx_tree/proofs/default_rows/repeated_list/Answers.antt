use Rattle.std.proofs.Common.{◌≡◌, ◌*◌, false, subst, arith}
use Rattle.vx_base.specs.Kinds.{fixed_lists}
use Rattle.vx_base.proofs.Refused.{Gives-weaker}
use Rattle.vx_tree.specs.Meaning.{kind_of}
use Rattle.vx_tree.specs.DefaultRows.{AreDefaults}
use Rattle.vx_tree.proofs.DefaultRows.{list_defaults, repeated_defaults}
use Rattle.vx_tree.proofs.default_rows.repeated_list.Goals as goal

pub returns-in-Ok : goal.returns-in-Ok
returns-in-Ok c =
    let elements = c.args.elements in
    let k = kind_of elements in
    let list = c.in_ok-list.list in
    let once : c.args.size ≡ 1 * c.args.size = omega arith in
    let made : AreDefaults k (1 * c.args.size) elements = subst (λ n. AreDefaults k n elements) once c.requires in
    let one : AreDefaults (fixed_lists k c.args.size false) 1 list = list_defaults list elements k c.args.size 1 c.in_ok-list.ensures made in
    Gives-weaker c.dictionary.result _ _ (λ a e. repeated_defaults a c.in-Ok.codes list (fixed_lists k c.args.size false) c.args.len e c.in-Ok.ensures one) c.dictionary.ensures
