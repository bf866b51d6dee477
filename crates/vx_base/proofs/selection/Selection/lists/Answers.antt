use Rattle.std.proofs.Common.{◌*◌, ◌≡◌, length, ap, sym, ◌∙◌, arith}
use Rattle.std.proofs.lemmas.List.{nil_from_length}
use Rattle.vx_base.specs.Picked.{positions_of}
use Rattle.vx_base.proofs.SizedLists.{lists_long}
use Rattle.vx_base.proofs.selection.Selection.lists.Goals as goal

pub returns-then-len-eq0 : goal.returns-then-len-eq0
returns-then-len-eq0 c =
    let size = c.args.size in
    let long : length c.args.self.now ≡ c.self.inside.len = sym (ap length c.self.view_is) ∙ sym c.self.invariant in
    c.at_positions.ensures ∙ sym (nil_from_length _ (lists_long size c.args.self.now ∙ ap (λ n. n * size) long ∙ omega arith))

pub invariant_of-result : goal.invariant_of-result
invariant_of-result c =
    let size = c.args.size in
    ap (λ n. n * size) c.self.invariant ∙ sym (lists_long size (positions_of c.self.inside.picks)) ∙ sym (ap length c.in_ok-picks.ensures)
