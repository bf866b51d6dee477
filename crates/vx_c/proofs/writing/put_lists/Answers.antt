use Rattle.std.proofs.Common.{ℕ, [], ap, map, refl}
use Rattle.std.specs.Global.{Vec}
use Rattle.vx_tree.specs.Parts.{valid_of}
use Rattle.vx_c.proofs.WrittenLayouts.{parent_put}
use Rattle.vx_c.proofs.writing.put_lists.Goals as goal

pub returns : goal.returns
returns c =
    parent_put _ c.args.kind c.args.size c.args.length [] (valid_of c.args.validity.now) c.args.nodes.now.items c.put.new.nodes.items refl c.number_of.ensures
    refl refl refl c.new.ensures.items c.new-2.ensures.items (ap (map (λ (b : Vec ℕ). b.items)) c.none.ensures) c.in_ok-put.ensures
