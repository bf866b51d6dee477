use Rattle.std.proofs.Common.{◌∙◌, ℕ, ap, map, refl}
use Rattle.std.specs.Global.{Vec}
use Rattle.vx_tree.specs.Parts.{valid_of}
use Rattle.vx_c.specs.declared.table.NodeKind.TheVariants.{Struct}
use Rattle.vx_c.proofs.WrittenLayouts.{parent_put}
use Rattle.vx_c.proofs.writing.put_records.Goals as goal

pub returns-clause-put : goal.returns-clause-put
returns-clause-put c =
    parent_put _ Struct 0 c.args.length c.args.names.now (valid_of c.args.validity.now) c.args.nodes.now.items c.put.new.nodes.items refl c.number_of.ensures
    refl refl refl c.new.ensures.items c.new-2.ensures.items (ap (map (λ (b : Vec ℕ). b.items)) c.in_ok-of.ensures ∙ c.in_ok-name_bytes.ensures.copies) c.in_ok-put.ensures
