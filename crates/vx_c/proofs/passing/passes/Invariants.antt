use Rattle.std.proofs.Common.{◌-◌, List, length, drop, reverse}
use Rattle.vx_c.specs.declared.table.CodraskNode.{CodraskNode}
use Rattle.vx_c.specs.Parts.{IsDescribed}
use Rattle.vx_c.specs.Tables.{arrays_from}
use Rattle.vx_c.specs.Told.{AreToldBy, HaveOrder}
use Rattle.vx_c.proofs.passing.passes.Given as goal

-- what is known of the arrays of the nodes that were read
abbrev pub invariant-loop-read : goal.invariant-loop-read
invariant-loop-read l = record {
  told : (told : List CodraskNode) → AreToldBy l.nodes told → IsDescribed (reverse l.parts.items) (arrays_from (length l.nodes - l.read) (drop (length l.nodes - l.read) told));
  in_order : HaveOrder (drop (length l.nodes - l.read) l.nodes);
}
