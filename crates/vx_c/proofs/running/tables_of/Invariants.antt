use Rattle.std.proofs.Common.{take, map}
use Rattle.std.specs.List.{All, AllZip}
use Rattle.vx_c.specs.Tables.{column_of}
use Rattle.vx_c.specs.Written.{node_of}
use Rattle.vx_c.specs.Runs.{IsMadeOf, AreExact}
use Rattle.vx_c.proofs.running.tables_of.Given as goal

abbrev pub invariant-loop-i : goal.invariant-loop-i
invariant-loop-i l =
    AllZip (IsMadeOf l.results) (take l.i l.wanted) (map (λ t. column_of (map node_of t.nodes.items)) l.tables.items)
    × All (λ t. AreExact (map node_of t.nodes.items)) l.tables.items
