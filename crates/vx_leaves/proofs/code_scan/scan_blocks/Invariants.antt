use Rattle.std.proofs.Common.{◌≡◌, ◌<◌, ◌≤◌, ◌-◌, ◌%◌, ℕ, length}
use Rattle.vx_base.specs.Bits.{bool_at}
use Rattle.vx_tree.specs.Meaning.{tree_len}
use Rattle.vx_leaves.specs.Dictionaries.{AreNamed}
use Rattle.vx_leaves.specs.Scan.{NameAllBefore}
use Rattle.vx_leaves.proofs.ScanEnds.{NoneUpTo}
use Rattle.vx_leaves.proofs.code_scan.scan_blocks.Given as goal

-- whole blocks are marked, none of them may end the scan, and the places up to the cursor are marked
abbrev pub invariant-loop-start : goal.invariant-loop-start
invariant-loop-start l = record {
  whole : l.start % 2048 ≡ 0;
  inside : l.start ≤ l.len;
  named : AreNamed l.codes l.start (length l.out) l.referenced l.out;
  none : NoneUpTo (tree_len l.codes) (NameAllBefore l.codes (length l.out)) l.start;
  cursor_within : l.cursor ≤ length l.out;
  marked : (j : ℕ) → j < l.cursor → bool_at l.out j ≡ l.referenced;
}

abbrev pub decreases-loop-start : goal.decreases-loop-start
decreases-loop-start l = l.len - l.start
