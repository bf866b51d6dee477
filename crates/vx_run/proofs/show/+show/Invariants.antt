use Rattle.std.proofs.Common.{◌≡◌, ◌+◌, ◌*◌}
use Rattle.vx_tree.specs.Tree.{depth, trees_depth}
use Rattle.vx_tree.specs.Meaning.{trees_from}
use Rattle.vx_run.proofs.show.+show.Given as goal

abbrev pub decreases-show_rows : goal.decreases-show_rows
decreases-show_rows l = 4 * depth l.array.now + 2

abbrev pub decreases-show_list_view : goal.decreases-show_list_view
decreases-show_list_view l = 4 * depth l.array.now + 1

abbrev pub decreases-show_lists : goal.decreases-show_lists
decreases-show_lists l = 4 * depth l.elements.now + 3

abbrev pub decreases-show_fixed_lists : goal.decreases-show_fixed_lists
decreases-show_fixed_lists l = 4 * depth l.elements.now + 3

abbrev pub decreases-show_dictionary : goal.decreases-show_dictionary
decreases-show_dictionary l = 4 * depth l.values.now + 3

abbrev pub decreases-show_records : goal.decreases-show_records
decreases-show_records l = 4 * trees_depth (trees_from l.columns.now) + 1

abbrev pub decreases-show_record : goal.decreases-show_record
decreases-show_record l = 4 * trees_depth (trees_from l.columns.now)

abbrev pub invariant-show_lists-loop-row : goal.invariant-show_lists-loop-row
invariant-show_lists-loop-row l = l.valid ≡ l.mask

abbrev pub invariant-show_fixed_lists-loop-row : goal.invariant-show_fixed_lists-loop-row
invariant-show_fixed_lists-loop-row l = l.valid ≡ l.mask

abbrev pub invariant-show_records-loop-row : goal.invariant-show_records-loop-row
invariant-show_records-loop-row l = l.valid ≡ l.mask
