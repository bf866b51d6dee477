use Rattle.std.proofs.Common.{◌+◌, ◌≤◌, rules, ap, arith, subst, sym, ◌∙◌}
use Rattle.vx_tree.specs.Tree.{Tree, structure, depth, trees_depth}
use Rattle.vx_tree.specs.Parts.{tree_of, valid_of}
use Rattle.vx_tree.specs.Meaning.{tree_len, trees_from}
use Rattle.vx_tree.specs.Formed.{WellFormed}
use Rattle.vx_tree.proofs.Columns.{AllReach-at, AllReach-from_len, AllReach-less, column_count-trees_from, depth-at}
use Rattle.vx_run.proofs.show.+show.Goals as goal

pub show_rows-show_records-requires : goal.show_rows-show_records-requires
show_rows-show_records-requires t c =
    let same = sym c.layout.ensures.parts ∙ ap tree_of c.in-Struct.is in
    let ts = trees_from c.in-Struct.columns.items in
    let below = ap depth same in
    let lent = ap (λ xs. trees_depth (trees_from xs)) c.deref.ensures.value in
    let formed : WellFormed (structure c.in-Struct.names ts (valid_of c.in-Struct.validity) c.in-Struct.len) = rw c.in-Struct.is at c.layout.ensures.formed in (
      omega (arith, below, lent, c.decreases),
      (
        rw c.deref.ensures.value formed.1.named,
        (
          c.requires.ordered,
          (
            c.in_ok-mask-in-Struct.ensures,
            rw c.deref.ensures.value (AllReach-from_len c.in-Struct.len c.args.end ts formed.1.lens (rw same at c.requires.in_bounds)),
          ),
        ),
      ),
    )

pub show_records-show_record-requires : goal.show_records-show_record-requires
show_records-show_record-requires t c =
    (search rules, (c.requires.named, (omega arith, AllReach-less c.args.end (c.loop-row.row + 1) (trees_from c.args.columns.now) c.requires.in_bounds (omega arith))))

pub show_record-show_rows-requires : goal.show_record-show_rows-requires
show_record-show_rows-requires t c =
    let P : Tree → Type 0 = λ x. c.args.end ≤ tree_len x in
    let Q : Tree → Type 0 = λ x. depth x + 1 ≤ trees_depth (trees_from c.args.columns.now) in
    let below = subst Q (sym c.index-columns-field.is) (depth-at c.args.columns.now c.loop-field.field c.index-columns-field.result c.loop-field-test.true) in
    (omega (arith, below, c.decreases), (c.requires.ordered, subst P (sym c.index-columns-field.is) (AllReach-at c.args.end c.args.columns.now c.loop-field.field c.index-columns-field.result c.requires.in_bounds c.loop-field-test.true)))

pub show_record-get-requires : goal.show_record-get-requires
show_record-get-requires t c = omega (arith, c.requires.named, column_count-trees_from c.args.columns.now, c.loop-field-test.true)
