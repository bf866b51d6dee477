use Rattle.std.proofs.Common.{◌+◌, ◌≤◌, ◌∙◌, sym, ap, subst, arith}
use Rattle.vx_tree.specs.Formed.{WellFormed}
use Rattle.vx_tree.specs.Meaning.{trees_from}
use Rattle.vx_tree.specs.Parts.{tree_of, valid_of}
use Rattle.vx_tree.specs.Plain.{IsPlain}
use Rattle.vx_tree.specs.Tree.{Tree, fixed_list, list_view, structure, depth, trees_depth}
use Rattle.vx_tree.proofs.Columns.{depth-at}
use Rattle.vx_c.proofs.Moved.{plain_column}
use Rattle.vx_c.proofs.WrittenLayouts.{fixed_written, lists_written, structure_written}
use Rattle.vx_c.proofs.writing.+write.Goals as goal

pub write-returns-in_ok-write-in-FixedSizeList-clause-written : goal.write-returns-in_ok-write-in-FixedSizeList-clause-written
write-returns-in_ok-write-in-FixedSizeList-clause-written t c =
    let parts = c.in-FixedSizeList in
    let v = valid_of parts.validity in
    let is = sym c.layout.ensures.parts ∙ ap tree_of parts.is in
    let formed : WellFormed (fixed_list parts.elements parts.size v parts.len) = rw parts.is at c.layout.ensures.formed in
    fixed_written c.args.array.now parts.elements parts.size parts.len c.len-length.result v c.args.nodes.now.items c.put_lists.new.nodes.items
    c.write.new.nodes.items is formed c.in_ok-write-in-FixedSizeList.ensures.short c.len-length.ensures c.in_ok-put_lists-in-FixedSizeList.ensures
    c.in_ok-write-in-FixedSizeList.ensures.written

pub write-returns-in_ok-write-in-ListView-3-clause-written : goal.write-returns-in_ok-write-in-ListView-3-clause-written
write-returns-in_ok-write-in-ListView-3-clause-written t c =
    let parts = c.in-ListView in
    let v = valid_of parts.validity in
    let is = sym c.layout.ensures.parts ∙ ap tree_of parts.is in
    let formed : WellFormed (list_view parts.elements parts.offsets parts.sizes v parts.flag) = rw parts.is at c.layout.ensures.formed in
    lists_written c.args.array.now parts.elements parts.offsets parts.sizes v parts.flag c.len-length.result c.args.nodes.now.items
    c.put_lists-in-ListView.new.nodes.items c.write-in-ListView.new.nodes.items c.write-in-ListView-2.new.nodes.items c.write-in-ListView-3.new.nodes.items
    is formed c.in_ok-write-in-ListView.ensures.short c.len-length.ensures c.in_ok-put_lists-in-ListView.ensures
    c.in_ok-write-in-ListView.ensures.written c.in_ok-write-in-ListView-2.ensures.written c.in_ok-write-in-ListView-3.ensures.written

pub write-returns-in_ok-write_columns-in-Struct-clause-written : goal.write-returns-in_ok-write_columns-in-Struct-clause-written
write-returns-in_ok-write_columns-in-Struct-clause-written t c =
    let parts = c.in-Struct in
    let v = valid_of parts.validity in
    let is = sym c.layout.ensures.parts ∙ ap tree_of parts.is in
    let formed : WellFormed (structure parts.names (trees_from parts.columns.items) v parts.len) = rw parts.is at c.layout.ensures.formed in
    structure_written c.args.array.now parts.names parts.columns.items c.deref-in-Struct.result.now v parts.len c.len-length.result
    c.args.nodes.now.items c.put_records.new.nodes.items c.write_columns.new.nodes.items is formed c.in_ok-put_records-in-Struct.ensures.texts
    c.len-length.ensures c.in_ok-put_records-in-Struct.ensures.put c.deref-in-Struct.ensures.value c.in_ok-write_columns-in-Struct.ensures

pub write_columns-write-requires : goal.write_columns-write-requires
write_columns-write-requires t c =
    let columns = c.args.columns.now in
    let Q : Tree → Type 0 = λ x. depth x + 1 ≤ trees_depth (trees_from columns) in
    let below = subst Q (sym c.column-item.is) (depth-at columns c.loop-column.column-index c.column-item.result c.loop-column-test.true) in (
      omega (arith, below, c.decreases),
      subst IsPlain (sym c.column-item.is) (plain_column columns c.loop-column.column-index c.column-item.result c.requires c.loop-column-test.true),
    )
