use Rattle.std.proofs.Common.{◌≡◌, ◌∙◌, ap, sym, subst, None, arith}
use denote.Param.Weighed.{at_most}
use Rattle.vx_base.proofs.Refused.{Gives-weaker}
use Rattle.vx_tree.specs.declared.array.ArrayRef.TheDeep.{size-ArrayRef}
use Rattle.vx_tree.specs.Tree.{Tree, structure}
use Rattle.vx_tree.specs.Meaning.{kind_of, kinds_of, trees_from}
use Rattle.vx_tree.specs.Parts.{tree_of, valid_of}
use Rattle.vx_tree.specs.Plain.{IsPlain}
use Rattle.vx_tree.specs.Formed.{WellFormed}
use Rattle.vx_tree.specs.Extents.{extent_of}
use Rattle.vx_canonical.specs.Canonical.{IsBlankPart, AreBlankParts}
use Rattle.vx_tree.specs.CanonicalFaults.{plain_overflow, fields_overflow}
use Rattle.vx_tree.proofs.Columns.{AllZip-next, columns_below}
use Rattle.vx_canonical.proofs.JoinedParts.{plain_at}
use Rattle.vx_canonical.proofs.Blanks.{blank_columns_fit, struct_blank}
use Rattle.vx_canonical.proofs.PlainKinds.{columns_countable}
use Rattle.vx_canonical.proofs.canonical_zeroes.+blank.Goals as goal

pub blank_columns-blank_part-requires : goal.blank_columns-blank_part-requires
blank_columns-blank_part-requires t c =
    let ps = c.args.columns.now in
    let i = c.loop-column.column-index in
    let p = c.column-item.result in
    let m = at_most size-ArrayRef ps i p c.loop-column-test.true in
    let d = ap size-ArrayRef c.column-item.is in
    let C : Tree → Type 0 = λ x. plain_overflow (kind_of x) c.args.len ≡ None in (
      omega (arith, m, d, c.decreases),
      (
        subst IsPlain (sym c.column-item.is) (plain_at ps i p c.requires.plain c.loop-column-test.true),
        subst C (sym c.column-item.is) (c.requires.countable i p c.loop-column-test.true),
      ),
    )

pub blank_columns-loop-column-preserved : goal.blank_columns-loop-column-preserved
blank_columns-loop-column-preserved t c =
    AllZip-next (λ t r. IsBlankPart (kind_of t) (extent_of t) c.args.len r) c.args.columns.now c.loop-column.made.items c.push.new.self.items c.loop-column.column-index c.column-item.result c.in_ok-blank_part.field-0
    c.loop-column.invariant c.loop-column-test.true c.column-item.is c.in_ok-blank_part.ensures c.in_ok-push.ensures.items

pub blank_like-blank_columns-requires : goal.blank_like-blank_columns-requires
blank_like-blank_columns-requires t c =
    let parts = c.in-Struct in
    let v = valid_of parts.validity in
    let ps = parts.columns.items in
    let same = sym c.layout.ensures.parts ∙ ap tree_of parts.is in
    let m = columns_below c.args.array.now parts.names ps c.deref.result.now v parts.len same c.deref.ensures.value in
    let plain : IsPlain (structure parts.names (trees_from ps) v parts.len) = rw same at c.requires.rows in
    let few : fields_overflow (kinds_of (trees_from ps)) c.args.len ≡ None = rw same at c.requires.countable in
    (omega (arith, m, c.decreases), (rw c.deref.ensures.value plain.0, rw c.deref.ensures.value (columns_countable ps c.args.len few)))

pub blank_like-structure-requires-clause-columns : goal.blank_like-structure-requires-clause-columns
blank_like-structure-requires-clause-columns t c =
    let parts = c.in-Struct in
    let formed : WellFormed (structure parts.names (trees_from parts.columns.items) (valid_of parts.validity) parts.len) = rw parts.is at c.layout.ensures.formed in
    let made : AreBlankParts parts.columns.items c.args.len c.in_ok-columns-in-Struct.columns.items = rw c.deref.ensures.value at c.in_ok-columns-in-Struct.ensures in
    rw c.in_ok-names-in-Struct.ensures (blank_columns_fit parts.names parts.columns.items parts.len c.args.len c.in_ok-columns-in-Struct.columns.items formed.1 made)

pub blank_like-returns-in_ok-names-in-Struct : goal.blank_like-returns-in_ok-names-in-Struct
blank_like-returns-in_ok-names-in-Struct t c =
    let parts = c.in-Struct in
    let same = sym c.layout.ensures.parts ∙ ap tree_of parts.is in
    let made : AreBlankParts parts.columns.items c.args.len c.in_ok-columns-in-Struct.columns.items = rw c.deref.ensures.value at c.in_ok-columns-in-Struct.ensures in
    Gives-weaker c.structure.result _ _
    (λ a e. struct_blank c.args.array.now a parts.names parts.columns.items c.in_ok-columns-in-Struct.columns.items (valid_of parts.validity) (valid_of c.args.validity) parts.len c.args.len
    same (rw c.in_ok-names-in-Struct.ensures at e) c.requires.nullable c.requires.plain made)
    c.structure.ensures
