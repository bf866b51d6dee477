use Rattle.std.proofs.Common.{◌≡◌, sym, ◌∙◌, subst}
use Rattle.vx_base.specs.DTypes.{dtype_meaning}
use Rattle.vx_tree.specs.Meaning.{kind_of, tree_len}
use Rattle.vx_tree.proofs.RowLists.{rows_by_place}
use Rattle.vx_pack.proofs.SameParts.{same_arrays}
use Rattle.vx_pack.specs.Parts.{IsPartOf}
use Rattle.vx_pack.proofs.rows_equal.ArrayRefRowsEqual.rows_equal.Goals as goal

pub returns-then-len : goal.returns-then-len
returns-then-len c = (
  (λ f. cc),
  (λ same. absurd (c.if-len.true (c.len.ensures ∙ sym ((rows_by_place c.args.self.now c.args.other.now).0 same.1).0 ∙ sym c.len-len.ensures))),
)

pub returns : goal.returns
returns c =
    let kind : kind_of c.args.self.now ≡ kind_of c.args.other.now = sym c.dtype.ensures ∙ c.same_kind.ensures.0 c.if-not-same_kind.false ∙ c.dtype-2.ensures in
    let len : tree_len c.args.other.now ≡ tree_len c.args.self.now = sym c.len.ensures ∙ c.if-len.false ∙ c.len-len.ensures in
    same_arrays c.args.self.now c.args.other.now (dtype_meaning c.dtype-3.result.now) c.part_of.result c.part_of-2.result c.same_rows.result len kind
    (subst (λ n. IsPartOf c.args.self.now 0 n c.part_of.result) c.len-len.ensures c.part_of.ensures)
    (subst (λ n. IsPartOf c.args.other.now 0 n c.part_of-2.result) c.len-len.ensures c.part_of-2.ensures) c.same_rows.ensures
