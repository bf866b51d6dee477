use Rattle.std.proofs.Common.{◌≡◌, ◌-◌, map, false, Some, sym, ◌∙◌, ap, subst, arith, to_z}
use Rattle.std.specs.Int.{w128}
use Rattle.vx_base.proofs.Positions.{signed_position}
use Rattle.vx_base.specs.ValueRows.{row_under}
use Rattle.vx_base.specs.declared.scalar_value.ScalarValue.TheVariants as value
use Rattle.std.specs.Prelude.{pos}
use Rattle.vx_base.specs.Kinds.{integer_type, integers}
use Rattle.vx_base.specs.Rows.{whole, count_in}
use Rattle.vx_tree.specs.Meaning.{kind_of, row_at}
use Rattle.vx_tree.specs.Tree.{constant}
use Rattle.vx_lists.specs.ListViews.{counts_in, IsCountArray}
use Rattle.vx_lists.proofs.ListViews.RebuiltViews.{plain_kind}
use Rattle.vx_lists.proofs.ListViews.TrimmedViews.{lowered_counts_of_constant}
use Rattle.vx_lists.proofs.list_view.trim.lowered_constant.Goals as goal

pub returns : goal.returns
returns c =
    let a = c.args.array.now in
    let p = integer_type (kind_of a) in
    let made : c.in_ok-constant.field-0 ≡ constant (integers p false) (whole (pos (count_in (row_at a 0) - c.args.by))) c.len.result =
    let k_is = c.in_ok-dtype.ensures ∙ c.dtype.ensures ∙ plain_kind (kind_of a) c.requires.counts.kind in
    c.in_ok-constant.ensures ∙ ap (λ s. constant s.kind s.row c.len.result) c.new.ensures
    ∙ ap (λ k. constant k (row_under k (Some (value.Int (to_z w128 (c.count_at-first.result - c.args.by))))) c.len.result) k_is
    ∙ ap (λ z. constant (integers p false) (whole z) c.len.result) (signed_position (c.count_at-first.result - c.args.by) (omega arith))
    ∙ ap (λ n. constant (integers p false) (whole (pos (n - c.args.by))) c.len.result) c.count_at-first.ensures.value in
    subst (IsCountArray p (map (λ n. n - c.args.by) (counts_in a))) (sym made)
    (lowered_counts_of_constant a p c.args.by c.len.result c.requires.layout c.len.ensures)
