use Rattle.std.proofs.Common.{◌≡◌, ◌-◌, ◌≤◌, map, sym, ◌∙◌, ap, subst}
use Rattle.std.specs.Prelude.{pos}
use Rattle.std.specs.List.{All}
use Rattle.vx_base.specs.Integers.{Holds}
use Rattle.vx_base.specs.Kinds.{integer_type}
use Rattle.vx_tree.specs.Meaning.{kind_of}
use Rattle.vx_lists.specs.ListViews.{counts_in, IsCountArray}
use Rattle.vx_lists.proofs.ListViews.CountArrays.{count_array_of_numbers}
use Rattle.vx_lists.proofs.ListViews.TrimmedViews.{counts_low, counts_held, lowered_held}
use Rattle.vx_lists.proofs.list_view.trim.lowered_counts.Goals as goal

pub lowered-requires : goal.lowered-requires
lowered-requires c =
    subst (All (λ n. c.args.by ≤ n)) (sym (c.deref.ensures.value ∙ c.in_ok-counts.ensures)) (counts_low c.args.array.now c.args.by c.requires.low)

pub write_counts-requires : goal.write_counts-requires
write_counts-requires c =
    let a = c.args.array.now in
    let type_is : c.as_ptype-ptype.result ≡ integer_type (kind_of a) = c.as_ptype-ptype.ensures ∙ ap integer_type c.dtype.ensures in
    let lowered_is = c.deref-2.ensures.value ∙ c.in_ok-lowered.ensures ∙ ap (map (λ n. n - c.args.by)) (c.deref.ensures.value ∙ c.in_ok-counts.ensures) in
    subst (λ p. All (λ n. Holds p (pos n)) c.deref-2.result.now) (sym type_is)
    (subst (All (λ n. Holds (integer_type (kind_of a)) (pos n))) (sym lowered_is)
    (lowered_held (integer_type (kind_of a)) c.args.by (counts_in a) (counts_held a c.requires.counts c.rows_fit_their_dtype.ensures)))

pub returns : goal.returns
returns c =
    let a = c.args.array.now in
    let type_is : c.as_ptype-ptype.result ≡ integer_type (kind_of a) = c.as_ptype-ptype.ensures ∙ ap integer_type c.dtype.ensures in
    let lowered_is = c.deref-2.ensures.value ∙ c.in_ok-lowered.ensures ∙ ap (map (λ n. n - c.args.by)) (c.deref.ensures.value ∙ c.in_ok-counts.ensures) in
    let read = c.in_ok-bytes.ensures.ok ∙ ap (map pos) lowered_is in
    subst (λ p. IsCountArray p (map (λ n. n - c.args.by) (counts_in a)) c.in_ok-primitive.field-0) type_is
    (subst (IsCountArray c.as_ptype-ptype.result (map (λ n. n - c.args.by) (counts_in a))) (sym c.in_ok-primitive.ensures)
    (count_array_of_numbers c.as_ptype-ptype.result c.in_ok-bytes.bytes (map (λ n. n - c.args.by) (counts_in a)) read))
