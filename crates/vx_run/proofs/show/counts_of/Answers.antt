use Rattle.std.proofs.Common.{◌-◌, sym, ◌∙◌, ap, subst}
use Rattle.std.specs.Prelude.{◌≤ℤ◌, pos}
use Rattle.std.specs.List.{All}
use Rattle.vx_base.specs.Integers.{numbers}
use Rattle.vx_tree.specs.Parts.{tree_of, valid_of}
use Rattle.vx_run.proofs.Counts.{counts-part, part-not_negative, IsCountPart}
use Rattle.vx_run.proofs.show.counts_of.Goals as goal

pub read_counts-requires : goal.read_counts-requires
read_counts-requires c =
    let a = c.args.counts.now in
    let t = c.in-Primitive.ptype in
    let part : IsCountPart a t c.args.start (c.args.end - c.args.start) c.in_ok-bytes-in-Primitive.bytes =
    counts-part a t c.in-Primitive.bytes c.in_ok-bytes-in-Primitive.bytes (valid_of c.in-Primitive.validity) c.args.start c.args.end (sym c.layout.ensures.parts ∙ ap tree_of c.in-Primitive.is) c.requires.counts c.requires.ordered c.requires.in_bounds c.in_ok-bytes-in-Primitive.ensures.ok in
    subst (λ bs. All (λ z. pos 0 ≤ℤ z) (numbers t bs)) (sym c.as_slice.ensures.value) (part-not_negative a t c.args.start (c.args.end - c.args.start) c.in_ok-bytes-in-Primitive.bytes part)
