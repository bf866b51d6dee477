use Rattle.std.proofs.Common.{◌++◌, sym, ap, ◌∙◌}
use Rattle.vx_base.specs.Integers.{numbers}
use Rattle.vx_base.specs.declared.ptypes.PType.TheVariants.{U64}
use Rattle.vx_base.proofs.Refused.{Gives-weaker}
use Rattle.vx_tree.specs.Parts.{tree_of, valid_of}
use Rattle.vx_canonical.specs.Joined.{counts_in}
use Rattle.vx_canonical.proofs.JoinedListViews.{counts_not_negative, counts_are, sums_fit, sums_are}
use Rattle.vx_canonical.proofs.layouts.list_view.add_counts.Goals as goal

pub add_numbers-requires-clause-positions : goal.add_numbers-requires-clause-positions
add_numbers-requires-clause-positions c =
    let same = sym c.layout.ensures.parts ∙ ap tree_of c.in-Primitive.is in
    rw c.as_slice.ensures.value (counts_not_negative c.args.counts.now c.in-Primitive.ptype c.in-Primitive.bytes (valid_of c.in-Primitive.validity) same c.requires.counts)

pub add_numbers-requires-clause-short : goal.add_numbers-requires-clause-short
add_numbers-requires-clause-short c =
    let same = sym c.layout.ensures.parts ∙ ap tree_of c.in-Primitive.is in
    let are = counts_are c.args.counts.now c.in-Primitive.ptype c.in-Primitive.bytes (valid_of c.in-Primitive.validity) same c.requires.counts in
    rw c.as_slice.ensures.value (sums_fit c.args.base (numbers c.in-Primitive.ptype c.in-Primitive.bytes) (counts_in c.args.counts.now) are c.requires.short)

pub returns-clause-numbers : goal.returns-clause-numbers
returns-clause-numbers c =
    let same = sym c.layout.ensures.parts ∙ ap tree_of c.in-Primitive.is in
    let are = counts_are c.args.counts.now c.in-Primitive.ptype c.in-Primitive.bytes (valid_of c.in-Primitive.validity) same c.requires.counts in
    let sums = sums_are c.args.base (numbers c.in-Primitive.ptype c.in-Primitive.bytes) (counts_in c.args.counts.now) are in
    Gives-weaker c.add_numbers.result _ _ (λ _ e. rw c.as_slice.ensures.value at e ∙ ap (λ zs. numbers U64 c.args.out.now.items ++ zs) sums) c.add_numbers.ensures.numbers
