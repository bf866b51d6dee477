use Rattle.std.proofs.Common.{ℕ, List, ◌%◌, length, ap, sym, ◌∙◌, subst}
use Rattle.vx_base.specs.Integers.{numbers}
use Rattle.vx_base.specs.declared.ptypes.PType.TheVariants.{U64}
use Rattle.vx_base.proofs.NumberLists.{numbers_none}
use Rattle.vx_tree.specs.Meaning.{tree_len}
use Rattle.vx_tree.specs.Parts.{tree_of}
use Rattle.vx_canonical.specs.Joined.{elements_in, sizes_in, AreLists}
use Rattle.vx_canonical.proofs.JoinedListViews.{sums_zero, sizes-more}
use Rattle.std.proofs.Common.{arith}
use Rattle.std.proofs.lemmas.Grind.{common_steps}
use Rattle.vx_canonical.proofs.layouts.list_view.joined_sizes.Goals as goal

pub loop-array-init : goal.loop-array-init
loop-array-init c = (ap (numbers U64) c.in_ok-joined.ensures.items ∙ numbers_none U64, ap (λ (bs : List ℕ). length bs % 8) c.in_ok-joined.ensures.items)

pub add_counts-requires-clause-short : goal.add_counts-requires-clause-short
add_counts-requires-clause-short c =
    let t = c.array-item.result in
    let same = sym c.layout.ensures.parts ∙ ap tree_of c.in-ListView.is in
    let lists : AreLists t = subst AreLists (sym c.array-item.is) (c.requires c.loop-array.array-index t c.loop-array-test.true) in
    let short = sums_zero t lists (rw (ap (λ u. tree_len (elements_in u)) same) c.known_len.ensures) in
    rw (ap sizes_in same) at short

pub loop-array-preserved : goal.loop-array-preserved
loop-array-preserved c =
    let same = sym c.layout.ensures.parts ∙ ap tree_of c.in-ListView.is in (
      sizes-more c.args.arrays.now c.loop-array.array-index c.array-item.result (numbers U64 c.loop-array.joined.items) (numbers U64 c.add_counts.new.out.items)
          c.loop-array-test.true c.array-item.is c.loop-array.invariant.0 (rw (sym (ap sizes_in same)) at c.in_ok-add_counts.ensures.numbers),
      c.add_counts.ensures.whole,
    )

pub returns-clause-numbers : goal.returns-clause-numbers
returns-clause-numbers c = grind (arith, common_steps)

pub returns-clause-whole : goal.returns-clause-whole
returns-clause-whole c = grind (arith, common_steps)
