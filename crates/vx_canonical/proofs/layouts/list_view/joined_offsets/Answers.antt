use Rattle.std.proofs.Common.{ℕ, List, ◌++◌, ◌%◌, length, ◌≤◌, ◌+◌, ap, sym, ◌∙◌, subst, map, arith}
use Rattle.std.specs.Prelude.{pos}
use Rattle.vx_base.specs.Integers.{numbers}
use Rattle.vx_base.proofs.NumberLists.{numbers_none}
use Rattle.vx_base.specs.declared.ptypes.PType.TheVariants.{U64}
use Rattle.vx_tree.specs.Meaning.{tree_len}
use Rattle.vx_tree.specs.Parts.{tree_of}
use Rattle.vx_canonical.specs.Joined.{joined_len, elements_in, offsets_in, offsets_from, AreLists}
use Rattle.vx_canonical.proofs.JoinedListViews.{sums_short, elements-step, offsets-more}
use Rattle.std.proofs.lemmas.Grind.{common_steps}
use Rattle.vx_canonical.proofs.layouts.list_view.joined_offsets.Goals as goal

pub loop-array-init : goal.loop-array-init
loop-array-init c = (
  ap (λ (bs : List ℕ). numbers U64 bs ++ map pos (offsets_from 0 c.args.arrays.now)) c.in_ok-joined.ensures.items ∙ ap (λ zs. zs ++ map pos (offsets_from 0 c.args.arrays.now)) (numbers_none U64),
  omega arith,
  ap (λ (bs : List ℕ). length bs % 8) c.in_ok-joined.ensures.items,
)

pub add_counts-requires-clause-short : goal.add_counts-requires-clause-short
add_counts-requires-clause-short c =
    let ts = c.args.arrays.now in
    let t = c.array-item.result in
    let same = sym c.layout.ensures.parts ∙ ap tree_of c.in-ListView.is in
    let lists : AreLists t = subst AreLists (sym c.array-item.is) (c.requires.lists c.loop-array.array-index t c.loop-array-test.true) in
    let step = elements-step ts c.loop-array.array-index t c.loop-array-test.true c.array-item.is in
    let within : c.loop-array.base + tree_len (elements_in t) ≤ joined_len (map elements_in ts) = omega (arith, step, c.loop-array.invariant.1) in
    let short = sums_short t c.loop-array.base (joined_len (map elements_in ts)) lists within c.requires.short in
    rw (ap offsets_in same) at short

pub loop-array-preserved : goal.loop-array-preserved
loop-array-preserved c =
    let same = sym c.layout.ensures.parts ∙ ap tree_of c.in-ListView.is in
    let more = offsets-more c.args.arrays.now c.loop-array.array-index c.array-item.result c.in-ListView.offsets c.loop-array.base c.len-base.result (numbers U64 c.loop-array.joined.items) (numbers U64 c.add_counts.new.out.items)
    c.loop-array-test.true c.array-item.is (sym (ap offsets_in same)) (c.len-base.ensures ∙ sym (ap (λ u. tree_len (elements_in u)) same))
    c.loop-array.invariant.0 c.loop-array.invariant.1 c.in_ok-add_counts.ensures.numbers in
    (more.0, more.1, c.add_counts.ensures.whole)

pub returns-clause-numbers : goal.returns-clause-numbers
returns-clause-numbers c = grind (arith, common_steps)

pub returns-clause-whole : goal.returns-clause-whole
returns-clause-whole c = grind (arith, common_steps)
