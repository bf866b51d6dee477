use Rattle.std.proofs.Common.{◌+◌, ◌<◌, ◌≤◌, ℕ, length, refl, sym, subst, arith}
use Rattle.vx_tree.specs.Formed.{IsCode}
use Rattle.vx_tree.specs.Meaning.{row_at}
use Rattle.vx_tree.specs.Operations.{masked_numbers}
use Rattle.vx_leaves.specs.Dictionaries.{AreNamed}
use Rattle.vx_leaves.proofs.NamedValues.{place_below, set_inside, set_on, named_run, named_word}
use Rattle.vx_leaves.proofs.WordRows.{full_on}
use Rattle.vx_leaves.proofs.code_marks.mark_typed.Goals.{then-word, else-word}
use Rattle.vx_leaves.proofs.code_marks.mark_typed.Goals as goal

pub mark_run-requires-clause-within : goal.mark_run-requires-clause-within
mark_run-requires-clause-within g c = λ i low high.
    let t = g.T.NativePType.PTYPE in
    let mask = c.args.valid.now in
    let inside : i < length mask = omega (arith, c.word-word.ensures.within, c.requires.here) in
    let on = full_on mask c.loop-row.row c.word-word.result.1 c.word-word.result.0 c.if-word.true c.word-word.ensures.most c.word-word.ensures.bits i low high in
    let below = place_below t c.args.bytes.now mask (length c.args.out.now) i (c.requires.within i inside) (omega (arith, c.requires.same_len)) on in
    omega (arith, below, c.loop-row.auto.out)

pub mark_word-requires-clause-within : goal.mark_word-requires-clause-within
mark_word-requires-clause-within g c = λ i set.
    let t = g.T.NativePType.PTYPE in
    let mask = c.args.valid.now in
    let row = c.loop-row.row in
    let held : i < c.word-word.result.1 = set_inside c.word-word.result.0 c.word-word.result.1 c.word-word.ensures.none i set in
    let inside : row + i < length mask = omega (arith, c.word-word.ensures.within, c.requires.here) in
    let on = set_on c.word-word.result.0 c.word-word.result.1 row mask c.word-word.ensures.bits i held set in
    let below = place_below t c.args.bytes.now mask (length c.args.out.now) (row + i) (c.requires.within (row + i) inside) (omega (arith, c.requires.same_len)) on in
    omega (arith, below, c.loop-row.auto.out)

pub loop-row-preserved : goal.loop-row-preserved
loop-row-preserved g c =
    let t = g.T.NativePType.PTYPE in
    let bs = c.args.bytes.now in
    let mask = c.args.valid.now in
    let row = c.loop-row.row in
    let held = c.word-word.result.1 in
    let old = c.loop-row.out in
    let r = c.args.referenced in
    let upto : row + held ≤ length mask = omega (arith, c.word-word.ensures.within, c.requires.here) in
    let codes : (i : ℕ) → i < length mask → IsCode (length old) (row_at (masked_numbers t bs mask) i) =
    λ i inside. subst (λ k. IsCode k (row_at (masked_numbers t bs mask) i)) (sym c.loop-row.auto.out) (c.requires.within i inside) in
    record {
      inside = c.word-word.ensures.within;
      named = elim c.if-word.branch [
        | then-word w ↦
            let new = w.mark_run.new.out in
            let on = full_on mask row held c.word-word.result.0 w.if-word.true c.word-word.ensures.most c.word-word.ensures.bits in
            let named = named_run t bs mask row (row + held) (length old) r old new (omega arith) upto c.requires.same_len codes c.loop-row.invariant.named on w.mark_run.ensures in
            rw w.out-is (subst (λ k. AreNamed (masked_numbers t bs mask) (row + held) k r new) (sym w.mark_run.ensures.len) named)
        | else-word w ↦
            let new = w.mark_word.new.out in
            let named = named_word t bs mask row (row + held) (length old) r old new (omega arith) upto c.requires.same_len codes c.loop-row.invariant.named c.word-word.result.0 held refl c.word-word.ensures.bits c.word-word.ensures.none w.mark_word.ensures in
            rw w.out-is (subst (λ k. AreNamed (masked_numbers t bs mask) (row + held) k r new) (sym w.mark_word.ensures.len) named)
      ];
    }
