use Rattle.std.proofs.Common.{◌≡◌, ◌+◌, ◌-◌, sym, subst, arith}
use Rattle.std.specs.Int.{w64, trailing_zeros}
use Rattle.std.specs.Prelude.{bit_and, slice_index, slice_set}
use Rattle.vx_leaves.specs.Dictionaries.{number_places}
use Rattle.vx_leaves.proofs.SetBits.{lowest_is, set_before, MarksGone, MarksGone-none, MarksGone-next, MarksGone-all}
use Rattle.vx_leaves.proofs.code_marks.mark_word.Goals as goal

pub loop-rest-init : goal.loop-rest-init
loop-rest-init g c = MarksGone-none (number_places g.T.NativePType.PTYPE c.args.bytes.now) c.args.rows.start c.args.word c.args.referenced c.args.out.now

pub overflow_add-row : goal.overflow_add-row
overflow_add-row g c =
    let lowest = lowest_is c.loop-rest.rest (omega arith) (omega arith) in
    let inside = set_before c.args.word c.args.rows.start c.args.rows.end (trailing_zeros w64 c.loop-rest.rest) c.requires.none (c.loop-rest.invariant.among (trailing_zeros w64 c.loop-rest.rest) lowest.set) in
    omega (arith, inside)

pub place_at-requires : goal.place_at-requires
place_at-requires g c =
    let lowest = lowest_is c.loop-rest.rest (omega arith) (omega arith) in
    let inside = set_before c.args.word c.args.rows.start c.args.rows.end (trailing_zeros w64 c.loop-rest.rest) c.requires.none (c.loop-rest.invariant.among (trailing_zeros w64 c.loop-rest.rest) lowest.set) in
    rw c.PTYPE.ensures (omega (arith, inside, c.requires.here))

pub bounds-out-place_at : goal.bounds-out-place_at
bounds-out-place_at g c =
    let t = trailing_zeros w64 c.loop-rest.rest in
    let lowest = lowest_is c.loop-rest.rest (omega arith) (omega arith) in
    let placed : c.place_at.result ≡ slice_index (number_places g.T.NativePType.PTYPE c.args.bytes.now) (c.args.rows.start + t) = rw c.PTYPE.ensures at c.place_at.ensures in
    let below = c.requires.within t (c.loop-rest.invariant.among t lowest.set) in
    rw placed (omega (arith, below, c.loop-rest.auto.out))

pub loop-rest-preserved : goal.loop-rest-preserved
loop-rest-preserved g c =
    let ps = number_places g.T.NativePType.PTYPE c.args.bytes.now in
    let rest = c.loop-rest.rest in
    let out = c.loop-rest.out in
    let t = trailing_zeros w64 rest in
    let lowest = lowest_is rest (omega arith) (omega arith) in
    let placed : c.place_at.result ≡ slice_index ps (c.args.rows.start + t) = rw c.PTYPE.ensures at c.place_at.ensures in
    let below = c.requires.within t (c.loop-rest.invariant.among t lowest.set) in
    let next = MarksGone-next ps c.args.rows.start c.args.word rest t (bit_and rest (rest - 1)) c.args.referenced c.args.out.now out lowest c.loop-rest.invariant (omega (arith, below, c.loop-rest.auto.out)) in
    subst (λ k. MarksGone ps c.args.rows.start c.args.word (bit_and rest (rest - 1)) c.args.referenced c.args.out.now (slice_set out k c.args.referenced)) (sym placed) next

pub returns : goal.returns
returns g c =
    let none : c.loop-rest.rest ≡ 0 = omega arith in
    MarksGone-all (number_places g.T.NativePType.PTYPE c.args.bytes.now) c.args.rows.start c.args.word c.args.referenced c.args.out.now c.loop-rest.out
    (subst (λ rest. MarksGone (number_places g.T.NativePType.PTYPE c.args.bytes.now) c.args.rows.start c.args.word rest c.args.referenced c.args.out.now c.loop-rest.out) none c.loop-rest.invariant)
