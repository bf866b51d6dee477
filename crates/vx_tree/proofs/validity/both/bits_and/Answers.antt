use Rattle.std.proofs.Common.{refl}
use Rattle.vx_tree.specs.Tree.{by_array}
use Rattle.vx_tree.specs.Meaning.{tree_len}
use Rattle.vx_tree.specs.Parts.{valid_of}
use Rattle.vx_base.proofs.Refused.{Gives-weaker}
use Rattle.vx_tree.proofs.Nulled.{valid_both, repeated_first, repeated_second}
use Rattle.vx_tree.proofs.validity.both.bits_and.Goals as goal

pub returns : goal.returns
returns c =
    let m = c.args.array.now in
    let o = c.args.other.now in
    Gives-weaker c.told_by.result _ _
    (λ w e. valid_both (by_array m) (by_array o) (valid_of w) m o c.in_ok-mine.mine.bits c.in-Ok.theirs.bits c.in_ok-joined.field-0.bits (tree_len m) refl refl e c.in_ok-mine.ensures.bits c.in-Ok.ensures.bits c.in_ok-joined.ensures
    (record { len = refl; kind = c.requires.mine }) (record { len = c.requires.same_len; kind = c.requires.theirs }))
    c.told_by.ensures

pub returns-then-is_repeated : goal.returns-then-is_repeated
returns-then-is_repeated c =
    let m = c.args.array.now in
    let o = c.args.other.now in
    Gives-weaker c.repeated_and.result _ _
    (λ w a. repeated_first m o c.truth_at.result (valid_of w) (c.if-is_repeated.ensures refl) c.truth_at.ensures c.requires.same_len a)
    c.repeated_and.ensures

pub returns-then-is_repeated-2 : goal.returns-then-is_repeated-2
returns-then-is_repeated-2 c =
    let m = c.args.array.now in
    let o = c.args.other.now in
    Gives-weaker c.repeated_and-then-is_repeated-2.result _ _
    (λ w a. repeated_second o m c.truth_at-then-is_repeated-2.result (valid_of w) (c.if-is_repeated-2.ensures refl) c.truth_at-then-is_repeated-2.ensures a)
    c.repeated_and-then-is_repeated-2.ensures
