use Rattle.std.proofs.Common.{ap, sym, ◌∙◌}
use Rattle.vx_tree.specs.Parts.{tree_of, valid_of}
use Rattle.vx_tree.specs.Formed.{IsDictionary}
use Rattle.vx_base.proofs.Refused.{Gives-weaker}
use Rattle.vx_tree.proofs.Dictionaries.{validity_taken}
use Rattle.vx_tree.proofs.array.ArrayRef.+validity.Goals as goal

pub dictionary_validity-named_by-requires-clause-codes : goal.dictionary_validity-named_by-requires-clause-codes
dictionary_validity-named_by-requires-clause-codes t c =
    let formed : IsDictionary c.in-Dict.codes c.in-Dict.values c.in-Dict.flag = rw c.in-Dict.is at c.layout.ensures.formed in
    rw c.len-2.ensures formed.within

pub dictionary_validity-returns : goal.dictionary_validity-returns
dictionary_validity-returns t c =
    let formed : IsDictionary c.in-Dict.codes c.in-Dict.values c.in-Dict.flag = rw c.in-Dict.is at c.layout.ensures.formed in
    let same = sym c.layout.ensures.parts ∙ ap tree_of c.in-Dict.is in
    Gives-weaker c.nulled.result _ _
    (λ w n. validity_taken c.args.self.now c.in-Dict.codes c.in-Dict.values c.in-Dict.flag (valid_of c.in_ok-nulls.nulls) (valid_of c.in_ok-validity.validity) (valid_of c.in_ok-validity-2.validity) (valid_of w)
    same formed c.in_ok-nulls.ensures c.in_ok-validity.ensures c.in_ok-validity-2.ensures (rw c.len-3.ensures at n))
    c.nulled.ensures
