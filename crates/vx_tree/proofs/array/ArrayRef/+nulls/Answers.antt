use Rattle.std.proofs.Common.{ap, sym, ◌∙◌}
use Rattle.vx_tree.specs.Parts.{tree_of, valid_of}
use Rattle.vx_base.proofs.Refused.{Gives-weaker}
use Rattle.vx_tree.proofs.Dictionaries.{codes_nulled, dictionary_nulled}
use Rattle.vx_tree.proofs.array.ArrayRef.+nulls.Goals as goal

pub nulled_dictionary-returns-in-Ok : goal.nulled_dictionary-returns-in-Ok
nulled_dictionary-returns-in-Ok t c =
    let same = sym c.layout.ensures.parts ∙ ap tree_of c.in-Dict.is in
    Gives-weaker c.dictionary.result _ _
    (λ a e. dictionary_nulled c.args.self.now a c.in-Dict.codes c.in-Dict.values c.in_ok-codes.codes c.in-Dict.flag (valid_of c.args.nulls.now) same (rw c.in-Ok.ensures at e) c.in_ok-codes.ensures.by_row)
    c.dictionary.ensures

pub nulled_dictionary-dictionary-requires : goal.nulled_dictionary-dictionary-requires
nulled_dictionary-dictionary-requires t c =
    rw c.in-Ok.ensures (codes_nulled c.in-Dict.codes c.in-Dict.values c.in_ok-codes.codes c.in-Dict.flag (valid_of c.args.nulls.now) (rw c.in-Dict.is at c.layout.ensures.formed) c.in_ok-codes.ensures.by_row)
