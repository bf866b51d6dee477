use Rattle.std.proofs.Common.{ap, sym, ◌∙◌}
use Rattle.vx_tree.specs.Parts.{tree_of, valid_of}
use Rattle.vx_base.proofs.Refused.{Gives-weaker}
use Rattle.vx_tree.proofs.Dictionaries.{codes_null, dictionary_nulls}
use Rattle.vx_tree.proofs.array.ArrayRef.+null_rows.Goals as goal

pub null_codes-returns-in-Ok : goal.null_codes-returns-in-Ok
null_codes-returns-in-Ok t c =
    let same = sym c.layout.ensures.parts ∙ ap tree_of c.in-Dict.is in
    Gives-weaker c.dictionary.result _ _
    (λ a e. dictionary_nulls c.args.self.now a c.in-Dict.codes c.in-Dict.values c.in_ok-codes.codes c.in-Dict.flag c.args.len (valid_of c.args.nulls.now) same (rw c.in-Ok.ensures at e) c.in_ok-codes.ensures.by_row)
    c.dictionary.ensures

pub null_codes-dictionary-requires : goal.null_codes-dictionary-requires
null_codes-dictionary-requires t c =
    rw c.in-Ok.ensures (codes_null c.in-Dict.codes c.in-Dict.values c.in_ok-codes.codes c.in-Dict.flag c.args.len (valid_of c.args.nulls.now) (rw c.in-Dict.is at c.layout.ensures.formed) c.in_ok-codes.ensures.by_row)
