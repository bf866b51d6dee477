use Rattle.vx_leaves.proofs.NamedValues.{flag_set}
use Rattle.vx_leaves.proofs.dict_array.DictArray.set_all_values_referenced.Goals as goal

pub dictionary-requires : goal.dictionary-requires
dictionary-requires c =
    let parts = c.parts-parts.result in
    flag_set c.args.self parts.codes.now parts.values.now parts.flag c.args.flag c.in_ok-codes.codes c.in_ok-values.values c.parts-parts.ensures.same c.parts-parts.ensures.formed c.in_ok-codes.ensures c.in_ok-values.ensures c.requires
