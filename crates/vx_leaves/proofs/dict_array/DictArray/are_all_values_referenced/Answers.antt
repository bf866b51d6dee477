use Rattle.std.proofs.Common.{ap, sym, ◌∙◌}
use Rattle.vx_tree.specs.Meaning.{tree_len}
use Rattle.vx_leaves.specs.Dictionaries.{codes_in, values_in}
use Rattle.vx_leaves.proofs.NamedValues.{all_referenced_is, few_codes_reference_few}
use Rattle.vx_leaves.proofs.dict_array.DictArray.are_all_values_referenced.Goals as goal

pub returns-then-len : goal.returns-then-len
returns-then-len c =
    let same = c.parts-parts.ensures.same in
    few_codes_reference_few (codes_in c.args.self.now) (values_in c.args.self.now) c.len.result c.len-2.result
    (c.len.ensures ∙ ap tree_len (sym (ap codes_in same))) (c.len-2.ensures ∙ ap tree_len (sym (ap values_in same))) c.if-len.true

pub returns : goal.returns
returns c = all_referenced_is c.args.self.now c.in_ok-referenced.referenced.bits c.true_count.result c.len-3.result c.in_ok-referenced.ensures c.true_count.ensures c.len-3.ensures
