use Rattle.std.proofs.Common.{◌≡◌, true, None, rules}
use Rattle.vx_base.specs.Kinds.{is_integers}
use Rattle.vx_tree.specs.Faults.{indices_fault}
use Rattle.vx_tree.specs.Meaning.{kind_of}
use Rattle.vx_leaves.proofs.CodeRows.{codes_without_fault}
use Rattle.vx_leaves.proofs.dict_array.DictArray.try_new.Goals as goal

pub new-requires : goal.new-requires
new-requires c =
    let ints : is_integers (kind_of c.args.codes) ≡ true = search rules in
    let none : indices_fault c.len.result c.args.codes ≡ None = search rules in
    codes_without_fault c.args.codes c.args.values c.len.result c.len.ensures ints c.rows_fit_their_dtype.ensures none
