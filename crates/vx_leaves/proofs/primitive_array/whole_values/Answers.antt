use Rattle.std.proofs.Common.{◌≡◌, length, sym, refl, arith}
use Rattle.vx_base.specs.Integers.{numbers}
use Rattle.vx_base.proofs.Refused.{Gives-IfOk}
use Rattle.vx_tree.specs.Meaning.{valid_mask}
use Rattle.vx_tree.specs.Parts.{valid_of}
use Rattle.vx_tree.specs.Tree.{primitive}
use Rattle.vx_leaves.specs.Leaves.{IsPrimitive}
use Rattle.vx_leaves.specs.Spread.{spread}
use Rattle.vx_leaves.proofs.ValueRows.{is_primitive_of, count_of, spread_all}
use Rattle.vx_leaves.proofs.primitive_array.whole_values.Goals as goal

pub primitive_array-requires-clause-count : goal.primitive_array-requires-clause-count
primitive_array-requires-clause-count c = count_of c.args.ptype c.args.bytes c.args.n_rows (omega arith)

pub returns-clause-parts : goal.returns-clause-parts
returns-clause-parts c =
    let t = c.args.ptype in
    let bs = c.args.bytes in
    let n = c.args.n_rows in
    let v = valid_of c.args.validity in
    let count : length (numbers t bs) ≡ n = count_of t bs n (omega arith) in
    Gives-IfOk c.primitive_array.result (λ a. a ≡ primitive t bs v) (IsPrimitive t (spread (valid_mask v n) (numbers t bs)) v)
    (λ a e. is_primitive_of t t bs (spread (valid_mask v n) (numbers t bs)) v v a e refl refl (sym (spread_all v n (numbers t bs) c.requires.state count)))
    c.primitive_array.ensures
