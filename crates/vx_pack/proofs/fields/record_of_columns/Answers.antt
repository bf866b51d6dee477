use Rattle.std.proofs.Common.{◌≡◌, ◌+◌, sym, ◌∙◌, ap, refl, arith}
use Rattle.vx_tree.specs.Formed.{WellFormed}
use Rattle.vx_tree.specs.Meaning.{fields_at, trees_from}
use Rattle.vx_base.specs.Rows.{record_of}
use Rattle.vx_tree.specs.Parts.{tree_of, valid_of}
use Rattle.vx_tree.specs.Tree.{structure}
use Rattle.vx_pack.proofs.RecordRows.{are_columns}
use Rattle.vx_pack.proofs.fields.record_of_columns.Goals as goal

pub returns : goal.returns
returns c = λ names ks n kind.
    let us = c.in-Struct.columns.items in
    let v = valid_of c.in-Struct.validity in
    let formed : WellFormed (structure c.in-Struct.names (trees_from us) v c.in-Struct.len) = rw c.in-Struct.is at c.layout.ensures.formed in
    let columns = are_columns c.args.array.now c.in-Struct.names names us c.deref.result.now v c.in-Struct.len ks n (sym c.layout.ensures.parts ∙ ap tree_of c.in-Struct.is) formed c.deref.ensures.value kind in
    let first : c.args.row ≡ c.args.row + 0 = omega arith in
    record {
      formed = record { reach = columns.reach (c.args.row + 1) (omega (arith, c.requires.in_bounds)); kinds = (columns.kinds, columns.named) };
      one = refl;
      row = columns.rows c.args.row (sym c.is_valid_at.ensures ∙ c.if-not-is_valid_at.false) ∙ ap (λ x. record_of (fields_at (trees_from c.deref.result.now) names x)) first;
    }
