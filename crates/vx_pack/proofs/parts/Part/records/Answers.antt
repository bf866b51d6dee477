use Rattle.std.proofs.Common.{◌+◌, sym, ◌∙◌, ap, refl, subst}
use Rattle.vx_base.specs.Kinds.{records}
use Rattle.vx_tree.specs.Formed.{WellFormed}
use Rattle.vx_tree.specs.Meaning.{trees_from}
use Rattle.vx_tree.specs.Parts.{tree_of, valid_of}
use Rattle.vx_tree.specs.Tree.{structure}
use Rattle.vx_pack.proofs.RecordRows.{are_columns}
use Rattle.vx_pack.specs.declared.fields.Records.TheVariants.{Columns}
use Rattle.vx_pack.specs.Parts.{IsPart}
use Rattle.vx_pack.specs.Records.{AreRecordsIn}
use Rattle.vx_pack.proofs.parts.Part.records.Goals as goal

pub returns : goal.returns
returns c = λ names ks n whole.
    let us = c.in-Struct.columns.items in
    let v = valid_of c.in-Struct.validity in
    let formed : WellFormed (structure c.in-Struct.names (trees_from us) v c.in-Struct.len) = rw c.in-Struct.is at c.layout.ensures.formed in
    let part = subst (IsPart (records names ks n)) c.in-Array.is whole in
    let columns = are_columns c.in-Array.array.now c.in-Struct.names names us c.deref.result.now v c.in-Struct.len ks n (sym c.layout.ensures.parts ∙ ap tree_of c.in-Struct.is) formed c.deref.ensures.value part.kind in
    subst (λ p. AreRecordsIn names ks p (Columns c.deref.result c.in-Array.start c.in-Array.len)) (sym c.in-Array.is) (record {
      formed = record { reach = columns.reach (c.in-Array.start + c.in-Array.len) part.within.0; kinds = (columns.kinds, columns.named) };
      count = refl;
      rows = λ m i l. columns.rows (c.in-Array.start + i) (c.is_full.ensures c.if-not-is_full.false (c.in-Array.start + i));
    })
