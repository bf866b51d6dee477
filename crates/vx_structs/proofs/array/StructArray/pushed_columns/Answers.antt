use Rattle.std.proofs.Common.{sym, ◌∙◌}
use Rattle.vx_base.proofs.Refused.{Gives-weaker}
use Rattle.vx_tree.specs.Parts.{valid_of}
use Rattle.vx_structs.proofs.Structs.PushedNulls.{columns_fit, nulled_columns_are_pushed}
use Rattle.vx_structs.proofs.array.StructArray.pushed_columns.Goals as goal

pub nulled_columns-requires : goal.nulled_columns-requires
nulled_columns-requires c =
    let parts = c.parts-parts.result in
    columns_fit parts.names.now parts.columns.now (valid_of parts.validity.now) parts.len c.parts-parts.ensures.formed

pub returns : goal.returns
returns c =
    let parts = c.parts-parts.result in
    Gives-weaker c.nulled_columns.result _ _ (λ made each. nulled_columns_are_pushed c.args.self.now parts.names.now parts.columns.now made.items (valid_of parts.validity.now) parts.len
    c.parts-parts.ensures.same (sym c.definitely_no_nulls.ensures ∙ c.if-definitely_no_nulls.false) each) c.nulled_columns.ensures
