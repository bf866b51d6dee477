use Rattle.std.proofs.Common.{◌≡◌, true, None, sym, ap, ◌∙◌, subst, inl}
use Rattle.std.proofs.lemmas.Result.{MatchResult-weaker}
use Rattle.vx_base.proofs.Refused.{Gives-IfOk}
use Rattle.vx_tree.specs.Formed.{IsStruct, WellFormed}
use Rattle.vx_tree.specs.Meaning.{tree_len, trees_from}
use Rattle.vx_tree.specs.Tree.{Tree}
use Rattle.vx_tree.proofs.Columns.{column_count-trees_from}
use Rattle.vx_structs.specs.Structs.Faults.{names_fault}
use Rattle.vx_structs.specs.Structs.{is_struct, names_of, with_columns, AreNamed, IsProjected}
use Rattle.vx_structs.proofs.Structs.ColumnRows.{AreNamed-from_found, projected_fits, projected_rows, projected_kind_of}
use Rattle.vx_structs.proofs.array.StructArray.project.Goals as goal

pub columns_named-requires : goal.columns_named-requires
columns_named-requires c = c.parts-parts.ensures.formed.1.named ∙ column_count-trees_from c.parts-parts.result.columns.now

pub with_columns-requires : goal.with_columns-requires
with_columns-requires c =
    let t = c.args.self.now in
    let p = c.parts-parts.result in
    let names = c.args.names.now in
    let columns = c.in_ok-columns.columns.items in
    let is : is_struct t ≡ true = ap is_struct c.parts-parts.ensures.same in
    let formed : WellFormed t = subst WellFormed (sym c.parts-parts.ensures.same) c.parts-parts.ensures.formed in
    let found : AreNamed t names columns = AreNamed-from_found t p.names.now p.columns.now names columns (ap names_of c.parts-parts.ensures.same) c.parts-parts.ensures.columns c.in_ok-columns.ensures.found in
    subst (λ copied. IsStruct copied (trees_from columns) (tree_len t)) (sym c.in_ok-names.ensures) (projected_fits t names columns is formed found)

pub returns : goal.returns
returns c =
    let t = c.args.self.now in
    let p = c.parts-parts.result in
    let names = c.args.names.now in
    let columns = c.in_ok-columns.columns.items in
    let is : is_struct t ≡ true = ap is_struct c.parts-parts.ensures.same in
    let found : AreNamed t names columns = AreNamed-from_found t p.names.now p.columns.now names columns (ap names_of c.parts-parts.ensures.same) c.parts-parts.ensures.columns c.in_ok-columns.ensures.found in
    let chosen : (a : Tree) → a ≡ with_columns t c.in_ok-names.names columns → IsProjected t names a = λ a made. (columns, found, made ∙ ap (λ ns. with_columns t ns columns) c.in_ok-names.ensures) in
    let known : names_fault (names_of t) names ≡ None = ap (λ u. names_fault (names_of u) names) c.parts-parts.ensures.same ∙ c.in_ok-columns.ensures.refuses in
    record {
      columns = Gives-IfOk c.with_columns.result _ _ chosen c.with_columns.ensures;
      rows = Gives-IfOk c.with_columns.result _ _ (λ a made. projected_rows t names a is (chosen a made)) c.with_columns.ensures;
      kind = Gives-IfOk c.with_columns.result _ _ (λ a made. projected_kind_of t names a is (chosen a made)) c.with_columns.ensures;
      refuses = MatchResult-weaker c.with_columns.result c.with_columns.ensures (λ a made. known) (λ e memory. inl memory);
    }
