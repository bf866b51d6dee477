use Rattle.std.proofs.Common.{◌≡◌, ◌∷◌, ◌++◌, [], Bool, true, cond, Some, None, sym, ap, ◌∙◌, subst, inl, eq-eqb}
use Rattle.std.proofs.lemmas.Result.{MatchResult-weaker}
use Rattle.vx_base.proofs.Refused.{Gives-IfOk}
use Rattle.vx_base.specs.Refusals.{length_mismatch}
use Rattle.vx_tree.specs.Faults.{length_fault}
use Rattle.vx_tree.specs.Formed.{WellFormed}
use Rattle.vx_tree.specs.Meaning.{tree_len}
use Rattle.vx_structs.specs.Structs.{is_struct, names_of, columns_of}
use Rattle.vx_structs.proofs.Structs.ColumnRows.{names_of_columns, added_fits, added_rows, added_kind}
use Rattle.vx_structs.proofs.array.StructArray.with_column.Goals as goal

pub with_columns-requires : goal.with_columns-requires
with_columns-requires c =
    let t = c.args.self.now in
    let name = c.args.name.now in
    let column = c.args.column in
    let is : is_struct t ≡ true = ap is_struct c.parts-parts.ensures.same in
    let formed : WellFormed t = subst WellFormed (sym c.parts-parts.ensures.same) c.parts-parts.ensures.formed in
    let long : tree_len column ≡ tree_len t = sym c.len-found.ensures ∙ c.if-found-expected.false ∙ sym (ap tree_len c.parts-parts.ensures.same) in
    let names : c.in_ok-names.names ≡ names_of t ++ name ∷ [] = c.in_ok-names.ensures ∙ ap (λ u. names_of u ++ name ∷ []) (sym c.parts-parts.ensures.same) in
    let columns : c.in_ok-columns.columns.items ≡ columns_of t ++ column ∷ [] = c.in_ok-columns.ensures ∙ ap (λ cs. cs ++ column ∷ []) (sym c.parts-parts.ensures.columns) in
    rw (names, columns) (added_fits t name column is formed long)

pub returns : goal.returns
returns c =
    let t = c.args.self.now in
    let name = c.args.name.now in
    let column = c.args.column in
    let is : is_struct t ≡ true = ap is_struct c.parts-parts.ensures.same in
    let formed : WellFormed t = subst WellFormed (sym c.parts-parts.ensures.same) c.parts-parts.ensures.formed in
    let long : tree_len column ≡ tree_len t = sym c.len-found.ensures ∙ c.if-found-expected.false ∙ sym (ap tree_len c.parts-parts.ensures.same) in
    let names : c.in_ok-names.names ≡ names_of t ++ name ∷ [] = c.in_ok-names.ensures ∙ ap (λ u. names_of u ++ name ∷ []) (sym c.parts-parts.ensures.same) in
    let columns : c.in_ok-columns.columns.items ≡ columns_of t ++ column ∷ [] = c.in_ok-columns.ensures ∙ ap (λ cs. cs ++ column ∷ []) (sym c.parts-parts.ensures.columns) in
    let fits : length_fault (tree_len t) (tree_len column) ≡ None = ap (λ (b : Bool). cond b None (Some length_mismatch)) (eq-eqb (tree_len column) (tree_len t) long) in
    record {
      columns = Gives-IfOk c.with_columns.result _ _ (λ a made. rw (names, columns) at made) c.with_columns.ensures;
      rows = Gives-IfOk c.with_columns.result _ _ (λ a made. added_rows t name column a is (names_of_columns t is formed) long (rw (names, columns) at made)) c.with_columns.ensures;
      kind = Gives-IfOk c.with_columns.result _ _ (λ a made. added_kind t name column a is (rw (names, columns) at made)) c.with_columns.ensures;
      refuses = MatchResult-weaker c.with_columns.result c.with_columns.ensures (λ a made. fits) (λ e memory. inl memory);
    }
