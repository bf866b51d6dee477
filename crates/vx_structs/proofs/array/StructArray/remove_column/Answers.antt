use Rattle.std.proofs.Common.{◌≡◌, ◌<◌, true, length, Some, sym, ap, ◌∙◌, subst}
use Rattle.std.specs.Prelude.{slice_get}
use Rattle.std.specs.List.{remove}
use Rattle.vx_base.specs.Fields.{place_of_name}
use Rattle.vx_tree.specs.Formed.{WellFormed}
use Rattle.vx_tree.specs.Parts.{valid_of}
use Rattle.vx_structs.specs.Structs.{is_struct, names_of, columns_of, with_columns}
use Rattle.vx_structs.proofs.Structs.Parts.{place_of_column}
use Rattle.vx_structs.proofs.Structs.ColumnRows.{names_of_columns, removed_fits, removed-found, removed_rows, removed_kind}
use Rattle.vx_structs.proofs.array.StructArray.remove_column.Goals as goal

pub columns_without-requires : goal.columns_without-requires
columns_without-requires c =
    let p = c.parts-parts.result in
    place_of_column p.names.now p.columns.now (valid_of p.validity.now) p.len c.args.name.now c.in-Some.place c.parts-parts.ensures.formed (sym c.in-Some.ensures)

pub with_columns-requires : goal.with_columns-requires
with_columns-requires c =
    let t = c.args.self.now in
    let p = c.parts-parts.result in
    let k = c.in-Some.place in
    let is : is_struct t ≡ true = ap is_struct c.parts-parts.ensures.same in
    let formed : WellFormed t = subst WellFormed (sym c.parts-parts.ensures.same) c.parts-parts.ensures.formed in
    let names : c.in_ok-names.names ≡ remove (names_of t) k = c.in_ok-names.ensures ∙ ap (λ u. remove (names_of u) k) (sym c.parts-parts.ensures.same) in
    let columns : c.in_ok-columns.columns.items ≡ remove (columns_of t) k = c.in_ok-columns.ensures ∙ ap (λ cs. remove cs k) (sym c.parts-parts.ensures.columns) in
    let within : k < length (columns_of t) =
    rw c.parts-parts.ensures.columns (place_of_column p.names.now p.columns.now (valid_of p.validity.now) p.len c.args.name.now k c.parts-parts.ensures.formed (sym c.in-Some.ensures)) in
    rw (names, columns) (removed_fits t k is formed within)

pub unmasked_field-requires : goal.unmasked_field-requires
unmasked_field-requires c =
    let p = c.parts-parts.result in
    rw c.parts-parts.ensures.columns (place_of_column p.names.now p.columns.now (valid_of p.validity.now) p.len c.args.name.now c.in-Some.place c.parts-parts.ensures.formed (sym c.in-Some.ensures))

pub returns : goal.returns
returns c =
    let t = c.args.self.now in
    let name = c.args.name.now in
    let k = c.in-Some.place in
    let rest = c.in_ok-rest.rest in
    let is : is_struct t ≡ true = ap is_struct c.parts-parts.ensures.same in
    let formed : WellFormed t = subst WellFormed (sym c.parts-parts.ensures.same) c.parts-parts.ensures.formed in
    let at : place_of_name (names_of t) name ≡ Some k = ap (λ u. place_of_name (names_of u) name) c.parts-parts.ensures.same ∙ sym c.in-Some.ensures in
    let names : c.in_ok-names.names ≡ remove (names_of t) k = c.in_ok-names.ensures ∙ ap (λ u. remove (names_of u) k) (sym c.parts-parts.ensures.same) in
    let columns : c.in_ok-columns.columns.items ≡ remove (columns_of t) k = c.in_ok-columns.ensures ∙ ap (λ cs. remove cs k) (sym c.parts-parts.ensures.columns) in
    let made : rest ≡ with_columns t (remove (names_of t) k) (remove (columns_of t) k) = rw (names, columns) at c.in_ok-rest.ensures in
    let found : slice_get (columns_of t) k ≡ Some c.in_ok-removed.removed = c.unmasked_field.ensures ∙ ap Some (sym c.in_ok-removed.ensures) in
    record {
      columns = sym (removed-found t name k rest c.in_ok-removed.removed at found made);
      rows = removed_rows t name k rest is at made (names_of_columns t is formed);
      kind = removed_kind t name k rest is at made;
    }
