use Rattle.std.proofs.Common.{◌≡◌, true, map, sym, ◌∙◌, ap}
use Rattle.std.specs.Option.{is_some}
use Rattle.std.proofs.lemmas.Result.{err_from_is_err_and}
use Rattle.vx_base.specs.DTypes.{dtype_meaning}
use Rattle.vx_base.specs.Kinds.{is_nullable_kind}
use Rattle.vx_tree.specs.Parts.{valid_of}
use Rattle.vx_tree.specs.Tree.{view_array}
use Rattle.vx_text.specs.Items.{valid_items}
use Rattle.vx_text.specs.TextFaults.{is_values}
use Rattle.vx_text.proofs.ItemArrays.{items_array, items_made, no_type_fault, refused_items}
use Rattle.vx_text.proofs.from_items.array_of_items.Goals as goal

pub var_bin_view-requires : goal.var_bin_view-requires
var_bin_view-requires g c =
    let k = dtype_meaning c.args.dtype in
    let all = c.in_ok-all.ensures.ok in
    let items = map g.T.Item.item all.0 in
    let values : is_values k ≡ true = sym c.has_values.ensures ∙ c.if-not-has_values.false in
    let valid : valid_of c.in_ok-validity.validity ≡ valid_items (is_nullable_kind k) (map is_some items) =
    c.in_ok-validity.ensures ∙ (λ i. valid_items (c.nullability.ensures i) (c.deref.ensures.value i)) ∙ all.4 in
    items_made k items c.in_ok-all.all.views c.in_ok-all.all.buffers.items (valid_of c.in_ok-validity.validity) values all.2 all.3 valid

pub returns-in_err-all-clause-err : goal.returns-in_err-all-clause-err
returns-in_err-all-clause-err g c =
    let k = dtype_meaning c.args.dtype in
    let p = err_from_is_err_and c.from_residual.result c.from_residual.ensures.1 in
    let values = no_type_fault k (sym c.has_values.ensures ∙ c.if-not-has_values.false) in
    rw (p.1, p.2) (refused_items g.I.Iterator.next_gives c.args.items g.T.Item.item k c.in_err-all.field-0.0 values c.in_err-all.ensures.err)

pub returns-clause-ok : goal.returns-clause-ok
returns-clause-ok g c =
    let k = dtype_meaning c.args.dtype in
    let all = c.in_ok-all.ensures.ok in
    let items = map g.T.Item.item all.0 in
    let values : is_values k ≡ true = sym c.has_values.ensures ∙ c.if-not-has_values.false in
    let valid : valid_of c.in_ok-validity.validity ≡ valid_items (is_nullable_kind k) (map is_some items) =
    c.in_ok-validity.ensures ∙ (λ i. valid_items (c.nullability.ensures i) (c.deref.ensures.value i)) ∙ all.4 in
    let tree = c.from_array.ensures ∙ c.in_ok-array.ensures ∙ ap (view_array c.in_ok-all.all.views c.in_ok-all.all.buffers.items k) valid in
    record {
      all = all.0;
      came = all.1;
      values = no_type_fault k values;
      faultless = all.2;
      is = items_array k items c.in_ok-all.all.views c.in_ok-all.all.buffers.items c.from_array.result all.2 all.3 tree;
    }
