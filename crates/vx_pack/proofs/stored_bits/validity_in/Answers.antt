use Rattle.std.proofs.Common.{◌∙◌, sym, ap, refl}
use Rattle.vx_base.specs.DTypes.{dtype_meaning}
use Rattle.vx_tree.specs.Formed.{WellFormed}
use Rattle.vx_tree.specs.Meaning.{is_valid_at, is_texts, trees_from}
use Rattle.vx_tree.specs.Parts.{tree_of, valid_of}
use Rattle.vx_tree.specs.Tree.{bools, fixed_list, list_view, primitive, structure, view_array}
use Rattle.vx_pack.proofs.PresentRows.{valid_where_present, value_present}
use Rattle.vx_pack.proofs.StoredBits.{validity_read}
use Rattle.vx_pack.proofs.stored_bits.validity_in.Goals as goal

pub returns-in-Bool : goal.returns-in-Bool
returns-in-Bool c =
    let v = valid_of c.in-Bool.validity in
    let u = bools c.in-Bool.bits.offset c.in-Bool.bits.bits v in
    let formed : WellFormed u = rw c.in-Bool.is at c.layout.ensures.formed in
    validity_read c.args.array.now u v (sym c.layout.ensures.parts ∙ ap tree_of c.in-Bool.is) formed
    (λ i. valid_where_present (is_valid_at v i) _ refl)

pub returns-in-Primitive : goal.returns-in-Primitive
returns-in-Primitive c =
    let v = valid_of c.in-Primitive.validity in
    let u = primitive c.in-Primitive.ptype c.in-Primitive.bytes v in
    let formed : WellFormed u = rw c.in-Primitive.is at c.layout.ensures.formed in
    validity_read c.args.array.now u v (sym c.layout.ensures.parts ∙ ap tree_of c.in-Primitive.is) formed.0
    (λ i. valid_where_present (is_valid_at v i) _ refl)

pub returns-in-VarBinView : goal.returns-in-VarBinView
returns-in-VarBinView c =
    let v = valid_of c.in-VarBinView.validity in
    let u = view_array c.in-VarBinView.views c.in-VarBinView.buffers.items (dtype_meaning c.in-VarBinView.dtype) v in
    let formed : WellFormed u = rw c.in-VarBinView.is at c.layout.ensures.formed in
    validity_read c.args.array.now u v (sym c.layout.ensures.parts ∙ ap tree_of c.in-VarBinView.is) formed.0
    (λ i. valid_where_present (is_valid_at v i) _ (value_present (is_texts (dtype_meaning c.in-VarBinView.dtype)) _))

pub returns-in-FixedSizeList : goal.returns-in-FixedSizeList
returns-in-FixedSizeList c =
    let v = valid_of c.in-FixedSizeList.validity in
    let u = fixed_list c.in-FixedSizeList.elements c.in-FixedSizeList.size v c.in-FixedSizeList.len in
    let formed : WellFormed u = rw c.in-FixedSizeList.is at c.layout.ensures.formed in
    validity_read c.args.array.now u v (sym c.layout.ensures.parts ∙ ap tree_of c.in-FixedSizeList.is) formed.0
    (λ i. valid_where_present (is_valid_at v i) _ refl)

pub returns-in-ListView : goal.returns-in-ListView
returns-in-ListView c =
    let v = valid_of c.in-ListView.validity in
    let u = list_view c.in-ListView.elements c.in-ListView.offsets c.in-ListView.sizes v c.in-ListView.flag in
    let formed : WellFormed u = rw c.in-ListView.is at c.layout.ensures.formed in
    validity_read c.args.array.now u v (sym c.layout.ensures.parts ∙ ap tree_of c.in-ListView.is) formed.0
    (λ i. valid_where_present (is_valid_at v i) _ refl)

pub returns-in-Struct : goal.returns-in-Struct
returns-in-Struct c =
    let v = valid_of c.in-Struct.validity in
    let u = structure c.in-Struct.names (trees_from c.in-Struct.columns.items) v c.in-Struct.len in
    let formed : WellFormed u = rw c.in-Struct.is at c.layout.ensures.formed in
    validity_read c.args.array.now u v (sym c.layout.ensures.parts ∙ ap tree_of c.in-Struct.is) formed.0
    (λ i. valid_where_present (is_valid_at v i) _ refl)
