use Rattle.std.proofs.Common.{ℕ, ◌≡◌, ◌∙◌, Bool, List, inr, sym, ap}
use Rattle.std.proofs.lemmas.Result.{err_from_is_err_and}
use Rattle.vx_base.specs.declared.ptypes.PType.{PType}
use Rattle.vx_tree.specs.declared.array.Layout.{Layout}
use Rattle.vx_tree.specs.declared.array.Layout.TheVariants as layout
use Rattle.vx_tree.specs.declared.array.Validity.{Validity}
use Rattle.vx_tree.specs.Tree.{Tree}
use Rattle.vx_tree.specs.Parts.{tree_of, valid_of}
use Rattle.vx_tree.specs.Meaning.{tree_len, valid_mask}
use Rattle.vx_tree.specs.Operations.{masked_numbers}
use Rattle.vx_tree.proofs.Positions.{AreSame, under_mask, mask_long, ArePositions-same, indices_fault-same}
use Rattle.vx_tree.proofs.array.ArrayRef.fill_positions.Goals as goal

-- the numbers of this array are those under the mask that was made of its validity
read : (t : Tree) (l : Layout) (p : PType) (bs : List ℕ) (v : Validity) (mask : List Bool) (n : ℕ) → tree_of l ≡ t → l ≡ layout.Primitive p bs v → n ≡ tree_len t → mask ≡ valid_mask (valid_of v) n
    → AreSame t (masked_numbers p bs mask)
read t l p bs v mask n parts is len made = under_mask t p bs (valid_of v) mask (sym parts ∙ ap tree_of is) (rw len at made)

pub fill_typed-requires-clause-numbers : goal.fill_typed-requires-clause-numbers
fill_typed-requires-clause-numbers c =
    let long = mask_long (valid_of c.in-Primitive.validity) c.in_ok-mask-in-Primitive.mask c.len.result c.in_ok-mask-in-Primitive.ensures.mask in
    rw c.as_slice.ensures.value (long ∙ rw (← c.layout.ensures.parts, c.in-Primitive.is) at c.len.ensures)

pub fill_typed-requires-clause-room : goal.fill_typed-requires-clause-room
fill_typed-requires-clause-room c =
    c.requires.room ∙ sym (mask_long (valid_of c.in-Primitive.validity) c.in_ok-mask-in-Primitive.mask c.len.result c.in_ok-mask-in-Primitive.ensures.mask ∙ c.len.ensures)

pub returns-in_err-fill_typed-in-Primitive-clause-refuses :
    goal.returns-in_err-fill_typed-in-Primitive-clause-refuses
returns-in_err-fill_typed-in-Primitive-clause-refuses c =
    let same = read c.args.self.now c.layout.result.now c.in-Primitive.ptype c.in-Primitive.bytes c.in-Primitive.validity c.in_ok-mask-in-Primitive.mask c.len.result c.layout.ensures.parts c.in-Primitive.is c.len.ensures c.in_ok-mask-in-Primitive.ensures.mask in
    let p = err_from_is_err_and c.from_residual-in_err-fill_typed-in-Primitive.result c.from_residual-in_err-fill_typed-in-Primitive.ensures.1 in
    rw (p.1, p.2, indices_fault-same c.args.len c.args.self.now (masked_numbers c.in-Primitive.ptype c.in-Primitive.bytes c.in_ok-mask-in-Primitive.mask) same) (inr (rw c.as_slice.ensures.value at c.in_err-fill_typed-in-Primitive.ensures.tests.1))

pub returns-in_ok-fill_typed-in-Primitive-clause-ok :
    goal.returns-in_ok-fill_typed-in-Primitive-clause-ok
returns-in_ok-fill_typed-in-Primitive-clause-ok c =
    let same = read c.args.self.now c.layout.result.now c.in-Primitive.ptype c.in-Primitive.bytes c.in-Primitive.validity c.in_ok-mask-in-Primitive.mask c.len.result c.layout.ensures.parts c.in-Primitive.is c.len.ensures c.in_ok-mask-in-Primitive.ensures.mask in
    ArePositions-same c.args.self.now (masked_numbers c.in-Primitive.ptype c.in-Primitive.bytes c.in_ok-mask-in-Primitive.mask) c.args.len _ same (rw c.as_slice.ensures.value at c.in_ok-fill_typed-in-Primitive.ensures.ok)

pub returns-in_ok-fill_typed-in-Primitive-clause-refuses :
    goal.returns-in_ok-fill_typed-in-Primitive-clause-refuses
returns-in_ok-fill_typed-in-Primitive-clause-refuses c =
    let same = read c.args.self.now c.layout.result.now c.in-Primitive.ptype c.in-Primitive.bytes c.in-Primitive.validity c.in_ok-mask-in-Primitive.mask c.len.result c.layout.ensures.parts c.in-Primitive.is c.len.ensures c.in_ok-mask-in-Primitive.ensures.mask in
    indices_fault-same c.args.len c.args.self.now (masked_numbers c.in-Primitive.ptype c.in-Primitive.bytes c.in_ok-mask-in-Primitive.mask) same ∙ rw c.as_slice.ensures.value at c.in_ok-fill_typed-in-Primitive.ensures.tests
