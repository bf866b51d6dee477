use Rattle.std.proofs.Common.{◌∙◌, ◌+◌, ◌*◌, ◌≤◌, ap, arith, refl, subst, sym}
use Rattle.vx_tree.specs.Parts.{tree_of, valid_of}
use Rattle.vx_tree.specs.Formed.{WellFormed}
use Rattle.vx_tree.specs.Meaning.{tree_len}
use Rattle.vx_tree.specs.Tree.{fixed_list}
use Rattle.vx_pack.proofs.JoinedPieces.{all_items_of_kind, elements_within}
use Rattle.vx_pack.specs.declared.parts.Part.TheVariants.{Array}
use Rattle.vx_pack.specs.Parts.{IsPart, IsWithin}
use Rattle.vx_pack.specs.Pieces.{AreAllItems}
use Rattle.vx_pack.proofs.parts.Part.elements.Goals as goal

pub overflow_mul-start : goal.overflow_mul-start
overflow_mul-start c =
    let e = c.in-FixedSizeList.elements in
    let s = c.in-FixedSizeList.size in
    let v = valid_of c.in-FixedSizeList.validity in
    let m = c.in-FixedSizeList.len in
    let start = c.in-Array.start in
    let n = c.in-Array.len in
    let formed : WellFormed (fixed_list e s v m) = rw c.in-FixedSizeList.is at c.layout.ensures.formed in
    let within = subst IsWithin c.in-Array.is c.requires in
    let inside : start * s + n * s ≤ tree_len e = elements_within c.in-Array.array.now e s v m start n
    (sym c.layout.ensures.parts ∙ ap tree_of c.in-FixedSizeList.is) within.0 formed.1 in
    omega (arith, inside, c.known_len.ensures)

pub overflow_mul-len : goal.overflow_mul-len
overflow_mul-len c =
    let e = c.in-FixedSizeList.elements in
    let s = c.in-FixedSizeList.size in
    let v = valid_of c.in-FixedSizeList.validity in
    let m = c.in-FixedSizeList.len in
    let start = c.in-Array.start in
    let n = c.in-Array.len in
    let formed : WellFormed (fixed_list e s v m) = rw c.in-FixedSizeList.is at c.layout.ensures.formed in
    let within = subst IsWithin c.in-Array.is c.requires in
    let inside : start * s + n * s ≤ tree_len e = elements_within c.in-Array.array.now e s v m start n
    (sym c.layout.ensures.parts ∙ ap tree_of c.in-FixedSizeList.is) within.0 formed.1 in
    omega (arith, inside, c.known_len.ensures)

pub part_of-requires : goal.part_of-requires
part_of-requires c =
    let e = c.in-FixedSizeList.elements in
    let s = c.in-FixedSizeList.size in
    let v = valid_of c.in-FixedSizeList.validity in
    let m = c.in-FixedSizeList.len in
    let start = c.in-Array.start in
    let n = c.in-Array.len in
    let formed : WellFormed (fixed_list e s v m) = rw c.in-FixedSizeList.is at c.layout.ensures.formed in
    let within = subst IsWithin c.in-Array.is c.requires in
    let inside : start * s + n * s ≤ tree_len e = elements_within c.in-Array.array.now e s v m start n
    (sym c.layout.ensures.parts ∙ ap tree_of c.in-FixedSizeList.is) within.0 formed.1 in
    omega (arith, inside, c.known_len.ensures)

pub returns : goal.returns
returns c = λ item k blank of_item blanks whole.
    let a = c.in-Array.array in
    let start = c.in-Array.start in
    let n = c.in-Array.len in
    let part = subst (IsPart k) c.in-Array.is whole in
    subst (λ p. AreAllItems item blank k p c.part_of.result) (sym c.in-Array.is)
    (all_items_of_kind a.now c.in-FixedSizeList.elements c.in-FixedSizeList.size (valid_of c.in-FixedSizeList.validity) c.in-FixedSizeList.len start n
    item k blank (Array a start n) c.part_of.result
    (sym c.layout.ensures.parts ∙ ap tree_of c.in-FixedSizeList.is) (c.is_full.ensures c.if-not-is_full.false) part.kind of_item blanks refl (λ x i. refl)
    c.part_of.ensures)
