use Rattle.std.proofs.Common.{◌+◌, sym, ◌∙◌, ap, refl, subst, map}
use Rattle.std.specs.List.{range_with_len}
use Rattle.vx_tree.specs.Formed.{WellFormed}
use Rattle.vx_tree.specs.Meaning.{row_at}
use Rattle.vx_tree.specs.Parts.{tree_of, valid_of}
use Rattle.vx_tree.specs.Tree.{list_view}
use Rattle.vx_pack.proofs.StoredLists.{list_bytes_of, list_rows_of, stored_lists_of}
use Rattle.vx_pack.specs.declared.parts.Part.TheVariants.{Array}
use Rattle.vx_pack.specs.Lists.{IsItemOf}
use Rattle.vx_pack.specs.Parts.{IsPart, IsWithin, part_len, part_row}
use Rattle.vx_pack.specs.StoredLists.{AreStoredLists}
use Rattle.vx_pack.proofs.parts.Part.stored_lists.Goals as goal

pub returns-clause-bytes : goal.returns-clause-bytes
returns-clause-bytes c =
    let a = c.in-Array.array.now in
    let e = c.in-ListView.elements in
    let o = c.in-ListView.offsets in
    let z = c.in-ListView.sizes in
    let v = valid_of c.in-ListView.validity in
    let f = c.in-ListView.flag in
    let formed : WellFormed (list_view e o z v f) = rw c.in-ListView.is at c.layout.ensures.formed in
    let within = subst IsWithin c.in-Array.is c.requires in
    list_bytes_of a e o z v f c.in-Array.start c.in-Array.len _ _ _ _ (sym c.layout.ensures.parts ∙ ap tree_of c.in-ListView.is)
    formed.1 within.0 c.in_ok-offset_type.ensures c.in_ok-size_type.ensures

pub returns-clause-lists : goal.returns-clause-lists
returns-clause-lists c = λ item k of_item whole.
    let a = c.in-Array.array.now in
    let e = c.in-ListView.elements in
    let o = c.in-ListView.offsets in
    let z = c.in-ListView.sizes in
    let v = valid_of c.in-ListView.validity in
    let f = c.in-ListView.flag in
    let start = c.in-Array.start in
    let n = c.in-Array.len in
    let formed : WellFormed (list_view e o z v f) = rw c.in-ListView.is at c.layout.ensures.formed in
    let within = subst IsWithin c.in-Array.is c.requires in
    let part = subst (IsPart k) c.in-Array.is whole in
    rw c.in-Array.is (stored_lists_of a e o z v f start n item (λ i. row_at a (start + i)) _
    (sym c.layout.ensures.parts ∙ ap tree_of c.in-ListView.is)
    formed.1 (c.is_full.ensures c.if-not-is_full.false) within.0 (subst (IsItemOf item) (sym part.kind) of_item) (λ i. refl) refl
    c.in_ok-offset_type.ensures c.in_ok-size_type.ensures)

pub returns-clause-rows : goal.returns-clause-rows
returns-clause-rows c = λ k.
    let a = c.in-Array.array.now in
    let e = c.in-ListView.elements in
    let o = c.in-ListView.offsets in
    let z = c.in-ListView.sizes in
    let v = valid_of c.in-ListView.validity in
    let f = c.in-ListView.flag in
    let start = c.in-Array.start in
    let n = c.in-Array.len in
    rw c.in-Array.is (list_rows_of k (Array c.in-Array.array start n) a e o z v f start n _
    (sym c.layout.ensures.parts ∙ ap tree_of c.in-ListView.is) (c.is_full.ensures c.if-not-is_full.false) refl (λ i. refl) refl
    c.in_ok-offset_type.ensures c.in_ok-size_type.ensures)
