use Rattle.std.proofs.Common.{◌≡◌, ◌∙◌, length, sym, subst, arith, rules}
use Rattle.std.proofs.lemmas.List.{with_items_is}
use Rattle.vx_tree.specs.Meaning.{tree_len}
use Rattle.vx_leaves.specs.Dictionaries.{MarksReferenced}
use Rattle.vx_leaves.specs.Scan.{IsScanEnd, NameAllBefore, EndsScan}
use Rattle.vx_leaves.proofs.NamedValues.{marks_referenced}
use Rattle.vx_leaves.proofs.dict_ext.DictArrayDictArrayExt.referenced_values_scan.Goals as goal

pub returns-clause-bits : goal.returns-clause-bits
returns-clause-bits c =
    let parts = c.parts-parts.result in
    let out = c.scan_codes.new.out in
    let told : c.in_ok-from_bools.field-0.bits ≡ out = c.in_ok-from_bools.ensures.bits ∙ c.deref.ensures.value ∙ with_items_is c.in_ok-marks.marks out (omega (arith, c.deref_mut.ensures.len, c.in_ok-end.ensures.marks.len)) in
    let room : length c.deref_mut.result.now ≡ tree_len parts.values.now = search rules in
    subst (MarksReferenced c.args.self.now c.args.referenced) (sym told)
    (marks_referenced c.args.self.now parts.codes.now parts.values.now parts.flag c.args.referenced out (length c.deref_mut.result.now) c.parts-parts.ensures.same room c.in_ok-end.ensures.marks)

pub returns-clause-end : goal.returns-clause-end
returns-clause-end c =
    let parts = c.parts-parts.result in
    let codes = parts.codes.now in
    let end = c.in_ok-end.end in
    let room : length c.deref_mut.result.now ≡ tree_len parts.values.now = search rules in
    subst (λ t. EndsScan t end) (sym c.parts-parts.ensures.same) (subst (λ n. IsScanEnd (tree_len codes) (NameAllBefore codes n) end) room c.in_ok-end.ensures.end)
