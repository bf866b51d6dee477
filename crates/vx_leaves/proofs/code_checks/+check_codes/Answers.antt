use Rattle.std.proofs.Common.{ℕ, ◌≡◌, ◌<◌, ◌≤◌, length, sym, ◌∙◌, ap, arith}
use Rattle.vx_base.specs.Refusals.{first_fault}
use Rattle.vx_tree.specs.Faults.{index_fault, indices_fault}
use Rattle.vx_tree.specs.Meaning.{tree_len, row_at, valid_mask}
use Rattle.vx_tree.specs.Operations.{masked_numbers}
use Rattle.vx_tree.specs.Parts.{tree_of, valid_of}
use Rattle.vx_tree.specs.Formed.{WellFormed}
use Rattle.vx_tree.specs.Tree.{primitive, constant, dictionary}
use Rattle.vx_tree.proofs.Positions.{AreSame, under_mask, mask_long}
use Rattle.vx_leaves.proofs.CodeRows.{Refuses-tests, constant_fault, dictionary_without_fault, ok_has_no_fault}
use Rattle.vx_leaves.proofs.code_checks.+check_codes.Goals as goal

pub faultless_rows-faultless-requires : goal.faultless_rows-faultless-requires
faultless_rows-faultless-requires t c =
    let is : c.args.codes.now ≡ primitive c.in-Primitive.ptype c.in-Primitive.bytes (valid_of c.in-Primitive.validity) = sym c.layout.ensures.parts ∙ ap tree_of c.in-Primitive.is in
    rw c.as_slice.ensures.value
    (mask_long (valid_of c.in-Primitive.validity) c.in_ok-valid-in-Primitive.valid c.len.result c.in_ok-valid-in-Primitive.ensures ∙ c.len.ensures ∙ ap tree_len is)

pub check_rows-requires-clause-order : goal.check_rows-requires-clause-order
check_rows-requires-clause-order t c =
    let within : c.faultless_rows-faultless.result ≤ length c.in_ok-valid-in-Primitive.valid = c.faultless_rows-faultless.ensures.within in
    omega (arith, within, mask_long (valid_of c.in-Primitive.validity) c.in_ok-valid-in-Primitive.valid c.len.result c.in_ok-valid-in-Primitive.ensures, c.len.ensures, c.len-in-Primitive.ensures)

pub check_rows-requires-clause-before : goal.check_rows-requires-clause-before
check_rows-requires-clause-before t c = λ i before.
    let codes = c.args.codes.now in
    let t = c.in-Primitive.ptype in
    let bs = c.in-Primitive.bytes in
    let v = valid_of c.in-Primitive.validity in
    let mask = c.in_ok-valid-in-Primitive.valid in
    let is : codes ≡ primitive t bs v = sym c.layout.ensures.parts ∙ ap tree_of c.in-Primitive.is in
    let made : mask ≡ valid_mask v (tree_len codes) = rw c.len.ensures at c.in_ok-valid-in-Primitive.ensures in
    let same : AreSame codes (masked_numbers t bs mask) = under_mask codes t bs v mask is made in
    let within : c.faultless_rows-faultless.result ≤ length mask = c.faultless_rows-faultless.ensures.within in
    let none = rw c.as_slice.ensures.value at c.faultless_rows-faultless.ensures.none in
    ap (index_fault c.args.len i) (same.rows i (omega (arith, mask_long v mask (tree_len codes) made))) ∙ none i before

pub returns-in_ok-valid-in-Primitive : goal.returns-in_ok-valid-in-Primitive
returns-in_ok-valid-in-Primitive t c =
    let fault = λ (i : ℕ). index_fault c.args.len i (row_at c.args.codes.now i) in
    Refuses-tests c.check_rows.result (first_fault fault c.len-in-Primitive.result) (indices_fault c.args.len c.args.codes.now) (ap (first_fault fault) (sym c.len-in-Primitive.ensures)) c.check_rows.ensures

pub returns-in-Constant : goal.returns-in-Constant
returns-in-Constant t c =
    let codes = c.args.codes.now in
    let scalar = c.in-Constant.scalar in
    let n = c.in-Constant.len in
    let m = c.min.result in
    let is : codes ≡ constant scalar.kind scalar.row n = sym c.layout.ensures.parts ∙ ap tree_of c.in-Constant.is in
    let count : c.len-in-Constant.result ≡ n = c.len-in-Constant.ensures ∙ ap tree_len is in
    let fewer : m ≤ n = omega (arith, c.min.ensures, count) in
    let some : 0 < n → 0 < m = λ more. omega (arith, c.min.ensures, count, more) in
    Refuses-tests c.check_rows-in-Constant.result (first_fault (λ i. index_fault c.args.len i (row_at codes i)) m) (indices_fault c.args.len codes)
    (constant_fault codes scalar.kind scalar.row n m c.args.len is fewer some) c.check_rows-in-Constant.ensures

pub returns-then-is_ok : goal.returns-then-is_ok
returns-then-is_ok t c =
    let parts = c.in-Dict in
    let is : c.args.codes.now ≡ dictionary parts.codes parts.values parts.flag = sym c.layout.ensures.parts ∙ ap tree_of parts.is in
    let formed : WellFormed (dictionary parts.codes parts.values parts.flag) = rw parts.is at c.layout.ensures.formed in
    dictionary_without_fault c.args.codes.now parts.codes parts.values parts.flag c.args.len is formed
    (ok_has_no_fault c.check_codes.result (indices_fault c.args.len parts.values) (sym c.is_ok.ensures.value ∙ c.if-is_ok.true) c.check_codes.ensures)
