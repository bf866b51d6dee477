use Rattle.std.proofs.Common.{rules, ◌≡◌, ◌*◌, length, sym, ap, ◌∙◌}
use Rattle.std.proofs.lemmas.Bool.{false≢true}
use Rattle.vx_base.specs.Integers.{byte_width, numbers}
use Rattle.vx_base.proofs.Refused.{Gives-weaker}
use Rattle.vx_tree.specs.Meaning.{tree_len}
use Rattle.vx_tree.specs.Parts.{valid_of}
use Rattle.vx_tree.specs.Tree.{primitive}
use Rattle.vx_leaves.specs.Narrow.{IsNarrowed}
use Rattle.vx_leaves.proofs.NarrowedRows.{mask_long, valid_held, narrow_held, narrow_width, narrowed_is, narrowed_stays, length-zeroed}
use Rattle.vx_leaves.proofs.narrow.narrowed_array.Goals as goal

pub narrowed_ptype-ptype-requires : goal.narrowed_ptype-ptype-requires
narrowed_ptype-ptype-requires c =
    let parts = c.parts-parts.result in
    let t = c.args.array.now in
    let p = parts.ptype in
    let bs = c.as_slice-bytes.result.now in
    let v = valid_of parts.validity.now in
    let mask = c.in_ok-mask.mask in
    let n = c.len-len.result in
    let same = c.parts-parts.ensures.same ∙ ap (λ b. primitive p b v) (sym c.as_slice-bytes.ensures.value) in
    mask_long t p bs v mask n same c.len-len.ensures c.in_ok-mask.ensures.mask

pub returns-then-not-all_false : goal.returns-then-not-all_false
returns-then-not-all_false c =
    let parts = c.parts-parts.result in
    let t = c.args.array.now in
    let p = parts.ptype in
    let bs = c.as_slice-bytes.result.now in
    let v = valid_of parts.validity.now in
    let mask = c.in_ok-mask.mask in
    let n = c.len-len.result in
    let same = c.parts-parts.ensures.same ∙ ap (λ b. primitive p b v) (sym c.as_slice-bytes.ensures.value) in
    let fit = c.rows_fit_their_dtype.ensures in
    let held = valid_held t p bs v mask n same c.len-len.ensures c.in_ok-mask.ensures.mask (rw c.as_array.ensures.value at fit) in
    let stays : c.narrowed_ptype-ptype.result ≡ p = search rules in
    Gives-weaker c.try_clone.result (λ a. a ≡ t) (IsNarrowed t)
    (λ a e. narrowed_stays t p bs v mask n same c.len-len.ensures c.in_ok-mask.ensures.mask held c.narrowed_ptype-ptype.result c.narrowed_ptype-ptype.ensures a stays (λ none. false≢true (sym c.if-not-all_false.true ∙ c.all_false.ensures.1 none)) e) c.try_clone.ensures

pub narrowed_bytes-requires-clause-same_len : goal.narrowed_bytes-requires-clause-same_len
narrowed_bytes-requires-clause-same_len c =
    let parts = c.parts-parts.result in
    let t = c.args.array.now in
    let p = parts.ptype in
    let bs = c.as_slice-bytes.result.now in
    let v = valid_of parts.validity.now in
    let mask = c.in_ok-mask.mask in
    let n = c.len-len.result in
    let same = c.parts-parts.ensures.same ∙ ap (λ b. primitive p b v) (sym c.as_slice-bytes.ensures.value) in
    mask_long t p bs v mask n same c.len-len.ensures c.in_ok-mask.ensures.mask

pub narrowed_bytes-requires-clause-holds : goal.narrowed_bytes-requires-clause-holds
narrowed_bytes-requires-clause-holds c =
    let parts = c.parts-parts.result in
    let t = c.args.array.now in
    let p = parts.ptype in
    let bs = c.as_slice-bytes.result.now in
    let v = valid_of parts.validity.now in
    let mask = c.in_ok-mask.mask in
    let n = c.len-len.result in
    let same = c.parts-parts.ensures.same ∙ ap (λ b. primitive p b v) (sym c.as_slice-bytes.ensures.value) in
    let fit = c.rows_fit_their_dtype.ensures in
    let held = valid_held t p bs v mask n same c.len-len.ensures c.in_ok-mask.ensures.mask (rw c.as_array.ensures.value at fit) in
    narrow_held t p bs v mask n same c.len-len.ensures c.in_ok-mask.ensures.mask held c.narrowed_ptype-ptype.result c.narrowed_ptype-ptype.ensures

pub narrowed_bytes-requires-clause-narrower : goal.narrowed_bytes-requires-clause-narrower
narrowed_bytes-requires-clause-narrower c =
    let parts = c.parts-parts.result in
    let t = c.args.array.now in
    let p = parts.ptype in
    let bs = c.as_slice-bytes.result.now in
    let v = valid_of parts.validity.now in
    let mask = c.in_ok-mask.mask in
    let n = c.len-len.result in
    let same = c.parts-parts.ensures.same ∙ ap (λ b. primitive p b v) (sym c.as_slice-bytes.ensures.value) in
    let fit = c.rows_fit_their_dtype.ensures in
    let held = valid_held t p bs v mask n same c.len-len.ensures c.in_ok-mask.ensures.mask (rw c.as_array.ensures.value at fit) in
    narrow_width t p bs v mask n same c.len-len.ensures c.in_ok-mask.ensures.mask held c.narrowed_ptype-ptype.result c.narrowed_ptype-ptype.ensures

pub primitive_array-requires-clause-whole : goal.primitive_array-requires-clause-whole
primitive_array-requires-clause-whole c =
    let parts = c.parts-parts.result in
    let t = c.args.array.now in
    let p = parts.ptype in
    let bs = c.as_slice-bytes.result.now in
    let v = valid_of parts.validity.now in
    let mask = c.in_ok-mask.mask in
    let n = c.len-len.result in
    let same = c.parts-parts.ensures.same ∙ ap (λ b. primitive p b v) (sym c.as_slice-bytes.ensures.value) in
    let long : length mask ≡ length (numbers p bs) = mask_long t p bs v mask n same c.len-len.ensures c.in_ok-mask.ensures.mask in
    let count : n ≡ length (numbers p bs) = c.len-len.ensures ∙ ap tree_len same in
    c.in_ok-narrowed.ensures.len ∙ ap (λ k. k * byte_width c.narrowed_ptype-ptype.result) (long ∙ sym count)

pub primitive_array-requires-clause-count : goal.primitive_array-requires-clause-count
primitive_array-requires-clause-count c =
    let parts = c.parts-parts.result in
    let t = c.args.array.now in
    let p = parts.ptype in
    let bs = c.as_slice-bytes.result.now in
    let v = valid_of parts.validity.now in
    let mask = c.in_ok-mask.mask in
    let n = c.len-len.result in
    let same = c.parts-parts.ensures.same ∙ ap (λ b. primitive p b v) (sym c.as_slice-bytes.ensures.value) in
    let long : length mask ≡ length (numbers p bs) = mask_long t p bs v mask n same c.len-len.ensures c.in_ok-mask.ensures.mask in
    let count : n ≡ length (numbers p bs) = c.len-len.ensures ∙ ap tree_len same in
    ap length c.in_ok-narrowed.ensures.ok ∙ length-zeroed mask (numbers p bs) long ∙ long ∙ sym count

pub returns : goal.returns
returns c =
    let parts = c.parts-parts.result in
    let t = c.args.array.now in
    let p = parts.ptype in
    let bs = c.as_slice-bytes.result.now in
    let v = valid_of parts.validity.now in
    let mask = c.in_ok-mask.mask in
    let n = c.len-len.result in
    let same = c.parts-parts.ensures.same ∙ ap (λ b. primitive p b v) (sym c.as_slice-bytes.ensures.value) in
    let fit = c.rows_fit_their_dtype.ensures in
    let held = valid_held t p bs v mask n same c.len-len.ensures c.in_ok-mask.ensures.mask (rw c.as_array.ensures.value at fit) in
    Gives-weaker c.primitive_array.result (λ a. a ≡ primitive c.narrowed_ptype-ptype.result c.in_ok-narrowed.narrowed (valid_of c.in_ok-validity.validity)) (IsNarrowed t)
    (λ a e. narrowed_is t p bs v mask n same c.len-len.ensures c.in_ok-mask.ensures.mask held c.narrowed_ptype-ptype.result c.narrowed_ptype-ptype.ensures c.in_ok-narrowed.narrowed a (valid_of c.in_ok-validity.validity) c.in_ok-narrowed.ensures.ok c.in_ok-validity.ensures e) c.primitive_array.ensures
