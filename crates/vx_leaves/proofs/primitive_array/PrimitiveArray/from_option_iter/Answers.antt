use Rattle.std.proofs.Common.{◌≡◌, ◌*◌, length, map, sym, ap, ◌∙◌}
use Rattle.std.proofs.lemmas.List.{length-map}
use Rattle.std.specs.Option.{is_some}
use Rattle.vx_base.proofs.Refused.{Gives-weaker}
use Rattle.vx_base.specs.Integers.{byte_width, numbers}
use Rattle.vx_tree.specs.Parts.{valid_of}
use Rattle.vx_tree.specs.Tree.{primitive, all_valid}
use Rattle.vx_tree.specs.Validities.{valid_from}
use Rattle.vx_leaves.specs.Leaves.{number_or_zero}
use Rattle.vx_leaves.proofs.ValueRows.{is_primitive_of, ValidFits-from_bits}
use Rattle.vx_leaves.proofs.primitive_array.PrimitiveArray.from_option_iter.Goals as goal

pub primitive_array-requires : goal.primitive_array-requires
primitive_array-requires g c =
    let t = g.T.NativePType.PTYPE in
    let u = c.PTYPE.result in
    let bs = c.in_ok-bytes.bytes in
    let all = c.in_ok-all.ensures in
    let n = c.len-len.result in
    let present : c.in_ok-present.present.bits ≡ map is_some all.0 = c.in_ok-present.ensures.bits ∙ c.deref.ensures.value ∙ all.3 in
    let there : length c.deref.result.now ≡ length all.0 = ap length (c.deref.ensures.value ∙ all.3) ∙ length-map all.0 is_some in
    let len : n ≡ length all.0 = c.len-len.ensures ∙ sym c.deref.ensures.len ∙ there in
    record {
      whole = ap length c.in_ok-bytes.ensures ∙ all.4 ∙ ap (λ k. k * byte_width t) (sym len) ∙ ap (λ p. n * byte_width p) (sym c.PTYPE.ensures);
      count = ap (λ p. length (numbers p bs)) c.PTYPE.ensures ∙ ap (λ cs. length (numbers t cs)) c.in_ok-bytes.ensures ∙ ap length all.2 ∙ length-map all.0 (number_or_zero g.T.Number.value) ∙ sym len;
      fits = ValidFits-from_bits c.in_ok-present.present.offset c.in_ok-present.present.bits (valid_of c.in_ok-validity.validity) n c.in_ok-validity.ensures.given (ap length present ∙ length-map all.0 is_some ∙ sym len);
    }

pub returns : goal.returns
returns g c =
    let t = g.T.NativePType.PTYPE in
    let u = c.PTYPE.result in
    let bs = c.in_ok-bytes.bytes in
    let v = valid_of c.in_ok-validity.validity in
    let all = c.in_ok-all.ensures in
    let zs = map (number_or_zero g.T.Number.value) all.0 in
    let w = valid_from 0 (map is_some all.0) all_valid in
    let present : c.in_ok-present.present.bits ≡ map is_some all.0 = c.in_ok-present.ensures.bits ∙ c.deref.ensures.value ∙ all.3 in
    Gives-weaker c.primitive_array.result (λ a. a ≡ primitive u bs v) _
    (λ a is. (all.0, all.1, is_primitive_of t u bs zs v w a is c.PTYPE.ensures (c.in_ok-validity.ensures.given ∙ (λ j. valid_from (c.in_ok-present.ensures.offset j) (present j) all_valid)) (ap (numbers t) c.in_ok-bytes.ensures ∙ all.2)))
    c.primitive_array.ensures
