use Rattle.std.proofs.Common.{◌≡◌, ◌*◌, ◌%◌, length, sym, ap, ◌∙◌}
use Rattle.vx_base.specs.Integers.{byte_width, numbers}
use Rattle.vx_leaves.proofs.Widths.{whole_bytes}
use Rattle.vx_leaves.proofs.primitive_array.PrimitiveArray.from_byte_buffer.Goals as goal

pub primitive_array-requires-clause-whole : goal.primitive_array-requires-clause-whole
primitive_array-requires-clause-whole c =
    let t = c.args.ptype in
    let no_rest : length c.args.bytes % byte_width t ≡ 0 = rw (c.len-found.ensures.value, c.byte_width.ensures) at c.if-rest-ne0.false in
    whole_bytes t c.args.bytes no_rest
    ∙ ap (λ n. n * byte_width t) (sym (c.number_count-len.ensures ∙ ap (λ bs. length (numbers t bs)) c.as_slice.ensures.value))
