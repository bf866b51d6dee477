use Rattle.std.proofs.Common.{◌≡◌, ◌*◌, ◌<◌, ◌^◌, length, count_by, inr, ap, ◌∙◌, subst, arith}
use Rattle.std.specs.Prelude.{IfOk}
use Rattle.vx_base.specs.Integers.{byte_width}
use Rattle.vx_tree.specs.Meaning.{valid_mask}
use Rattle.vx_tree.specs.Parts.{valid_of}
use Rattle.vx_tree.proofs.RowLists.{length-valid_mask}
use Rattle.vx_leaves.proofs.ValueRows.{count_room, short_is}
use Rattle.vx_leaves.proofs.primitive_array.spread_bytes.Goals as goal

pub overflow_mul-needed : goal.overflow_mul-needed
overflow_mul-needed c =
    let room = count_room (valid_of c.args.validity.now) c.args.n_rows (byte_width c.args.ptype) c.requires.counted in
    let fits : c.true_count.result * c.byte_width.result < 2 ^ 64 = rw (c.true_count.ensures, c.in_ok-mask.ensures.mask, c.byte_width.ensures) room in
    omega (arith, fits)

pub returns-then-found-needed-clause-refuses : goal.returns-then-found-needed-clause-refuses
returns-then-found-needed-clause-refuses c =
    let less : length c.args.bytes.now < count_by (λ b. b) (valid_mask (valid_of c.args.validity.now) c.args.n_rows) * byte_width c.args.ptype
    = rw (c.true_count.ensures, c.in_ok-mask.ensures.mask, c.byte_width.ensures, c.len-found.ensures.value) at c.if-found-needed.true in
    inr (short_is c.args.ptype c.args.bytes.now (valid_of c.args.validity.now) c.args.n_rows c.requires.state less)

pub spread_numbers-requires : goal.spread_numbers-requires
spread_numbers-requires c =
    rw (c.in_ok-mask.ensures.mask, length-valid_mask (valid_of c.args.validity.now) c.args.n_rows) c.requires.counted

pub returns-clause-len : goal.returns-clause-len
returns-clause-len c =
    subst (λ n. IfOk c.spread_numbers.result (λ b. length b ≡ n * byte_width c.args.ptype))
    (ap length c.in_ok-mask.ensures.mask ∙ length-valid_mask (valid_of c.args.validity.now) c.args.n_rows) c.spread_numbers.ensures.len
