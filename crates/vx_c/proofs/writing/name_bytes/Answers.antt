use Rattle.std.proofs.Common.{◌<◌, ◌∙◌, length, arith}
use Rattle.vx_base.proofs.FirstFaults.{first_fault-next}
use Rattle.vx_c.specs.Tables.{name_fault}
use Rattle.vx_c.proofs.Moved.{copied_more, name_sound}
use Rattle.vx_c.proofs.writing.name_bytes.Goals as goal

pub loop-i-preserved : goal.loop-i-preserved
loop-i-preserved c =
    let inside : c.loop-i.i < length c.args.names.now = omega (arith, c.loop-i-test.true, c.len-i-end.ensures) in
    let text = c.as_bytes.ensures.value ∙ c.as_str.ensures in (
      copied_more c.args.names.now c.loop-i.i c.loop-i.copies.items c.push.new.self.items c.in_ok-from_slice.field-0 c.get.result.now inside
          c.loop-i.invariant.0 c.get.ensures (c.in_ok-from_slice.ensures.items ∙ text) c.in_ok-push.ensures.items,
      first_fault-next (name_fault c.args.names.now) c.loop-i.i c.loop-i.invariant.1
          (name_sound c.args.names.now c.loop-i.i c.get.result.now c.as_bytes.result.now inside c.get.ensures text c.as_bytes.ensures.utf8),
    )
