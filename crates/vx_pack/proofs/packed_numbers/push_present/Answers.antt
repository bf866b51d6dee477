use Rattle.vx_pack.proofs.StoredNumbers.{bytes_more}
use Rattle.vx_pack.specs.StoredNumbers.{stored_bytes}
use Rattle.vx_pack.proofs.packed_numbers.push_present.Goals as goal

pub loop-i-preserved : goal.loop-i-preserved
loop-i-preserved g c =
    bytes_more (stored_bytes g.row.WIDTH c.args.stored) c.loop-i.i c.args.bytes.now.items c.loop-i.bytes.items
    c.push_stored_number.new.bytes.items c.loop-i.invariant c.in_ok-push_stored_number.ensures
