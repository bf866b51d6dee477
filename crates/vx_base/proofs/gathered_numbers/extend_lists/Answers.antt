use Rattle.std.proofs.Common.{◌≤◌, ◌*◌, length, arith}
use Rattle.vx_base.proofs.SizedLists.{lists_within, list_fits, bytes_of_lists}
use Rattle.vx_base.proofs.gathered_numbers.extend_lists.Goals as goal

pub overflow_mul-size : goal.overflow_mul-size
overflow_mul-size g c =
    let ps = g.P.Places.positions c.args.lists in
    let fits : c.args.size * g.row.WIDTH ≤ length c.args.bytes.now = list_fits c.args.size g.row.WIDTH (length c.args.bytes.now) ps c.requires (omega (arith, c.count.ensures, c.if-count-eq0.false)) in
    omega (arith, fits)

pub extend_wide_at-requires : goal.extend_wide_at-requires
extend_wide_at-requires g c = lists_within c.args.size g.row.WIDTH (length c.args.bytes.now) (g.P.Places.positions c.args.lists) c.requires

pub returns : goal.returns
returns g c = rw (bytes_of_lists g.row.WIDTH c.args.bytes.now c.args.size (g.P.Places.positions c.args.lists)) c.extend_wide_at.ensures
