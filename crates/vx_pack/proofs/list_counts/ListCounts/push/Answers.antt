use Rattle.std.proofs.Common.{refl}
use Rattle.vx_pack.proofs.ListCounts.{list_counts_push}
use Rattle.vx_pack.proofs.list_counts.ListCounts.push.Goals as goal

pub returns : goal.returns
returns c = λ total ns h.
    list_counts_push total c.args.size ns c.count_type-ptype.result c.args.self.now _ c.count_type-ptype.ensures h refl refl
    c.in_ok-push_count.ensures c.in_ok-push_count-2.ensures
