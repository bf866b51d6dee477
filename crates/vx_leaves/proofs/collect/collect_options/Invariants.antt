use Rattle.std.proofs.Common.{◌≡◌, map, unwrap_or}
use Rattle.std.specs.Option.{is_some}
use Rattle.vx_leaves.proofs.collect.collect_options.Given as goal

abbrev pub invariant-loop-item : goal.invariant-loop-item
invariant-loop-item g l = record {
  items : l.all.items.items ≡ map (λ x. unwrap_or x l.other) l.yielded;
  present : l.all.present.items ≡ map is_some l.yielded;
}
