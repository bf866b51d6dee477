use Rattle.std.proofs.Common.{◌≡◌, None, map, true}
use Rattle.std.specs.Option.{is_some}
use Rattle.vx_text.specs.Filling.{filling}
use Rattle.vx_text.specs.Items.{items_fault}
use Rattle.vx_text.proofs.FilledItems.{AreFilled}
use Rattle.vx_text.proofs.items.gather.Given as goal

abbrev pub invariant-loop-item : goal.invariant-loop-item
invariant-loop-item g l = record {
  filled : AreFilled (map g.T.Item.item l.yielded) (filling l.filling.full.items l.filling.last.items l.filling.views.items);
  faultless : items_fault l.is_text l.is_nullable (map g.T.Item.item l.yielded) ≡ None;
  marked : l.is_nullable ≡ true → l.present.items ≡ map is_some (map g.T.Item.item l.yielded);
}
