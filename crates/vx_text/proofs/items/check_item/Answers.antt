use Rattle.std.proofs.Common.{refl}
use Rattle.vx_text.proofs.ItemFaults.{not_text_fault, text_no_fault}
use Rattle.vx_text.proofs.items.check_item.Goals as goal

pub returns-in-Some-2 : goal.returns-in-Some-2
returns-in-Some-2 g c =
    (refl, not_text_fault c.args.is_text c.args.is_nullable c.is_text.result c.args.row (g.T.Item.item c.args.item.now) c.in-Some.value.now c.in-Some.ensures c.if-value-gt-MAX_BUFFER_LEN.false c.if-is_text.true c.if-not-is_text.true c.is_text.ensures)

pub returns-in_default : goal.returns-in_default
returns-in_default g c =
    text_no_fault c.args.is_text c.args.is_nullable c.is_text.result c.args.row (g.T.Item.item c.args.item.now) c.in-Some.value.now c.in-Some.ensures c.if-value-gt-MAX_BUFFER_LEN.false c.if-not-is_text.false c.is_text.ensures
