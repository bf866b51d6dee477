use Rattle.std.proofs.Common.{rules, ◌≡◌, ◌<◌, ◌∙◌, ap, sym, map, length, get_or, ◌-◌}
use Rattle.std.proofs.lemmas.List.{length-map, get_or-map}
use Rattle.vx_base.specs.Rows.{null}
use Rattle.vx_base.specs.ValueRows.{option_row}
use Rattle.vx_canonical.proofs.PlainParts.{AreSpreadTo-none, AreSpreadTo-next, AreSpreadTo-all}
use Rattle.vx_canonical.proofs.canonical_nested.spread_lists.Goals as goal

pub loop-value-init : goal.loop-value-init
loop-value-init c = rw (c.new-rows.ensures.items, c.requires.no_places, c.requires.no_sizes) (AreSpreadTo-none (map option_row c.args.values.now))

pub loop-value-preserved : goal.loop-value-preserved
loop-value-preserved c =
    let vs = c.args.values.now in
    let i = c.loop-value.value-index in
    let v = c.value-item.result in
    let qs = map option_row c.loop-value.rows.items in
    let ps = map option_row c.add_items.new.out.items in
    let before : c.len-start.result ≡ length c.loop-value.rows.items = search rules in
    let after : c.len.result ≡ length c.add_items.new.out.items = search rules in
    let inside : i < length (map option_row vs) = rw (length-map vs option_row) c.loop-value-test.true in
    let here : option_row v ≡ get_or (map option_row vs) i null = ap option_row c.value-item.is ∙ sym (get_or-map option_row vs i v null c.loop-value-test.true) in
    AreSpreadTo-next (map option_row vs) i (option_row v) qs ps c.loop-value.places.items c.loop-value.sizes.items c.push.new.self.items c.push-in-loop-value.new.self.items c.len-start.result _
    inside here c.loop-value.invariant (before ∙ sym (length-map c.loop-value.rows.items option_row)) c.in_ok-push.ensures.items c.in_ok-add_items.ensures
    (ap (λ n. n - c.len-start.result) (after ∙ sym (length-map c.add_items.new.out.items option_row))) c.in_ok-push-2.ensures.items

pub returns : goal.returns
returns c =
    AreSpreadTo-all (map option_row c.args.values.now) c.loop-value.value-index (length c.args.values.now) (map option_row c.loop-value.rows.items) c.loop-value.places.items c.loop-value.sizes.items
    c.loop-value.invariant c.loop-value.auto.value-index-end c.loop-value-test.false (length-map c.args.values.now option_row)
