use Rattle.std.proofs.Common.{◌≡◌, [], ◌∷◌, ◌++◌, length, map, None, sym, ap, ◌∙◌, subst, refl, rules, arith}
use Rattle.std.specs.Option.{is_some}
use Rattle.std.proofs.lemmas.List.{map-append}
use Rattle.std.proofs.lemmas.Result.{err_from_is_err_and}
use Rattle.vx_base.specs.DTypes.{dtype_meaning}
use Rattle.vx_base.specs.Kinds.{is_nullable_kind}
use Rattle.vx_tree.specs.Meaning.{is_texts}
use Rattle.vx_text.specs.Collected.{maybe_value}
use Rattle.vx_text.specs.Filling.{filling, all_buffers}
use Rattle.vx_text.specs.Items.{AreCut, items_fault, value_of}
use Rattle.vx_text.proofs.FilledItems.{AreFilled, filled_value, filled_cut, filled_count}
use Rattle.vx_text.proofs.ItemArrays.{faultless}
use Rattle.vx_text.proofs.ItemFaults.{faultless_more, value_or, marked_more, marked_items, few_buffers, stopped}
use Rattle.vx_text.proofs.items.gather.Goals as goal

pub loop-item-preserved : goal.loop-item-preserved
loop-item-preserved g c =
    let item = g.T.Item.item in
    let items = map item c.loop-item.yielded in
    let kept = c.loop-item.invariant in
    let x = item c.in-Some.item in
    let is : maybe_value c.bytes-value.result ≡ x = c.bytes-value.ensures in
    let more : items ++ x ∷ [] ≡ map item (c.loop-item.yielded ++ c.in-Some.item ∷ []) = sym (map-append item c.loop-item.yielded (c.in-Some.item ∷ [])) in
    let row : c.len.result ≡ length items = omega (arith, c.len.ensures, kept.filled.count) in
    let new = filling c.push.new.self.full.items c.push.new.self.last.items c.push.new.self.views.items in
    let old = filling c.loop-item.filling.full.items c.loop-item.filling.last.items c.loop-item.filling.views.items in
    let value : value_of x ≡ c.unwrap_or.result.now = ap value_of (sym is) ∙ value_or c.bytes-value.result _ c.unwrap_or.result c.unwrap_or.ensures refl in
    let sound = faultless c.is_utf8-is_text.result c.is_nullable-is_nullable.result c.len.result x c.in_ok-check_item.ensures in
    record {
      filled = subst (λ xs. AreFilled xs new) more (filled_value items x c.unwrap_or.result.now old new value sound.short c.in_ok-push.ensures.held c.in_ok-push.ensures.put kept.filled);
      faultless = subst (λ xs. items_fault c.is_utf8-is_text.result c.is_nullable-is_nullable.result xs ≡ None) more (faultless_more _ _ items x c.len.result row kept.faultless c.in_ok-check_item.ensures);
      marked = λ on. marked_more items x c.bytes-value.result c.is_some.result c.loop-item.present.items c.mark.new.present.items is c.is_some.ensures (kept.marked on) (c.in_ok-mark.ensures on) ∙ ap (map is_some) more;
    }

pub returns-in_err-buffers-clause-err : goal.returns-in_err-buffers-clause-err
returns-in_err-buffers-clause-err g c =
    let items = map g.T.Item.item c.loop-item.yielded in
    let k = dtype_meaning c.args.dtype.now in
    let f = filling c.loop-item.filling.full.items c.loop-item.filling.last.items c.loop-item.filling.views.items in
    let p = err_from_is_err_and c.from_residual-in_err-buffers.result c.from_residual-in_err-buffers.ensures.1 in
    let none : items_fault (is_texts k) (is_nullable_kind k) items ≡ None =
    subst (λ u. items_fault u (is_nullable_kind k) items ≡ None) c.is_utf8-is_text.ensures
    (subst (λ n. items_fault c.is_utf8-is_text.result n items ≡ None) c.is_nullable-is_nullable.ensures c.loop-item.invariant.faultless) in
    rw (p.1, p.2) (stopped g.I.Iterator.next_gives c.args.items g.T.Item.item k c.in_err-buffers.field-0.0 c.loop-item.yielded (search rules) none (length (all_buffers f)) (filled_count items f c.loop-item.invariant.filled) c.in_err-buffers.ensures.refuses)

pub returns-clause-ok : goal.returns-clause-ok
returns-clause-ok g c =
    let items = map g.T.Item.item c.loop-item.yielded in
    let k = dtype_meaning c.args.dtype.now in
    let f = filling c.loop-item.filling.full.items c.loop-item.filling.last.items c.loop-item.filling.views.items in
    let cut : AreCut items (all_buffers f) f.views = filled_cut items f c.loop-item.invariant.filled (few_buffers (length (all_buffers f)) c.in_ok-buffers.ensures.refuses) in (
      c.loop-item.yielded,
      search rules,
      subst (λ u. items_fault u (is_nullable_kind k) items ≡ None) c.is_utf8-is_text.ensures
          (subst (λ n. items_fault c.is_utf8-is_text.result n items ≡ None) c.is_nullable-is_nullable.ensures c.loop-item.invariant.faultless),
      subst (λ bs. AreCut items bs c.in_ok-buffers.views) (sym c.in_ok-buffers.ensures.buffers) (subst (λ vs. AreCut items (all_buffers f) vs) (sym c.in_ok-buffers.ensures.views) cut),
      marked_items c.is_nullable-is_nullable.result (is_nullable_kind k) c.loop-item.present.items (map is_some items) c.is_nullable-is_nullable.ensures c.loop-item.invariant.marked,
    )
