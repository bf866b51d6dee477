use Rattle.std.proofs.Common.{◌≡◌, ◌∷◌, ◌++◌, [], get_or, sym, ◌∙◌, arith}
use Rattle.std.proofs.lemmas.List.{take_more}
use Rattle.std.proofs.lemmas.Option.{get_or_from_slice_get}
use Rattle.vx_structs.proofs.columns.names_and.Goals as goal

pub loop-i-preserved : goal.loop-i-preserved
loop-i-preserved c =
    let names = c.args.names.now in
    let i = c.loop-i.i in
    let name = c.in_ok-try_clone.field-0 in
    let here : name ≡ get_or names i [] = c.in_ok-try_clone.ensures ∙ sym (get_or_from_slice_get names i c.get.result.now [] c.get.ensures) in
    let items : c.push.new.self.items ≡ c.loop-i.more.items ++ name ∷ [] = c.in_ok-push.ensures.items in
    items ∙ (λ j. c.loop-i.invariant j ++ here j ∷ []) ∙ sym (take_more names i [] (omega arith))
