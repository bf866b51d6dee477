use Rattle.std.proofs.Common.{ℕ, List, [], ◌≡◌, true, get_or, length, sym, ap, ◌∙◌, arith}
use Rattle.std.specs.Prelude.{bytes_eq}
use Rattle.std.proofs.lemmas.List.{get_or_default}
use Rattle.vx_base.proofs.Fields.{position-found, position-none}
use Rattle.vx_base.proofs.field_names.FieldNames.find.Goals as goal

pub returns-then-eq : goal.returns-then-eq
returns-then-eq c =
    let names = c.args.self.now in
    let name = c.args.name.now in
    let i = c.loop-i.i in
    let all = c.as_slice-other-items.ensures in
    let same : c.as_str.result.now ≡ get_or names i [] =
    c.as_str.ensures ∙ c.other-item.is ∙ ap (λ (ns : List (List ℕ)). get_or ns i c.other-item.result) all ∙ get_or_default names i c.other-item.result [] (omega (arith, ap length all)) in
    let here : bytes_eq (get_or names i []) name ≡ true = ap (λ (n : List ℕ). bytes_eq n name) (sym same) ∙ sym c.eq.ensures ∙ c.if-eq.true in
    sym (position-found (λ (other : List ℕ). bytes_eq other name) names i [] (omega (arith, ap length all)) c.loop-i.invariant here)

pub returns : goal.returns
returns c =
    let names = c.args.self.now in
    let name = c.args.name.now in
    sym (position-none (λ (other : List ℕ). bytes_eq other name) names [] (λ k h. c.loop-i.invariant k (omega (arith, ap length c.as_slice-other-items.ensures))))
