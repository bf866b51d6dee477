use Rattle.std.proofs.Common.{◌≡◌, ℕ, List, [], ◌∷◌, ◌++◌, Option, None, Some, Ok, Err, get_or, map, take, refl, sym, ap, ◌∙◌, inr, arith}
use Rattle.std.proofs.lemmas.List.{take_more, get_or_default}
use Rattle.std.proofs.lemmas.List.Quantifiers.{position-Some}
use Rattle.std.proofs.lemmas.Option.{slice_get-get_or}
use Rattle.std.proofs.lemmas.Result.{err_from_is_err_and}
use Rattle.std.specs.Option.{ok_or}
use Rattle.std.specs.Prelude.{bytes_eq}
use Rattle.vx_base.specs.Fields.{place_of_name}
use Rattle.vx_base.specs.Refusals.{unknown_field, refusal_of}
use Rattle.vx_base.specs.declared.errors.VortexError.{VortexError}
use Rattle.vx_base.specs.declared.errors.VortexError.TheVariants.{UnknownField}
use Rattle.vx_structs.specs.Structs.Faults.{names_fault}
use Rattle.vx_structs.specs.Structs.{column_at_place}
use Rattle.vx_structs.proofs.Structs.Columns.{AreFound-more, names_fault-at, names_fault-more}
use Rattle.vx_structs.proofs.columns.columns_named.Goals as goal

missing_place : (place : Option ℕ) (e : VortexError) → ok_or place UnknownField ≡ Err e → (place ≡ None) × (e ≡ UnknownField)
missing_place None e is = (refl, cc)
missing_place (Some k) e is = cc

found_place : (place : Option ℕ) (k : ℕ) → ok_or place UnknownField ≡ Ok k → place ≡ Some k
found_place None k is = cc
found_place (Some j) k is = cc

pub returns-in_err-place-clause-refuses : goal.returns-in_err-place-clause-refuses
returns-in_err-place-clause-refuses c =
    let names = c.args.names.now in
    let known = c.args.known.now in
    let i = c.loop-name.name-index in
    let p = err_from_is_err_and c.from_residual-in_err-place.result c.from_residual-in_err-place.ensures.1 in
    let here : c.as_str.result.now ≡ get_or names i [] = c.as_str.ensures ∙ c.name-item.is ∙ get_or_default names i c.name-item.result [] (omega arith) in
    let missing = missing_place c.find-place.result c.in_err-place.field-0.0 (sym c.ok_or.ensures.value ∙ c.in_err-place.was) in
    let none : place_of_name known (get_or names i []) ≡ None = ap (place_of_name known) (sym here) ∙ sym c.find-place.ensures ∙ missing.0 in
    let fault : names_fault known names ≡ Some unknown_field = names_fault-at known names i [] c.loop-name-test.true c.loop-name.invariant.known none in
    rw (p.1, p.2) (inr (fault ∙ sym (ap refusal_of missing.1)))

pub loop-name-preserved : goal.loop-name-preserved
loop-name-preserved c =
    let names = c.args.names.now in
    let known = c.args.known.now in
    let columns = c.args.columns.now in
    let i = c.loop-name.name-index in
    let k = c.in_ok-place.place in
    let column = c.in_ok-try_clone.field-0 in
    let here : c.as_str.result.now ≡ get_or names i [] = c.as_str.ensures ∙ c.name-item.is ∙ get_or_default names i c.name-item.result [] (omega arith) in
    let place = found_place c.find-place.result k (sym c.ok_or.ensures.value ∙ c.in_ok-place.was) in
    let at : place_of_name known (get_or names i []) ≡ Some k = ap (place_of_name known) (sym here) ∙ sym c.find-place.ensures ∙ place in
    let within = (position-Some (λ (other : List ℕ). bytes_eq other (get_or names i [])) known k [] at).0 in
    let found : column_at_place columns (place_of_name known (get_or names i [])) ≡ Some column =
    ap (column_at_place columns) at ∙ slice_get-get_or columns k c.index-columns-place.result (omega (arith, within, c.requires)) ∙ ap Some (sym c.index-columns-place.is ∙ sym c.in_ok-try_clone.ensures) in
    let items : c.push.new.self.items ≡ c.loop-name.found.items ++ column ∷ [] = c.in_ok-push.ensures.items in
    let more = take_more names i [] c.loop-name-test.true in
    record {
      same =
          ap (map Some) items ∙ AreFound-more known columns (take i names) c.loop-name.found.items (get_or names i []) column c.loop-name.invariant.same found
          ∙ ap (map (λ name. column_at_place columns (place_of_name known name))) (sym more);
      known = ap (names_fault known) more ∙ names_fault-more known (take i names) (get_or names i []) k c.loop-name.invariant.known at;
    }
