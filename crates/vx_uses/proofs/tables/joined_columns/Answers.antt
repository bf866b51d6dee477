use Rattle.std.proofs.Common.{◌≡◌, ◌∷◌, [], ◌++◌, None, sym, ◌∙◌, ap, ap₂, subst, append-nil}
use Rattle.std.proofs.lemmas.Iterator.{YieldsList-from_slice}
use Rattle.std.proofs.lemmas.Result.{IfOk-weaker}
use Rattle.vx_base.specs.Refusals.{Refuses, or_else}
use Rattle.vx_base.proofs.FirstFaults.{or_else-second}
use Rattle.vx_canonical.specs.Concatenated.{concat_fault}
use Rattle.vx_tree.specs.Meaning.{kind_of, rows}
use Rattle.vx_structs.specs.Structs.Faults.{names_fault}
use Rattle.vx_structs.specs.Structs.Records.{projected, projected_kind}
use Rattle.vx_structs.specs.Structs.{AreConcatenated, names_of}
use Rattle.vx_uses.specs.Tables.{chosen}
use Rattle.vx_uses.proofs.JoinedTables.{of_first, of_second, made_of_lent, lent_refuse, projected_is_chosen}
use Rattle.vx_uses.proofs.TwoFaults.{refuses_after}
use Rattle.vx_uses.proofs.tables.joined_columns.Goals as goal

pub returns-clause-rows : goal.returns-clause-rows
returns-clause-rows c =
    let t = c.in_ok-project.field-0 in
    let u = c.in_ok-project-2.field-0 in
    let names = c.args.names.now in
    let lent = YieldsList-from_slice {s = c.iter.result} (t ∷ u ∷ []) c.iter.ensures.rest in
    IfOk-weaker c.try_concat.result _ (λ a. rows a ≡ projected names (rows c.args.first.now) ++ projected names (rows c.args.second.now))
    (λ a made. (made_of_lent _ c.iter.result (t ∷ u ∷ []) concat_fault AreConcatenated a lent made).same_rows
    ∙ ap (λ rs. rows t ++ rs) (append-nil (rows u)) ∙ ap₂ (λ rs qs. rs ++ qs) c.in_ok-project.ensures.rows c.in_ok-project-2.ensures.rows)
    c.try_concat.ensures.ok

pub returns-clause-first_kind : goal.returns-clause-first_kind
returns-clause-first_kind c =
    let t = c.in_ok-project.field-0 in
    let u = c.in_ok-project-2.field-0 in
    let lent = YieldsList-from_slice {s = c.iter.result} (t ∷ u ∷ []) c.iter.ensures.rest in
    IfOk-weaker c.try_concat.result _ (λ a. kind_of a ≡ projected_kind c.args.names.now (kind_of c.args.first.now))
    (λ a made. sym (of_first (λ x. kind_of x ≡ kind_of a) t u (made_of_lent _ c.iter.result (t ∷ u ∷ []) concat_fault AreConcatenated a lent made).kind)
    ∙ c.in_ok-project.ensures.kind) c.try_concat.ensures.ok

pub returns-clause-second_kind : goal.returns-clause-second_kind
returns-clause-second_kind c =
    let t = c.in_ok-project.field-0 in
    let u = c.in_ok-project-2.field-0 in
    let lent = YieldsList-from_slice {s = c.iter.result} (t ∷ u ∷ []) c.iter.ensures.rest in
    IfOk-weaker c.try_concat.result _ (λ a. kind_of a ≡ projected_kind c.args.names.now (kind_of c.args.second.now))
    (λ a made. sym (of_second (λ x. kind_of x ≡ kind_of a) t u (made_of_lent _ c.iter.result (t ∷ u ∷ []) concat_fault AreConcatenated a lent made).kind)
    ∙ c.in_ok-project-2.ensures.kind) c.try_concat.ensures.ok

pub returns-clause-refuses : goal.returns-clause-refuses
returns-clause-refuses c =
    let t = c.in_ok-project.field-0 in
    let u = c.in_ok-project-2.field-0 in
    let names = c.args.names.now in
    let first = c.args.first.now in
    let second = c.args.second.now in
    let r = c.try_concat.result in
    let lent = YieldsList-from_slice {s = c.iter.result} (t ∷ u ∷ []) c.iter.ensures.rest in
    let refused = lent_refuse _ c.iter.result (t ∷ u ∷ []) concat_fault AreConcatenated r lent c.try_concat.ensures.ok c.try_concat.ensures.err in
    let same = ap₂ (λ x y. concat_fault (x ∷ y ∷ [])) (projected_is_chosen first names t c.in_ok-project.ensures.columns)
    (projected_is_chosen second names u c.in_ok-project-2.ensures.columns) in
    let none = or_else-second (names_fault (names_of first) names) (names_fault (names_of second) names) None c.in_ok-project.ensures.refuses
    c.in_ok-project-2.ensures.refuses in
    refuses_after r (or_else (names_fault (names_of first) names) (names_fault (names_of second) names))
    (concat_fault (chosen first names ∷ chosen second names ∷ [])) none (subst (λ f. Refuses r f) same refused)
