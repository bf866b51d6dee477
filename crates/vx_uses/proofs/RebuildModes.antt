-- What `rebuild` answers, mode by mode.
use Rattle.std.proofs.Common.{◌≡◌, Bool, true, false, cond, refl, sym, ◌∙◌, ap}
use Rattle.std.specs.Prelude.{◌≢◌, Some, None}
use Rattle.std.proofs.lemmas.Bool.{ne_eqb}
use Rattle.vx_base.specs.Refusals.{not_implemented}
use Rattle.vx_tree.specs.Tree.{Tree}
use Rattle.vx_tree.specs.Meaning.{tree_len}
use Rattle.vx_lists.specs.declared.list_view.rebuild.ListViewRebuildMode.{ListViewRebuildMode}
use Rattle.vx_lists.specs.declared.list_view.rebuild.ListViewRebuildMode.TheVariants.{MakeZeroCopyToList, TrimElements, MakeExact, OverlapCompression}
use Rattle.vx_lists.specs.ListViews.References.{IsTrimmedToBounds}
use Rattle.vx_lists.specs.ListViews.Faults.{rebuild_fault}
use Rattle.vx_lists.specs.ListViews.{flag_of, with_flag, IsRebuilt}
use Rattle.vx_lists.specs.ListViews.Modes.{IsMadeBy, IsRebuiltBy}

-- its clauses on success
pub record IsAnswer (mode : ListViewRebuildMode) (t r : Tree) : Type 0 where
  pub empty : tree_len t ≡ 0 → r ≡ with_flag true t
  pub flagged : mode ≡ MakeZeroCopyToList → flag_of t ≡ true → r ≡ t
  pub rebuilt : mode ≡ MakeZeroCopyToList → tree_len t ≢ 0 → flag_of t ≡ false → IsRebuilt t r
  pub trimmed : mode ≡ TrimElements → tree_len t ≢ 0 → IsTrimmedToBounds t r
  pub exact_flagged : mode ≡ MakeExact → tree_len t ≢ 0 → flag_of t ≡ true → IsTrimmedToBounds t r
  pub exact : mode ≡ MakeExact → tree_len t ≢ 0 → flag_of t ≡ false → IsRebuilt t r
  pub refuses : rebuild_fault mode t ≡ None

not_refused : (t : Tree) → tree_len t ≢ 0 → rebuild_fault OverlapCompression t ≡ None → ⊥
not_refused t some none = refused (ap (λ b. cond b None (Some not_implemented)) (sym (ne_eqb (tree_len t) 0 some)) ∙ none)
  where
    refused : Some not_implemented ≡ None → ⊥
    refused h = cc

made_by : (mode : ListViewRebuildMode) (flag : Bool) (t r : Tree) → flag_of t ≡ flag → tree_len t ≢ 0 → IsAnswer mode t r → IsMadeBy mode flag t r
made_by MakeZeroCopyToList true t r is some answer = answer.flagged refl is
made_by MakeZeroCopyToList false t r is some answer = answer.rebuilt refl some is
made_by TrimElements true t r is some answer = answer.trimmed refl some
made_by TrimElements false t r is some answer = answer.trimmed refl some
made_by MakeExact true t r is some answer = answer.exact_flagged refl some is
made_by MakeExact false t r is some answer = answer.exact refl some is
made_by OverlapCompression true t r is some answer = absurd (not_refused t some answer.refuses)
made_by OverlapCompression false t r is some answer = absurd (not_refused t some answer.refuses)

pub rebuilt_by : (mode : ListViewRebuildMode) (t r : Tree) → IsAnswer mode t r → IsRebuiltBy mode t r
rebuilt_by mode t r answer = record { no_rows = answer.empty; some_rows = λ some. made_by mode (flag_of t) t r refl some answer }
