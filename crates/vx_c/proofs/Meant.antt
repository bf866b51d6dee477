-- Which step C means, and which fault is answered where it is none.
use Rattle.std.proofs.Common.{◌≡◌, ◌<◌, ℕ, Bool, List, length, map, get_or, refl, sym, ap, subst, inl, inr}
use Rattle.std.specs.Prelude.{Option, Some, None, IsSome}
use Rattle.std.specs.Option.{option_map}
use Rattle.std.specs.Global.{Vec}
use Rattle.vx_base.specs.declared.errors.VortexError.{VortexError}
use Rattle.vx_base.specs.Refusals.{Refusal, refusal_of, IsMemoryOr, first_fault}
use Rattle.vx_lists.specs.declared.list_view.rebuild.ListViewRebuildMode.{ListViewRebuildMode}
use Rattle.vx_run.specs.declared.steps.Step.TheVariants as step
use Rattle.vx_c.specs.declared.column_steps.ColumnStep.TheVariants as column
use Rattle.vx_tree.proofs.Dictionaries.{memory_only}
use Rattle.vx_c.specs.declared.faults.NodeError.TheVariants.{BadMode, Refused}
use Rattle.vx_c.specs.declared.steps.CodraskStep.{CodraskStep}
use Rattle.vx_c.specs.declared.steps.StepKind.TheVariants.{Concat, Rebuild, Project, PushValidity}
use Rattle.vx_c.specs.declared.table.CodraskBytes.{CodraskBytes}
use Rattle.vx_c.specs.Tables.{refused, utf8_fault, name_fault, names_fault}
use Rattle.vx_c.specs.Answers.{IsFormFault}
use Rattle.vx_c.specs.StepKinds.{mode_numbered, flag_numbered}
use Rattle.vx_c.specs.Steps.{MeansStep, names_in, mode_fault}
use Rattle.vx_c.proofs.Names.{names-refused, no_bytes}

-- ---- what is meant

pub means_concat : (c : CodraskStep) (arrays : Vec ℕ) → arrays.items ≡ c.arrays.now → MeansStep (Some Concat) c (column.Of (step.Concat arrays))
means_concat c arrays same = (arrays, same, refl)

pub means_rebuild : (c : CodraskStep) (mode : ListViewRebuildMode) → mode_numbered c.mode ≡ Some mode → MeansStep (Some Rebuild) c (column.Of (step.Rebuild c.array mode))
means_rebuild c mode is = (mode, is, refl)

pub means_project : (c : CodraskStep) (names : Vec (List ℕ)) → names.items ≡ names_in c → MeansStep (Some Project) c (column.Of (step.Project c.array names))
means_project c names same = (names, same, refl)

pub means_push : (c : CodraskStep) (remove : Bool) → flag_numbered c.mode ≡ Some remove → MeansStep (Some PushValidity) c (column.Of (step.PushValidity c.array remove))
means_push c remove is = (remove, is, refl)

-- ---- which fault is answered

pub form_refused : (fault : Option Refusal) (v : VortexError) → IsMemoryOr fault v → IsFormFault (Refused v) (option_map refused fault)
form_refused fault v (inl m) = inl (ap Refused m)
form_refused fault v (inr is) = inr (ap (option_map refused) is)

pub form_sound : (fault : Option Refusal) → fault ≡ None → option_map refused fault ≡ None
form_sound fault none = ap (option_map refused) none

pub no_mode : {A : Type 0} (mode : Option A) → mode ≡ None → IsFormFault BadMode (mode_fault mode)
no_mode mode none = inr (ap mode_fault none)

pub names-refused_or : (buffers : List CodraskBytes) (i : ℕ) (e : VortexError) → first_fault (name_fault (map (λ (b : CodraskBytes). b.bytes.now) buffers)) i ≡ None
    → i < length buffers → IsMemoryOr (utf8_fault (get_or buffers i no_bytes).bytes.now i) e → IsMemoryOr (names_fault (map (λ (b : CodraskBytes). b.bytes.now) buffers)) e
names-refused_or buffers i e before inside (inl m) = inl m
names-refused_or buffers i e before inside (inr is) = told (refusal_of e) refl
  where
    told : (r : Option Refusal) → refusal_of e ≡ r → IsMemoryOr (names_fault (map (λ (b : CodraskBytes). b.bytes.now) buffers)) e
    told None same = inl (memory_only None e refl (inr (sym same)))
    told (Some r) same = names-refused buffers i e before inside (subst IsSome (sym same) refl, is)

pub ruleset meant = (means_concat, means_rebuild, means_project, means_push, form_refused, form_sound, no_mode)
