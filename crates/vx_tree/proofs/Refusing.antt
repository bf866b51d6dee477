-- What a call refuses, told by what else it promises.
use Rattle.std.proofs.Common.{◌≡◌, Option, None, inl, inr}
use Rattle.std.specs.Prelude.{Result, Ok, Err, IfOk}
use Rattle.vx_base.specs.Refusals.{Refusal, Gives, Refuses, Tests}
use Rattle.vx_base.specs.declared.errors.VortexError.{VortexError}

pub Tests-Refuses : {A : Type 0} (r : Result A VortexError) (fault : Option Refusal) → Tests r fault → Refuses r fault
Tests-Refuses (Ok x) fault h = h
Tests-Refuses (Err e) fault h = inr h.1

pub Gives-Refuses : {A : Type 0} (r : Result A VortexError) (P : A → Type 0) (fault : Option Refusal) → fault ≡ None → Gives r P → Refuses r fault
Gives-Refuses (Ok x) P fault none h = none
Gives-Refuses (Err e) P fault none h = inl h

pub IfOk-weaker : {A : Type 0} (r : Result A VortexError) (P Q : A → Type 0) → ((x : A) → P x → Q x) → IfOk r P → IfOk r Q
IfOk-weaker (Ok x) P Q more h = more x h
IfOk-weaker (Err e) P Q more h = tt

pub IfOk-tested : {A : Type 0} (r : Result A VortexError) (P Q : A → Type 0) (fault : Option Refusal) → ((x : A) → P x → fault ≡ None → Q x) → IfOk r P → Tests r fault → IfOk r Q
IfOk-tested (Ok x) P Q fault more h none = more x h none
IfOk-tested (Err e) P Q fault more h t = tt
