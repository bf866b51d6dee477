use Rattle.std.proofs.Common.{◌≡◌, ◌+◌, ◌-◌, ◌<◌, ◌≤◌, ℕ, true, false, sym, ap, ◌∙◌, leb, ltb, length, arith, rules}
use Rattle.std.specs.List.Sorted.{IsPartitionPoint}
use Rattle.std.proofs.lemmas.Bool.{le-ltb}
use Rattle.std.proofs.lemmas.List.Sorted.{IsPartitionPoint-from_clause}
use Rattle.vx_base.specs.Bits.{bool_at}
use Rattle.vx_base.proofs.MaskRuns.{length-marked, bool_at-marked, found_in, found_nowhere, starts_partition}
use Rattle.vx_base.proofs.mask_values.MaskValues.value.Goals as goal

pub returns-then-started-gt0 : goal.returns-then-started-gt0
returns-then-started-gt0 c =
    let v = c.self.inside in
    let i = c.args.i in
    let n = c.partition_point-started.result in
    let d = c.index.result.now in
    let point : IsPartitionPoint (λ (r : ℕ × ℕ). leb r.0 i ≡ true) (λ (r : ℕ × ℕ). leb r.0 i ≡ false) c.deref.result.now n =
    IsPartitionPoint-from_clause (λ (r : ℕ × ℕ). leb r.0 i) c.deref.result.now n c.partition_point-started.ensures.partitioned
    (rw c.deref.ensures.value (starts_partition v.len v.runs.items i c.self.invariant.0)) (λ a r f called. search rules) in
    let within : n ≤ length c.deref.result.now = c.partition_point-started.ensures.bound in
    let long : length c.args.self.now ≡ v.len = sym (ap length c.self.view_is) ∙ length-marked v.len v.runs.items in
    let last : n - 1 + 1 ≡ n = omega arith in
    let few : n - 1 < length v.runs.items = omega (arith, ap length c.deref.ensures.value) in
    let here : IsPartitionPoint (λ (r : ℕ × ℕ). leb r.0 i ≡ true) (λ (r : ℕ × ℕ). leb r.0 i ≡ false) v.runs.items (n - 1 + 1) = rw (last, ← c.deref.ensures.value) point in
    ap (λ (r : ℕ × ℕ). ltb i r.1) c.index.ensures ∙ found_in v.len v.runs.items i (n - 1) d c.self.invariant.0 few here
    ∙ sym (bool_at-marked v.len v.runs.items i (omega (arith, long, c.requires))) ∙ ap (λ m. bool_at m i) c.self.view_is

pub returns-else-started-gt0 : goal.returns-else-started-gt0
returns-else-started-gt0 c =
    let v = c.self.inside in
    let i = c.args.i in
    let n = c.partition_point-started.result in
    let point : IsPartitionPoint (λ (r : ℕ × ℕ). leb r.0 i ≡ true) (λ (r : ℕ × ℕ). leb r.0 i ≡ false) c.deref.result.now n =
    IsPartitionPoint-from_clause (λ (r : ℕ × ℕ). leb r.0 i) c.deref.result.now n c.partition_point-started.ensures.partitioned
    (rw c.deref.ensures.value (starts_partition v.len v.runs.items i c.self.invariant.0)) (λ a r f called. search rules) in
    let long : length c.args.self.now ≡ v.len = sym (ap length c.self.view_is) ∙ length-marked v.len v.runs.items in
    let none : n ≡ 0 = omega arith in
    let here : IsPartitionPoint (λ (r : ℕ × ℕ). leb r.0 i ≡ true) (λ (r : ℕ × ℕ). leb r.0 i ≡ false) v.runs.items n = rw (← c.deref.ensures.value) point in
    le-ltb 0 n (omega arith) ∙ sym (found_nowhere v.runs.items i n none here)
    ∙ sym (bool_at-marked v.len v.runs.items i (omega (arith, long, c.requires))) ∙ ap (λ m. bool_at m i) c.self.view_is
