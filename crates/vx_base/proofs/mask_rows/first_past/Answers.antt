use Rattle.std.proofs.Common.{◌≡◌, ℕ, true, false, leb, rules}
use Rattle.std.specs.List.Sorted.{IsPartitionPoint}
use Rattle.std.proofs.lemmas.List.Sorted.{IsPartitionPoint-from_clause}
use Rattle.vx_base.proofs.MaskStretches.{ends_partition, IsFirstPast-point}
use Rattle.vx_base.proofs.mask_rows.first_past.Goals as goal

pub returns : goal.returns
returns c =
    let runs = c.args.runs.now in
    let i = c.args.i in
    let n = c.partition_point.result in
    let point : IsPartitionPoint (λ (r : ℕ × ℕ). leb r.1 i ≡ true) (λ (r : ℕ × ℕ). leb r.1 i ≡ false) runs n =
    IsPartitionPoint-from_clause (λ (r : ℕ × ℕ). leb r.1 i) runs n c.partition_point.ensures.partitioned (ends_partition _ runs i c.requires.runs) (λ a r f called. search rules) in
    IsFirstPast-point runs i n c.partition_point.ensures.bound point
