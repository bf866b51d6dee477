-- Validities that are joined, one after another.
use Rattle.std.proofs.Common.{ℕ, zero, suc, ◌<◌, ◌≤◌, ◌≡◌, ◌+◌, ◌++◌, ◌∙◌, ◌^◌, Bool, List, [], ◌∷◌, length, map, take, get_or, ap, None, arith}
use Rattle.std.specs.List.{All}
use Rattle.std.specs.Prelude.{Result, Ok, Err, IfOk}
use Rattle.vx_base.specs.declared.errors.VortexError.{VortexError}
use Rattle.vx_base.specs.Refusals.{Gives, Refuses}
use Rattle.vx_base.proofs.Refused.{memory_alone}
use Rattle.std.proofs.lemmas.Grind.{common_steps, flat_map-append}
use Rattle.std.proofs.lemmas.List.{map_more, take-map, get_or-map, length-map}
use Rattle.vx_base.specs.Booleans.{count_fault}
use Rattle.vx_base.proofs.FirstFaults.{or_else-none}
use Rattle.vx_tree.specs.declared.array.Validity.{Validity}
use Rattle.vx_tree.specs.Parts.{valid_of}
use Rattle.vx_tree.specs.Faults.{valid_type_fault}
use Rattle.vx_tree.specs.Formed.{IsLenOf}
use Rattle.vx_tree.specs.Joins.{AreLens, joined_mask, mask_of, types_fault}
use Rattle.vx_tree.proofs.RowLists.{length-valid_mask}
use Rattle.vx_base.proofs.Joined.{joined_within}

-- where no fault is found, each array is one of plain booleans
pub types_each : (parts : List (Validity × ℕ)) → types_fault parts ≡ None → All (λ part. valid_type_fault (valid_of part.0) ≡ None) parts
types_each [] none = λ k d inside. absurd (omega arith)
types_each (part ∷ parts) none =
    let both = or_else-none (valid_type_fault (valid_of part.0)) (types_fault parts) none in
    λ k d inside. at_place k d inside both.0 (types_each parts both.1)
  where
    at_place : (k : ℕ) (d : Validity × ℕ) → k < length (part ∷ parts) → valid_type_fault (valid_of part.0) ≡ None → All (λ p. valid_type_fault (valid_of p.0) ≡ None) parts
        → valid_type_fault (valid_of (get_or (part ∷ parts) k d).0) ≡ None
    at_place zero d inside here more = here
    at_place (suc k) d inside here more = more k d (omega arith)

pub lens_each : (parts : List (Validity × ℕ)) → AreLens parts → All (λ part. IsLenOf (valid_of part.0) part.1) parts
lens_each [] are = λ k d inside. absurd (omega arith)
lens_each (part ∷ parts) are = λ k d inside. at_place k d inside are.0 (lens_each parts are.1)
  where
    at_place : (k : ℕ) (d : Validity × ℕ) → k < length (part ∷ parts) → IsLenOf (valid_of part.0) part.1 → All (λ p. IsLenOf (valid_of p.0) p.1) parts
        → IsLenOf (valid_of (get_or (part ∷ parts) k d).0) (get_or (part ∷ parts) k d).1
    at_place zero d inside here more = here
    at_place (suc k) d inside here more = more k d (omega arith)

-- the booleans of one validity more come after the others
pub joined_more : (parts : List (Validity × ℕ)) (i : ℕ) (d : Validity × ℕ) → i < length parts
    → joined_mask (take (i + 1) parts) ≡ joined_mask (take i parts) ++ mask_of (get_or parts i d)
joined_more parts i d h =
    grind (arith, common_steps, map_more mask_of parts i d h, flat_map-append (λ bs. bs) (map mask_of (take i parts)) (mask_of (get_or parts i d) ∷ []))

-- so many rows more
pub rows_more : (parts : List (Validity × ℕ)) (i : ℕ) (d : Validity × ℕ) → i < length parts
    → length (joined_mask (take (i + 1) parts)) ≡ length (joined_mask (take i parts)) + (get_or parts i d).1
rows_more parts i d h = grind (arith, common_steps, joined_more parts i d h, length-valid_mask (valid_of (get_or parts i d).0) (get_or parts i d).1)

-- no more rows than are left of all of them
pub rows_within : (parts : List (Validity × ℕ)) (i : ℕ) (d : Validity × ℕ) → i < length parts
    → length (joined_mask (take i parts)) + (get_or parts i d).1 ≤ length (joined_mask parts)
rows_within parts i d h =
    let within = joined_within (map mask_of parts) i (mask_of d) (omega (arith, length-map parts mask_of)) in
    grind (arith, common_steps, within, take-map mask_of i parts, get_or-map mask_of parts i d (mask_of d) h, length-valid_mask (valid_of (get_or parts i d).0) (get_or parts i d).1)

-- where so many can be counted, the same booleans were added, or memory was refused
pub added : {A : Type 0} (r : Result A VortexError) (old new more same : List Bool) (n : ℕ) → n < 2 ^ 64 → IfOk r (λ x. new ≡ old ++ more)
    → Refuses r (count_fault n) → more ≡ same → Gives r (λ x. new ≡ old ++ same)
added (Ok x) old new more same n few ok refuses e = ok ∙ ap (λ bits. old ++ bits) e
added (Err e) old new more same n few ok refuses alike = memory_alone n e few refuses
