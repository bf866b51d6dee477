-- Indices that are read one after another.
use Rattle.std.proofs.Common.{ℕ, ◌<◌, ◌≡◌, Bool, true, false, List, length, subst, Option, None, refl, sym, ◌∙◌, ap, zero-add, arith}
use Rattle.std.specs.Prelude.{IsSome, count_by, slice_index, if◌then◌else◌}
use Rattle.std.proofs.lemmas.List.FromFn.{get_or-map-range_with_len, length-map-range_with_len}
use Rattle.std.proofs.lemmas.List.{get_or-replicate}
use Rattle.vx_base.specs.declared.ptypes.PType.{PType}
use Rattle.vx_base.specs.Integers.{numbers, number_nth}
use Rattle.vx_base.specs.Bits.{bool_at}
use Rattle.vx_base.specs.Refusals.{Refusal, first_fault}
use Rattle.vx_base.specs.Rows.{null, whole}
use Rattle.vx_base.proofs.MaskCounts.{all_true_from_count}
use Rattle.vx_base.proofs.FirstFaults.{first_fault-found, first_fault-same}
use Rattle.vx_tree.specs.Tree.{Tree, primitive, Valid, non_nullable}
use Rattle.vx_tree.specs.Meaning.{tree_len, row_at, is_valid_at, valid_mask}
use Rattle.vx_tree.specs.Faults.{index_fault, indices_fault}
use Rattle.vx_tree.specs.Operations.{IsPosition, ArePositions, masked_numbers}

-- ---- all of them

-- the first n indices are read, and none of them is faulty
pub record AreRead (t : Tree) (len n : ℕ) (ps : List ℕ) : Type 0 where
  pub long : length ps ≡ tree_len t
  pub each : (i : ℕ) → i < n → IsPosition len (row_at t i) (slice_index ps i)
  pub faultless : first_fault (λ i. index_fault len i (row_at t i)) n ≡ None

-- an index with a fault after some without one is the first
pub fault_found : (t : Tree) (len n : ℕ) (r : Option Refusal) → first_fault (λ i. index_fault len i (row_at t i)) n ≡ None → index_fault len n (row_at t n) ≡ r → IsSome r → n < tree_len t → indices_fault len t ≡ r
fault_found t len n r none f s l = first_fault-found (λ i. index_fault len i (row_at t i)) (tree_len t) n none (subst IsSome (sym f) s) l ∙ f

-- and so it is after some that are read
pub AreRead-fault : (t : Tree) (len n : ℕ) (ps : List ℕ) (r : Option Refusal) → AreRead t len n ps → index_fault len n (row_at t n) ≡ r → IsSome r → n < tree_len t → indices_fault len t ≡ r
AreRead-fault t len n ps r h f s l = fault_found t len n r h.faultless f s l

-- ---- arrays with the same rows

pub record AreSame (t u : Tree) : Type 0 where
  pub len : tree_len t ≡ tree_len u
  pub rows : (i : ℕ) → i < tree_len t → row_at t i ≡ row_at u i

pub ArePositions-same : (t u : Tree) (len : ℕ) (ps : List ℕ) → AreSame t u → ArePositions u len ps → ArePositions t len ps
ArePositions-same t u len ps h p =
    record {
      len = p.len ∙ sym h.len;
      each = λ i l. subst (λ r. IsPosition len r (slice_index ps i)) (sym (h.rows i l)) (p.each i (rw h.len at l));
    }

pub indices_fault-same : (len : ℕ) (t u : Tree) → AreSame t u → indices_fault len t ≡ indices_fault len u
indices_fault-same len t u h =
    first_fault-same (λ i. index_fault len i (row_at t i)) (λ i. index_fault len i (row_at u i)) (tree_len t) (λ i l. ap (index_fault len i) (h.rows i l))
    ∙ ap (first_fault (λ i. index_fault len i (row_at u i))) h.len

-- numbers are those under the mask of their validity
pub under_mask : (t : Tree) (p : PType) (bs : List ℕ) (v : Valid) (mask : List Bool) → t ≡ primitive p bs v → mask ≡ valid_mask v (tree_len t) → AreSame t (masked_numbers p bs mask)
under_mask t p bs v mask e m =
    rw e (record { len = refl; rows = λ i l. ap (λ b. if b then whole (number_nth (numbers p bs) i) else null) (sym (bit i (rw e l))) })
  where
    bit : (i : ℕ) → i < tree_len t → bool_at mask i ≡ is_valid_at v i
    bit i l = ap (λ bits. bool_at bits i) m ∙ get_or-map-range_with_len (is_valid_at v) 0 (tree_len t) i i false l (zero-add i)

-- and there are as many
pub mask_long : (v : Valid) (mask : List Bool) (n : ℕ) → mask ≡ valid_mask v n → length mask ≡ n
mask_long v mask n m = ap length m ∙ length-map-range_with_len (is_valid_at v) 0 n

-- numbers under a mask that is all true are plain
pub masked_plain : (p : PType) (bs : List ℕ) (mask : List Bool) → length mask ≡ length (numbers p bs) → count_by (λ b. b) mask ≡ length mask → AreSame (masked_numbers p bs mask) (primitive p bs non_nullable)
masked_plain p bs mask long counted = record {
  len = refl;
  rows = λ i l. ap (λ b. if b then whole (number_nth (numbers p bs) i) else null) (bit i l);
}
  where
    bit : (i : ℕ) → i < length (numbers p bs) → bool_at mask i ≡ true
    bit i l = ap (λ m. bool_at m i) (all_true_from_count mask counted) ∙ get_or-replicate (length mask) i true false (omega arith)
