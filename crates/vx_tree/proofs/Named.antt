-- The positions that numbers name, where they lie.
use Rattle.std.proofs.Common.{ℕ, ◌<◌, ◌≡◌, Bool, true, false, List, Some, None, length, refl, sym, ◌∙◌, ap, subst, zero-add}
use Rattle.std.specs.Prelude.{ℤ, pos, negsuc, map, nat_lt, slice_index, unsigned_abs, if◌then◌else◌, replicate, IsSome, IfSome, Option}
use Rattle.std.specs.List.{range_with_len}
use Rattle.std.proofs.lemmas.Bool.{ltb-true}
use Rattle.std.proofs.lemmas.List.{length-map, get_or-map, get_or-replicate, length-replicate}
use Rattle.std.proofs.lemmas.List.FromFn.{get_or-map-range_with_len, length-map-range_with_len}
use Rattle.vx_base.specs.declared.ptypes.PType.{PType}
use Rattle.vx_base.specs.Bits.{bool_at}
use Rattle.vx_base.specs.Integers.{numbers, number_nth}
use Rattle.vx_base.specs.Refusals.{Refusal, out_of_bounds}
use Rattle.vx_base.specs.Rows.{Row, null, boolean, whole, bytes, text, items, record_of, position_in, truth_of}
use Rattle.vx_base.proofs.FirstFaults.{first_fault-none_at, first_fault-found, first_fault-of_none}
use Rattle.vx_tree.specs.Tree.{Tree, primitive, Valid, non_nullable, all_valid, all_invalid, by_array}
use Rattle.vx_tree.specs.Meaning.{tree_len, row_at, is_valid_at, valid_mask}
use Rattle.vx_tree.specs.Formed.{ValidFits}
use Rattle.vx_tree.specs.Faults.{index_fault, indices_fault}
use Rattle.vx_tree.specs.Named.{HasNumbers, IsRepeated, IsIndex, AreIndices, number_under}
use Rattle.vx_tree.specs.Operations.{IsPosition, ArePositions, or_zero, masked_numbers}
use Rattle.vx_tree.proofs.Positions.{AreSame, under_mask, indices_fault-same}

-- ---- positions are indices

told_of : (o : Option ℕ) (k : ℕ) → k ≡ or_zero o → IfSome o (λ p. k ≡ p)
told_of None k e = tt
told_of (Some p) k e = e

below_or_zero : (n : ℕ) (o : Option ℕ) → 0 < n → IfSome o (λ k. k < n) → or_zero o < n
below_or_zero n None some h = some
below_or_zero n (Some k) some h = h

position_is_index : (n : ℕ) (r : Row) (k : ℕ) → IsPosition n r k → IsIndex n r k
position_is_index n r k h =
    let P : ℕ → Type 0 = λ j. j < n in
    record {
      told = told_of (position_in r) k h.told;
      within = h.within;
      below = λ some. subst P (sym h.told) (below_or_zero n (position_in r) some h.within);
      present = h.present;
    }

pub positions_are_indices : (t : Tree) (n : ℕ) (ps : List ℕ) → ArePositions t n ps → AreIndices t n ps
positions_are_indices t n ps h = record { len = h.len; each = λ i l. position_is_index n (row_at t i) (slice_index ps i) (h.each i l) }

-- ---- numbers without a fault

within_bound : (k len : ℕ) (b : Bool) → nat_lt k len ≡ b → (if b then None else Some (out_of_bounds k)) ≡ None → k < len
within_bound k len true e none = ltb-true k len e
within_bound k len false e none = absurd (cc)

-- a number without a fault is the position that its row names
position_named : (len i : ℕ) (z : ℤ) → index_fault len i (whole z) ≡ None → IsPosition len (whole z) (unsigned_abs z)
position_named len i (pos k) none = record { told = refl; within = within_bound k len (nat_lt k len) refl none; present = refl }
position_named len i (negsuc k) none = absurd (cc)

-- numbers without a fault are the positions that their rows name
pub numbers_named : (t : Tree) (p : PType) (bs : List ℕ) (len : ℕ) → HasNumbers t p bs → indices_fault len t ≡ None → ArePositions t len (map unsigned_abs (numbers p bs))
numbers_named t p bs len h none =
    record {
      len = length-map (numbers p bs) unsigned_abs ∙ sym h.len;
      each = λ i l.
          let z = number_nth (numbers p bs) i in
          let faultless : index_fault len i (whole z) ≡ None = sym (ap (index_fault len i) (h.rows i l)) ∙ first_fault-none_at (λ j. index_fault len j (row_at t j)) (tree_len t) i none l in
          let same = get_or-map unsigned_abs (numbers p bs) i (pos 0) 0 (rw h.len at l) in
          subst (λ r. IsPosition len r (slice_index (map unsigned_abs (numbers p bs)) i)) (sym (h.rows i l)) (subst (IsPosition len (whole z)) (sym same) (position_named len i z faultless));
    }

-- their faults are those of the numbers alone
pub numbers_fault : (t : Tree) (p : PType) (bs : List ℕ) (len : ℕ) → HasNumbers t p bs → indices_fault len t ≡ indices_fault len (primitive p bs non_nullable)
numbers_fault t p bs len h = indices_fault-same len t (primitive p bs non_nullable) (record { len = h.len; rows = h.rows })

-- the numbers of an array of which none is null
pub never_null : (t : Tree) (p : PType) (bs : List ℕ) → t ≡ primitive p bs non_nullable → HasNumbers t p bs
never_null t p bs a = rw a (record { len = refl; rows = λ i l. refl })

pub none_null : (t : Tree) (p : PType) (bs : List ℕ) → t ≡ primitive p bs all_valid → HasNumbers t p bs
none_null t p bs a = rw a (record { len = refl; rows = λ i l. refl })

-- ---- numbers under a validity

index_under : (len i : ℕ) (z : ℤ) (b : Bool) → index_fault len i (whole z) ≡ None → IsIndex len (if b then whole z else null) (unsigned_abs z)
index_under len i z true none = position_is_index len (whole z) (unsigned_abs z) (position_named len i z none)
index_under len i z false none =
    let index = position_is_index len (whole z) (unsigned_abs z) (position_named len i z none) in
    record { told = tt; within = tt; below = index.below; present = refl }

fault_under : (len i : ℕ) (z : ℤ) (b : Bool) → index_fault len i (whole z) ≡ None → index_fault len i (if b then whole z else null) ≡ None
fault_under len i z true none = none
fault_under len i z false none = refl

-- where no number has a fault, those of null rows too are indices
pub numbers_are_indices : (p : PType) (bs : List ℕ) (v : Valid) (len : ℕ) (ps : List ℕ) → ps ≡ map unsigned_abs (numbers p bs) → indices_fault len (primitive p bs non_nullable) ≡ None → AreIndices (primitive p bs v) len ps
numbers_are_indices p bs v len ps e none =
    rw e (record {
      len = length-map (numbers p bs) unsigned_abs;
      each = λ i l.
          let z = number_nth (numbers p bs) i in
          let faultless : index_fault len i (whole z) ≡ None = first_fault-none_at (λ j. index_fault len j (row_at (primitive p bs non_nullable) j)) (length (numbers p bs)) i none l in
          let same = get_or-map unsigned_abs (numbers p bs) i (pos 0) 0 l in
          subst (IsIndex len (if is_valid_at v i then whole z else null)) (sym same) (index_under len i z (is_valid_at v i) faultless);
    })

-- and no row has one
pub none_under : (p : PType) (bs : List ℕ) (v : Valid) (len : ℕ) → indices_fault len (primitive p bs non_nullable) ≡ None → indices_fault len (primitive p bs v) ≡ None
none_under p bs v len none =
    first_fault-of_none (λ i. index_fault len i (row_at (primitive p bs v) i)) (length (numbers p bs))
    (λ i l. fault_under len i (number_nth (numbers p bs) i) (is_valid_at v i)
    (first_fault-none_at (λ j. index_fault len j (row_at (primitive p bs non_nullable) j)) (length (numbers p bs)) i none l))

-- rows that are all null name no position
pub nulls_are_indices : (p : PType) (bs : List ℕ) (v : Valid) (len n : ℕ) (ps : List ℕ) → v ≡ all_invalid → n ≡ length (numbers p bs) → ps ≡ replicate n 0 → AreIndices (primitive p bs v) len ps
nulls_are_indices p bs v len n ps a e named =
    let P : ℕ → Type 0 = λ k. k < len in
    rw (a, named) (record {
      len = length-replicate {A = ℕ} n 0 ∙ e;
      each = λ i l. record { told = tt; within = tt; below = λ some. subst P (sym (get_or-replicate n i 0 0 (rw e l))) some; present = refl };
    })

pub nulls_faultless : (p : PType) (bs : List ℕ) (v : Valid) (len : ℕ) → v ≡ all_invalid → indices_fault len (primitive p bs v) ≡ None
nulls_faultless p bs v len a = rw a (first_fault-of_none (λ i. index_fault len i null) (length (numbers p bs)) (λ i l. refl))

-- the faults of rows of which none is null
pub faults_never_null : (p : PType) (bs : List ℕ) (v : Valid) (len : ℕ) → v ≡ non_nullable → indices_fault len (primitive p bs v) ≡ indices_fault len (primitive p bs non_nullable)
faults_never_null p bs v len a = rw a refl

pub faults_none_null : (p : PType) (bs : List ℕ) (v : Valid) (len : ℕ) → v ≡ all_valid → indices_fault len (primitive p bs v) ≡ indices_fault len (primitive p bs non_nullable)
faults_none_null p bs v len a = rw a refl

-- numbers under the bits of their validity
pub masked_same : (p : PType) (bs : List ℕ) (a : Tree) (bits : List Bool) → ValidFits (by_array a) (length (numbers p bs)) → bits ≡ map (λ i. truth_of (row_at a i)) (range_with_len 0 (tree_len a))
    → AreSame (primitive p bs (by_array a)) (masked_numbers p bs bits)
masked_same p bs a bits h e = under_mask (primitive p bs (by_array a)) p bs (by_array a) bits refl (e ∙ ap (valid_mask (by_array a)) h.len)

pub AreIndices-same : (t u : Tree) (len : ℕ) (ps : List ℕ) → AreSame t u → AreIndices u len ps → AreIndices t len ps
AreIndices-same t u len ps h p =
    record {
      len = p.len ∙ sym h.len;
      each = λ i l. subst (λ r. IsIndex len r (slice_index ps i)) (sym (h.rows i l)) (p.each i (rw h.len at l));
    }

index_own : (len i : ℕ) (z : ℤ) (b : Bool) → index_fault len i (if b then whole z else null) ≡ None → IsIndex len (if b then whole z else null) (unsigned_abs (if b then z else pos 0))
index_own len i z true none = position_is_index len (whole z) (unsigned_abs z) (position_named len i z none)
index_own len i z false none = record { told = tt; within = tt; below = λ some. some; present = refl }

-- the valid numbers, with 0 for each other
pub own_numbers_named : (p : PType) (bs own ps : List ℕ) (mask : List Bool) (len : ℕ) → ps ≡ map unsigned_abs (numbers p own) → length mask ≡ length (numbers p bs) → indices_fault len (masked_numbers p bs mask) ≡ None
    → numbers p own ≡ map (number_under (numbers p bs) mask) (range_with_len 0 (length mask)) → AreIndices (masked_numbers p bs mask) len ps
own_numbers_named p bs own ps mask len named long none e =
    let zs = numbers p bs in
    let count : length (numbers p own) ≡ length mask = ap length e ∙ length-map-range_with_len (number_under zs mask) 0 (length mask) in
    rw named (record {
      len = length-map (numbers p own) unsigned_abs ∙ count ∙ long;
      each = λ i l.
          let inside : i < length mask = rw long l in
          let row = row_at (masked_numbers p bs mask) i in
          let read : number_nth (numbers p own) i ≡ number_under zs mask i = ap (λ xs. number_nth xs i) e ∙ get_or-map-range_with_len (number_under zs mask) 0 (length mask) i i (pos 0) inside (zero-add i) in
          let same = get_or-map unsigned_abs (numbers p own) i (pos 0) 0 (rw count inside) ∙ ap unsigned_abs read in
          let faultless : index_fault len i row ≡ None = first_fault-none_at (λ j. index_fault len j (row_at (masked_numbers p bs mask) j)) (length zs) i none l in
          subst (IsIndex len row) (sym same) (index_own len i (number_nth zs i) (bool_at mask i) faultless);
    })

-- numbers under an array that tells which are valid
pub mask_counted : (p : PType) (bs : List ℕ) (v : Valid) (a : Tree) (bits : List Bool) → v ≡ by_array a → ValidFits v (length (numbers p bs)) → bits ≡ map (λ i. truth_of (row_at a i)) (range_with_len 0 (tree_len a)) → length bits ≡ length (numbers p bs)
mask_counted p bs v a bits is h e =
    let fits : ValidFits (by_array a) (length (numbers p bs)) = subst (λ u. ValidFits u (length (numbers p bs))) is h in
    ap length e ∙ length-map-range_with_len (λ i. truth_of (row_at a i)) 0 (tree_len a) ∙ fits.len

same_under : (p : PType) (bs : List ℕ) (v : Valid) (a : Tree) (bits : List Bool) → v ≡ by_array a → ValidFits v (length (numbers p bs)) → bits ≡ map (λ i. truth_of (row_at a i)) (range_with_len 0 (tree_len a))
    → AreSame (primitive p bs v) (masked_numbers p bs bits)
same_under p bs v a bits is h e = subst (λ u. AreSame (primitive p bs u) (masked_numbers p bs bits)) (sym is) (masked_same p bs a bits (subst (λ u. ValidFits u (length (numbers p bs))) is h) e)

pub faults_under : (p : PType) (bs : List ℕ) (v : Valid) (a : Tree) (bits : List Bool) (len : ℕ) → v ≡ by_array a → ValidFits v (length (numbers p bs)) → bits ≡ map (λ i. truth_of (row_at a i)) (range_with_len 0 (tree_len a))
    → indices_fault len (primitive p bs v) ≡ indices_fault len (masked_numbers p bs bits)
faults_under p bs v a bits len is h e = indices_fault-same len (primitive p bs v) (masked_numbers p bs bits) (same_under p bs v a bits is h e)

pub indices_under : (p : PType) (bs : List ℕ) (v : Valid) (a : Tree) (bits : List Bool) (len : ℕ) (ps : List ℕ) → v ≡ by_array a → ValidFits v (length (numbers p bs)) → bits ≡ map (λ i. truth_of (row_at a i)) (range_with_len 0 (tree_len a))
    → AreIndices (masked_numbers p bs bits) len ps → AreIndices (primitive p bs v) len ps
indices_under p bs v a bits len ps is h e = AreIndices-same (primitive p bs v) (masked_numbers p bs bits) len ps (same_under p bs v a bits is h e)

pub ruleset in_place = (numbers_are_indices, none_under, nulls_are_indices, nulls_faultless, faults_never_null, faults_none_null)

pub ruleset under_bits = (numbers_are_indices, none_under, own_numbers_named)

-- ---- rows that are all one

-- they name the position of the first
pub one_position_named : (t : Tree) (len k : ℕ) (ps : List ℕ) → IsRepeated t → IsPosition len (row_at t 0) k → ps ≡ replicate (tree_len t) k → AreIndices t len ps
one_position_named t len k ps h p e =
    positions_are_indices t len ps (rw e (record {
      len = length-replicate {A = ℕ} (tree_len t) k;
      each = λ i l. rw (h.alike i, get_or-replicate (tree_len t) i k 0 l) p;
    }))

-- a row that is no fault at its place is none at any other
faultless_anywhere : (len i : ℕ) (r : Row) → index_fault len 0 r ≡ None → index_fault len i r ≡ None
faultless_anywhere len i (whole (pos k)) none = none
faultless_anywhere len i (whole (negsuc k)) none = absurd (cc)
faultless_anywhere len i null none = refl
faultless_anywhere len i (boolean b) none = refl
faultless_anywhere len i (bytes b) none = refl
faultless_anywhere len i (text b) none = refl
faultless_anywhere len i (items b) none = refl
faultless_anywhere len i (record_of b) none = refl

-- their first fault is that of the first
pub one_position_faultless : (t : Tree) (len : ℕ) → IsRepeated t → index_fault len 0 (row_at t 0) ≡ None → indices_fault len t ≡ None
one_position_faultless t len h none =
    first_fault-of_none (λ i. index_fault len i (row_at t i)) (tree_len t) (λ i l. ap (index_fault len i) (h.alike i) ∙ faultless_anywhere len i (row_at t 0) none)

pub one_position_fault : (t : Tree) (len : ℕ) (r : Option Refusal) → IsRepeated t → index_fault len 0 (row_at t 0) ≡ r → IsSome r → indices_fault len t ≡ r
one_position_fault t len r h f s = first_fault-found (λ i. index_fault len i (row_at t i)) (tree_len t) 0 refl (subst IsSome (sym f) s) h.some ∙ f
