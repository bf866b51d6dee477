-- Booleans that are overwritten at positions.
use Rattle.std.proofs.Common.{ℕ, zero, suc, ◌+◌, ◌-◌, ◌<◌, ◌≤◌, ◌≡◌, Bool, true, false, List, [], ◌∷◌, ◌++◌, length, map, take, replicate, get_or, set, Option, Some, None, refl, sym, ◌∙◌, ap, subst, zero-add, arith, length-set}
use Rattle.std.specs.Prelude.{IsSome, ℤ, pos, negsuc, ◌≤ℤ◌, nat_lt, unsigned_abs, if◌then◌else◌}
use Rattle.std.specs.List.{range_with_len}
use Rattle.std.proofs.lemmas.Bool.{ltb-true, ltb-false}
use Rattle.std.proofs.lemmas.Int.{ints}
use Rattle.std.proofs.lemmas.List.{take_more, take_all, length-take-le}
use Rattle.std.proofs.lemmas.List.FromFn.{fill_by_all, length-map-range_with_len, get_or-map-range_with_len}
use Rattle.vx_base.specs.declared.ptypes.PType.{PType}
use Rattle.vx_base.specs.Bits.{bool_at}
use Rattle.vx_base.specs.Refusals.{Refusal, patch_out_of_range, first_fault}
use Rattle.vx_base.specs.Rows.{Row, null, boolean, whole, bytes, text, items, record_of, number_in, count_in}
use Rattle.vx_base.specs.Kinds.{booleans}
use Rattle.vx_base.proofs.ListParts.{map_range_same}
use Rattle.vx_base.proofs.FirstFaults.{first_fault-same, first_fault-found, first_fault-none_at, Names-or_else_first, Names-or_else_second, or_else-none}
use Rattle.vx_tree.specs.Tree.{Tree, primitive, bools, constant, Valid, non_nullable, all_valid, all_invalid, by_array}
use Rattle.vx_tree.specs.Meaning.{tree_len, row_at, is_valid_at, valid_mask}
use Rattle.vx_tree.specs.Formed.{ValidFits, IsLenOf}
use Rattle.vx_tree.specs.Named.{HasNumbers}
use Rattle.vx_tree.specs.Validities.{array_of}
use Rattle.vx_tree.proofs.Masks.{mask_of_constant}
use Rattle.vx_tree.proofs.Positions.{mask_long}
use Rattle.vx_tree.specs.Patches.{overwritten, patch_positions, patch_row_fault, patch_positions_fault, IsPatched}

-- ---- rows that name positions

named_by_tests : (k offset len i : ℕ) (b c : Bool) → nat_lt k offset ≡ b → nat_lt (k - offset) len ≡ c
    → (if b then Some (patch_out_of_range i) else (if c then None else Some (patch_out_of_range i))) ≡ None → (offset ≤ k) × (k - offset < len)
named_by_tests k offset len i true c low high none = absurd (cc)
named_by_tests k offset len i false true low high none = (ltb-false k offset low, ltb-true (k - offset) len high)
named_by_tests k offset len i false false low high none = absurd (cc)

-- the number of a row names a position below a bound, counted from an offset on
pub record IsNamed (offset len : ℕ) (r : Row) (z : ℤ) : Type 0 where
  pub low : pos offset ≤ℤ z
  pub below : unsigned_abs z - offset < len
  pub told : unsigned_abs z ≡ count_in r

number_named : (offset len i : ℕ) (z : ℤ) → patch_row_fault offset len i (whole z) ≡ None → IsNamed offset len (whole z) z
number_named offset len i (pos k) none =
    let h = named_by_tests k offset len i (nat_lt k offset) (nat_lt (k - offset) len) refl refl none in
    record { low = omega (arith, ints, h.0); below = h.1; told = refl }
number_named offset len i (negsuc k) none = absurd (cc)

-- so does that of each row that has no fault
pub row_named : (offset len i : ℕ) (r : Row) (z : ℤ) → Some z ≡ number_in r → patch_row_fault offset len i r ≡ None → IsNamed offset len r z
row_named offset len i (whole y) z e none = let same : z ≡ y = cc in rw same (number_named offset len i y none)
row_named offset len i null z e none = absurd (cc)
row_named offset len i (boolean b) z e none = absurd (cc)
row_named offset len i (bytes b) z e none = absurd (cc)
row_named offset len i (text b) z e none = absurd (cc)
row_named offset len i (items b) z e none = absurd (cc)
row_named offset len i (record_of b) z e none = absurd (cc)

pub row_of_named : (offset len i : ℕ) (t : Tree) (z : ℤ) → Some z ≡ number_in (row_at t i) → patch_positions_fault offset len t ≡ None → i < tree_len t → IsNamed offset len (row_at t i) z
row_of_named offset len i t z e none l =
    row_named offset len i (row_at t i) z e (first_fault-none_at (λ j. patch_row_fault offset len j (row_at t j)) (tree_len t) i none l)

-- and so does the position that the number is passed on as
pub place_named : (offset len k : ℕ) (r : Row) (z y : ℤ) → IsNamed offset len r z → y ≡ z → pos k ≡ y → (offset ≤ k) × (k - offset < len) × (k ≡ count_in r)
place_named offset len k r z y h passed e =
    let same : pos k ≡ z = e ∙ passed in
    let low : pos offset ≤ℤ pos k = subst (λ (x : ℤ). pos offset ≤ℤ x) (sym same) h.low in
    let place : k ≡ unsigned_abs z = ap unsigned_abs same in
    (omega (arith, ints, low), subst (λ (j : ℕ). j - offset < len) (sym place) h.below, place ∙ h.told)

-- a row with a fault after some without one is the first
pub patch_found : (t : Tree) (offset len n : ℕ) (r : Option Refusal) → first_fault (λ i. patch_row_fault offset len i (row_at t i)) n ≡ None → patch_row_fault offset len n (row_at t n) ≡ r → IsSome r → n < tree_len t
    → patch_positions_fault offset len t ≡ r
patch_found t offset len n r none f s l = first_fault-found (λ i. patch_row_fault offset len i (row_at t i)) (tree_len t) n none (subst IsSome (sym f) s) l ∙ f

-- the rows of an array are numbers that lie one after another
pub numbers_patched : (offset : ℕ) (t : Tree) (p : PType) (bs : List ℕ) → HasNumbers t p bs → patch_positions offset t ≡ patch_positions offset (primitive p bs non_nullable)
numbers_patched offset t p bs h =
    let f : ℕ → ℕ = λ i. count_in (row_at t i) - offset in
    let g : ℕ → ℕ = λ i. count_in (row_at (primitive p bs non_nullable) i) - offset in
    map_range_same f g 0 0 (tree_len t) (λ j l. ap (λ r. count_in r - offset) (h.rows (0 + j) (omega (arith, l)))) ∙ ap (λ n. map g (range_with_len 0 n)) h.len

pub numbers_patch_fault : (offset len : ℕ) (t : Tree) (p : PType) (bs : List ℕ) → HasNumbers t p bs → patch_positions_fault offset len t ≡ patch_positions_fault offset len (primitive p bs non_nullable)
numbers_patch_fault offset len t p bs h =
    let u = primitive p bs non_nullable in
    first_fault-same (λ i. patch_row_fault offset len i (row_at t i)) (λ i. patch_row_fault offset len i (row_at u i)) (tree_len t) (λ i l. ap (patch_row_fault offset len i) (h.rows i l))
    ∙ ap (first_fault (λ i. patch_row_fault offset len i (row_at u i))) h.len

-- ---- what is written over

-- one more at the end
overwritten_push : (bits : List Bool) (ps : List ℕ) (p : ℕ) (values : List Bool) (b : Bool) → length ps ≡ length values
    → overwritten bits (ps ++ p ∷ []) (values ++ b ∷ []) ≡ set (overwritten bits ps values) p b
overwritten_push bits [] p [] b e = refl
overwritten_push bits [] p (v ∷ values) b e = absurd (omega arith)
overwritten_push bits (q ∷ ps) p [] b e = absurd (omega arith)
overwritten_push bits (q ∷ ps) p (v ∷ values) b e = overwritten_push (set bits q v) ps p values b (omega arith)

pub overwritten_more : (bits : List Bool) (ps : List ℕ) (values : List Bool) (i : ℕ) (d : ℕ) → length values ≡ length ps → i < length ps
    → overwritten bits (take (i + 1) ps) (take (i + 1) values) ≡ set (overwritten bits (take i ps) (take i values)) (get_or ps i d) (bool_at values i)
overwritten_more bits ps values i d e l =
    let same : length (take i ps) ≡ length (take i values) = length-take-le i ps (omega arith) ∙ sym (length-take-le i values (omega arith)) in
    ap (λ qs. overwritten bits qs (take (i + 1) values)) (take_more ps i d l) ∙ ap (λ vs. overwritten bits (take i ps ++ get_or ps i d ∷ []) vs) (take_more values i false (omega arith))
    ∙ overwritten_push bits (take i ps) (get_or ps i d) (take i values) (bool_at values i) same

pub overwritten_all : (bits : List Bool) (ps : List ℕ) (values : List Bool) (i : ℕ) → length values ≡ length ps → i ≡ length ps → overwritten bits (take i ps) (take i values) ≡ overwritten bits ps values
overwritten_all bits ps values i e n = rw (take_all i ps (omega arith), take_all i values (omega arith)) refl

pub length-overwritten : (bits : List Bool) (ps : List ℕ) (values : List Bool) → length (overwritten bits ps values) ≡ length bits
length-overwritten bits [] values = refl
length-overwritten bits (p ∷ ps) [] = refl
length-overwritten bits (p ∷ ps) (b ∷ values) = length-overwritten (set bits p b) ps values ∙ length-set bits p b

-- the booleans after the first n positions of rows are written
pub record AreWritten (bits : List Bool) (t : Tree) (offset : ℕ) (values : List Bool) (n : ℕ) (out : List Bool) : Type 0 where
  pub long : length out ≡ length bits
  pub written : out ≡ overwritten bits (take n (patch_positions offset t)) (take n values)

pub length-patch_positions : (offset : ℕ) (t : Tree) → length (patch_positions offset t) ≡ tree_len t
length-patch_positions offset t = length-map-range_with_len (λ i. count_in (row_at t i) - offset) 0 (tree_len t)

pub AreWritten-none : (bits : List Bool) (t : Tree) (offset : ℕ) (values : List Bool) → AreWritten bits t offset values 0 bits
AreWritten-none bits t offset values = record { long = refl; written = refl }

pub AreWritten-next : (bits : List Bool) (t : Tree) (offset : ℕ) (values out now : List Bool) (i k : ℕ) (b : Bool) → length values ≡ tree_len t → i < tree_len t → k ≡ count_in (row_at t i) → b ≡ bool_at values i
    → AreWritten bits t offset values i out → now ≡ set out (k - offset) b → AreWritten bits t offset values (i + 1) now
AreWritten-next bits t offset values out now i k b as_many l place value before after =
    let ps = patch_positions offset t in
    let many : length values ≡ length ps = as_many ∙ sym (length-patch_positions offset t) in
    let inside : i < length ps = omega (arith, l, length-patch_positions offset t) in
    let read : k - offset ≡ get_or ps i 0 = ap (λ j. j - offset) place ∙ sym (get_or-map-range_with_len (λ j. count_in (row_at t j) - offset) 0 (tree_len t) i i 0 l (zero-add i)) in
    record {
      long = ap length after ∙ length-set out (k - offset) b ∙ before.long;
      written = after ∙ ap (λ ys. set ys (k - offset) b) before.written ∙ (λ j. set (overwritten bits (take i ps) (take i values)) (read j) (value j)) ∙ sym (overwritten_more bits ps values i 0 many inside);
    }

pub AreWritten-all : (bits : List Bool) (t : Tree) (offset : ℕ) (values out : List Bool) (i : ℕ) → length values ≡ tree_len t → i ≡ tree_len t → AreWritten bits t offset values i out → out ≡ overwritten bits (patch_positions offset t) values
AreWritten-all bits t offset values out i as_many n h =
    let ps = patch_positions offset t in
    h.written ∙ overwritten_all bits ps values i (as_many ∙ sym (length-patch_positions offset t)) (n ∙ sym (length-patch_positions offset t))

-- one value that is written over itself stays
set_alike : (n p : ℕ) (b : Bool) → set (replicate n b) p b ≡ replicate n b
set_alike zero p b = refl
set_alike (suc n) zero b = refl
set_alike (suc n) (suc p) b = ap (λ bs. b ∷ bs) (set_alike n p b)

overwritten_alike : (n : ℕ) (ps : List ℕ) (b : Bool) → overwritten (replicate n b) ps (replicate (length ps) b) ≡ replicate n b
overwritten_alike n [] b = refl
overwritten_alike n (p ∷ ps) b = ap (λ bs. overwritten bs ps (replicate (length ps) b)) (set_alike n p b) ∙ overwritten_alike n ps b

-- ---- the validity that is patched

-- what is written, as bits
pub patched_by_bits : {b : ℕ} (v u w : Valid) (n offset : ℕ) (indices : Tree) → w ≡ by_array (bools b (overwritten (valid_mask v n) (patch_positions offset indices) (valid_mask u (tree_len indices))) non_nullable) → IsPatched v n offset indices u w
patched_by_bits v u w n offset indices a =
    let mask = valid_mask v n in
    let ps = patch_positions offset indices in
    let values = valid_mask u (tree_len indices) in
    let bits = overwritten mask ps values in
    let long : length bits ≡ n = length-overwritten mask ps values ∙ mask_long v mask n refl in
    let same : bits ≡ map (bool_at bits) (range_with_len 0 n) = fill_by_all (bool_at bits) bits n false long (λ i l. refl) in
    rw a (record { fits = record { len = long; kind = refl }; state = refl; mask = sym same })

-- where nothing is written, the array of the validity
array_fits : (v : Valid) (n : ℕ) → ValidFits v n → ValidFits (by_array (array_of v n)) n
array_fits non_nullable n h = record { len = refl; kind = refl }
array_fits all_valid n h = record { len = refl; kind = refl }
array_fits all_invalid n h = record { len = refl; kind = refl }
array_fits (by_array t) n h = h

array_tells : (v : Valid) (n i : ℕ) → is_valid_at (by_array (array_of v n)) i ≡ is_valid_at v i
array_tells non_nullable n i = refl
array_tells all_valid n i = refl
array_tells all_invalid n i = refl
array_tells (by_array t) n i = refl

overwritten_none : (bits : List Bool) (ps : List ℕ) (values : List Bool) → length ps ≡ 0 → overwritten bits ps values ≡ bits
overwritten_none bits [] values none = refl
overwritten_none bits (p ∷ ps) values none = absurd (omega (arith, none))

pub patched_nowhere : (v u w : Valid) (n offset : ℕ) (indices : Tree) → ValidFits v n → tree_len indices ≡ 0 → w ≡ by_array (array_of v n) → IsPatched v n offset indices u w
patched_nowhere v u w n offset indices h none a =
    rw a (record {
      fits = array_fits v n h;
      state = refl;
      mask = map_range_same (is_valid_at (by_array (array_of v n))) (is_valid_at v) 0 0 n (λ j l. array_tells v n (0 + j))
          ∙ sym (overwritten_none (valid_mask v n) (patch_positions offset indices) (valid_mask u (tree_len indices)) (length-patch_positions offset indices ∙ none));
    })

-- where all are one value and stay it, a constant
pub patched_by_value : (v u w : Valid) (n offset : ℕ) (indices : Tree) (b : Bool) → ((i : ℕ) → is_valid_at v i ≡ b) → ((i : ℕ) → is_valid_at u i ≡ b) → w ≡ by_array (constant (booleans false) (boolean b) n)
    → IsPatched v n offset indices u w
patched_by_value v u w n offset indices b mine theirs a =
    let ps = patch_positions offset indices in
    let before : valid_mask v n ≡ replicate n b = sym (mask_of_constant v n b mine) in
    let values : valid_mask u (tree_len indices) ≡ replicate (length ps) b = sym (mask_of_constant u (tree_len indices) b theirs) ∙ ap (λ m. replicate m b) (sym (length-patch_positions offset indices)) in
    rw a (record {
      fits = record { len = refl; kind = refl };
      state = refl;
      mask = sym (mask_of_constant (by_array (constant (booleans false) (boolean b) n)) n b (λ i. refl)) ∙ sym (overwritten_alike n ps b) ∙ sym (λ j. overwritten (before j) ps (values j));
    })

pub len_of_fits : (v : Valid) (n : ℕ) → ValidFits v n → IsLenOf v n
len_of_fits non_nullable n h = tt
len_of_fits all_valid n h = tt
len_of_fits all_invalid n h = tt
len_of_fits (by_array t) n h = h.len

pub ruleset patches = (len_of_fits, Names-or_else_first, Names-or_else_second, or_else-none)
