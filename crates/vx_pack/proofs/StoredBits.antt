-- What bits that layouts hold tell of rows.
use Rattle.std.proofs.Common.{◌≡◌, ◌∙◌, ◌+◌, ◌-◌, ◌<◌, ◌≤◌, ◌^◌, ℕ, Bool, true, false, List, [], ◌∷◌, length, map, refl, sym, ap, subst, arith}
use Rattle.std.specs.Prelude.{◌&&◌, replicate, slice_range, if◌then◌else◌, IfOk, Result, Ok, Err}
use Rattle.std.specs.List.{range_with_len}
use Rattle.std.proofs.lemmas.List.FromFn.{get_or-map-range_with_len}
use Rattle.std.proofs.lemmas.Simd.{map-map}
use Rattle.vx_base.proofs.ListParts.{map_range_same}
use Rattle.vx_base.proofs.Refused.{memory_alone}
use Rattle.vx_base.proofs.Runs.{part_by_places}
use Rattle.vx_base.specs.Bits.{bool_at, both}
use Rattle.vx_base.specs.Booleans.{count_fault}
use Rattle.vx_base.specs.Kinds.{Kind}
use Rattle.vx_base.specs.Refusals.{Gives, Refuses}
use Rattle.vx_base.specs.Rows.{Row, boolean, null, is_present, truth_of}
use Rattle.vx_base.specs.declared.errors.VortexError.{VortexError}
use Rattle.vx_tree.specs.Formed.{ValidFits}
use Rattle.vx_tree.specs.Meaning.{is_valid_at, row_at, tree_len}
use Rattle.vx_tree.specs.Tree.{Tree, Valid, bools, by_array}
use Rattle.vx_pack.proofs.PieceRows.{map-range_with_len-replicate}
use Rattle.vx_pack.specs.Pieces.{piece_len, piece_row, piece_rows}
use Rattle.vx_pack.specs.StoredBits.{AreStoredTruths, TellsRows}
use Rattle.vx_pack.specs.declared.pieces.Piece.{Piece}

-- ---- lists of bits

pub bits_part : (bits : List Bool) (start n : ℕ) → start + n ≤ length bits
    → slice_range bits start (start + n) ≡ map (λ i. bool_at bits (start + i)) (range_with_len 0 n)
bits_part bits start n within =
    let size : start + n - start ≡ n = omega arith in
    part_by_places bits false start (start + n) (omega arith) within
    ∙ ap (λ m. map (bool_at bits) (range_with_len start m)) size
    ∙ map_range_same (bool_at bits) (λ i. bool_at bits (start + i)) start 0 n (λ j l. ap (bool_at bits) (omega arith))

both_maps : (f g : ℕ → Bool) (ks : List ℕ) → both (map f ks) (map g ks) ≡ map (λ i. f i && g i) ks
both_maps f g [] = refl
both_maps f g (k ∷ ks) = ap (λ bs. (f k && g k) ∷ bs) (both_maps f g ks)

-- the bits that are true in both of two parts
pub both_parts : (xs ys us vs zs : List Bool) (start n : ℕ) → start + n ≤ length xs → start + n ≤ length ys
    → us ≡ slice_range xs start (start + n) → vs ≡ slice_range ys start (start + n) → zs ≡ both us vs
    → zs ≡ map (λ i. bool_at xs (start + i) && bool_at ys (start + i)) (range_with_len 0 n)
both_parts xs ys us vs zs start n first second left right are =
    are ∙ (λ j. both ((left ∙ bits_part xs start n first) j) ((right ∙ bits_part ys start n second) j))
    ∙ both_maps (λ i. bool_at xs (start + i)) (λ i. bool_at ys (start + i)) (range_with_len 0 n)

-- bits that are read from the first on are these bits
pub bits_again : (zs : List Bool) (n : ℕ) (h : ℕ → Bool) → zs ≡ map h (range_with_len 0 n)
    → map (λ i. bool_at zs (0 + i)) (range_with_len 0 n) ≡ map h (range_with_len 0 n)
bits_again zs n h same =
    map_range_same (λ i. bool_at zs (0 + i)) h 0 0 n (λ j l.
    ap (λ xs. bool_at xs (0 + (0 + j))) same ∙ get_or-map-range_with_len h 0 n (0 + (0 + j)) (0 + j) false (omega arith) (omega arith))

-- where so many can be counted, a call fails for want of memory alone
pub counted_gives : {A : Type 0} (r : Result A VortexError) (n : ℕ) (P : A → Type 0) → n < 2 ^ 64 → IfOk r P → Refuses r (count_fault n)
    → Gives r P
counted_gives (Ok x) n P few given refused = given
counted_gives (Err e) n P few given refused = memory_alone n e few refused

-- ---- of layouts

truth_under : (v b : Bool) → truth_of (if v then boolean b else null) ≡ (is_present (if v then boolean b else null) && b)
truth_under true b = refl
truth_under false b = refl

pub stored_under : {b : ℕ} (t : Tree) (bits : List Bool) (v : Valid) → t ≡ bools b bits v → AreStoredTruths t bits
stored_under t bits v same = record {
  len = sym (ap tree_len same);
  rows = λ i. ap (λ (u : Tree). truth_of (row_at u i)) same ∙ truth_under (is_valid_at v i) (bool_at bits i)
      ∙ sym (ap (λ (u : Tree). is_present (row_at u i) && bool_at bits i) same);
}

-- the validity of a layout
pub validity_read : (t u : Tree) (v : Valid) → t ≡ u → ValidFits v (tree_len u) → ((i : ℕ) → is_present (row_at u i) ≡ is_valid_at v i)
    → ValidFits v (tree_len t) × ((i : ℕ) → is_present (row_at t i) ≡ is_valid_at v i)
validity_read t u v same fits told = (
  subst (λ (x : Tree). ValidFits v (tree_len x)) (sym same) fits,
  λ i. ap (λ (x : Tree). is_present (row_at x i)) same ∙ told i,
)

-- bits of which none is null are a validity's booleans
pub valid_by_bits : {b : ℕ} (t : Tree) (bits : List Bool) (v : Valid) → t ≡ bools b bits v → ((i : ℕ) → is_valid_at v i ≡ true)
    → (i : ℕ) → is_valid_at (by_array t) i ≡ bool_at bits i
valid_by_bits t bits v same full i =
    ap (λ (u : Tree). truth_of (row_at u i)) same ∙ ap (λ b. truth_of (if b then boolean (bool_at bits i) else null)) (full i)

-- ---- of the rows of a piece

pub rows_by_bits : (f : Row → Bool) (k : Kind) (p : Piece) (t : Tree) (start n : ℕ) (g : ℕ → Bool) → piece_len p ≡ n
    → ((i : ℕ) → piece_row k p i ≡ row_at t (start + i)) → ((i : ℕ) → f (row_at t (start + i)) ≡ g i)
    → map g (range_with_len 0 n) ≡ map f (piece_rows k p)
rows_by_bits f k p t start n g len rows told =
    sym (
    map-map f (piece_row k p) (range_with_len 0 (piece_len p))
    ∙ ap (λ m. map (λ i. f (piece_row k p i)) (range_with_len 0 m)) len
    ∙ map_range_same (λ i. f (piece_row k p i)) g 0 0 n (λ j l. ap f (rows (0 + j)) ∙ told (0 + j))
    )

-- the same of all rows
pub rows_alike : (f : Row → Bool) (k : Kind) (p : Piece) (n : ℕ) (b : Bool) → n ≡ piece_len p → ((i : ℕ) → f (piece_row k p i) ≡ b)
    → replicate n b ≡ map f (piece_rows k p)
rows_alike f k p n b len each =
    sym (
    map-map f (piece_row k p) (range_with_len 0 (piece_len p))
    ∙ map_range_same (λ i. f (piece_row k p i)) (λ i. b) 0 0 (piece_len p) (λ j l. each (0 + j))
    ∙ map-range_with_len-replicate b 0 (piece_len p) ∙ ap (λ m. replicate m b) (sym len)
    )

-- truth values of which none is null
pub full_truths : (t : Tree) (bits : List Bool) → AreStoredTruths t bits → ((i : ℕ) → is_present (row_at t i) ≡ true)
    → (i : ℕ) → truth_of (row_at t i) ≡ bool_at bits i
full_truths t bits stored full i = stored.rows i ∙ ap (λ b. b && bool_at bits i) (full i)

-- and those of which bits tell it
pub told_truths : (t : Tree) (bits valid : List Bool) → AreStoredTruths t bits → TellsRows is_present t valid
    → (i : ℕ) → truth_of (row_at t i) ≡ (bool_at valid i && bool_at bits i)
told_truths t bits valid stored told i = stored.rows i ∙ ap (λ b. b && bool_at bits i) (told.rows i)
