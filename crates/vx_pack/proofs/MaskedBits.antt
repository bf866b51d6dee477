-- Bytes of which one is masked.
use Rattle.std.proofs.Common.{ℕ, ◌+◌, ◌-◌, ◌*◌, ◌/◌, ◌%◌, ◌^◌, ◌<◌, ◌≤◌, ◌≡◌, ◌≢◌, false, eqb, List, ◌++◌, length, get_or, set, take, drop, refl, sym, ◌∙◌, ap, inl, inr, arith}
use Rattle.std.specs.Int.{bit_at}
use Rattle.std.specs.Prelude.{bit_and}
use Rattle.std.proofs.lemmas.Bool.{cases_eq}
use Rattle.std.proofs.lemmas.List.{get_or-set_same, get_or-set_other, get_or_past, take_all, drop_all, append-nil}
use Rattle.std.proofs.lemmas.Nat.{and_le_l}
use Rattle.std.proofs.lemmas.Nat.Bits.{bit_at_and, bit_at_ones, bit_at-lt, bit_at-zero}
use Rattle.vx_base.specs.Bits.{bit_of}
use Rattle.vx_base.specs.Bytes.{AreBytes}
use Rattle.vx_base.proofs.BitWords.{low_kept, low_cleared}
use Rattle.vx_base.proofs.PackedBytes.{bit_at-low, bit_at-shl_low, bit_at-shl_high}

-- a bit of the byte that is written, and of any other
bit_there : (bs : List ℕ) (j byte k : ℕ) → j < length bs → k / 8 ≡ j → bit_of (set bs j byte) k ≡ eqb (bit_at byte (k % 8)) 1
bit_there bs j byte k inside here = rw (here, get_or-set_same) refl

bit_elsewhere : (bs : List ℕ) (j byte k : ℕ) → k / 8 ≢ j → bit_of (set bs j byte) k ≡ bit_of bs k
bit_elsewhere bs j byte k apart = rw get_or-set_other refl

bit_past : (bs : List ℕ) (k : ℕ) → length bs ≤ k / 8 → bit_of bs k ≡ false
bit_past bs k past = rw (get_or_past bs (k / 8) 0 past, bit_at-zero (k % 8)) refl

-- ---- `bytes[0] &= MAX << first`

mask_high : (byte first i : ℕ) → first ≤ i → i < 8 → bit_at (bit_and byte (255 * 2 ^ first % 2 ^ 8)) i ≡ bit_at byte i
mask_high byte first i late low =
    let one : bit_at (255 * 2 ^ first % 2 ^ 8) i ≡ 1 =
    bit_at-low 8 (255 * 2 ^ first) i low ∙ bit_at-shl_high 255 first i late ∙ bit_at_ones 8 (i - first) (omega (arith, low)) in
    omega (arith, bit_at_and byte (255 * 2 ^ first % 2 ^ 8) i, one, bit_at-lt byte i)

mask_low : (byte first i : ℕ) → i < first → first < 8 → bit_at (bit_and byte (255 * 2 ^ first % 2 ^ 8)) i ≡ 0
mask_low byte first i early low =
    let none : bit_at (255 * 2 ^ first % 2 ^ 8) i ≡ 0 = bit_at-low 8 (255 * 2 ^ first) i (omega (arith, early, low)) ∙ bit_at-shl_low 255 first i early in
    omega (arith, bit_at_and byte (255 * 2 ^ first % 2 ^ 8) i, none)

pub before_kept : (bs : List ℕ) (first k : ℕ) → 0 < length bs → first ≤ k → bit_of (set bs 0 (bit_and (get_or bs 0 0) (255 * 2 ^ first % 2 ^ 8))) k ≡ bit_of bs k
before_kept bs first k some late = elim (cases_eq (k / 8) 0) [
  | inl here ↦
      let same : k % 8 ≡ k = omega (arith, here) in
      bit_there bs 0 (bit_and (get_or bs 0 0) (255 * 2 ^ first % 2 ^ 8)) k some here
      ∙ ap (λ (n : ℕ). eqb n 1) (mask_high (get_or bs 0 0) first (k % 8) (omega (arith, same, late)) (omega arith))
      ∙ ap (λ (j : ℕ). eqb (bit_at (get_or bs j 0) (k % 8)) 1) (sym here)
  | inr apart ↦ bit_elsewhere bs 0 (bit_and (get_or bs 0 0) (255 * 2 ^ first % 2 ^ 8)) k apart
]

pub before_cleared : (bs : List ℕ) (first k : ℕ) → 0 < length bs → k < first → first < 8 → bit_of (set bs 0 (bit_and (get_or bs 0 0) (255 * 2 ^ first % 2 ^ 8))) k ≡ false
before_cleared bs first k some early low =
    let here : k / 8 ≡ 0 = omega (arith, early, low) in
    let same : k % 8 ≡ k = omega (arith, early, low) in
    bit_there bs 0 (bit_and (get_or bs 0 0) (255 * 2 ^ first % 2 ^ 8)) k some here
    ∙ ap (λ (n : ℕ). eqb n 1) (mask_low (get_or bs 0 0) first (k % 8) (omega (arith, same, early)) low)

-- ---- `bytes[end / 8] &= (1 << (end % 8)) - 1`

pub after_kept : (bs : List ℕ) (end k : ℕ) → end / 8 < length bs → k < end
    → bit_of (set bs (end / 8) (bit_and (get_or bs (end / 8) 0) (1 * 2 ^ (end % 8) % 2 ^ 8 - 1))) k ≡ bit_of bs k
after_kept bs end k inside early = elim (cases_eq (k / 8) (end / 8)) [
  | inl here ↦
      bit_there bs (end / 8) (bit_and (get_or bs (end / 8) 0) (1 * 2 ^ (end % 8) % 2 ^ 8 - 1)) k inside here
      ∙ ap (λ (n : ℕ). eqb n 1) (low_kept (get_or bs (end / 8) 0) (end % 8) (k % 8) (omega arith) (omega (arith, here, early)))
      ∙ ap (λ (j : ℕ). eqb (bit_at (get_or bs j 0) (k % 8)) 1) (sym here)
  | inr apart ↦ bit_elsewhere bs (end / 8) (bit_and (get_or bs (end / 8) 0) (1 * 2 ^ (end % 8) % 2 ^ 8 - 1)) k apart
]

pub after_cleared : (bs : List ℕ) (end k : ℕ) → end / 8 < length bs → 8 * length bs < end + 8 → end ≤ k
    → bit_of (set bs (end / 8) (bit_and (get_or bs (end / 8) 0) (1 * 2 ^ (end % 8) % 2 ^ 8 - 1))) k ≡ false
after_cleared bs end k inside short late = elim (cases_eq (k / 8) (end / 8)) [
  | inl here ↦
      bit_there bs (end / 8) (bit_and (get_or bs (end / 8) 0) (1 * 2 ^ (end % 8) % 2 ^ 8 - 1)) k inside here
      ∙ ap (λ (n : ℕ). eqb n 1) (low_cleared (get_or bs (end / 8) 0) (end % 8) (k % 8) (omega arith) (omega (arith, here, late)))
  | inr apart ↦
      bit_elsewhere bs (end / 8) (bit_and (get_or bs (end / 8) 0) (1 * 2 ^ (end % 8) % 2 ^ 8 - 1)) k apart ∙ bit_past bs k (omega (arith, apart, late, short, inside))
]

pub after_none : (bs : List ℕ) (end k : ℕ) → end % 8 ≡ 0 → 8 * length bs < end + 8 → end ≤ k → bit_of bs k ≡ false
after_none bs end k whole short late = bit_past bs k (omega (arith, whole, short, late))

pub bytes_masked : (bs : List ℕ) (j mask : ℕ) → j < length bs → AreBytes bs → AreBytes (set bs j (bit_and (get_or bs j 0) mask))
bytes_masked bs j mask inside bytes i = elim (cases_eq i j) [
  | inl here ↦ rw (here, get_or-set_same) (omega (arith, and_le_l (get_or bs j 0) mask, bytes j))
  | inr apart ↦ rw get_or-set_other (bytes i)
]

pub ruleset masked = (before_kept, before_cleared, after_kept, after_cleared, after_none)

-- a list all of whose items were written
pub all_written : (old new : List ℕ) (n : ℕ) → length new ≡ length old → n ≡ length old → take n (new ++ drop (length new) old) ≡ new
all_written old new n same all =
    ap (λ (xs : List ℕ). take n (new ++ xs)) (drop_all (length new) old (omega (arith, same))) ∙ ap (take n) (append-nil new) ∙ take_all n new (omega (arith, same, all))
