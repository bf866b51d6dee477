-- Bits that are turned, a byte at a time.
use Rattle.std.proofs.Common.{ℕ, zero, suc, ◌+◌, ◌-◌, ◌*◌, ◌/◌, ◌%◌, ◌<◌, ◌≤◌, ◌≡◌, Bool, false, List, length, map, take, get_or, refl, sym, ◌∙◌, ap, zero-add, arith}
use Rattle.std.specs.Prelude.{◌==◌}
use Rattle.std.specs.Int.{w8, bit_at, bit_not}
use Rattle.std.specs.List.{range_with_len}
use Rattle.std.proofs.lemmas.List.{get_or-map, get_or-take, length-take-le}
use Rattle.std.proofs.lemmas.Nat.{mod_below}
use Rattle.std.proofs.lemmas.Nat.Bits.{bit_at_not, bit_at-lt}
use Rattle.vx_base.specs.Bits.{bit_of, unpacked, bool_at}
use Rattle.vx_base.specs.Bytes.{AreBytes}
use Rattle.vx_base.proofs.ListParts.{map_range_same}
use Rattle.vx_base.proofs.PackedBits.{get_unpacked, length_unpacked}
use Rattle.vx_tree.specs.Validities.{opposite}

-- the other of two bits
other_bit : (n : ℕ) → n < 2 → (1 - n == 1) ≡ opposite (n == 1)
other_bit zero small = refl
other_bit (suc zero) small = refl
other_bit (suc (suc n)) small = absurd (omega arith)

bit_turned : (b i : ℕ) → b < 256 → i < 8 → (bit_at (bit_not w8 b) i == 1) ≡ opposite (bit_at b i == 1)
bit_turned b i byte within = ap (λ (n : ℕ). n == 1) (bit_at_not w8 b i byte within) ∙ other_bit (bit_at b i) (bit_at-lt b i)

-- bit k of bytes that are turned
bit_of-turned : (bs : List ℕ) (k : ℕ) → AreBytes bs → k / 8 < length bs → bit_of (map (bit_not w8) bs) k ≡ opposite (bit_of bs k)
bit_of-turned bs k bytes within =
    ap (λ (b : ℕ). bit_at b (k % 8) == 1) (get_or-map (bit_not w8) bs (k / 8) 0 0 within) ∙ bit_turned (get_or bs (k / 8) 0) (k % 8) (bytes (k / 8)) (mod_below k 8 (omega arith))

-- the booleans that bytes hold, turned with the bytes that have them
pub unpacked_turned : (bs cs ts : List ℕ) (xs : List Bool) (from len n : ℕ) → xs ≡ unpacked bs from len → from + len ≤ 8 * n → n ≤ length bs → cs ≡ take n bs → AreBytes cs → ts ≡ map (bit_not w8) cs
    → unpacked ts from len ≡ map (λ i. opposite (bool_at xs i)) (range_with_len 0 (length xs))
unfolding unpacked
unpacked_turned bs cs ts xs from len n held room short cut bytes turned =
    map_range_same (bit_of ts) (λ i. opposite (bool_at xs i)) from 0 len each ∙ ap (λ m. map (λ i. opposite (bool_at xs i)) (range_with_len 0 m)) (sym (ap length held ∙ length_unpacked bs from len))
  where
    long : length cs ≡ n
    long = ap length cut ∙ length-take-le n bs short

    each : (j : ℕ) → j < len → bit_of ts (from + j) ≡ opposite (bool_at xs (0 + j))
    each j l =
        let k = from + j in
        let inside : k / 8 < n = omega arith in
        let same : bit_of cs k ≡ bit_of bs k = ap (λ ys. bit_of ys k) cut ∙ ap (λ (b : ℕ). bit_at b (k % 8) == 1) (get_or-take n bs (k / 8) 0 inside) in
        let read : bool_at xs j ≡ bit_of bs k = ap (λ ys. bool_at ys j) held ∙ get_unpacked bs from len j false l in
        ap (λ ys. bit_of ys k) turned ∙ bit_of-turned cs k bytes (rw long inside) ∙ ap opposite (same ∙ sym read ∙ ap (bool_at xs) (sym (zero-add j)))
