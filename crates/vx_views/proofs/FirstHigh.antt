-- The first byte of 128 or more, by a comparison of 16 at once.
use Rattle.std.proofs.Common.{◌≡◌, ℕ, zero, suc, ◌+◌, ◌^◌, ◌%◌, ◌<◌, ◌≤◌, cond, not, Bool, List, [], ◌∷◌, length, get_or, take, replicate, refl, sym, ◌∙◌, ap, arith}
use lib.Count.{count_trailing_zeros}
use lib.Dec.{leb}
use lib.Lanes.{mask_l, top, zip2}
use mathlib.Core.List.{map}
use mir.Syntax.{w8}
use Rattle.std.specs.List.{prefix_len}
use Rattle.std.proofs.lemmas.Bool.{leb-true, leb-false}
use Rattle.std.proofs.lemmas.List.{length-map, take_all}
use Rattle.std.proofs.lemmas.Simd.{tops_compared, mask_l-mod, leading_from_mask_l, trailing_mask_l, run_in_chunk_le, run_in_chunk_fails, run_in_chunk_stops}

abbrev at_least : ℕ → ℕ → ℕ
at_least a b = cond (leb a b) 255 0

zip2-replicate : (f : ℕ → ℕ → Bool) (n y : ℕ) (xs : List ℕ) → length xs ≡ n → zip2 f (replicate n y) xs ≡ map (f y) xs
zip2-replicate f zero y [] e = refl
zip2-replicate f zero y (x ∷ xs) e = absurd (omega arith)
zip2-replicate f (suc n) y [] e = absurd (omega arith)
zip2-replicate f (suc n) y (x ∷ xs) e = ap (λ (rest : List Bool). f y x ∷ rest) (zip2-replicate f n y xs (omega arith))

-- the bits of the comparison, as the compiler makes them
abbrev pub high_bits : List ℕ → ℕ
high_bits bytes = mask_l (map (top 7) (zip2 at_least (replicate 16 128) bytes)) % 2 ^ 64

high_bits_are : (bytes : List ℕ) → length bytes ≡ 16 → high_bits bytes ≡ mask_l (map (leb 128) bytes)
high_bits_are bytes e =
    ap (λ (ms : List Bool). mask_l ms % 2 ^ 64) (tops_compared w8 leb (replicate 16 128) bytes ∙ zip2-replicate leb 16 128 bytes e)
    ∙ mask_l-mod (map (leb 128) bytes) 64 (omega (arith, length-map bytes (leb 128)))

-- so many bytes stand before the first of 128 or more
pub record IsFirstHigh (bytes : List ℕ) (n : ℕ) : Type 0 where
  pub within : n ≤ 16
  pub before : (i : ℕ) → i < n → get_or bytes i 0 < 128
  pub stop : n < 16 → 128 ≤ get_or bytes n 0

first_high : (bytes : List ℕ) (n : ℕ) → length bytes ≡ 16 → n ≡ prefix_len (λ x. not (leb 128 x)) bytes → IsFirstHigh bytes n
first_high bytes n e is =
    let p : ℕ → Bool = leb 128 in
    let room : 0 + 16 ≤ length bytes = omega arith in
    let counted : n ≡ prefix_len (λ x. not (leb 128 x)) (take 16 bytes) = is ∙ ap (prefix_len (λ x. not (leb 128 x))) (sym (take_all 16 bytes (omega arith))) in
    record {
      within = run_in_chunk_le p bytes 0 16 n 0 room counted;
      before = λ i l. leb-false 128 (get_or bytes i 0) (run_in_chunk_fails p bytes 0 16 n 0 room counted i (omega arith) (omega arith));
      stop = λ l. (let here : 0 + n ≡ n = omega arith in leb-true 128 (get_or bytes n 0) (rw here at (run_in_chunk_stops p bytes 0 16 n 0 room counted l)));
    }

pub none_high : (bytes : List ℕ) → length bytes ≡ 16 → high_bits bytes ≡ 0 → IsFirstHigh bytes 16
none_high bytes e clear = first_high bytes 16 e (sym (leading_from_mask_l (leb 128) bytes (sym (high_bits_are bytes e) ∙ clear) ∙ e))

pub lowest_high : (bytes : List ℕ) → length bytes ≡ 16 → 0 < high_bits bytes → IsFirstHigh bytes (count_trailing_zeros 64 (high_bits bytes))
lowest_high bytes e some =
    first_high bytes (count_trailing_zeros 64 (high_bits bytes)) e
    (ap (count_trailing_zeros 64) (high_bits_are bytes e) ∙ trailing_mask_l (leb 128) 64 bytes (omega arith) (rw (high_bits_are bytes e) at some))
