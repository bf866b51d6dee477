-- Two runs of bits that are the same, a byte at a time.
use Rattle.std.proofs.Common.{ℕ, ◌+◌, ◌-◌, ◌*◌, ◌<◌, ◌≤◌, ◌≡◌, Bool, true, false, List, [], ◌∷◌, length, take, drop, refl, sym, ◌∙◌, ap, arith}
use Rattle.std.proofs.Math.Seq.{take-add}
use Rattle.std.proofs.lemmas.List.{drop-take, take-take, length-take-le, length-drop}
use lib.Lanes.{mask_l}
use Rattle.vx_base.specs.Bits.{byte_from, unpacked}
use Rattle.vx_base.proofs.PackedBits.{unpacked_part}

-- the byte from a place on, by the run that has its bits
pub byte_of_part : (bs : List ℕ) (from len n : ℕ) → n + 8 ≤ len → byte_from bs (from + n) ≡ mask_l (take 8 (drop n (unpacked bs from len)))
byte_of_part bs from len n h =
    let eight : n + 8 - n ≡ 8 = omega arith in
    let part = unpacked_part bs bs from len (from + n) n (n + 8) (omega arith) h (λ j l. refl) in
    ap mask_l (rw eight at part)

-- a byte that is read, by the bits that are seen there
pub byte_seen : (bits : List Bool) (bs source : List ℕ) (from len n byte : ℕ) → unpacked bs from len ≡ bits → source ≡ bs → n + 8 ≤ len → byte ≡ byte_from source (from + n) → byte ≡ mask_l (take 8 (drop n bits))
byte_seen bits bs source from len n byte seen same h e =
    e ∙ ap (λ (xs : List ℕ). byte_from xs (from + n)) same ∙ byte_of_part bs from len n h ∙ ap (λ (xs : List Bool). mask_l (take 8 (drop n xs))) seen

-- bits that make the same number are the same
same_from_mask : (xs ys : List Bool) → length xs ≡ length ys → mask_l xs ≡ mask_l ys → xs ≡ ys
same_from_mask [] [] e h = refl
same_from_mask [] (y ∷ ys) e h = absurd (omega arith)
same_from_mask (x ∷ xs) [] e h = absurd (omega arith)
same_from_mask (true ∷ xs) (true ∷ ys) e h = ap (λ (zs : List Bool). true ∷ zs) (same_from_mask xs ys (omega arith) (omega arith))
same_from_mask (false ∷ xs) (false ∷ ys) e h = ap (λ (zs : List Bool). false ∷ zs) (same_from_mask xs ys (omega arith) (omega arith))
same_from_mask (true ∷ xs) (false ∷ ys) e h = absurd (omega arith)
same_from_mask (false ∷ xs) (true ∷ ys) e h = absurd (omega arith)

-- one byte more is the same
pub same_more : (xs ys : List Bool) (j : ℕ) → 8 * j + 8 ≤ length xs → 8 * j + 8 ≤ length ys → take (8 * j) xs ≡ take (8 * j) ys → mask_l (take 8 (drop (8 * j) xs)) ≡ mask_l (take 8 (drop (8 * j) ys))
    → take (8 * (j + 1)) xs ≡ take (8 * (j + 1)) ys
same_more xs ys j left right before byte =
    let next : 8 * (j + 1) ≡ 8 * j + 8 = omega arith in
    let long : length (take 8 (drop (8 * j) xs)) ≡ 8 = length-take-le 8 (drop (8 * j) xs) (omega (arith, length-drop (8 * j) xs)) in
    let wide : length (take 8 (drop (8 * j) ys)) ≡ 8 = length-take-le 8 (drop (8 * j) ys) (omega (arith, length-drop (8 * j) ys)) in
    let here : take 8 (drop (8 * j) xs) ≡ take 8 (drop (8 * j) ys) = same_from_mask _ _ (long ∙ sym wide) byte in
    rw (next, take-add (8 * j) 8 xs, take-add (8 * j) 8 ys, before, here) refl

-- a byte of a run, by a front of the run
byte_of_front : (xs : List Bool) (j whole : ℕ) → j < whole → take 8 (drop (8 * j) (take (8 * whole) xs)) ≡ take 8 (drop (8 * j) xs)
byte_of_front xs j whole h =
    let size : 8 * whole ≡ 8 * j + (8 * whole - 8 * j) = omega arith in
    let enough : 8 ≤ 8 * whole - 8 * j = omega arith in
    ap (λ (n : ℕ). take 8 (drop (8 * j) (take n xs))) size
    ∙ ap (take 8) (drop-take (8 * j) (8 * whole - 8 * j) xs)
    ∙ take-take 8 (8 * whole - 8 * j) (drop (8 * j) xs) enough

-- each byte of two runs whose fronts are the same
pub same_byte : (xs ys : List Bool) (j whole : ℕ) → j < whole → take (8 * whole) xs ≡ take (8 * whole) ys → mask_l (take 8 (drop (8 * j) xs)) ≡ mask_l (take 8 (drop (8 * j) ys))
same_byte xs ys j whole h e =
    ap mask_l (sym (byte_of_front xs j whole h) ∙ ap (λ (zs : List Bool). take 8 (drop (8 * j) zs)) e ∙ byte_of_front ys j whole h)
