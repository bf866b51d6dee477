-- Values that their first and their last n bytes cover: whether they are ASCII, and how they fill the front of a block.
use Rattle.std.proofs.Common.{◌≡◌, ℕ, zero, suc, ◌+◌, ◌-◌, ◌*◌, ◌^◌, ◌%◌, ◌<◌, ◌≤◌, Bool, true, false, cond, nat_eq, IsTrue, IsUtf8, List, [], ◌∷◌, ◌++◌, length, get_or, take, drop, map, replicate, bit_or, refl, inl, inr, sym, ap, ◌∙◌, arith, append_assoc, take-append-drop, length-drop, leb, leb-false, eqb-true}
use Rattle.std.specs.Str.{IsAscii}
use Rattle.std.proofs.lemmas.Bool.{cases_lt}
use Rattle.std.proofs.lemmas.List.{length-map, get_or_past, take-append-le, drop-append-le, take-take, take_all, drop_all, drop-drop, drop-replicate, length-take-le, length-replicate, replicate-append-replicate}
use Rattle.std.proofs.lemmas.Nat.{le_or_l, le_or_r}
use Rattle.std.proofs.lemmas.Simd.{length-zip2, length-chunk, get_or-chunk, mask_l-mod}
use Rattle.std.proofs.lemmas.Str.{IsUtf8-from_ascii}
use lib.Lanes.{mask_l, top, zip2, chunk}

abbrev at_least : ℕ → ℕ → ℕ
at_least a b = cond (leb a b) 255 0

-- a bit for each byte of 128 or more
abbrev bits_of : ℕ → List ℕ → ℕ
bits_of n xs = mask_l (map (top 7) (zip2 at_least (replicate n 128) xs))

none_high : (xs : List ℕ) → bits_of (length xs) xs ≡ 0 → (i : ℕ) → get_or xs i 0 < 128
none_high [] e i = omega arith
none_high (x ∷ xs) e zero = go (leb 128 x) refl (omega arith)
  where
    go : (t : Bool) → leb 128 x ≡ t → ◌≡◌ {A = ℕ} (cond (top 7 (cond t 255 0)) 1 0) 0 → x < 128
    go true p q = absurd (omega arith)
    go false p q = leb-false _ _ p
none_high (x ∷ xs) e (suc i) = none_high xs (omega arith) i

-- the same bits, as the compiler makes them
abbrev pub high_bits : ℕ → List ℕ → ℕ
high_bits n xs = bits_of n xs % 2 ^ 64

low_bytes : (n : ℕ) (xs : List ℕ) → length xs ≡ n → n ≤ 64 → high_bits n xs ≡ 0 → (i : ℕ) → get_or xs i 0 < 128
low_bytes n xs long few e =
    none_high xs
    (ap (λ k. bits_of k xs) long
    ∙ sym (mask_l-mod (map (top 7) (zip2 at_least (replicate n 128) xs)) 64 (omega (arith, length-map (zip2 at_least (replicate n 128) xs) (top 7), length-zip2 at_least (replicate n 128) xs (length-replicate {A = ℕ} n 128 ∙ sym long), length-replicate {A = ℕ} n 128))) ∙ e)

module _ (bs : List ℕ) (n : ℕ) (least : n ≤ length bs) (most : length bs ≤ 2 * n) (few : n ≤ 64) where
  abbrev from : ℕ
  from = length bs - n

  low_at : (at : ℕ) → at + n ≤ length bs → high_bits n (chunk at n bs) ≡ 0 → (i : ℕ) → at ≤ i → i < at + n → get_or bs i 0 < 128
  low_at at within clear i first last =
      let same : at + (i - at) ≡ i = omega arith in
      omega (arith, low_bytes n (chunk at n bs) (length-chunk at n bs within) few clear (i - at), rw same at (get_or-chunk at n bs (i - at) 0 (omega arith)))

  low_ends : high_bits n (chunk 0 n bs) ≡ 0 → high_bits n (chunk from n bs) ≡ 0 → IsAscii bs
  low_ends front back i =
      elim (cases_lt i n) [
        | inl before ↦ low_at 0 (omega arith) front i (omega arith) (omega arith)
        | inr after ↦ elim (cases_lt i (length bs)) [
          | inl inside ↦ low_at from (omega arith) back i (omega arith) (omega arith)
          | inr past ↦ omega (arith, get_or_past bs i 0 past)
        ]
      ]

  -- no bit of either end is set
  pub text_by_ends : IsTrue (nat_eq (bit_or (high_bits n (chunk 0 n bs)) (high_bits n (chunk from n bs))) 0) → IsUtf8 bs
  text_by_ends told =
      let clear = eqb-true _ _ told in
      let front = high_bits n (chunk 0 n bs) in
      let back = high_bits n (chunk from n bs) in
      IsUtf8-from_ascii bs (low_ends (omega (arith, clear, le_or_l front back)) (omega (arith, clear, le_or_r front back)))

-- a value whose first h bytes and whose last ones were put in front of zeroes, w bytes in all, and these in front of a block's
module _ (bs : List ℕ) (h w : ℕ) (least : h ≤ length bs) (most : length bs ≤ 2 * h) (within : length bs ≤ w) (few : w ≤ 64) where
  abbrev p : ℕ
  p = length bs - h

  abbrev q : ℕ
  q = length bs - p

  -- the first bytes, and zeroes
  abbrev begun : List ℕ
  begun = take h bs ++ drop h (replicate w 0)

  begun_front : take p begun ≡ take p bs
  begun_front = take-append-le p (take h bs) (drop h (replicate w 0)) (omega (arith, length-take-le h bs least)) ∙ take-take p h bs (omega arith)

  begun_rest : drop q (drop p begun) ≡ replicate (w - length bs) 0
  begun_rest =
      let zeroes : List ℕ = drop h (replicate w 0) in
      let at_h : drop h begun ≡ zeroes =
      drop-append-le h (take h bs) zeroes (omega (arith, length-take-le h bs least)) ∙ ap (λ (xs : List ℕ). xs ++ zeroes) (drop_all h (take h bs) (omega (arith, length-take-le h bs least))) in
      let places : p + q ≡ h + p = omega arith in
      drop-drop q p begun ∙ ap (λ n. drop n begun) places ∙ sym (drop-drop p h begun) ∙ ap (drop p) at_h ∙ drop-drop p h (replicate w 0)
      ∙ drop-replicate (h + p) w 0 ∙ ap (λ n. replicate n 0) (omega arith)

  pub filled_block : take p begun ++ (take q (drop p bs) ++ drop q (drop p begun)) ++ drop w (replicate 64 0) ≡ bs ++ replicate (64 - length bs) 0
  filled_block =
      let front : List ℕ = take p bs in
      let back : List ℕ = drop p bs in
      let pad : List ℕ = replicate (w - length bs) 0 in
      let more : List ℕ = replicate (64 - w) 0 in
      let joined : front ++ (back ++ pad) ≡ bs ++ pad = sym (append_assoc front back pad) ∙ ap (λ (xs : List ℕ). xs ++ pad) (take-append-drop p bs) in
      let zeroes : pad ++ more ≡ replicate (64 - length bs) 0 = replicate-append-replicate (w - length bs) (64 - w) 0 ∙ ap (λ n. replicate n 0) (omega arith) in
      rw (begun_front, begun_rest, take_all q back (omega (arith, length-drop p bs)), drop-replicate {X = ℕ} w 64 0)
      (ap (λ (xs : List ℕ). xs ++ more) joined ∙ append_assoc bs pad more ∙ ap (λ (xs : List ℕ). bs ++ xs) zeroes)
