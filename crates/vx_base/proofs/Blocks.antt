-- What is picked a block at a time.
use Rattle.std.proofs.Common.{ℕ, ◌*◌, ◌+◌, ◌-◌, ◌≤◌, ◌≡◌, inl, inr, List, ◌++◌, length, take, drop, map, min, sym, ◌∙◌, ap, arith}
use Rattle.std.proofs.lemmas.Bool.{cases_lt}
use Rattle.std.proofs.lemmas.Grind.{flat_map-append}
use Rattle.std.proofs.lemmas.List.{append_assoc, drop-take, length-append, length-take-le, map-append, take-append-drop, take-take, take_all}
use Rattle.std.proofs.lemmas.List.Folds.{flat_map-map}
use Rattle.std.specs.List.{flat_map}
use Rattle.std.specs.Prelude.{ℤ, slice_range}
use Rattle.vx_base.proofs.Gathered.{numbers_append}
use Rattle.vx_base.specs.Integers.{byte_width, numbers}
use Rattle.vx_base.specs.declared.ptypes.PType.{PType}
use Rattle.vx_base.specs.declared.ptypes.PType.TheVariants.{U8, U16, U32, U64, I8, I16, I32, I64}

-- the front of a list, and the next n
pub take_next : {X : Type 0} (xs : List X) (start n : ℕ) → take start xs ++ take n (drop start xs) ≡ take (start + n) xs
take_next xs start n =
    let front : take start (take (start + n) xs) ≡ take start xs = take-take start (start + n) xs (omega arith) in
    rw (front, drop-take start n xs) at (take-append-drop start (take (start + n) xs))

-- the pieces of the next n of them, end to end
pub next_pieces : {X Y : Type 0} (f : X → List Y) (old : List Y) (xs : List X) (start n to : ℕ) (before after flat : List Y) (block : List (List Y)) → take (start + n) xs ≡ take to xs
    → before ≡ old ++ flat_map f (take start xs) → block ≡ map f (slice_range xs start (start + n)) → flat ≡ flat_map (λ ys. ys) block → after ≡ before ++ flat → after ≡ old ++ flat_map f (take to xs)
next_pieces f old xs start n to before after flat block end was read filled appended =
    let size : start + n - start ≡ n = omega arith in
    let part : slice_range xs start (start + n) ≡ take n (drop start xs) = ap (λ m. take m (drop start xs)) size in
    let pieces : flat ≡ flat_map f (take n (drop start xs)) = filled ∙ ap (flat_map (λ ys. ys)) (read ∙ ap (map f) part) ∙ flat_map-map (λ ys. ys) f (take n (drop start xs)) in
    let joined : flat_map f (take start xs) ++ flat_map f (take n (drop start xs)) ≡ flat_map f (take to xs) =
    sym (flat_map-append f (take start xs) (take n (drop start xs))) ∙ ap (flat_map f) (take_next xs start n ∙ end) in
    appended ∙ ap (λ ys. ys ++ flat) was ∙ append_assoc old (flat_map f (take start xs)) flat
    ∙ ap (λ ys. old ++ (flat_map f (take start xs) ++ ys)) pieces ∙ ap (λ ys. old ++ ys) joined

-- a block that ends with the list ends where a whole one would
pub end_of_block : {X : Type 0} (xs : List X) (start n size count : ℕ) → length xs ≤ count → n ≡ min size (count - start) → take (start + n) xs ≡ take (start + size) xs
end_of_block xs start n size count all least = elim (cases_lt (count - start) size) [
  | inl short ↦ take_all (start + n) xs (omega (arith, least, short, all)) ∙ sym (take_all (start + size) xs (omega (arith, short, all)))
  | inr whole ↦ ap (λ m. take (start + m) xs) (omega (arith, least, whole))
]

-- ---- numbers that are written a block at a time

-- a block has room for its numbers
pub block_room : (t : PType) (n : ℕ) → n ≤ 128 → n * byte_width t ≤ 1024
block_room U8 n h = omega arith
block_room U16 n h = omega arith
block_room U32 n h = omega arith
block_room U64 n h = omega arith
block_room I8 n h = omega arith
block_room I16 n h = omega arith
block_room I32 n h = omega arith
block_room I64 n h = omega arith

-- the bytes of the next n numbers
pub next_numbers : {X : Type 0} (t : PType) (value : X → ℤ) (xs : List X) (start n to : ℕ) (before after block : List ℕ) → take (start + n) xs ≡ take to xs → start + n ≤ length xs
    → numbers t before ≡ map value (take start xs) → length before ≡ length (take start xs) * byte_width t → numbers t block ≡ map value (slice_range xs start (start + n)) → length block ≡ n * byte_width t
    → after ≡ before ++ block → (numbers t after ≡ map value (take to xs)) × (length after ≡ length (take to xs) * byte_width t)
next_numbers t value xs start n to before after block end within was long read more appended =
    let size : start + n - start ≡ n = omega arith in
    let part : slice_range xs start (start + n) ≡ take n (drop start xs) = ap (λ m. take m (drop start xs)) size in
    let front : length (take start xs) ≡ start = length-take-le start xs (omega arith) in
    let so_far : length before ≡ start * byte_width t = long ∙ ap (λ m. m * byte_width t) front in
    let all : length (take to xs) ≡ start + n = ap length (sym end) ∙ length-take-le (start + n) xs within in
    let joined : length (before ++ block) ≡ (start + n) * byte_width t = omega (arith, length-append before block) in (
      ap (numbers t) appended ∙ numbers_append t before block start n so_far more ∙ ap (λ zs. zs ++ numbers t block) was
          ∙ ap (λ zs. map value (take start xs) ++ zs) (read ∙ ap (map value) part) ∙ sym (map-append value (take start xs) (take n (drop start xs)))
          ∙ ap (map value) (take_next xs start n ∙ end),
      ap length appended ∙ joined ∙ ap (λ m. m * byte_width t) (sym all),
    )
