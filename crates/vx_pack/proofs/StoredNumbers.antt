-- Numbers that layouts hold with bits that tell which are there, as the bytes of the numbers of rows.
use Rattle.std.proofs.Common.{◌≡◌, ◌∙◌, ◌+◌, ◌-◌, ◌*◌, ◌/◌, ◌<◌, ◌≤◌, ◌^◌, ℕ, suc, Bool, true, false, List, [], ◌∷◌, ◌++◌, length, map, drop, refl, sym, ap, subst, arith, zero-add}
use Rattle.std.specs.Prelude.{ℤ, pos, replicate, slice_range, if◌then◌else◌}
use Rattle.std.specs.List.{flat_map, range_with_len}
use Rattle.std.proofs.Math.Nat.{div-mul-le_self, mul-le-mul_right}
use Rattle.std.proofs.lemmas.List.{flat_map_more, map-id}
use Rattle.std.proofs.lemmas.List.FromFn.{map-range_with_len_more}
use Rattle.std.proofs.lemmas.List.Folds.{flat_map-map}
use Rattle.vx_base.proofs.ListParts.{length_part, map_range_same}
use Rattle.vx_base.proofs.NumberBytes.{bytes_of-number_of}
use Rattle.vx_base.proofs.NumberLists.{length_numbers, number_read, number_room, numbers_part, numbers_room, whole as whole_numbers}
use Rattle.vx_base.specs.Bits.{bool_at}
use Rattle.vx_base.specs.Bytes.{AreBytes}
use Rattle.vx_base.specs.Integers.{byte_width, bytes_of, number_nth, number_of, numbers}
use Rattle.vx_base.specs.Kinds.{integer_type}
use Rattle.vx_base.specs.Rows.{Row, null, whole, is_present}
use Rattle.vx_base.specs.declared.ptypes.PType.{PType}
use Rattle.vx_base.specs.declared.ptypes.PType.TheVariants.{U8, U16, U32, U64, I8, I16, I32, I64}
use Rattle.vx_views.proofs.Padding.{bytes-drop, bytes-take}
use Rattle.vx_tree.specs.Meaning.{is_valid_at, kind_of, row_at, tree_len}
use Rattle.vx_tree.specs.Tree.{Tree, Valid, primitive}
use Rattle.vx_pack.proofs.PresentRows.{valid_where_present}
use Rattle.vx_pack.proofs.SameBytes.{nth_part}
use Rattle.vx_pack.specs.Packed.{number_or_zero}
use Rattle.vx_pack.specs.StoredBits.{TellsRows}
use Rattle.vx_pack.specs.StoredNumbers.{AreStoredNumbers, stored_bytes, stored_count}
use Rattle.vx_pack.specs.declared.stored_numbers.StoredNumbers.{StoredNumbers}

-- ---- one number

zero_bytes : (t : PType) → bytes_of t (pos 0) ≡ replicate (byte_width t) 0
zero_bytes U8 = refl
zero_bytes U16 = refl
zero_bytes U32 = refl
zero_bytes U64 = refl
zero_bytes I8 = refl
zero_bytes I16 = refl
zero_bytes I32 = refl
zero_bytes I64 = refl

bytes_part : (bs : List ℕ) (from to : ℕ) → AreBytes bs → AreBytes (slice_range bs from to)
bytes_part bs from to good = bytes-take (to - from) (drop from bs) (bytes-drop from bs good)

pub number_bytes_at : (t : PType) (bs : List ℕ) (i : ℕ) → AreBytes bs → i < length bs / byte_width t
    → slice_range bs (i * byte_width t) (i * byte_width t + byte_width t) ≡ bytes_of t (number_nth (numbers t bs) i)
number_bytes_at t bs i good inside =
    let w = byte_width t in
    let part = slice_range bs (i * w) (i * w + w) in
    let below : i < length (numbers t bs) = omega (arith, length_numbers t bs) in
    let room = number_room t bs i below in
    let size : i * w + w - i * w ≡ w = omega arith in
    let long : length part ≡ w = length_part bs (i * w) (i * w + w) (omega arith) room ∙ size in
    sym (bytes_of-number_of t part long (bytes_part bs (i * w) (i * w + w) good))
    ∙ ap (bytes_of t) (number_read t bs i (number_of t part) below refl)

kept : (t : PType) (b : Bool) (z : ℤ) (bs : List ℕ) → bs ≡ bytes_of t z
    → (if b then bs else replicate (byte_width t) 0) ≡ bytes_of t (number_or_zero (if b then whole z else null))
kept t true z bs same = same
kept t false z bs same = sym (zero_bytes t)

-- ---- all of them

pub flat_map_range : {X : Type 0} (f g : ℕ → List X) (n : ℕ) → ((i : ℕ) → i < n → f i ≡ g i)
    → flat_map f (range_with_len 0 n) ≡ flat_map g (range_with_len 0 n)
flat_map_range {X} f g n each =
    sym (flat_map-map (λ (xs : List X). xs) f (range_with_len 0 n))
    ∙ ap (flat_map (λ xs. xs)) (map_range_same f g 0 0 n (λ j l. each (0 + j) (omega arith)))
    ∙ flat_map-map (λ (xs : List X). xs) g (range_with_len 0 n)

pub stored_numbers_of : (t u : PType) (a : Tree) (bs : List ℕ) (v : Valid) (start n : ℕ) (s : StoredNumbers) (row : ℕ → Row)
    → a ≡ primitive t bs v → integer_type (kind_of a) ≡ u → AreBytes bs → start + n ≤ tree_len a → tree_len a < 2 ^ 64
    → TellsRows is_present a s.valid.now.bits → s.start ≡ start
    → s.bytes.now ≡ slice_range bs (start * byte_width u) ((start + n) * byte_width u) → ((i : ℕ) → row i ≡ row_at a (start + i))
    → AreStoredNumbers u (map number_or_zero (map row (range_with_len 0 n))) s
stored_numbers_of t u a bs v start n s row same type good within small told begins cut rows =
    let w = byte_width u in
    let types : t ≡ u = rw same at type in
    let part = s.bytes.now in
    let room : (start + n) * w ≤ length bs = rw types at (numbers_room t bs (start + n) (rw same at within)) in
    let scaled : start * w ≤ (start + n) * w = mul-le-mul_right w (omega arith) in
    let size : (start + n) * w - start * w ≡ n * w = omega arith in
    let long : length part ≡ n * w = ap length cut ∙ length_part bs (start * w) ((start + n) * w) scaled room ∙ size in
    let count : stored_count w s ≡ n = ap (λ m. m / w) long ∙ whole_numbers u n in
    let good_part : AreBytes part = subst AreBytes (sym cut) (bytes_part bs (start * w) ((start + n) * w) good) in
    let number : (i : ℕ) → i < n → number_nth (numbers u part) i ≡ number_nth (numbers u bs) (start + i) =
    λ i l. ap (λ xs. number_nth (numbers u xs) i) cut ∙ ap (λ zs. number_nth zs i) (numbers_part u bs start n room)
    ∙ nth_part (numbers u bs) start n i l in
    let here : (i : ℕ) → row i ≡ (if is_valid_at v (start + i) then whole (number_nth (numbers u bs) (start + i)) else null) =
    λ i. rows i ∙ ap (λ (x : Tree). row_at x (start + i)) same
    ∙ ap (λ x. if is_valid_at v (start + i) then whole (number_nth (numbers x bs) (start + i)) else null) types in
    let bit : (i : ℕ) → bool_at s.valid.now.bits (s.start + i) ≡ is_valid_at v (start + i) =
    λ i. ap (λ m. bool_at s.valid.now.bits (m + i)) begins ∙ sym (told.rows (start + i)) ∙ ap is_present (sym (rows i) ∙ here i)
    ∙ valid_where_present (is_valid_at v (start + i)) (whole (number_nth (numbers u bs) (start + i))) refl in
    let each : (i : ℕ) → i < n → stored_bytes w s i ≡ bytes_of u (number_or_zero (row i)) =
    λ i l. ap (λ b. if b then slice_range part (i * w) (i * w + w) else replicate w 0) (bit i)
    ∙ kept u (is_valid_at v (start + i)) (number_nth (numbers u bs) (start + i)) (slice_range part (i * w) (i * w + w))
    (number_bytes_at u part i good_part (omega (arith, count)) ∙ ap (bytes_of u) (number i l))
    ∙ sym (ap (λ r. bytes_of u (number_or_zero r)) (here i)) in
    record {
      bits = (omega (arith, count, told.len, within, begins), omega (arith, count, within, small, begins));
      bytes =
          ap (λ m. flat_map (stored_bytes w s) (range_with_len 0 m)) count
          ∙ flat_map_range (stored_bytes w s) (λ i. bytes_of u (number_or_zero (row i))) n each
          ∙ sym (flat_map-map (bytes_of u) number_or_zero (map row (range_with_len 0 n))
          ∙ flat_map-map (λ r. bytes_of u (number_or_zero r)) row (range_with_len 0 n));
    }

-- ---- one after another

-- a number lies within the bytes
pub stored_within : (width n i : ℕ) → 0 < width → i < n / width → i * width + width ≤ n
stored_within width n i some inside =
    let scaled : suc i * width ≤ n / width * width = mul-le-mul_right width (omega arith) in
    omega (arith, scaled, div-mul-le_self n width)

range_more : (i : ℕ) → range_with_len 0 (i + 1) ≡ range_with_len 0 i ++ i ∷ []
range_more i =
    sym (map-id (range_with_len 0 (i + 1))) ∙ map-range_with_len_more (λ (k : ℕ). k) 0 i i (zero-add i)
    ∙ ap (λ ks. ks ++ i ∷ []) (map-id (range_with_len 0 i))

-- one number more
pub bytes_more : (f : ℕ → List ℕ) (i : ℕ) (start xs ys : List ℕ) → xs ≡ start ++ flat_map f (range_with_len 0 i) → ys ≡ xs ++ f i
    → ys ≡ start ++ flat_map f (range_with_len 0 (i + 1))
bytes_more f i start xs ys before more =
    more ∙ ap (λ zs. zs ++ f i) before ∙ flat_map_more f start (range_with_len 0 i) i
    ∙ ap (λ ks. start ++ flat_map f ks) (sym (range_more i))
