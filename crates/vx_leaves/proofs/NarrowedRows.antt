-- Numbers under a mask, one after another, and the array of the narrowed ones.
use Rattle.std.proofs.Common.{ℕ, ◌+◌, ◌-◌, ◌*◌, ◌<◌, ◌≤◌, ◌≡◌, zero, suc, Bool, true, false, cond, List, [], ◌∷◌, ◌++◌, length, take, map, replicate, refl, sym, ◌∙◌, ap, subst, append-nil, append_assoc, arith}
use Rattle.std.specs.Prelude.{ℤ, pos, count_by}
use Rattle.std.specs.List.{All, range_with_len}
use Rattle.std.proofs.lemmas.List.{take_more, take_all, length-take-le}
use Rattle.std.proofs.lemmas.List.Elements.{All-nil, All-cons}
use Rattle.std.proofs.lemmas.List.FromFn.{map-range_with_len_more}
use Rattle.vx_base.specs.declared.ptypes.PType.{PType}
use Rattle.vx_base.specs.Bits.{bool_at}
use Rattle.vx_base.specs.Integers.{byte_width, number_nth, numbers, Holds}
use Rattle.vx_base.specs.Kinds.{integers, Fits}
use Rattle.vx_base.specs.Rows.{Row, null, boolean, whole, bytes, text, items, record_of}
use Rattle.std.proofs.Math.Nat.{mul-le-mul_right}
use Rattle.vx_base.proofs.NumberLists.{numbers_room}
use Rattle.vx_base.proofs.MaskCounts.{count-false}
use Rattle.vx_base.proofs.Zeroes.{holds-zero}
use Rattle.vx_tree.specs.Tree.{Tree, primitive, Valid}
use Rattle.vx_tree.specs.Meaning.{tree_len, kind_of, row_at, rows, valid_mask, nullable}
use Rattle.vx_tree.specs.Operations.{masked}
use Rattle.vx_tree.proofs.RowLists.{length-valid_mask}
use Rattle.vx_leaves.specs.Leaves.{type_in, validity_of, numbers_in}
use Rattle.vx_leaves.specs.Narrow.{numbers_among, valid_numbers, kept, zeroed, narrowed_type, IsLeastWidth, IsNarrowed}
use Rattle.vx_leaves.proofs.MaskedRows.{IsPrimitive-masked}
use Rattle.vx_leaves.proofs.NarrowedTypes.{narrowed_held, narrowed_least, narrowed_width}

-- ---- one row more

kept_push : (mask : List Bool) (zs : List ℤ) (b : Bool) (z : ℤ) → length mask ≡ length zs → kept (mask ++ b ∷ []) (zs ++ z ∷ []) ≡ kept mask zs ++ cond b (z ∷ []) []
kept_push [] [] true z e = refl
kept_push [] [] false z e = refl
kept_push [] (y ∷ zs) b z e = absurd (omega arith)
kept_push (c ∷ mask) [] b z e = absurd (omega arith)
kept_push (true ∷ mask) (y ∷ zs) b z e = ap (λ ys. y ∷ ys) (kept_push mask zs b z (omega arith))
kept_push (false ∷ mask) (y ∷ zs) b z e = kept_push mask zs b z (omega arith)

pub kept_more : (mask : List Bool) (zs : List ℤ) (i : ℕ) → length mask ≡ length zs → i < length mask
    → kept (take (i + 1) mask) (take (i + 1) zs) ≡ kept (take i mask) (take i zs) ++ cond (bool_at mask i) (number_nth zs i ∷ []) []
kept_more mask zs i e h =
    ap (λ m. kept m (take (i + 1) zs)) (take_more mask i false h)
    ∙ ap (kept (take i mask ++ bool_at mask i ∷ [])) (take_more zs i (pos 0) (omega arith))
    ∙ kept_push (take i mask) (take i zs) (bool_at mask i) (number_nth zs i) (length-take-le i mask (omega arith) ∙ sym (length-take-le i zs (omega arith)))

pub kept_whole : (mask : List Bool) (zs : List ℤ) (i : ℕ) → length mask ≡ length zs → length mask ≤ i → kept (take i mask) (take i zs) ≡ kept mask zs
kept_whole mask zs i e h = ap (λ m. kept m (take i zs)) (take_all i mask h) ∙ ap (kept mask) (take_all i zs (omega arith))

same_ends : (b : Bool) (z : ℤ) → z ≡ cond b z z
same_ends true z = refl
same_ends false z = refl

pub zeroed_at : (mask : List Bool) (zs : List ℤ) (i : ℕ) → number_nth (zeroed mask zs) i ≡ cond (bool_at mask i) (number_nth zs i) (pos 0)
zeroed_at [] zs i = refl
zeroed_at (b ∷ mask) [] i = same_ends (bool_at (b ∷ mask) i) (pos 0)
zeroed_at (true ∷ mask) (z ∷ zs) zero = refl
zeroed_at (false ∷ mask) (z ∷ zs) zero = refl
zeroed_at (b ∷ mask) (z ∷ zs) (suc i) = zeroed_at mask zs i

pub length-zeroed : (mask : List Bool) (zs : List ℤ) → length mask ≡ length zs → length (zeroed mask zs) ≡ length mask
length-zeroed [] zs e = refl
length-zeroed (b ∷ mask) [] e = absurd (omega arith)
length-zeroed (b ∷ mask) (z ∷ zs) e = omega (arith, length-zeroed mask zs (omega arith))

-- rows under a mask that is false there keep nothing
kept_falses_by : (mask : List Bool) (zs : List ℤ) (a n : ℕ) → length mask ≡ length zs → a + n ≤ length mask → ((k : ℕ) → a ≤ k → k < a + n → bool_at mask k ≡ false)
    → kept (take (a + n) mask) (take (a + n) zs) ≡ kept (take a mask) (take a zs)
kept_falses_by mask zs a zero e within none = let here : a + 0 ≡ a = omega arith in ap (λ k. kept (take k mask) (take k zs)) here
kept_falses_by mask zs a (suc n) e within none =
    let next : a + suc n ≡ a + n + 1 = omega arith in
    ap (λ k. kept (take k mask) (take k zs)) next ∙ kept_more mask zs (a + n) e (omega arith)
    ∙ ap (λ b. kept (take (a + n) mask) (take (a + n) zs) ++ cond b (number_nth zs (a + n) ∷ []) []) (none (a + n) (omega arith) (omega arith))
    ∙ append-nil (kept (take (a + n) mask) (take (a + n) zs)) ∙ kept_falses_by mask zs a n e (omega arith) (λ k low high. none k low (omega arith))

pub kept_gap : (mask : List Bool) (zs : List ℤ) (a b : ℕ) → length mask ≡ length zs → a ≤ b → b ≤ length mask → ((k : ℕ) → a ≤ k → k < b → bool_at mask k ≡ false)
    → kept (take b mask) (take b zs) ≡ kept (take a mask) (take a zs)
kept_gap mask zs a b e le within none =
    let size : a + (b - a) ≡ b = omega arith in
    ap (λ k. kept (take k mask) (take k zs)) (sym size) ∙ kept_falses_by mask zs a (b - a) e (omega arith) (λ k low high. none k low (omega arith))

-- and under one that is true there each number
kept_trues_by : (mask : List Bool) (zs : List ℤ) (a n : ℕ) → length mask ≡ length zs → a + n ≤ length mask → ((k : ℕ) → a ≤ k → k < a + n → bool_at mask k ≡ true)
    → kept (take (a + n) mask) (take (a + n) zs) ≡ kept (take a mask) (take a zs) ++ map (number_nth zs) (range_with_len a n)
kept_trues_by mask zs a zero e within all = let here : a + 0 ≡ a = omega arith in ap (λ k. kept (take k mask) (take k zs)) here ∙ sym (append-nil (kept (take a mask) (take a zs)))
kept_trues_by mask zs a (suc n) e within all =
    let next : a + suc n ≡ a + n + 1 = omega arith in
    let one : n + 1 ≡ suc n = omega arith in
    let old = kept (take a mask) (take a zs) in
    ap (λ k. kept (take k mask) (take k zs)) next ∙ kept_more mask zs (a + n) e (omega arith)
    ∙ ap (λ b. kept (take (a + n) mask) (take (a + n) zs) ++ cond b (number_nth zs (a + n) ∷ []) []) (all (a + n) (omega arith) (omega arith))
    ∙ ap (λ ys. ys ++ number_nth zs (a + n) ∷ []) (kept_trues_by mask zs a n e (omega arith) (λ k low high. all k low (omega arith)))
    ∙ append_assoc old (map (number_nth zs) (range_with_len a n)) (number_nth zs (a + n) ∷ [])
    ∙ ap (λ ys. old ++ ys) (sym (map-range_with_len_more (number_nth zs) a n (a + n) refl) ∙ ap (λ m. map (number_nth zs) (range_with_len a m)) one)

pub kept_run : (mask : List Bool) (zs : List ℤ) (a b : ℕ) → length mask ≡ length zs → a ≤ b → b ≤ length mask → ((k : ℕ) → a ≤ k → k < b → bool_at mask k ≡ true)
    → kept (take b mask) (take b zs) ≡ kept (take a mask) (take a zs) ++ map (number_nth zs) (range_with_len a (b - a))
kept_run mask zs a b e le within all =
    let size : a + (b - a) ≡ b = omega arith in
    ap (λ k. kept (take k mask) (take k zs)) (sym size) ∙ kept_trues_by mask zs a (b - a) e (omega arith) (λ k low high. all k low (omega arith))

-- ---- where the mask is nowhere true

kept_none : (mask : List Bool) (zs : List ℤ) → length mask ≡ length zs → kept mask zs ≡ [] → count_by (λ b. b) mask ≡ 0
kept_none [] zs e none = refl
kept_none (b ∷ mask) [] e none = absurd (omega arith)
kept_none (true ∷ mask) (z ∷ zs) e none = cc
kept_none (false ∷ mask) (z ∷ zs) e none = count-false mask ∙ kept_none mask zs (omega arith) none

zeroed_none : (mask : List Bool) (zs : List ℤ) → length mask ≡ length zs → kept mask zs ≡ [] → zeroed mask zs ≡ replicate (length zs) (pos 0)
zeroed_none [] [] e none = refl
zeroed_none [] (z ∷ zs) e none = absurd (omega arith)
zeroed_none (b ∷ mask) [] e none = absurd (omega arith)
zeroed_none (true ∷ mask) (z ∷ zs) e none = cc
zeroed_none (false ∷ mask) (z ∷ zs) e none = ap (λ ys. pos 0 ∷ ys) (zeroed_none mask zs (omega arith) none)

-- ---- a type has them

pub zeroed_held : (u : PType) (mask : List Bool) (zs : List ℤ) → All (Holds u) (kept mask zs) → All (Holds u) (zeroed mask zs)
zeroed_held u [] zs all = All-nil (Holds u)
zeroed_held u (b ∷ mask) [] all = All-nil (Holds u)
zeroed_held u (true ∷ mask) (z ∷ zs) all = All-cons (Holds u) z (zeroed mask zs) (all 0 (pos 0) (omega arith)) (zeroed_held u mask zs (λ k d inside. all (suc k) d (omega arith)))
zeroed_held u (false ∷ mask) (z ∷ zs) all = All-cons (Holds u) (pos 0) (zeroed mask zs) (holds-zero u) (zeroed_held u mask zs all)

-- the numbers among rows that fit are of the type
among_held : (t : PType) (n : Bool) (f : ℕ → Row) (start len : ℕ) → ((i : ℕ) → i < start + len → Fits (integers t n) (f i)) → All (Holds t) (numbers_among (map f (range_with_len start len)))
among_held t n f start zero fit = All-nil (Holds t)
among_held t n f start (suc len) fit = next t n (f start) (map f (range_with_len (start + 1) len)) (fit start (omega arith)) (among_held t n f (start + 1) len (λ i inside. fit i (omega arith)))
  where
    next : (t : PType) (n : Bool) (r : Row) (rs : List Row) → Fits (integers t n) r → All (Holds t) (numbers_among rs) → All (Holds t) (numbers_among (r ∷ rs))
    next t n null rs here all = all
    next t n (boolean b) rs here all = absurd here
    next t n (whole z) rs here all = All-cons (Holds t) z (numbers_among rs) here all
    next t n (bytes bs) rs here all = absurd here
    next t n (text bs) rs here all = absurd here
    next t n (items xs) rs here all = absurd here
    next t n (record_of fs) rs here all = absurd here

-- ---- arrays

among_masked : (mask : List Bool) (zs : List ℤ) → numbers_among (masked mask (map whole zs)) ≡ kept mask zs
among_masked [] zs = refl
among_masked (b ∷ mask) [] = refl
among_masked (true ∷ mask) (z ∷ zs) = ap (λ ys. z ∷ ys) (among_masked mask zs)
among_masked (false ∷ mask) (z ∷ zs) = among_masked mask zs

masked_zeroed : (mask : List Bool) (zs : List ℤ) → masked mask (map whole (zeroed mask zs)) ≡ masked mask (map whole zs)
masked_zeroed [] zs = refl
masked_zeroed (b ∷ mask) [] = refl
masked_zeroed (true ∷ mask) (z ∷ zs) = ap (λ rs. whole z ∷ rs) (masked_zeroed mask zs)
masked_zeroed (false ∷ mask) (z ∷ zs) = ap (λ rs. null ∷ rs) (masked_zeroed mask zs)

-- an array of these numbers, and its mask
module _ (t : Tree) (p : PType) (bs : List ℕ) (v : Valid) (mask : List Bool) (n : ℕ) (same : t ≡ primitive p bs v) (len : n ≡ tree_len t) (made : mask ≡ valid_mask v n) where
  abbrev zs : List ℤ
  zs = numbers p bs

  len_is : n ≡ length zs
  len_is = len ∙ ap tree_len same

  pub mask_long : length mask ≡ length zs
  mask_long = ap length made ∙ length-valid_mask v n ∙ len_is

  mask_is : valid_mask v (length zs) ≡ mask
  mask_is = ap (valid_mask v) (sym len_is) ∙ sym made

  rows_are : rows t ≡ masked mask (map whole zs)
  rows_are = IsPrimitive-masked p zs v t (record { bytes = bs; tree = same; same = refl }) ∙ ap (λ m. masked m (map whole zs)) mask_is

  valid_are : valid_numbers t ≡ kept mask zs
  valid_are = ap numbers_among rows_are ∙ among_masked mask zs

  -- where each row fits, the type has the valid numbers
  pub valid_held : ((i : ℕ) → i < tree_len t → Fits (kind_of t) (row_at t i)) → All (Holds p) (kept mask zs)
  valid_held fit =
      subst (All (Holds p)) valid_are
      (among_held p (nullable v) (row_at t) 0 (tree_len t) (λ i inside. subst (λ k. Fits k (row_at t i)) (ap kind_of same) (fit i (omega arith))))

  module _ (held : All (Holds p) (kept mask zs)) (q : PType) (q_is : q ≡ narrowed_type p (kept mask zs)) where
    pub narrow_held : All (Holds q) (zeroed mask zs)
    narrow_held = zeroed_held q mask zs (subst (λ u. All (Holds u) (kept mask zs)) (sym q_is) (narrowed_held p (kept mask zs) held))

    pub narrow_width : byte_width q ≤ byte_width p
    narrow_width = subst (λ u. byte_width u ≤ byte_width p) (sym q_is) (narrowed_width p (kept mask zs) held)

    type_is : q ≡ narrowed_type (type_in t) (valid_numbers t)
    type_is = q_is ∙ ap (λ u. narrowed_type u (kept mask zs)) (sym (ap type_in same)) ∙ ap (narrowed_type (type_in t)) (sym valid_are)

    least : IsLeastWidth q (kept mask zs)
    least = subst (λ u. IsLeastWidth u (kept mask zs)) (sym q_is) (narrowed_least p (kept mask zs))

    -- the array of the narrowed numbers
    pub narrowed_is : (cs : List ℕ) (r : Tree) (w : Valid) → numbers q cs ≡ zeroed mask zs → w ≡ v → r ≡ primitive q cs w → IsNarrowed t r
    narrowed_is cs r w written valid made_of =
        let is : r ≡ primitive q cs v = made_of ∙ ap (primitive q cs) valid in
        let long : length (zeroed mask zs) ≡ length zs = length-zeroed mask zs mask_long ∙ mask_long in
        let same_rows : rows r ≡ rows t =
        IsPrimitive-masked q (zeroed mask zs) v r (record { bytes = cs; tree = is; same = written })
        ∙ ap (λ m. masked (valid_mask v m) (map whole (zeroed mask zs))) long
        ∙ ap (λ m. masked m (map whole (zeroed mask zs))) mask_is
        ∙ masked_zeroed mask zs ∙ sym rows_are in
        record {
          same_rows = same_rows;
          validity = ap validity_of is ∙ sym (ap validity_of same);
          ptype = ap type_in is ∙ type_is;
          least_width = subst (λ u. IsLeastWidth u (valid_numbers r)) (sym (ap type_in is)) (subst (IsLeastWidth q) (sym (ap numbers_among same_rows ∙ valid_are)) least);
          zeroes = λ none. ap numbers_in is ∙ written ∙ zeroed_none mask zs mask_long (sym valid_are ∙ none) ∙ ap (λ m. replicate m (pos 0)) (sym len_is ∙ len);
        }

    -- the array itself, where its type is the narrowed one and some row is valid
    pub narrowed_stays : (r : Tree) → q ≡ p → (count_by (λ b. b) mask ≡ 0 → ⊥) → r ≡ t → IsNarrowed t r
    narrowed_stays r stays some is = record {
      same_rows = ap rows is;
      validity = ap validity_of is;
      ptype = ap type_in is ∙ ap type_in same ∙ sym stays ∙ type_is;
      least_width = subst (λ u. IsLeastWidth u (valid_numbers r)) (stays ∙ sym (ap type_in is ∙ ap type_in same)) (subst (IsLeastWidth q) (sym (ap valid_numbers is ∙ valid_are)) least);
      zeroes = λ none. absurd (some (kept_none mask zs mask_long (sym valid_are ∙ none)));
    }

-- ---- room

-- numbers of a type of no more bytes have room in as many bytes
pub room_for : (t u : PType) (bs : List ℕ) (n width : ℕ) → n ≡ length (numbers t bs) → width ≡ byte_width u → byte_width u ≤ byte_width t → n * width ≤ length bs
room_for t u bs n width count wide less =
    let scaled : width * n ≤ byte_width t * n = mul-le-mul_right n (omega arith) in
    let room : n * byte_width t ≤ length bs = numbers_room t bs n (omega arith) in
    omega arith
