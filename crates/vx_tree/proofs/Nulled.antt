-- Rows that become null: validities, and rows of null.
use Rattle.std.proofs.Common.{ℕ, zero, suc, ◌<◌, ◌≡◌, Bool, true, false, List, [], ◌∷◌, length, map, replicate, refl, sym, ◌∙◌, ap, zero-add, arith}
use Rattle.std.specs.List.{range_with_len}
use Rattle.std.proofs.lemmas.List.{length-map, get_or-map, length-replicate, get_or-replicate}
use Rattle.std.proofs.lemmas.List.FromFn.{length-map-range_with_len, get_or-map-range_with_len}
use Rattle.std.specs.Prelude.{ℤ, pos, ◌||◌, ◌&&◌, if◌then◌else◌}
use Rattle.vx_base.specs.declared.ptypes.PType.{PType}
use Rattle.vx_base.specs.declared.ptypes.PType.TheVariants.{U8}
use Rattle.vx_base.specs.Integers.{numbers, number_nth}
use Rattle.vx_base.specs.Rows.{Row, null, boolean, whole, truth_of}
use Rattle.vx_base.specs.Bits.{bool_at, both}
use Rattle.vx_base.specs.Kinds.{booleans, integers}
use Rattle.vx_tree.specs.Tree.{Tree, bools, primitive, constant, dictionary, Valid, non_nullable, all_valid, all_invalid, by_array}
use Rattle.vx_tree.specs.Meaning.{row_at, tree_len, kind_of, is_valid_at, nullable}
use Rattle.vx_tree.specs.Shapes.{State, never_null, none_null, every_null, told, state_of, is_nullable_state, taken_state, row_state}
use Rattle.vx_tree.specs.Formed.{ValidFits, IsMask}
use Rattle.vx_tree.specs.Named.{IsRepeated}
use Rattle.vx_tree.specs.Operations.{IsValidNulled, IsZeroes, IsZeroCodes}
use Rattle.vx_tree.specs.Validities.{IsAndOf}
use Rattle.vx_tree.proofs.Selected.{nullable-state}

pub nullable-taken_state : (s index : State) → is_nullable_state (taken_state s index) ≡ (is_nullable_state index || is_nullable_state s)
nullable-taken_state never_null never_null = refl
nullable-taken_state never_null none_null = refl
nullable-taken_state never_null every_null = refl
nullable-taken_state never_null told = refl
nullable-taken_state none_null never_null = refl
nullable-taken_state none_null none_null = refl
nullable-taken_state none_null every_null = refl
nullable-taken_state none_null told = refl
nullable-taken_state every_null never_null = refl
nullable-taken_state every_null none_null = refl
nullable-taken_state every_null every_null = refl
nullable-taken_state every_null told = refl
nullable-taken_state told never_null = refl
nullable-taken_state told none_null = refl
nullable-taken_state told every_null = refl
nullable-taken_state told told = refl

-- a validity is nullable where either side is
pub nullable_nulled : (v u w : Valid) → state_of w ≡ taken_state (state_of v) (state_of u) → nullable w ≡ (nullable u || nullable v)
nullable_nulled v u w e = rw (nullable-state v, nullable-state u) (nullable-state w ∙ ap is_nullable_state e ∙ nullable-taken_state (state_of v) (state_of u))

-- a row under two validities
pub two : (a b c : Bool) (r : Row) → a ≡ (b && c) → (if a then r else null) ≡ (if c then (if b then r else null) else null)
two a true true r e = rw e refl
two a true false r e = rw e refl
two a false true r e = rw e refl
two a false false r e = rw e refl

-- ---- validities

-- what one of two decides
pub nulled_by_first : (v u w : Valid) (n : ℕ) → v ≡ non_nullable → w ≡ u → ValidFits u n → IsValidNulled v u n w
nulled_by_first v u w n a b h = rw (a, b) (record { fits = h; state = refl; plain = λ p q. q; bits = λ i l. refl })

before_true : (b : Bool) → b ≡ (b && true)
before_true true = refl
before_true false = refl

pub nulled_everywhere : (v u w : Valid) (n : ℕ) → v ≡ all_invalid → w ≡ all_invalid → IsValidNulled v u n w
nulled_everywhere v u w n a b = rw (a, b) (record { fits = tt; state = refl; plain = λ p q. p; bits = λ i l. refl })

array_under : (t : Tree) (n : ℕ) → ValidFits (by_array t) n → IsValidNulled (by_array t) all_valid n (by_array t)
array_under t n h = record { fits = h; state = refl; plain = λ p q. p; bits = λ i l. before_true (is_valid_at (by_array t) i) }

pub nulled_array : (v u w : Valid) (t : Tree) (n : ℕ) → v ≡ by_array t → u ≡ all_valid → w ≡ v → ValidFits v n → IsValidNulled v u n w
nulled_array v u w t n a b e h = rw (e, a, b) (array_under t n (rw a at h))

length_both : (xs ys : List Bool) → length xs ≡ length ys → length (both xs ys) ≡ length xs
length_both [] ys e = refl
length_both (x ∷ xs) [] e = absurd (omega arith)
length_both (x ∷ xs) (y ∷ ys) e = ap suc (length_both xs ys (omega arith))

both_at : (xs ys : List Bool) (i : ℕ) → length xs ≡ length ys → i < length xs → bool_at (both xs ys) i ≡ (bool_at xs i && bool_at ys i)
both_at [] ys i e l = absurd (omega arith)
both_at (x ∷ xs) [] i e l = absurd (omega arith)
both_at (x ∷ xs) (y ∷ ys) zero e l = refl
both_at (x ∷ xs) (y ∷ ys) (suc i) e l = both_at xs ys i (omega arith) (omega arith)

-- the truths of an array, as bits
truth_at : (m : Tree) (xs : List Bool) (i : ℕ) → xs ≡ map (λ j. truth_of (row_at m j)) (range_with_len 0 (tree_len m)) → i < tree_len m → bool_at xs i ≡ truth_of (row_at m i)
truth_at m xs i e l = ap (λ bs. bool_at bs i) e ∙ get_or-map-range_with_len (λ j. truth_of (row_at m j)) 0 (tree_len m) i i false l (zero-add i)

truths_long : (m : Tree) (xs : List Bool) → xs ≡ map (λ j. truth_of (row_at m j)) (range_with_len 0 (tree_len m)) → length xs ≡ tree_len m
truths_long m xs e = ap length e ∙ length-map-range_with_len (λ j. truth_of (row_at m j)) 0 (tree_len m)

pub valid_both : {b : ℕ} (v u w : Valid) (m n : Tree) (xs ys bits : List Bool) (len : ℕ) → v ≡ by_array m → u ≡ by_array n → w ≡ by_array (bools b bits non_nullable)
    → xs ≡ map (λ i. truth_of (row_at m i)) (range_with_len 0 (tree_len m)) → ys ≡ map (λ i. truth_of (row_at n i)) (range_with_len 0 (tree_len n)) → bits ≡ both xs ys
    → ValidFits v len → ValidFits u len → IsValidNulled v u len w
valid_both v u w m n xs ys bits len a b c d e f mine theirs =
    let first : IsMask m len = rw a at mine in
    let second : IsMask n len = rw b at theirs in
    let left : length xs ≡ len = truths_long m xs d ∙ first.len in
    let right : length ys ≡ len = truths_long n ys e ∙ second.len in
    let same : length xs ≡ length ys = left ∙ sym right in
    rw (a, b, c) (record {
      fits = record { len = ap length f ∙ length_both xs ys same ∙ left; kind = refl };
      state = refl;
      plain = λ p q. tt;
      bits = λ i l.
          let inside : i < length xs = rw left l in
          let here : i < tree_len m = rw first.len l in
          let there : i < tree_len n = rw second.len l in
          ap (λ bs. bool_at bs i) f ∙ both_at xs ys i same inside ∙ ap (λ b. b && bool_at ys i) (truth_at m xs i d here) ∙ ap (λ b. truth_of (row_at m i) && b) (truth_at n ys i e there);
    })

-- of two arrays it is that of their rows
pub valid_arrays : (v u w : Valid) (m o : Tree) (len : ℕ) → v ≡ by_array m → u ≡ by_array o → ValidFits v len → IsValidNulled (by_array m) (by_array o) (tree_len m) w → IsValidNulled v u len w
valid_arrays v u w m o len a b fits h =
    let mine : IsMask m len = rw a at fits in
    rw (a, b) (rw mine.len at h)

-- ---- rows of null

pub null_row : (b : Bool) (r : Row) → b ≡ false → (if b then r else null) ≡ null
null_row b r e = rw e refl

pub zeroes_made : (t : Tree) (p : PType) (bs : List ℕ) (n : ℕ) → t ≡ primitive p bs non_nullable → numbers p bs ≡ map pos (replicate n 0) → IsZeroes p n t
zeroes_made t p bs n a e =
    rw a (record {
      len = ap length e ∙ length-map (replicate n 0) pos ∙ length-replicate {A = ℕ} n 0;
      plain = tt;
      kind = refl;
      rows = λ i l. ap whole (ap (λ (zs : List ℤ). number_nth zs i) e ∙ get_or-map pos (replicate n 0) i 0 (pos 0) (rw (length-replicate {A = ℕ} n 0) l) ∙ ap pos (get_or-replicate n i 0 0 l));
    })

pub zero_codes_made : (t : Tree) (bs : List ℕ) (u : Valid) (n : ℕ) → t ≡ primitive U8 bs u → numbers U8 bs ≡ map pos (replicate n 0) → IsZeroCodes n u t
zero_codes_made t bs u n a e =
    let z = zeroes_made (primitive U8 bs non_nullable) U8 bs n refl e in
    rw a (record { len = z.len; kind = refl; state = refl; rows = λ i l. ap (λ r. if is_valid_at u i then r else null) (z.rows i l) })

-- codes that are all 0, under a state
pub constant_codes : (t : Tree) (u : Valid) (n : ℕ) (r : Row) → t ≡ constant (integers U8 (nullable u)) r n → row_state (integers U8 (nullable u)) r ≡ state_of u → ((i : ℕ) → r ≡ (if is_valid_at u i then whole (pos 0) else null)) → IsZeroCodes n u t
constant_codes t u n r a e same = rw a (record { len = refl; kind = refl; state = e; rows = λ i l. same i })

pub codes_of_no_null : (t : Tree) (u : Valid) (n : ℕ) → u ≡ non_nullable → t ≡ constant (integers U8 false) (whole (pos 0)) n → IsZeroCodes n u t
codes_of_no_null t u n e a = rw e (constant_codes t non_nullable n (whole (pos 0)) a refl (λ i. refl))

pub codes_of_all_valid : (t : Tree) (u : Valid) (n : ℕ) → u ≡ all_valid → t ≡ constant (integers U8 true) (whole (pos 0)) n → IsZeroCodes n u t
codes_of_all_valid t u n e a = rw e (constant_codes t all_valid n (whole (pos 0)) a refl (λ i. refl))

pub codes_of_all_invalid : (t : Tree) (u : Valid) (n : ℕ) → u ≡ all_invalid → t ≡ constant (integers U8 true) null n → IsZeroCodes n u t
codes_of_all_invalid t u n e a = rw e (constant_codes t all_invalid n null a refl (λ i. refl))

-- one code, null where a truth value is false, that codes name
pub one_code : (t v : Tree) (bs : List ℕ) (b : Bool) (n : ℕ) → t ≡ dictionary (constant (integers U8 false) (whole (pos 0)) n) v false → v ≡ primitive U8 bs (by_array (constant (booleans false) (boolean b) 1)) → numbers U8 bs ≡ map pos (replicate 1 0) → IsZeroCodes n (by_array (constant (booleans false) (boolean b) n)) t
one_code t v bs b n a e z =
    rw (a, e) (record {
      len = refl;
      kind = refl;
      state = refl;
      rows = λ i l. ap (λ (zs : List ℤ). if b then whole (number_nth zs 0) else null) z;
    })

-- codes of an array are those of another with the same truth values
pub codes_alike : (t m o : Tree) (n : ℕ) → ((i : ℕ) → truth_of (row_at o i) ≡ truth_of (row_at m i)) → IsZeroCodes n (by_array o) t → IsZeroCodes n (by_array m) t
codes_alike t m o n same h =
    record { len = h.len; kind = h.kind; state = h.state; rows = λ i l. h.rows i l ∙ ap (λ b. if b then whole (pos 0) else null) (same i) }

pub codes_of_repeated : (t m : Tree) (u : Valid) (b : Bool) (n : ℕ) → u ≡ by_array m → IsRepeated m → b ≡ truth_of (row_at m 0) → IsZeroCodes n (by_array (constant (booleans false) (boolean b) n)) t → IsZeroCodes n u t
codes_of_repeated t m u b n a h e z =
    rw a (codes_alike t m (constant (booleans false) (boolean b) n) n (λ i. e ∙ ap truth_of (sym (h.alike i))) z)

-- ---- one value for all rows

pub and_of_true : (b : Bool) (o : Tree) (w : Valid) → b ≡ true → w ≡ by_array o → kind_of o ≡ booleans false → IsAndOf b o w
and_of_true b o w e a k = rw (e, a) (record { fits = record { len = refl; kind = k }; state = refl; bits = λ i. refl })

pub and_of_false : (b : Bool) (o : Tree) (w : Valid) → b ≡ false → w ≡ by_array (constant (booleans false) (boolean false) (tree_len o)) → IsAndOf b o w
and_of_false b o w e a = rw (e, a) (record { fits = record { len = refl; kind = refl }; state = refl; bits = λ i. refl })

swapped : (a b : Bool) → (a && b) ≡ (b && a)
swapped true true = refl
swapped true false = refl
swapped false true = refl
swapped false false = refl

-- rows that are all one are that value
pub repeated_first : (m o : Tree) (b : Bool) (w : Valid) → IsRepeated m → b ≡ truth_of (row_at m 0) → tree_len o ≡ tree_len m → IsAndOf b o w → IsValidNulled (by_array m) (by_array o) (tree_len m) w
repeated_first m o b w h e same a =
    record {
      fits = rw (sym same) a.fits;
      state = a.state;
      plain = λ p q. absurd (h.worked p);
      bits = λ i l. a.bits i ∙ ap (λ x. x && truth_of (row_at o i)) (e ∙ ap truth_of (sym (h.alike i)));
    }

pub repeated_second : (m o : Tree) (b : Bool) (w : Valid) → IsRepeated m → b ≡ truth_of (row_at m 0) → IsAndOf b o w → IsValidNulled (by_array o) (by_array m) (tree_len o) w
repeated_second m o b w h e a =
    record {
      fits = a.fits;
      state = a.state;
      plain = λ p q. absurd (h.worked q);
      bits = λ i l. a.bits i ∙ ap (λ x. x && truth_of (row_at o i)) (e ∙ ap truth_of (sym (h.alike i))) ∙ swapped (truth_of (row_at m i)) (truth_of (row_at o i));
    }

pub ruleset repeated_and = (and_of_true, and_of_false)

-- ---- where all are null

pub never_true : (m : Tree) (w : Valid) (n : ℕ) → IsRepeated m → w ≡ by_array (constant (booleans false) (boolean false) n) → IsValidNulled (by_array m) all_invalid n w
never_true m w n h a =
    rw a (record {
      fits = record { len = refl; kind = refl };
      state = refl;
      plain = λ p q. absurd (h.worked p);
      bits = λ i l. sym (swapped (truth_of (row_at m i)) false);
    })

pub unset_bits : {b : ℕ} (m : Tree) (w : Valid) (n : ℕ) → w ≡ by_array (bools b (replicate n false) non_nullable) → IsValidNulled (by_array m) all_invalid n w
unset_bits m w n a =
    rw a (record {
      fits = record { len = length-replicate {A = Bool} n false; kind = refl };
      state = refl;
      plain = λ p q. tt;
      bits = λ i l. get_or-replicate n i false false l ∙ sym (swapped (truth_of (row_at m i)) false);
    })

pub ruleset no_truths = (never_true, unset_bits)
