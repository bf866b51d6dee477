-- Lists that stand by offsets and sizes are the same where they are as long and their elements are the same.
use Rattle.std.proofs.Common.{◌≡◌, ◌↔◌, ◌∙◌, ◌+◌, ◌-◌, ◌*◌, ◌/◌, ◌<◌, ◌≤◌, ℕ, zero, suc, List, length, drop, refl, sym, ap, subst, inl, inr, arith, zero-add}
use Rattle.std.specs.Prelude.{Bool, IsTrue, Some, slice_range}
use Rattle.std.proofs.Math.Nat.{eq-or-lt_of_le, mul-le-mul_right}
use Rattle.vx_base.proofs.ListParts.{length_part}
use Rattle.vx_base.proofs.NumberLists.{numbers_part, whole as whole_numbers, width_pos}
use Rattle.vx_base.specs.Bytes.{AreBytes}
use Rattle.vx_base.specs.Integers.{byte_width, number_nth, numbers}
use Rattle.vx_base.specs.Kinds.{Kind, Fits}
use Rattle.vx_base.specs.Rows.{Row, items, whole}
use Rattle.vx_base.specs.declared.ptypes.PType.{PType}
use Rattle.vx_views.proofs.Padding.{bytes-drop, bytes-take}
use Rattle.vx_tree.proofs.FixedLists.{rows_range-same}
use Rattle.vx_tree.specs.Meaning.{kind_of, row_at, rows_range, tree_len}
use Rattle.vx_tree.specs.Tree.{Tree}
use Rattle.vx_tree.specs.Values.{bytes_in}
use Rattle.vx_pack.proofs.Ranges.{range_each}
use Rattle.vx_pack.proofs.ReadCounts.{length-counts_of}
use Rattle.vx_pack.proofs.SameBytes.{nth_at, nth_part, same_bytes}
use Rattle.vx_pack.specs.Parts.{AreSame, IsPartOf, part_len}
use Rattle.vx_pack.specs.SameElements.{AreElements, IsSameAt, IsSameList}
use Rattle.vx_pack.specs.StoredLists.{AreElementBytes, AreListBytes, AreListRows, stored_row, stored_sizes}
use Rattle.vx_pack.specs.StoredTexts.{AreFullTexts, stored_value}
use Rattle.vx_pack.specs.declared.parts.Part.{Part}
use Rattle.vx_pack.specs.declared.same_elements.Elements.{Elements}
use Rattle.vx_pack.specs.declared.same_elements.Elements.TheVariants.{Numbers, Texts}
use Rattle.vx_pack.specs.declared.stored_lists.StoredLists.{StoredLists}
use Rattle.vx_pack.specs.declared.stored_texts.StoredTexts.{StoredTexts}

-- ---- numbers

-- the bytes of so many numbers from one on
abbrev part_of : PType → List ℕ → ℕ → ℕ → List ℕ
part_of t bs x n = slice_range bs (x * byte_width t) ((x + n) * byte_width t)

part_room : (t : PType) (bs : List ℕ) (x n len : ℕ) → length bs ≡ len * byte_width t → x + n ≤ len → (x + n) * byte_width t ≤ length bs
part_room t bs x n len long within =
    let scaled : (x + n) * byte_width t ≤ len * byte_width t = mul-le-mul_right (byte_width t) within in
    omega (arith, long, scaled)

length-part_of : (t : PType) (bs : List ℕ) (x n len : ℕ) → length bs ≡ len * byte_width t → x + n ≤ len
    → length (part_of t bs x n) ≡ n * byte_width t
length-part_of t bs x n len long within =
    let w = byte_width t in
    let scaled : x * w ≤ (x + n) * w = mul-le-mul_right w (omega arith) in
    let size : (x + n) * w - x * w ≡ n * w = omega arith in
    length_part bs (x * w) ((x + n) * w) scaled (part_room t bs x n len long within) ∙ size

bytes-part_of : (t : PType) (bs : List ℕ) (x n : ℕ) → AreBytes bs → AreBytes (part_of t bs x n)
bytes-part_of t bs x n good =
    let w = byte_width t in
    bytes-take ((x + n) * w - x * w) (drop (x * w) bs) (bytes-drop (x * w) bs good)

number_of_part : (t : PType) (bs : List ℕ) (x n len j : ℕ) → length bs ≡ len * byte_width t → x + n ≤ len → j < n
    → number_nth (numbers t (part_of t bs x n)) j ≡ number_nth (numbers t bs) (x + j)
number_of_part t bs x n len j long within l =
    ap (λ zs. number_nth zs j) (numbers_part t bs x n (part_room t bs x n len long within)) ∙ nth_part (numbers t bs) x n j l

same_numbers_from : (t : PType) (e f : Tree) (xs ys : List ℕ) (x y n : ℕ) → AreElementBytes t e xs → AreElementBytes t f ys
    → x + n ≤ tree_len e → y + n ≤ tree_len f
    → (part_of t xs x n ≡ part_of t ys y n) ↔ ((j : ℕ) → j < n → row_at e (x + j) ≡ row_at f (y + j))
same_numbers_from t e f xs ys x y n first second in_e in_f =
    let left : (j : ℕ) → j < n → number_nth (numbers t (part_of t xs x n)) j ≡ number_nth (numbers t xs) (x + j) =
    λ j l. number_of_part t xs x n (tree_len e) j first.len in_e l in
    let right : (j : ℕ) → j < n → number_nth (numbers t (part_of t ys y n)) j ≡ number_nth (numbers t ys) (y + j) =
    λ j l. number_of_part t ys y n (tree_len f) j second.len in_f l in
    let long_x = length-part_of t xs x n (tree_len e) first.len in_e in
    let long_y = length-part_of t ys y n (tree_len f) second.len in_f in (
      (λ same j l.
          first.rows (x + j) (omega (arith, in_e, l))
          ∙ ap whole (sym (left j l) ∙ ap (λ bs. number_nth (numbers t bs) j) same ∙ right j l)
          ∙ sym (second.rows (y + j) (omega (arith, in_f, l)))),
      (λ each. same_bytes t n (part_of t xs x n) (part_of t ys y n) long_x long_y
          (bytes-part_of t xs x n first.bytes) (bytes-part_of t ys y n second.bytes) (λ j l.
          let found : whole (number_nth (numbers t xs) (x + j)) ≡ whole (number_nth (numbers t ys) (y + j)) =
          sym (first.rows (x + j) (omega (arith, in_e, l))) ∙ each j l ∙ second.rows (y + j) (omega (arith, in_f, l)) in
          let number : number_nth (numbers t xs) (x + j) ≡ number_nth (numbers t ys) (y + j) = cc in
          sym (nth_at t n (part_of t xs x n) j long_x l) ∙ left j l ∙ number ∙ sym (right j l)
          ∙ nth_at t n (part_of t ys y n) j long_y l)),
    )

-- numbers are read of bytes that are as many as they need
counted : (t : PType) (e : Tree) (xs : List ℕ) → AreElementBytes t e xs → length xs / byte_width t ≡ tree_len e
counted t e xs h = ap (λ m. m / byte_width t) h.len ∙ whole_numbers t (tree_len e)

-- the bytes of both are those of elements which are numbers of a type
abbrev pub AreNumbersOf : PType → Tree → Tree → Elements → Type 0
AreNumbersOf t e f (Numbers width xs ys) = (width ≡ byte_width t) × AreElementBytes t e xs.now × AreElementBytes t f ys.now
AreNumbersOf t e f (Texts s z) = ⊥

pub number_elements : (t : PType) (e f : Tree) (els : Elements) → AreNumbersOf t e f els → AreElements e f els
number_elements t e f (Texts s z) h = absurd h
number_elements t e f (Numbers width xs ys) h = rw h.0 (record {
  readable = width_pos t;
  first = counted t e xs.now h.1;
  second = counted t f ys.now h.2;
  same = λ x y n. same_numbers_from t e f xs.now ys.now x y n h.1 h.2;
})

-- ---- texts and byte lists

-- the bytes of an element are the value of its view
bytes_at : (e : Tree) (p : Part) (s : StoredTexts) (i : ℕ) → IsPartOf e 0 (tree_len e) p → AreFullTexts p s → i < tree_len e
    → bytes_in (row_at e i) ≡ Some (stored_value s i)
bytes_at e p s i part full inside =
    let k = kind_of e in
    ap bytes_in (sym (part.rows k i ∙ ap (row_at e) (zero-add i))) ∙ full.rows k i (omega (arith, part.len, inside))

fits_at : (e : Tree) (k : Kind) (p : Part) (i : ℕ) → IsPartOf e 0 (tree_len e) p → kind_of e ≡ k → i < tree_len e → Fits k (row_at e i)
fits_at e k p i part kind inside =
    let h = kind_of e in
    subst (λ x. Fits x (row_at e i)) kind
    (subst (Fits h) (part.rows h i ∙ ap (row_at e) (zero-add i)) (part.part.fits i (omega (arith, part.len, inside))))

pub text_elements : (k : Kind) (e f : Tree) (p q : Part) (s z : StoredTexts)
    → ((r u : Row) → Fits k r → Fits k u → bytes_in r ≡ bytes_in u → r ≡ u) → kind_of e ≡ k → kind_of f ≡ k
    → IsPartOf e 0 (tree_len e) p → IsPartOf f 0 (tree_len f) q → AreFullTexts p s → AreFullTexts q z
    → AreElements e f (Texts s z)
text_elements k e f p q s z apart kind_e kind_f first second full_first full_second = record {
  readable = (full_first.resolve, full_second.resolve);
  first = full_first.count ∙ first.len;
  second = full_second.count ∙ second.len;
  same = λ x y n in_e in_f. (
    (λ same j l.
        let left : x + j < tree_len e = omega (arith, in_e, l) in
        let right : y + j < tree_len f = omega (arith, in_f, l) in
        apart (row_at e (x + j)) (row_at f (y + j)) (fits_at e k p (x + j) first kind_e left) (fits_at f k q (y + j) second kind_f right)
        (bytes_at e p s (x + j) first full_first left ∙ ap Some (same j l) ∙ sym (bytes_at f q z (y + j) second full_second right))),
    (λ each j l.
        let left : x + j < tree_len e = omega (arith, in_e, l) in
        let right : y + j < tree_len f = omega (arith, in_f, l) in
        let found : Some (stored_value s (x + j)) ≡ Some (stored_value z (y + j)) =
        sym (bytes_at e p s (x + j) first full_first left) ∙ ap bytes_in (each j l) ∙ bytes_at f q z (y + j) second full_second right in
        cc),
  );
}

-- ---- lists

-- lists by where they begin and how many elements they have
same_list_rows : (t u : Tree) (e : Elements) (x m y n : ℕ) (r s : Row) → AreElements t u e → x + m ≤ tree_len t → y + n ≤ tree_len u
    → r ≡ items (rows_range (row_at t) x m) → s ≡ items (rows_range (row_at u) y n) → IsSameList e x m y n ↔ (r ≡ s)
same_list_rows t u e x m y n r s h in_t in_u at_r at_s = (
  (λ same.
      let inside : y + m ≤ tree_len u = omega (arith, same.0, in_u) in
      let each = (h.same x y m in_t inside).0 same.1 in
      at_r ∙ ap items (rows_range-same (row_at t) (row_at u) x y m each ∙ ap (rows_range (row_at u) y) same.0) ∙ sym at_s),
  (λ same.
      let lists : items (rows_range (row_at t) x m) ≡ items (rows_range (row_at u) y n) = sym at_r ∙ same ∙ at_s in
      let inner : rows_range (row_at t) x m ≡ rows_range (row_at u) y n = cc in
      let both = range_each (row_at t) (row_at u) x y m n inner in
      (both.0, (h.same x y m in_t (omega (arith, both.0, in_u))).1 both.1)),
)

-- what holds of the first places and of those after them
pub both_parts : (P : ℕ → Type 0) (n m : ℕ) → ((i : ℕ) → i < n → P i) → ((i : ℕ) → i < m → P (n + i)) → (i : ℕ) → i < n + m → P i
both_parts P n zero before after i l = before i (omega arith)
both_parts P n (suc m) before after i l = elim (eq-or-lt_of_le {n = i} {m = n + m} (omega arith)) [
  | inl last ↦ subst P (sym last) (after m (omega arith))
  | inr less ↦ both_parts P n m before (λ j k. after j (omega arith)) i less
]

-- as many lists of two columns
pub told_by_rows : (s z : StoredLists) (e : Elements) (b : Bool)
    → AreListBytes s.offset_type s.offsets.now s.size_type s.sizes.now (tree_len s.elements.now)
    → AreListBytes z.offset_type z.offsets.now z.size_type z.sizes.now (tree_len z.elements.now)
    → AreElements s.elements.now z.elements.now e → length (stored_sizes z) ≡ length (stored_sizes s)
    → (IsTrue b ↔ ((i : ℕ) → i < length (stored_sizes s) → IsSameAt e s z i))
    → IsTrue b ↔ ((i : ℕ) → i < length (stored_sizes s) → stored_row s i ≡ stored_row z i)
told_by_rows s z e b first second h len told =
    let one : (i : ℕ) → i < length (stored_sizes s) → IsSameAt e s z i ↔ (stored_row s i ≡ stored_row z i) =
    λ i l. same_list_rows s.elements.now z.elements.now e _ _ _ _ (stored_row s i) (stored_row z i) h
    (first.within i (omega (arith, length-counts_of s.size_type s.sizes.now, l)))
    (second.within i (omega (arith, length-counts_of z.size_type z.sizes.now, len, l))) refl refl in
    ((λ yes i l. (one i l).0 (told.0 yes i l)), (λ same. told.1 (λ i l. (one i l).1 (same i l))))

-- of two parts
pub same_by_rows : (k : Kind) (p q : Part) (s z : StoredLists) (b : Bool) → AreListRows k p s → AreListRows k q z → part_len q ≡ part_len p
    → (IsTrue b ↔ ((i : ℕ) → i < length (stored_sizes s) → stored_row s i ≡ stored_row z i)) → IsTrue b ↔ AreSame k p q
same_by_rows k p q s z b first second len told = (
  (λ yes i l. first.rows i l ∙ told.0 yes i (omega (arith, first.count, l)) ∙ sym (second.rows i (omega (arith, len, l)))),
  (λ same. told.1 (λ i l.
      let inside : i < part_len p = omega (arith, first.count, l) in
      sym (first.rows i inside) ∙ same i inside ∙ second.rows i (omega (arith, len, inside)))),
)
