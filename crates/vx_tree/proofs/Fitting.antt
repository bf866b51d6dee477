-- Every row of an array fits the array's kind.
use Rattle.std.proofs.Common.{ℕ, zero, suc, ◌+◌, ◌*◌, ◌<◌, ◌≤◌, ◌≡◌, Bool, true, false, List, [], ◌∷◌, length, take, drop, refl, sym, ◌∙◌, subst, arith}
use Rattle.std.specs.Prelude.{pos, IsTrue, if◌then◌else◌, ◌||◌, slice_index_or, IsUtf8}
use Rattle.std.proofs.Math.Nat.{mul-le-mul_right}
use Rattle.std.proofs.lemmas.List.{get_or-drop}
use Rattle.vx_base.specs.declared.ptypes.PType.{PType}
use Rattle.vx_base.specs.Integers.{byte_width, numbers, Holds, number_nth}
use Rattle.vx_base.specs.Rows.{Row, null, boolean, whole, bytes, text, items, record_of, position_in, count_in}
use Rattle.vx_base.specs.Kinds.{Kind, booleans, integers, texts, binaries, lists, fixed_lists, records, is_nullable_kind, or_nullable, Fits, AllFit, FieldsFit, IsShort, row_count}
use Rattle.vx_base.proofs.NumberBytes.{holds-number_of}
use Rattle.vx_base.proofs.NumberLists.{get_numbers, length_numbers}
use Rattle.vx_base.specs.Bytes.{AreBytes}
use Rattle.vx_views.specs.Views.{IsView, view_value, buffer_at}
use Rattle.vx_views.specs.Sound.{IsSoundView}
use Rattle.vx_views.proofs.SoundViews.{value-bytes, value-short}
use Rattle.vx_tree.specs.Tree.{bools, primitive, constant, dictionary, fixed_list, list_view, structure, view_array, Trees, no_trees, tree, Valid, non_nullable, all_valid, all_invalid, by_array}
use Rattle.vx_tree.specs.Meaning.{tree_len, kind_of, kinds_of, row_at, fields_at, rows_range, picked, is_valid_at, nullable, is_texts, value_row}
use Rattle.vx_tree.specs.Formed.{AllLen, column_count, IsCode, value_kind}
use Rattle.vx_tree.specs.Fitting.{ColumnsFormed, RowsFit}

-- ---- one row

null_fits : (k : Kind) → IsTrue (is_nullable_kind k) → Fits k null
null_fits (booleans n) h = h
null_fits (integers t n) h = h
null_fits (texts n) h = h
null_fits (binaries n) h = h
null_fits (lists k n) h = h
null_fits (fixed_lists k size n) h = h
null_fits (records names ks n) h = h

-- null stands only where it may
valid_or_nullable : (v : Valid) (i : ℕ) → is_valid_at v i ≡ false → IsTrue (nullable v)
valid_or_nullable non_nullable i h = cc
valid_or_nullable all_valid i h = refl
valid_or_nullable all_invalid i h = refl
valid_or_nullable (by_array t) i h = refl

-- a row that is null where it is not valid
masked_fits : (k : Kind) (r : Row) (b : Bool) → (b ≡ true → Fits k r) → (b ≡ false → IsTrue (is_nullable_kind k)) → Fits k (if b then r else null)
masked_fits k r true here none = here refl
masked_fits k r false here none = null_fits k (none refl)

-- a kind under which null may stand too takes the same rows
pub fits_nullable : (c : Bool) (k : Kind) (r : Row) → Fits k r → Fits (or_nullable c k) r
fits_nullable c k null h = null_fits (or_nullable c k) (may c k h)
  where
    or_true : (a b : Bool) → IsTrue b → IsTrue (a || b)
    or_true true b h = refl
    or_true false b h = h

    may : (c : Bool) (k : Kind) → Fits k null → IsTrue (is_nullable_kind (or_nullable c k))
    may c (booleans n) h = or_true c n h
    may c (integers t n) h = or_true c n h
    may c (texts n) h = or_true c n h
    may c (binaries n) h = or_true c n h
    may c (lists k n) h = or_true c n h
    may c (fixed_lists k size n) h = or_true c n h
    may c (records names ks n) h = or_true c n h
fits_nullable c (booleans n) (boolean b) h = h
fits_nullable c (integers t n) (whole z) h = h
fits_nullable c (texts n) (text bs) h = h
fits_nullable c (binaries n) (bytes bs) h = h
fits_nullable c (lists k n) (items rs) h = h
fits_nullable c (fixed_lists k size n) (items rs) h = h
fits_nullable c (records names ks n) (record_of fs) h = h
fits_nullable c _ _ h = absurd h

-- null stands under a kind that is made nullable
null_fits_nullable : (c : Bool) (k : Kind) → c ≡ true → Fits (or_nullable c k) null
null_fits_nullable c (booleans n) e = rw e refl
null_fits_nullable c (integers t n) e = rw e refl
null_fits_nullable c (texts n) e = rw e refl
null_fits_nullable c (binaries n) e = rw e refl
null_fits_nullable c (lists k n) e = rw e refl
null_fits_nullable c (fixed_lists k size n) e = rw e refl
null_fits_nullable c (records names ks n) e = rw e refl

-- what null fits may hold null
fits_null : (k : Kind) → Fits k null → is_nullable_kind k ≡ true
fits_null (booleans n) h = h
fits_null (integers t n) h = h
fits_null (texts n) h = h
fits_null (binaries n) h = h
fits_null (lists k n) h = h
fits_null (fixed_lists k size n) h = h
fits_null (records names ks n) h = h

-- the row that a code names
code_fits : (c : Bool) (codes : Kind) (k : Kind) (f : ℕ → Row) (len : ℕ) (r : Row) → c ≡ is_nullable_kind codes → IsCode len r → Fits codes r → ((j : ℕ) → j < len → Fits k (f j))
    → Fits (or_nullable c k) (picked f (position_in r))
code_fits c codes k f len null e h fits below = null_fits_nullable c k (e ∙ fits_null codes fits)
code_fits c codes k f len (whole (pos j)) e h fits below = fits_nullable c k (f j) (below j h)
code_fits c codes k f len _ e h fits below = absurd h

-- ---- rows of rows

range_fits : (k : Kind) (f : ℕ → Row) (len start n : ℕ) → ((i : ℕ) → i < len → Fits k (f i)) → start + n ≤ len → AllFit k (rows_range f start n)
range_fits k f len start zero here h = tt
range_fits k f len start (suc n) here h = (here start (omega arith), range_fits k f len (suc start) n here (omega arith))

count_range : (f : ℕ → Row) (start n : ℕ) → row_count (rows_range f start n) ≡ n
count_range f start zero = refl
count_range f start (suc n) = omega (arith, count_range f (suc start) n)

-- a list of a fixed size ends within the elements
pub list_within : (i k n len : ℕ) → len ≡ n * k → i < n → i * k + k ≤ len
list_within i k n len e l =
    let more : i + 1 ≤ n = omega arith in
    let scaled : (i + 1) * k ≤ n * k = mul-le-mul_right k more in
    omega arith

-- ---- numbers and views

bytes_taken : (n : ℕ) (bs : List ℕ) → AreBytes bs → AreBytes (take n bs)
bytes_taken zero bs h i = omega arith
bytes_taken (suc n) [] h i = omega arith
bytes_taken (suc n) (b ∷ bs) h zero = h 0
bytes_taken (suc n) (b ∷ bs) h (suc i) = bytes_taken n bs (λ j. h (suc j)) i

bytes_dropped : (n : ℕ) (bs : List ℕ) → AreBytes bs → AreBytes (drop n bs)
bytes_dropped n bs h i = rw (get_or-drop n bs i 0) (h (n + i))

number_fits : (t : PType) (bs : List ℕ) (i : ℕ) → AreBytes bs → i < length (numbers t bs) → Holds t (number_nth (numbers t bs) i)
number_fits t bs i h l =
    let part : AreBytes (take (byte_width t) (drop (i * byte_width t) bs)) = bytes_taken (byte_width t) (drop (i * byte_width t) bs) (bytes_dropped (i * byte_width t) bs h) in
    rw (get_numbers t bs i (pos 0) (rw (length_numbers t bs) at l)) (holds-number_of t (take (byte_width t) (drop (i * byte_width t) bs)) part)

value_fits : (u n : Bool) (value : List ℕ) → (IsTrue u → IsUtf8 value) → AreBytes value → IsShort value → Fits (value_kind u n) (value_row u value)
value_fits true n value good all short = (good refl, short)
value_fits false n value good all short = (all, short)

value_nullable : (u n : Bool) → IsTrue n → IsTrue (is_nullable_kind (value_kind u n))
value_nullable true n h = h
value_nullable false n h = h

view_fits : (buffers : List (List ℕ)) (view : List ℕ) (u n : Bool) → IsSoundView buffers u view → IsView view → ((block : ℕ) → AreBytes (buffer_at buffers block)) → Fits (value_kind u n) (value_row u (view_value buffers view))
view_fits buffers view u n sound formed all =
    value_fits u n (view_value buffers view) sound.utf8 (value-bytes buffers view formed all) (omega (arith, value-short buffers view formed))

-- ---- every layout

mutual
  pub rows_fit : RowsFit
  rows_fit (bools a bits v) h i l = masked_fits (booleans (nullable v)) _ (is_valid_at v i) (λ b. tt) (valid_or_nullable v i)
  rows_fit (primitive t bs v) h i l = masked_fits (integers t (nullable v)) _ (is_valid_at v i) (λ b. number_fits t bs i h.1 l) (valid_or_nullable v i)
  rows_fit (constant k r n) h i l = h
  rows_fit (dictionary c v f) h i l = code_fits (is_nullable_kind (kind_of c)) (kind_of c) (kind_of v) (row_at v) (tree_len v) (row_at c i) refl (h.0.within i l) (rows_fit c h.1 i l) (rows_fit v h.2)
  rows_fit (fixed_list e k v n) h i l =
      masked_fits (fixed_lists (kind_of e) k (nullable v)) _ (is_valid_at v i)
      (λ b. (count_range (row_at e) (i * k) k, range_fits (kind_of e) (row_at e) (tree_len e) (i * k) k (rows_fit e h.1) (list_within i k n (tree_len e) h.0.1 l))) (valid_or_nullable v i)
  rows_fit (list_view e o s v f) h i l =
      masked_fits (lists (kind_of e) (nullable v)) _ (is_valid_at v i)
      (λ b. range_fits (kind_of e) (row_at e) (tree_len e) (count_in (row_at o i)) (count_in (row_at s i)) (rows_fit e h.1) (h.0.1.within i l)) (valid_or_nullable v i)
  rows_fit (structure ns ts v n) h i l =
      masked_fits (records ns (kinds_of ts) (nullable v)) _ (is_valid_at v i) (λ b. fields_fit ts h.1 ns n i h.0.1.named h.0.1.lens l) (valid_or_nullable v i)
  rows_fit (view_array vs bs k v) h i l =
      let P : Kind → Type 0 = λ x. Fits x (row_at (view_array vs bs k v) i) in
      subst P (sym h.0.1.kind) (masked_fits (value_kind (is_texts k) (nullable v)) (value_row (is_texts k) (view_value bs (slice_index_or vs i []))) (is_valid_at v i)
      (λ b. view_fits bs (slice_index_or vs i []) (is_texts k) (nullable v) (h.0.1.sound i l b) (h.1.each_view i l) h.1.each_buffer) (λ b. value_nullable (is_texts k) (nullable v) (valid_or_nullable v i b)))

  fields_fit : (ts : Trees) → ColumnsFormed ts → (ns : List (List ℕ)) (n i : ℕ) → length ns ≡ column_count ts → AllLen n ts → i < n → FieldsFit ns (kinds_of ts) (fields_at ts ns i)
  fields_fit no_trees h [] n i named lens l = tt
  fields_fit no_trees h (m ∷ ns) n i named lens l = absurd (omega arith)
  fields_fit (tree t ts) h [] n i named lens l = absurd (omega arith)
  fields_fit (tree t ts) h (m ∷ ns) n i named lens l = (refl, rows_fit t h.0 i (rw lens.0 l), fields_fit ts h.1 ns n i (omega arith) lens.1 l)
