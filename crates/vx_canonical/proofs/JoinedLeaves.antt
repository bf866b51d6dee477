-- Booleans and numbers that are joined.
use Rattle.std.proofs.Common.{ℕ, suc, ◌+◌, ◌-◌, ◌*◌, ◌/◌, ◌<◌, ◌≤◌, ◌≡◌, Bool, true, false, List, [], ◌∷◌, ◌++◌, length, get_or, take, drop, refl, sym, ◌∙◌, ap, inl, inr, arith}
use Rattle.std.specs.Prelude.{ℤ, pos, if◌then◌else◌}
use Rattle.std.specs.List.{All, flat_map}
use Rattle.std.proofs.Math.Nat.{mul-le-mul_right, add-mul}
use Rattle.std.proofs.lemmas.Bool.{cases_lt}
use Rattle.std.proofs.lemmas.List.{length-append, get_or_append_left, get_or-append_right, same_lists, drop-append-le, take-append-le, length-drop, drop_at, drop-drop}
use Rattle.vx_base.specs.Bits.{bool_at}
use Rattle.vx_base.specs.Integers.{byte_width, numbers, number_at, number_of, number_nth}
use Rattle.vx_base.specs.Rows.{Row, null, boolean, whole, is_present}
use Rattle.vx_base.specs.Kinds.{Kind, booleans, integers}
use Rattle.vx_base.specs.declared.ptypes.PType.{PType}
use Rattle.vx_base.proofs.NumberLists.{whole as whole_numbers, length_numbers, get_numbers, numbers_none}
use Rattle.vx_tree.specs.Tree.{Tree, bools, primitive, constant, dictionary, fixed_list, list_view, structure, view_array, Valid}
use Rattle.vx_tree.specs.Layouts.{is_bools}
use Rattle.vx_tree.specs.Meaning.{tree_len, kind_of, is_valid_at, nullable, is_texts}
use Rattle.vx_tree.specs.Formed.{WellFormed, value_kind}
use Rattle.vx_tree.specs.Fitting.{AllFormed}
use Rattle.vx_tree.specs.Plain.{IsPlain}
use Rattle.vx_canonical.specs.Joined.{joined_len, IsJoined, IsValidJoined, bits_in, bytes_in, AreNumbers}
use Rattle.vx_canonical.proofs.JoinedRows.{HoldEach, HasContent, length-joined, joined_item, rows_of_content}

-- what stands where the row is not null
pub shown : (b : Bool) (r : Row) → is_present r ≡ true → (if b then r else null) ≡ (if is_present (if b then r else null) then r else null)
shown true r e = rw e refl
shown false r e = refl

-- ---- booleans

bools-hold : (t : Tree) → is_bools t ≡ true → length (bits_in t) ≡ tree_len t
bools-hold (bools b bits v) h = refl
bools-hold _ h = cc

bools-content : (t : Tree) → is_bools t ≡ true → HasContent (λ u j. boolean (bool_at (bits_in u) j)) t
bools-content (bools b bits v) h = λ j l. shown (is_valid_at v j) (boolean (bool_at bits j)) refl
bools-content _ h = cc

-- so many bits as rows
pub length-bits : (ts : List Tree) → All (λ t. is_bools t ≡ true) ts → length (flat_map bits_in ts) ≡ joined_len ts
length-bits ts h = length-joined bits_in ts (λ k d l. bools-hold (get_or ts k d) (h k d l))

pub bools_joined : {b : ℕ} (ts : List Tree) (v : Valid) (bits : List Bool) → All (λ t. is_bools t ≡ true) ts → bits ≡ flat_map bits_in ts → IsValidJoined (nullable v) ts v → IsJoined (booleans (nullable v)) ts (bools b bits v)
bools_joined {b} ts v bits h e valid =
    let hold : HoldEach bits_in ts = λ k d l. bools-hold (get_or ts k d) (h k d l) in
    rw e (record {
      len = length-joined bits_in ts hold;
      kind = refl;
      plain = valid.plain;
      state = valid.state;
      extent = refl;
      flag = refl;
      rows = λ i l.
          rows_of_content (λ u j. boolean (bool_at (bits_in u) j)) (bools b (flat_map bits_in ts) v) ts (λ k d m. bools-content (get_or ts k d) (h k d m)) i l
          (is_valid_at v i) (boolean (bool_at (flat_map bits_in ts) i)) (valid.bits i l) (joined_item bits_in boolean false null ts hold i l) refl;
    })

-- ---- numbers

-- the numbers of bytes that are joined
pub numbers-append : (p : PType) (bs cs : List ℕ) (n m : ℕ) → length bs ≡ n * byte_width p → length cs ≡ m * byte_width p → numbers p (bs ++ cs) ≡ numbers p bs ++ numbers p cs
numbers-append p bs cs n m e f =
    same_lists (numbers p (bs ++ cs)) (numbers p bs ++ numbers p cs) (long ∙ sym both) (λ i d l. each i d (omega (arith, long)))
  where
    width : ℕ
    width = byte_width p

    first : length (numbers p bs) ≡ n
    first = length_numbers p bs ∙ ap (λ (k : ℕ). k / byte_width p) e ∙ whole_numbers p n

    second : length (numbers p cs) ≡ m
    second = length_numbers p cs ∙ ap (λ (k : ℕ). k / byte_width p) f ∙ whole_numbers p m

    all : length (bs ++ cs) ≡ (n + m) * byte_width p
    all = length-append bs cs ∙ ap (λ k. k + length cs) e ∙ ap (λ k. n * byte_width p + k) f ∙ sym (add-mul n m (byte_width p))

    count : length (bs ++ cs) / byte_width p ≡ n + m
    count = ap (λ (k : ℕ). k / byte_width p) all ∙ whole_numbers p (n + m)

    long : length (numbers p (bs ++ cs)) ≡ n + m
    long = length_numbers p (bs ++ cs) ∙ count

    both : length (numbers p bs ++ numbers p cs) ≡ n + m
    both = omega (arith, length-append (numbers p bs) (numbers p cs), first, second)

    front : (i : ℕ) → i < n → number_at p (bs ++ cs) i ≡ number_at p bs i
    front i l =
        let more : i + 1 ≤ n = omega arith in
        let room : (i + 1) * byte_width p ≤ n * byte_width p = mul-le-mul_right (byte_width p) more in
        let place : i * byte_width p ≤ length bs = omega (arith, e) in
        let rest : drop (i * byte_width p) (bs ++ cs) ≡ drop (i * byte_width p) bs ++ cs = drop-append-le (i * byte_width p) bs cs place in
        let part : take (byte_width p) (drop (i * byte_width p) bs ++ cs) ≡ take (byte_width p) (drop (i * byte_width p) bs) =
        take-append-le (byte_width p) (drop (i * byte_width p) bs) cs (omega (arith, length-drop (i * byte_width p) bs, e)) in
        ap (number_of p) (ap (take (byte_width p)) rest ∙ part)

    back : (i : ℕ) → n ≤ i → number_at p (bs ++ cs) i ≡ number_at p cs (i - n)
    back i l =
        let same : i ≡ n + (i - n) = omega arith in
        let place : i * byte_width p ≡ length bs + (i - n) * byte_width p = ap (λ k. k * byte_width p) same ∙ add-mul n (i - n) (byte_width p) ∙ ap (λ k. k + (i - n) * byte_width p) (sym e) in
        let rest : drop (i * byte_width p) (bs ++ cs) ≡ drop ((i - n) * byte_width p) cs =
        ap (λ k. drop k (bs ++ cs)) place ∙ sym (drop-drop ((i - n) * byte_width p) (length bs) (bs ++ cs)) ∙ ap (drop ((i - n) * byte_width p)) (drop_at bs cs (length bs) refl) in
        ap (λ xs. number_of p (take (byte_width p) xs)) rest

    each : (i : ℕ) (d : ℤ) → i < n + m → get_or (numbers p (bs ++ cs)) i d ≡ get_or (numbers p bs ++ numbers p cs) i d
    each i d l = elim (cases_lt i n) [
      | inl here ↦
          get_numbers p (bs ++ cs) i d (rw count l) ∙ front i here ∙ sym (get_numbers p bs i d (omega (arith, length_numbers p bs, first)))
          ∙ sym (get_or_append_left (numbers p bs) (numbers p cs) d i (omega (arith, first)))
      | inr later ↦
          get_numbers p (bs ++ cs) i d (rw count l) ∙ back i later ∙ sym (get_numbers p cs (i - n) d (omega (arith, length_numbers p cs, second)))
          ∙ sym (get_or-append_right (numbers p bs) (numbers p cs) n i d first later)
    ]

numbers_in : PType → Tree → List ℤ
numbers_in p t = numbers p (bytes_in t)

pub numbers_joined_len : (p : PType) (ts : List Tree) → All (AreNumbers p) ts → length (flat_map bytes_in ts) ≡ joined_len ts * byte_width p
numbers_joined_len p [] h = omega arith
numbers_joined_len p (t ∷ ts) h =
    let here : AreNumbers p t = h 0 t (omega arith) in
    length-append (bytes_in t) (flat_map bytes_in ts) ∙ ap (λ k. k + length (flat_map bytes_in ts)) here.bytes
    ∙ ap (λ k. tree_len t * byte_width p + k) (numbers_joined_len p ts (λ k d l. h (suc k) d (omega arith))) ∙ sym (add-mul (tree_len t) (joined_len ts) (byte_width p))

pub numbers_joined : (p : PType) (ts : List Tree) → All (AreNumbers p) ts → numbers p (flat_map bytes_in ts) ≡ flat_map (λ t. numbers p (bytes_in t)) ts
numbers_joined p [] h = numbers_none p
numbers_joined p (t ∷ ts) h =
    let here : AreNumbers p t = h 0 t (omega arith) in
    let rest : All (AreNumbers p) ts = λ k d l. h (suc k) d (omega arith) in
    numbers-append p (bytes_in t) (flat_map bytes_in ts) (tree_len t) (joined_len ts) here.bytes (numbers_joined_len p ts rest)
    ∙ ap (λ xs. numbers p (bytes_in t) ++ xs) (numbers_joined p ts rest)

numbers-hold : (p : PType) (t : Tree) → AreNumbers p t → length (numbers p (bytes_in t)) ≡ tree_len t
numbers-hold p t h = length_numbers p (bytes_in t) ∙ ap (λ (k : ℕ). k / byte_width p) h.bytes ∙ whole_numbers p (tree_len t)

pub primitives_joined : (p : PType) (ts : List Tree) (v : Valid) (bs : List ℕ) → All (AreNumbers p) ts → bs ≡ flat_map bytes_in ts → IsValidJoined (nullable v) ts v
    → IsJoined (integers p (nullable v)) ts (primitive p bs v) × WellFormed (primitive p bs v)
primitives_joined p ts v bs h e valid =
    let same : numbers p bs ≡ flat_map (λ t. numbers p (bytes_in t)) ts = ap (numbers p) e ∙ numbers_joined p ts h in
    let hold : HoldEach (λ t. numbers p (bytes_in t)) ts = λ k d l. numbers-hold p (get_or ts k d) (h k d l) in
    let long : length (numbers p bs) ≡ joined_len ts = ap length same ∙ length-joined (λ t. numbers p (bytes_in t)) ts hold in (
      record {
        len = long;
        kind = refl;
        plain = valid.plain;
        state = valid.state;
        extent = refl;
        flag = refl;
        rows = λ i l.
            rows_of_content (λ u j. whole (number_nth (numbers p (bytes_in u)) j)) (primitive p bs v) ts (λ k d m. (h k d m).content) i l
            (is_valid_at v i) (whole (number_nth (numbers p bs) i)) (valid.bits i l)
            (ap (λ zs. whole (number_nth zs i)) same ∙ joined_item (λ t. numbers p (bytes_in t)) whole (pos 0) null ts hold i l) refl;
      },
      (rw long valid.fits, ap length e ∙ numbers_joined_len p ts h ∙ ap (λ k. k * byte_width p) (sym long)),
    )

-- ---- plain arrays of a kind

pub bools_of_kind : (t : Tree) (n : Bool) → IsPlain t → AllFormed t → kind_of t ≡ booleans n → is_bools t ≡ true
bools_of_kind (bools b bits v) n p f k = refl
bools_of_kind (primitive q bs v) n p f k = cc
bools_of_kind (constant q r m) n p f k = absurd p
bools_of_kind (dictionary c v g) n p f k = absurd p
bools_of_kind (fixed_list e s v m) n p f k = cc
bools_of_kind (list_view e o s v g) n p f k = cc
bools_of_kind (structure ns ts v m) n p f k = cc
bools_of_kind (view_array vs bs q v) n p f k = absurd (no_values (is_texts q) (nullable v) n (sym f.0.1.kind ∙ k))
  where
    no_values : (b m n : Bool) → value_kind b m ≡ booleans n → ⊥
    no_values true m n e = cc
    no_values false m n e = cc

numbers_of_type : (q p : PType) (bs : List ℕ) (v : Valid) → q ≡ p → length bs ≡ length (numbers q bs) * byte_width q → AreNumbers p (primitive q bs v)
numbers_of_type q p bs v e w =
    rw (sym e) (record {
      layout = refl;
      bytes = w;
      content = λ j l. shown (is_valid_at v j) (whole (number_nth (numbers q bs) j)) refl;
    })

abbrev type_in : Kind → PType → PType
type_in (integers q n) p = q
type_in _ p = p

pub numbers_of_kind : (t : Tree) (p : PType) (n : Bool) → IsPlain t → AllFormed t → kind_of t ≡ integers p n → AreNumbers p t
numbers_of_kind (bools b bits v) p n a f k = cc
numbers_of_kind (primitive q bs v) p n a f k = numbers_of_type q p bs v (ap (λ kd. type_in kd p) k) f.0.1
numbers_of_kind (constant q r m) p n a f k = absurd a
numbers_of_kind (dictionary c v g) p n a f k = absurd a
numbers_of_kind (fixed_list e s v m) p n a f k = cc
numbers_of_kind (list_view e o s v g) p n a f k = cc
numbers_of_kind (structure ns ts v m) p n a f k = cc
numbers_of_kind (view_array vs bs q v) p n a f k = absurd (no_values (is_texts q) (nullable v) (sym f.0.1.kind ∙ k))
  where
    no_values : (b m : Bool) → value_kind b m ≡ integers p n → ⊥
    no_values true m e = cc
    no_values false m e = cc
