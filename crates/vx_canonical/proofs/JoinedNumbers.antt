-- Numbers of arrays that are joined, appended array by array.
use Rattle.std.proofs.Common.{ℕ, ◌+◌, ◌-◌, ◌*◌, ◌/◌, ◌<◌, ◌≤◌, ◌≡◌, Bool, true, false, List, [], ◌∷◌, ◌++◌, length, get_or, take, map, replicate, Option, Some, None, refl, sym, ◌∙◌, ap, subst, inl, inr, suc, arith}
use Rattle.std.specs.Prelude.{ℤ, pos, negsuc, IfSome, slice_index, if◌then◌else◌}
use Rattle.std.specs.Option.{unwrap_or}
use Rattle.std.specs.List.{All}
use Rattle.std.proofs.lemmas.Bool.{cases_lt}
use Rattle.std.proofs.lemmas.List.{take_more, take_all, length-append, get_or_append_left, get_or-append_right, get_or-map, get_or-replicate, length-replicate}
use Rattle.std.proofs.Math.Nat.{add-mul}
use Rattle.vx_base.specs.declared.ptypes.PType.{PType}
use Rattle.vx_base.specs.Integers.{byte_width, bytes_of, numbers, Holds, number_nth}
use Rattle.vx_base.specs.Kinds.{Kind, booleans, integers, texts, binaries, lists, fixed_lists, records, is_integers, is_nullable_kind, or_nullable, is_integers-or_nullable, Fits}
use Rattle.vx_base.specs.Rows.{Row, null, boolean, whole, bytes, text, items, record_of, is_present, number_in, position_in}
use Rattle.vx_base.proofs.Defaults.{default_fits}
use Rattle.vx_base.proofs.FirstFaults.{or_else-second}
use Rattle.vx_base.proofs.NumberLists.{whole as whole_numbers, length_numbers, numbers_none, length-bytes_of, numbers_push}
use Rattle.vx_base.proofs.Repeated.{map_repeated}
use Rattle.vx_tree.specs.Tree.{Tree, bools, primitive, constant, dictionary, fixed_list, list_view, structure, view_array, Valid}
use Rattle.vx_tree.specs.Meaning.{tree_len, kind_of, row_at, is_valid_at, picked, trees_from}
use Rattle.vx_tree.specs.Formed.{IsCode, IsDictionary, WellFormed}
use Rattle.vx_tree.specs.Named.{AreIndices}
use Rattle.vx_canonical.specs.Canonical.{HasRowsOf, IsCanonicalAt}
use Rattle.vx_tree.specs.CanonicalFaults.{plain_overflow, constant_fault, canonical_fault, columns_fault}
use Rattle.vx_canonical.specs.Joined.{joined_len, joined_row, bytes_in, AreNumbers, IsJoined, IsValidJoined}
use Rattle.vx_canonical.specs.JoinedNumbers.{AreOfType, HoldNumbers, ArePicked, AreRepeated, AreAppended}
use Rattle.vx_canonical.proofs.JoinedRows.{joined-here, joined-later}
use Rattle.vx_canonical.proofs.JoinedLeaves.{numbers-append, shown}

-- ---- rows of some arrays and then of others

pub joined_len-append : (ts us : List Tree) → joined_len (ts ++ us) ≡ joined_len ts + joined_len us
joined_len-append [] us = omega arith
joined_len-append (t ∷ ts) us = omega (arith, joined_len-append ts us)

joined_row-first : (ts us : List Tree) (i : ℕ) → i < joined_len ts → joined_row (ts ++ us) i ≡ joined_row ts i
joined_row-first [] us i l = absurd (omega arith)
joined_row-first (t ∷ ts) us i l = elim (cases_lt i (tree_len t)) [
  | inl here ↦ joined-here row_at null t (ts ++ us) i here ∙ sym (joined-here row_at null t ts i here)
  | inr later ↦ joined-later row_at null t (ts ++ us) i later ∙ joined_row-first ts us (i - tree_len t) (omega arith) ∙ sym (joined-later row_at null t ts i later)
]

joined_row-second : (ts us : List Tree) (i : ℕ) → joined_len ts ≤ i → joined_row (ts ++ us) i ≡ joined_row us (i - joined_len ts)
joined_row-second [] us i l =
    let place : i ≡ i - 0 = omega arith in
    ap (joined_row us) place
joined_row-second (t ∷ ts) us i l =
    let later : tree_len t ≤ i = omega arith in
    let place : i - tree_len t - joined_len ts ≡ i - (tree_len t + joined_len ts) = omega arith in
    joined-later row_at null t (ts ++ us) i later ∙ joined_row-second ts us (i - tree_len t) (omega arith) ∙ ap (joined_row us) place

-- ---- bytes of numbers

-- what stands where a row is not null, of a row that is the same
shown_same : (r s x y : Row) → r ≡ s → x ≡ y → s ≡ (if is_present s then y else null) → r ≡ (if is_present r then x else null)
shown_same r s x y e q h = e ∙ h ∙ (λ i. if is_present (sym e i) then sym q i else null)

numbers_held : (p : PType) (n : ℕ) (f : ℕ → Row) (bs : List ℕ) → HoldNumbers p n f bs → length (numbers p bs) ≡ n
numbers_held p n f bs h = length_numbers p bs ∙ ap (λ (k : ℕ). k / byte_width p) h.len ∙ whole_numbers p n

-- more numbers after them
numbers_both : (p : PType) (n m : ℕ) (f g h : ℕ → Row) (bs cs : List ℕ) → HoldNumbers p n f bs → HoldNumbers p m g cs → ((i : ℕ) → i < n → h i ≡ f i)
    → ((i : ℕ) → n ≤ i → i < n + m → h i ≡ g (i - n)) → HoldNumbers p (n + m) h (bs ++ cs)
numbers_both p n m f g h bs cs a b first second =
    record {
      len = length-append bs cs ∙ ap (λ k. k + length cs) a.len ∙ ap (λ k. n * byte_width p + k) b.len ∙ sym (add-mul n m (byte_width p));
      each = λ i l. elim (cases_lt i n) [
        | inl here ↦
            shown_same (h i) (f i) (whole (number_nth (numbers p (bs ++ cs)) i)) (whole (number_nth (numbers p bs) i)) (first i here)
            (ap whole (ap (λ zs. number_nth zs i) same ∙ get_or_append_left (numbers p bs) (numbers p cs) (pos 0) i (omega (arith, long)))) (a.each i here)
        | inr later ↦
            shown_same (h i) (g (i - n)) (whole (number_nth (numbers p (bs ++ cs)) i)) (whole (number_nth (numbers p cs) (i - n))) (second i later l)
            (ap whole (ap (λ zs. number_nth zs i) same ∙ get_or-append_right (numbers p bs) (numbers p cs) n i (pos 0) long later)) (b.each (i - n) (omega arith))
      ];
    }
  where
    same : numbers p (bs ++ cs) ≡ numbers p bs ++ numbers p cs
    same = numbers-append p bs cs n m a.len b.len

    long : length (numbers p bs) ≡ n
    long = numbers_held p n f bs a

-- those of one array more
numbers_of_next : (p : PType) (ts : List Tree) (t : Tree) (bs cs : List ℕ) → HoldNumbers p (joined_len ts) (joined_row ts) bs → HoldNumbers p (tree_len t) (row_at t) cs
    → HoldNumbers p (joined_len (ts ++ t ∷ [])) (joined_row (ts ++ t ∷ [])) (bs ++ cs)
numbers_of_next p ts t bs cs a b =
    let count : joined_len ts + tree_len t ≡ joined_len (ts ++ t ∷ []) = omega (arith, joined_len-append ts (t ∷ [])) in
    subst (λ n. HoldNumbers p n (joined_row (ts ++ t ∷ [])) (bs ++ cs)) count
    (numbers_both p (joined_len ts) (tree_len t) (joined_row ts) (row_at t) (joined_row (ts ++ t ∷ [])) bs cs a b (joined_row-first ts (t ∷ []))
    (λ i later l. joined_row-second ts (t ∷ []) i later ∙ joined-here row_at null t [] (i - joined_len ts) (omega arith)))

pub numbers_of_more_arrays : (p : PType) (ts : List Tree) (i : ℕ) (t : Tree) (olds news : List ℕ) → i < length ts → t ≡ get_or ts i t → HoldNumbers p (joined_len (take i ts)) (joined_row (take i ts)) olds
    → AreAppended (HoldNumbers p (tree_len t) (row_at t)) olds news → HoldNumbers p (joined_len (take (i + 1) ts)) (joined_row (take (i + 1) ts)) news
numbers_of_more_arrays p ts i t olds news inside same h appended =
    let more : take (i + 1) ts ≡ take i ts ++ t ∷ [] = take_more ts i t inside ∙ ap (λ u. take i ts ++ u ∷ []) (sym same) in
    rw (appended.items, more) (numbers_of_next p (take i ts) t olds appended.bytes h appended.holds)

pub numbers_of_all_arrays : (p : PType) (ts : List Tree) (i : ℕ) (bs : List ℕ) → length ts ≤ i → HoldNumbers p (joined_len (take i ts)) (joined_row (take i ts)) bs → HoldNumbers p (joined_len ts) (joined_row ts) bs
numbers_of_all_arrays p ts i bs l h = rw (take_all i ts l) at h

-- under the validity of the arrays they are the arrays joined
pub numbers_are_joined : (p : PType) (n : Bool) (ts : List Tree) (v : Valid) (bs : List ℕ) → HoldNumbers p (joined_len ts) (joined_row ts) bs → IsValidJoined n ts v → IsJoined (integers p n) ts (primitive p bs v) × WellFormed (primitive p bs v)
numbers_are_joined p n ts v bs h valid =
    let long : length (numbers p bs) ≡ joined_len ts = numbers_held p (joined_len ts) (joined_row ts) bs h in (
      record {
        len = long;
        kind = ap (integers p) valid.kind;
        plain = valid.plain;
        state = valid.state;
        extent = refl;
        flag = refl;
        rows = λ i l. ap (λ (b : Bool). if b then whole (number_nth (numbers p bs) i) else null) (valid.bits i l) ∙ sym (h.each i l);
      },
      (rw long valid.fits, h.len ∙ ap (λ k. k * byte_width p) (sym long)),
    )

-- ---- of each layout

-- what follows the bytes that were there
pub appended_more : {P Q : List ℕ → Type 0} (olds news : List ℕ) → ((bs : List ℕ) → P bs → Q bs) → AreAppended P olds news → AreAppended Q olds news
appended_more olds news f h = record { bytes = h.bytes; items = h.items; holds = f h.bytes h.holds }

abbrev type_in : Kind → PType → PType
type_in (integers q n) p = q
type_in _ p = p

-- plain numbers
primitive_held : (q p : PType) (bs : List ℕ) (v : Valid) → q ≡ p → length bs ≡ length (numbers q bs) * byte_width q → HoldNumbers p (length (numbers q bs)) (row_at (primitive q bs v)) bs
primitive_held q p bs v e w =
    rw (sym e) (record {
      len = w;
      each = λ i l. shown (is_valid_at v i) (whole (number_nth (numbers q bs) i)) refl;
    })

pub plain_held : (t : Tree) (p q : PType) (bs : List ℕ) (v : Valid) → t ≡ primitive q bs v → WellFormed (primitive q bs v) → AreOfType p t → HoldNumbers p (tree_len t) (row_at t) bs
plain_held t p q bs v a formed of =
    let same : AreOfType p (primitive q bs v) = rw a at of in
    rw a (primitive_held q p bs v (ap (λ k. type_in k p) same) formed.1)

-- one row
number_of_row : (p : PType) (n : Bool) (r : Row) → Fits (integers p n) r → Holds p (unwrap_or (number_in r) (pos 0)) × (r ≡ (if is_present r then whole (unwrap_or (number_in r) (pos 0)) else null))
number_of_row p n null h = (default_fits (integers p false) refl, refl)
number_of_row p n (whole z) h = (h, refl)
number_of_row p n (boolean b) h = absurd h
number_of_row p n (bytes b) h = absurd h
number_of_row p n (text b) h = absurd h
number_of_row p n (items b) h = absurd h
number_of_row p n (record_of b) h = absurd h

pub constant_number : (t : Tree) (p : PType) (k : Kind) (r : Row) (n : ℕ) → t ≡ constant k r n → Fits k r → AreOfType p t → Holds p (unwrap_or (number_in r) (pos 0))
constant_number t p k r n a fits of =
    let same : AreOfType p (constant k r n) = rw a at of in
    (number_of_row p (is_nullable_kind k) r (subst (λ q. Fits q r) same fits)).0

repeated_held : (p : PType) (z : ℤ) (n : ℕ) (f : ℕ → Row) (cs : List ℕ) → AreRepeated p z n cs → ((i : ℕ) → i < n → f i ≡ (if is_present (f i) then whole z else null)) → HoldNumbers p n f cs
repeated_held p z n f cs h each =
    record {
      len = h.len;
      each = λ i l. shown_same (f i) (f i) (whole (number_nth (numbers p cs) i)) (whole z) refl (ap whole (ap (λ zs. number_nth zs i) h.numbers ∙ get_or-replicate n i z (pos 0) l)) (each i l);
    }

pub constant_held : (t : Tree) (p : PType) (k : Kind) (r : Row) (n : ℕ) (cs : List ℕ) → t ≡ constant k r n → Fits k r → AreOfType p t → AreRepeated p (unwrap_or (number_in r) (pos 0)) n cs → HoldNumbers p (tree_len t) (row_at t) cs
constant_held t p k r n cs a fits of h =
    let same : AreOfType p (constant k r n) = rw a at of in
    let row = (number_of_row p (is_nullable_kind k) r (subst (λ q. Fits q r) same fits)).1 in
    rw a (repeated_held p (unwrap_or (number_in r) (pos 0)) n (λ i. r) cs h (λ i l. row))

-- one number, picked again and again
bytes_counted : (p : PType) (z : ℤ) (bs : List ℕ) → bs ≡ bytes_of p z → length bs / byte_width p ≡ 1
bytes_counted p z bs e =
    let long : length bs ≡ 1 * byte_width p = ap length e ∙ length-bytes_of p z ∙ omega arith in
    ap (λ (k : ℕ). k / byte_width p) long ∙ whole_numbers p 1

number_alone : (p : PType) (z : ℤ) (bs : List ℕ) → bs ≡ bytes_of p z → Holds p z → number_nth (numbers p bs) 0 ≡ z
number_alone p z bs e h =
    let none : 0 ≡ 0 * byte_width p = omega arith in
    let one : numbers p (bytes_of p z) ≡ z ∷ [] = numbers_push p [] 0 z none h ∙ ap (λ zs. zs ++ z ∷ []) (numbers_none p) in
    ap (λ xs. number_nth (numbers p xs) 0) e ∙ ap (λ zs. number_nth zs 0) one

pub repeated_within : (p : PType) (z : ℤ) (n : ℕ) (bs ps : List ℕ) → bs ≡ bytes_of p z → ps ≡ replicate n 0 → All (λ k. k < length bs / byte_width p) ps
repeated_within p z n bs ps e same = λ i d l.
    let inside : i < n = omega (arith, ap length same, length-replicate {A = ℕ} n 0) in
    let first : get_or ps i d ≡ 0 = ap (λ xs. get_or xs i d) same ∙ get_or-replicate n i 0 d inside in
    let below : get_or ps i d < length bs / byte_width p = omega (arith, first, bytes_counted p z bs e) in
    below

pub repeated_picked : (p : PType) (z : ℤ) (n : ℕ) (bs ps cs : List ℕ) → Holds p z → bs ≡ bytes_of p z → ps ≡ replicate n 0 → ArePicked p bs ps cs → AreRepeated p z n cs
repeated_picked p z n bs ps cs holds e same h =
    record {
      len = h.len ∙ ap (λ k. k * byte_width p) (ap length same ∙ length-replicate {A = ℕ} n 0);
      numbers =
          h.numbers ∙ ap (map (number_nth (numbers p bs))) same ∙ map_repeated (number_nth (numbers p bs)) 0 n ∙ ap (replicate n) (number_alone p z bs e holds);
    }

-- values that codes name
named_row : (f g : ℕ → Row) (len : ℕ) (o : Option ℕ) (k : ℕ) (x : Row) → IfSome o (λ j. k ≡ j) → IfSome o (λ j. j < len) → ((j : ℕ) → j < len → f j ≡ (if is_present (f j) then g j else null)) → x ≡ g k
    → picked f o ≡ (if is_present (picked f o) then x else null)
named_row f g len None k x told within content e = refl
named_row f g len (Some j) k x told within content e = shown_same (f j) (f j) x (g j) refl (e ∙ ap g told) (content j within)

pub named_held : (p : PType) (c v w : Tree) (bs ps cs : List ℕ) → HasRowsOf v w → AreNumbers p w → bs ≡ bytes_in w → AreIndices c (tree_len v) ps → ArePicked p bs ps cs
    → HoldNumbers p (tree_len c) (row_at (dictionary c v false)) cs
named_held p c v w bs ps cs h are e at_codes here =
    record {
      len = here.len ∙ ap (λ n. n * byte_width p) at_codes.len;
      each = λ i l.
          let inside : i < length ps = rw at_codes.len l in
          let q = at_codes.each i l in
          named_row (row_at v) (λ j. whole (number_nth (numbers p bs) j)) (tree_len v) (position_in (row_at c i)) (slice_index ps i) (whole (number_nth (numbers p cs) i)) q.told q.within
          (λ j m.
          shown_same (row_at v j) (row_at w j) (whole (number_nth (numbers p bs) j)) (whole (number_nth (numbers p (bytes_in w)) j)) (sym (h.rows j m)) (ap (λ xs. whole (number_nth (numbers p xs) j)) e)
          (are.content j (rw h.len m)))
          (ap whole (ap (λ zs. number_nth zs i) here.numbers ∙ get_or-map (number_nth (numbers p bs)) ps i 0 (pos 0) inside));
    }

pub named_within : (p : PType) (v w : Tree) (bs : List ℕ) → HasRowsOf v w → AreNumbers p w → bs ≡ bytes_in w → length bs / byte_width p ≡ tree_len v
named_within p v w bs h are e = ap (λ (xs : List ℕ). length xs / byte_width p) e ∙ ap (λ (k : ℕ). k / byte_width p) are.bytes ∙ whole_numbers p (tree_len w) ∙ h.len

-- the same where a row is there for each code
few_row : (f : ℕ → Row) (o : Option ℕ) (k : ℕ) (r x : Row) → IfSome o (λ j. k ≡ j) → r ≡ f k → r ≡ (if is_present r then x else null) → picked f o ≡ (if is_present (picked f o) then x else null)
few_row f None k r x told e h = refl
few_row f (Some j) k r x told e h = shown_same (f j) r x x (ap f (sym told) ∙ sym e) refl h

pub few_held : (p : PType) (c v w : Tree) (ps : List ℕ) → IsCanonicalAt v ps w → AreNumbers p w → AreIndices c (tree_len v) ps → HoldNumbers p (tree_len c) (row_at (dictionary c v false)) (bytes_in w)
few_held p c v w ps made are at_codes =
    record {
      len = are.bytes ∙ ap (λ n. n * byte_width p) (made.len ∙ at_codes.len);
      each = λ i l.
          let inside : i < length ps = rw at_codes.len l in
          few_row (row_at v) (position_in (row_at c i)) (slice_index ps i) (row_at w i) (whole (number_nth (numbers p (bytes_in w)) i)) (at_codes.each i l).told (made.rows i inside)
          (are.content i (rw made.len inside));
    }

-- of no values no code names one
code_of_none : (r : Row) → IsCode 0 r → position_in r ≡ None
code_of_none null h = refl
code_of_none (whole (pos k)) h = absurd (omega (arith, h))
code_of_none (whole (negsuc k)) h = absurd h
code_of_none (boolean b) h = absurd h
code_of_none (bytes b) h = absurd h
code_of_none (text b) h = absurd h
code_of_none (items b) h = absurd h
code_of_none (record_of b) h = absurd h

pub absent_held : (p : PType) (c v : Tree) (cs : List ℕ) → IsDictionary c v false → tree_len v ≡ 0 → AreRepeated p (pos 0) (tree_len c) cs → HoldNumbers p (tree_len c) (row_at (dictionary c v false)) cs
absent_held p c v cs d none h =
    repeated_held p (pos 0) (tree_len c) (row_at (dictionary c v false)) cs h
    (λ i l. shown_same (picked (row_at v) (position_in (row_at c i))) null (whole (pos 0)) (whole (pos 0)) (ap (picked (row_at v)) (code_of_none (row_at c i) (rw none at d.within i l))) refl refl)

type_of_nullable : (p : PType) (b m : Bool) (k : Kind) → or_nullable b k ≡ integers p m → k ≡ integers p (is_nullable_kind k)
type_of_nullable p b m (integers q n) e = ap (λ k. integers (type_in k p) n) e
type_of_nullable p b m (booleans n) e = cc
type_of_nullable p b m (texts n) e = cc
type_of_nullable p b m (binaries n) e = cc
type_of_nullable p b m (lists k n) e = cc
type_of_nullable p b m (fixed_lists k size n) e = cc
type_of_nullable p b m (records names ks n) e = cc

pub type_of_values : (t c v : Tree) (f : Bool) (p : PType) → t ≡ dictionary c v f → AreOfType p t → AreOfType p v
type_of_values t c v f p a of =
    let same : AreOfType p (dictionary c v f) = rw a at of in
    type_of_nullable p (is_nullable_kind (kind_of c)) (is_nullable_kind (kind_of (dictionary c v f))) (kind_of v) same

-- the flag says nothing of the rows
pub flagged_held : (t c v : Tree) (f : Bool) (p : PType) (cs : List ℕ) → t ≡ dictionary c v f → HoldNumbers p (tree_len c) (row_at (dictionary c v false)) cs → HoldNumbers p (tree_len t) (row_at t) cs
flagged_held t c v f p cs a h = rw a (record { len = h.len; each = λ i l. h.each i l })

-- ---- faults

pub no_overflow : (k : Kind) (n : ℕ) → is_integers k ≡ true → plain_overflow k n ≡ None
no_overflow (integers p m) n e = refl
no_overflow (booleans m) n e = refl
no_overflow (texts m) n e = refl
no_overflow (binaries m) n e = refl
no_overflow (lists k m) n e = refl
no_overflow (fixed_lists k size m) n e = cc
no_overflow (records names ks m) n e = cc

constant_faultless : (k : Kind) (r : Row) (n : ℕ) → is_integers k ≡ true → constant_fault k r n ≡ None
constant_faultless (integers p m) r n e = refl
constant_faultless (booleans m) r n e = cc
constant_faultless (texts m) r n e = cc
constant_faultless (binaries m) r n e = cc
constant_faultless (lists k m) r n e = cc
constant_faultless (fixed_lists k size m) r n e = cc
constant_faultless (records names ks m) r n e = cc

-- numbers are made plain without a fault
pub numbers_faultless : (t : Tree) → is_integers (kind_of t) ≡ true → canonical_fault t ≡ None
numbers_faultless (bools b bits v) e = refl
numbers_faultless (primitive p bs v) e = refl
numbers_faultless (constant k r n) e = constant_faultless k r n e
numbers_faultless (dictionary c v f) e =
    let ints : is_integers (kind_of v) ≡ true = sym (is_integers-or_nullable (is_nullable_kind (kind_of c)) (kind_of v)) ∙ e in
    or_else-second (canonical_fault v) (plain_overflow (kind_of v) (tree_len c)) None (numbers_faultless v ints) (no_overflow (kind_of v) (tree_len c) ints)
numbers_faultless (fixed_list x k v n) e = cc
numbers_faultless (list_view x o s v f) e = cc
numbers_faultless (structure ns ts v n) e = cc
numbers_faultless (view_array vs bs k v) e = refl

pub type_faultless : (t : Tree) (p : PType) → AreOfType p t → canonical_fault t ≡ None
type_faultless t p of = numbers_faultless t (ap is_integers of)

pub columns_faultless : (ts : List Tree) (k : Kind) → is_integers k ≡ true → All (λ t. kind_of t ≡ k) ts → columns_fault (trees_from ts) ≡ None
columns_faultless [] k e h = refl
columns_faultless (t ∷ ts) k e h =
    or_else-second (canonical_fault t) (columns_fault (trees_from ts)) None (numbers_faultless t (ap is_integers (h 0 t (omega arith)) ∙ e)) (columns_faultless ts k e (λ i d l. h (suc i) d (omega arith)))
