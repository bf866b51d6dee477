-- Values that codes name, marked one after another.
use Rattle.std.proofs.Common.{ℕ, ◌+◌, ◌-◌, ◌<◌, ◌≤◌, ◌≡◌, Bool, true, false, not, List, [], ◌∷◌, length, map, get_or, eqb, replicate, Some, None, inl, inr, refl, sym, ◌∙◌, ap, subst, suc, zero-add, arith}
use Rattle.std.specs.Prelude.{ℤ, pos, negsuc, ◌↔◌, ◌⊎◌, ◌≢◌, ◌==◌, IsTrue, count_by, slice_index, slice_set, unsigned_abs, unwrap_or, if◌then◌else◌}
use Rattle.std.specs.Int.{bit_at}
use Rattle.std.specs.List.{range_with_len}
use Rattle.std.proofs.lemmas.Bool.{false≢true, cases_lt, cases_Bool, cases_eq}
use Rattle.std.proofs.lemmas.Bool.Decides.{Decides-eqb}
use Rattle.std.proofs.lemmas.Grind.{get_or-set_at}
use Rattle.std.proofs.lemmas.List.Folds.{list_any_at}
use Rattle.std.proofs.lemmas.List.FromFn.{get_or-map-range_with_len, length-map-range_with_len}
use Rattle.std.proofs.lemmas.Map.Steps.{le-length_from_below}
use Rattle.std.proofs.lemmas.List.{get_or-map, get_or-replicate, get_or-set_other, length-replicate, length-set}
use Rattle.vx_base.specs.Bits.{bool_at}
use Rattle.vx_base.specs.Integers.{numbers, number_nth}
use Rattle.vx_base.specs.Rows.{Row, null, boolean, whole, bytes, text, items, record_of, is_present, position_in, number_in}
use Rattle.vx_base.specs.declared.ptypes.PType.{PType}
use Rattle.vx_base.proofs.MaskCounts.{count-true, all_true_from_count}
use Rattle.vx_tree.specs.Tree.{Tree, dictionary}
use Rattle.vx_tree.specs.Formed.{IsCode, IsDictionary, ReferencesAll}
use Rattle.vx_tree.specs.Meaning.{tree_len, row_at}
use Rattle.vx_tree.specs.Operations.{masked_numbers}
use Rattle.vx_leaves.specs.Dictionaries.{codes_in, values_in, referenced_flag, MarksReferenced, IsNamedBefore, AreNamed, Marks, MarksSet, NamesAmong, NamesSet, number_places}

-- ---- marks

-- what is named stays named
named_later : (c : Tree) (n m j : ℕ) → n ≤ m → IsNamedBefore c n j → IsNamedBefore c m j
named_later c n m j upto found = let inside : found.0 < n = found.1 in (found.0, omega arith, found.2)

pub AreNamed-none : (c : Tree) (r : Bool) (bits : List Bool) → ((j : ℕ) → j < length bits → bool_at bits j ≢ r) → AreNamed c 0 (length bits) r bits
AreNamed-none c r bits none = record {
  len = refl;
  each = λ j inside. ((λ is. absurd (none j inside is)), (λ (found : IsNamedBefore c 0 j). let inside : found.0 < 0 = found.1 in absurd (omega arith)));
}

-- arrays whose first rows are the same have the same marks
pub AreNamed-same : (c t : Tree) (n count : ℕ) (r : Bool) (bits : List Bool) → ((i : ℕ) → i < n → row_at c i ≡ row_at t i) → AreNamed c n count r bits → AreNamed t n count r bits
AreNamed-same c t n count r bits same named = record {
  len = named.len;
  each = λ j inside. (
    (λ is. let found = (named.each j inside).0 is in (found.0, found.1, ap position_in (sym (same found.0 found.1)) ∙ found.2)),
    (λ (found : IsNamedBefore t n j). (named.each j inside).1 (found.0, found.1, ap position_in (same found.0 found.1) ∙ found.2)),
  );
}

-- more codes, which name what Found says
pub AreNamed-more : (c : Tree) (n m count : ℕ) (r : Bool) (old new : List Bool) (Found : ℕ → Type 0) → n ≤ m
    → ((j : ℕ) → Found j → IsNamedBefore c m j) → ((i j : ℕ) → n ≤ i → i < m → position_in (row_at c i) ≡ Some j → Found j)
    → AreNamed c n count r old → length new ≡ length old → ((j : ℕ) → j < length old → (bool_at new j ≡ r) ↔ ((bool_at old j ≡ r) ⊎ Found j))
    → AreNamed c m count r new
AreNamed-more c n m count r old new Found le sound complete named long each = record {
  len = long ∙ named.len;
  each = λ j inside. let here : j < length old = omega (arith, named.len) in (
    (λ is. elim ((each j here).0 is) [
      | inl was ↦ named_later c n m j le ((named.each j inside).0 was)
      | inr found ↦ sound j found
    ]),
    (λ (found : IsNamedBefore c m j). (each j here).1 (elim (cases_lt found.0 n) [
      | inl before ↦ inl ((named.each j inside).1 (found.0, before, found.2))
      | inr after ↦ inr (complete found.0 j after found.1 found.2)
    ])),
  );
}

-- where all are marked, more codes mark no more
pub AreNamed-all : (c : Tree) (n m count : ℕ) (r : Bool) (bits : List Bool) → n ≤ m → ((j : ℕ) → j < length bits → bool_at bits j ≡ r) → AreNamed c n count r bits → AreNamed c m count r bits
AreNamed-all c n m count r bits le all named = record {
  len = named.len;
  each = λ j inside. ((λ is. named_later c n m j le ((named.each j inside).0 is)), (λ found. all j (omega (arith, named.len))));
}

-- of rows that are all one the first names all
pub AreNamed-alike : (c : Tree) (n count : ℕ) (r : Bool) (bits : List Bool) → 0 < n → ((i : ℕ) → row_at c i ≡ row_at c 0) → AreNamed c 1 count r bits → AreNamed c n count r bits
AreNamed-alike c n count r bits some alike named = record {
  len = named.len;
  each = λ j inside. (
    (λ is. named_later c 1 n j (omega arith) ((named.each j inside).0 is)),
    (λ (found : IsNamedBefore c n j). (named.each j inside).1 (0, omega arith, ap position_in (sym (alike found.0)) ∙ found.2)),
  );
}

some_same : (a b : ℕ) → Some a ≡ Some b → a ≡ b
some_same a b e = ap (λ o. unwrap_or o 0) e

-- ---- one row

code_named : (bound : ℕ) (row : Row) (z : ℤ) → IsCode bound row → number_in row ≡ Some z → (position_in row ≡ Some (unsigned_abs z)) × (unsigned_abs z < bound)
code_named bound (whole (pos k)) z code e = let same : pos k ≡ z = number_same (pos k) z e in rw (← same) (refl, code)
  where
    number_same : (y z : ℤ) → Some y ≡ Some z → y ≡ z
    number_same y z e = ap (λ o. unwrap_or o (pos 0)) e
code_named bound (whole (negsuc k)) z code e = absurd code
code_named bound null z code e = absurd (cc)
code_named bound (boolean b) z code e = absurd code
code_named bound (bytes bs) z code e = absurd code
code_named bound (text bs) z code e = absurd code
code_named bound (items rs) z code e = absurd code
code_named bound (record_of rs) z code e = absurd code

code_unnamed : (bound : ℕ) (row : Row) → IsCode bound row → is_present row ≡ false → position_in row ≡ None
code_unnamed bound null code absent = refl
code_unnamed bound (whole z) code absent = absurd (false≢true (sym absent))
code_unnamed bound (boolean b) code absent = absurd code
code_unnamed bound (bytes bs) code absent = absurd code
code_unnamed bound (text bs) code absent = absurd code
code_unnamed bound (items rs) code absent = absurd code
code_unnamed bound (record_of rs) code absent = absurd code

-- a code that is marked, and a null
pub row_marked : (c : Tree) (n : ℕ) (r : Bool) (old : List Bool) (z : ℤ) → IsCode (length old) (row_at c n) → number_in (row_at c n) ≡ Some z → AreNamed c n (length old) r old
    → AreNamed c (n + 1) (length old) r (slice_set old (unsigned_abs z) r)
row_marked c n r old z code number named =
    let k : ℕ = unsigned_abs z in
    let told = code_named (length old) (row_at c n) z code number in
    AreNamed-more c n (n + 1) (length old) r old (slice_set old k r) (λ j. k ≡ j) (omega arith)
    (λ j same. (n, omega arith, told.0 ∙ ap Some same))
    (λ i j low high is. let here : i ≡ n = omega arith in some_same k j (sym told.0 ∙ subst (λ x. position_in (row_at c x) ≡ Some j) here is))
    named (length-set old k r)
    (λ j inside. elim (cases_eq j k) [
      | inl here ↦ ((λ is. inr (sym here)), (λ either. get_or-set_at old k j r false here told.1))
      | inr other ↦
          let kept : bool_at (slice_set old k r) j ≡ bool_at old j = get_or-set_other old k j r false other in (
            (λ is. inl (sym kept ∙ is)),
            (λ (either : (bool_at old j ≡ r) ⊎ (k ≡ j)). elim either [ inl is ↦ kept ∙ is | inr same ↦ absurd (other (sym same)) ]),
          )
    ])

pub row_skipped : (c : Tree) (n : ℕ) (r : Bool) (old : List Bool) → IsCode (length old) (row_at c n) → is_present (row_at c n) ≡ false → AreNamed c n (length old) r old → AreNamed c (n + 1) (length old) r old
row_skipped c n r old code absent named =
    AreNamed-more c n (n + 1) (length old) r old old (λ j. ⊥) (omega arith)
    (λ j none. absurd none)
    (λ i j low high is.
    let here : i ≡ n = omega arith in
    let none : None ≡ Some j = sym (code_unnamed (length old) (row_at c n) code absent) ∙ subst (λ x. position_in (row_at c x) ≡ Some j) here is in
    absurd (cc))
    named refl
    (λ j inside. ((λ is. inl is), (λ (either : (bool_at old j ≡ r) ⊎ ⊥). elim either [ inl is ↦ is | inr none ↦ absurd none ])))

-- ---- numbers under a mask

module _ (p : PType) (bs : List ℕ) (mask : List Bool) (bound i : ℕ) (code : IsCode bound (row_at (masked_numbers p bs mask) i)) where
  number_code : bool_at mask i ≡ true → IsCode bound (whole (number_nth (numbers p bs) i))
  number_code on = subst (λ b. IsCode bound (if b then whole (number_nth (numbers p bs) i) else null)) on code

  number_row : (b : Bool) → bool_at mask i ≡ b → row_at (masked_numbers p bs mask) i ≡ (if b then whole (number_nth (numbers p bs) i) else null)
  number_row b is = ap (λ b. if b then whole (number_nth (numbers p bs) i) else null) is

  place_read : i < length (numbers p bs) → slice_index (number_places p bs) i ≡ unsigned_abs (number_nth (numbers p bs) i)
  place_read there = get_or-map unsigned_abs (numbers p bs) i (pos 0) 0 there

  -- a number that is valid names its place
  pub place_named : i < length (numbers p bs) → bool_at mask i ≡ true → position_in (row_at (masked_numbers p bs mask) i) ≡ Some (slice_index (number_places p bs) i)
  place_named there on =
      ap position_in (number_row true on) ∙ (code_named bound (whole (number_nth (numbers p bs) i)) (number_nth (numbers p bs) i) (number_code on) refl).0 ∙ sym (ap Some (place_read there))

  pub place_below : i < length (numbers p bs) → bool_at mask i ≡ true → slice_index (number_places p bs) i < bound
  place_below there on =
      let below = (code_named bound (whole (number_nth (numbers p bs) i)) (number_nth (numbers p bs) i) (number_code on) refl).1 in
      rw (place_read there) below

-- the others name none
none_named : (p : PType) (bs : List ℕ) (mask : List Bool) (i j : ℕ) → bool_at mask i ≡ false → position_in (row_at (masked_numbers p bs mask) i) ≡ Some j → ⊥
none_named p bs mask i j off named =
    let row : row_at (masked_numbers p bs mask) i ≡ null = ap (λ b. if b then whole (number_nth (numbers p bs) i) else null) off in
    let none : None ≡ Some j = sym (ap position_in row) ∙ named in
    absurd (cc)

-- a bit that is set lies among those that a word holds, and its row is valid
pub set_inside : (word held : ℕ) → ((i : ℕ) → held ≤ i → bit_at word i ≡ 0) → (i : ℕ) → bit_at word i ≡ 1 → i < held
set_inside word held none i set = elim (cases_lt i held) [ inl inside ↦ inside | inr past ↦ absurd (omega (arith, none i past, set)) ]

pub set_on : (word held n : ℕ) (mask : List Bool) → ((i : ℕ) → i < held → (bit_at word i == 1) ≡ bool_at mask (n + i)) → (i : ℕ) → i < held → bit_at word i ≡ 1 → bool_at mask (n + i) ≡ true
set_on word held n mask bits i inside set = sym (bits i inside) ∙ (Decides-eqb (bit_at word i) 1).1 set

module _ (p : PType) (bs : List ℕ) (mask : List Bool) (n m count : ℕ) (r : Bool) (old new : List Bool) (le : n ≤ m) (within : m ≤ length mask) (long : length mask ≡ length (numbers p bs))
    (codes : (i : ℕ) → i < length mask → IsCode count (row_at (masked_numbers p bs mask) i)) (named : AreNamed (masked_numbers p bs mask) n count r old) where
  -- a run of rows that are all valid
  pub named_run : ((i : ℕ) → n ≤ i → i < m → bool_at mask i ≡ true) → Marks (number_places p bs) n m r old new → AreNamed (masked_numbers p bs mask) m count r new
  named_run on marks =
      AreNamed-more (masked_numbers p bs mask) n m count r old new (NamesAmong (number_places p bs) n m) le
      (λ j (found : NamesAmong (number_places p bs) n m j).
      let low : n ≤ found.0 = found.1 in
      let high : found.0 < m = found.2 in
      (found.0, high, place_named p bs mask count found.0 (codes found.0 (omega arith)) (omega arith) (on found.0 low high) ∙ ap Some found.3))
      (λ i j low high is. (i, low, high, some_same (slice_index (number_places p bs) i) j (sym (place_named p bs mask count i (codes i (omega arith)) (omega arith) (on i low high)) ∙ is)))
      named marks.len marks.each

  -- the rows whose bits a word holds
  pub named_word : (word held : ℕ) → n + held ≡ m → ((i : ℕ) → i < held → (bit_at word i == 1) ≡ bool_at mask (n + i)) → ((i : ℕ) → held ≤ i → bit_at word i ≡ 0)
      → MarksSet (number_places p bs) n word r old new → AreNamed (masked_numbers p bs mask) m count r new
  named_word word held size bits none marks =
      AreNamed-more (masked_numbers p bs mask) n m count r old new (NamesSet (number_places p bs) n word) le
      (λ j (found : NamesSet (number_places p bs) n word j).
      let set : bit_at word found.0 ≡ 1 = found.1 in
      let inside : found.0 < held = set_inside word held none found.0 set in
      let on : bool_at mask (n + found.0) ≡ true = set_on word held n mask bits found.0 inside set in
      (n + found.0, omega arith, place_named p bs mask count (n + found.0) (codes (n + found.0) (omega arith)) (omega arith) on ∙ ap Some found.2))
      (λ i j low high is.
      let k : ℕ = i - n in
      let at : n + k ≡ i = omega arith in
      let inside : k < held = omega arith in
      let seen : (bit_at word k == 1) ≡ bool_at mask i = subst (λ x. (bit_at word k == 1) ≡ bool_at mask x) at (bits k inside) in
      elim (cases_Bool (bool_at mask i)) [
        | inl on ↦
            let set : bit_at word k ≡ 1 = (Decides-eqb (bit_at word k) 1).0 (seen ∙ on) in
            let place : slice_index (number_places p bs) i ≡ j = some_same (slice_index (number_places p bs) i) j (sym (place_named p bs mask count i (codes i (omega arith)) (omega arith) on) ∙ is) in
            (k, set, ap (slice_index (number_places p bs)) at ∙ place)
        | inr off ↦ absurd (none_named p bs mask i j off is)
      ])
      named marks.len marks.each

-- ---- the marks of a dictionary

pub marks_referenced : (t c v : Tree) (f r : Bool) (bits : List Bool) (count : ℕ) → t ≡ dictionary c v f → count ≡ tree_len v → AreNamed c (tree_len c) count r bits → MarksReferenced t r bits
marks_referenced t c v f r bits count same count_is named =
    let here : AreNamed c (tree_len c) (tree_len v) r bits = subst (λ k. AreNamed c (tree_len c) k r bits) count_is named in
    subst (λ x. MarksReferenced x r bits) (sym same) (record { len = here.len; each = here.each })

-- no boolean is the other one
pub not_marked : (r : Bool) (n : ℕ) (bits : List Bool) (j : ℕ) → bits ≡ replicate n (not r) → j < length bits → bool_at bits j ≢ r
not_marked r n bits j made inside marked =
    let long : length bits ≡ n = ap length made ∙ length-replicate n (not r) in
    differs r (sym (ap (λ bs. bool_at bs j) made ∙ get_or-replicate n j (not r) false (omega arith)) ∙ marked)
  where
    differs : (b : Bool) → not b ≡ b → ⊥
    differs true e = false≢true e
    differs false e = false≢true (sym e)

-- ---- all of them

pub count_all : (bits : List Bool) → ((j : ℕ) → j < length bits → bool_at bits j ≡ true) → count_by (λ b. b) bits ≡ length bits
count_all [] all = refl
count_all (true ∷ bits) all = count-true bits ∙ omega (arith, count_all bits (λ j inside. all (suc j) (omega arith)))
count_all (false ∷ bits) all = absurd (false≢true (all 0 (omega arith)))

module _ (t : Tree) (bits : List Bool) (marks : MarksReferenced t true bits) where
  pub all_referenced : count_by (λ b. b) bits ≡ length bits → ReferencesAll (codes_in t) (values_in t)
  all_referenced all j inside =
      (marks.each j inside).0 (ap (λ bs. bool_at bs j) (all_true_from_count bits all) ∙ get_or-replicate (length bits) j true false (omega (arith, marks.len)))

  pub all_marked : ReferencesAll (codes_in t) (values_in t) → count_by (λ b. b) bits ≡ length bits
  all_marked all = count_all bits (λ j inside. let here : j < tree_len (values_in t) = omega (arith, marks.len) in (marks.each j here).1 (all j here))

-- that the count of the marks is their number says that all are referenced
pub all_referenced_is : (t : Tree) (bits : List Bool) (count len : ℕ) → MarksReferenced t true bits → count ≡ count_by (λ b. b) bits → len ≡ length bits → IsTrue (count == len) ↔ ReferencesAll (codes_in t) (values_in t)
all_referenced_is t bits count len marks count_is len_is = (
  (λ same. all_referenced t bits marks (sym count_is ∙ (Decides-eqb count len).0 same ∙ len_is)),
  (λ all. (Decides-eqb count len).1 (count_is ∙ all_marked t bits marks all ∙ sym len_is)),
)

-- fewer codes do not reference all values
abbrev code_or_zero : Row → ℕ
code_or_zero (whole (pos n)) = n
code_or_zero _ = 0

code_is_named : (r : Row) (j : ℕ) → position_in r ≡ Some j → code_or_zero r ≡ j
code_is_named (whole (pos n)) j h = cc
code_is_named (whole (negsuc n)) j h = absurd (cc)
code_is_named null j h = absurd (cc)
code_is_named (boolean b) j h = absurd (cc)
code_is_named (bytes bs) j h = absurd (cc)
code_is_named (text bs) j h = absurd (cc)
code_is_named (items rs) j h = absurd (cc)
code_is_named (record_of fs) j h = absurd (cc)

references_few : (c v : Tree) → ReferencesAll c v → tree_len v ≤ tree_len c
references_few c v all =
    let f : ℕ → ℕ = λ i. code_or_zero (row_at c i) in
    let codes = map f (range_with_len 0 (tree_len c)) in
    let count : length codes ≡ tree_len c = length-map-range_with_len f 0 (tree_len c) in
    let few : tree_len v ≤ length codes = le-length_from_below codes (tree_len v) (λ j inside.
    let found = all j inside in
    let here : get_or codes found.0 0 ≡ f found.0 = get_or-map-range_with_len f 0 (tree_len c) found.0 found.0 0 found.1 (zero-add found.0) in
    let same : j ≡ get_or codes found.0 0 = sym (here ∙ code_is_named (row_at c found.0) j found.2) in
    list_any_at (eqb j) codes found.0 0 (omega (arith, count, found.1)) ((Decides-eqb j (get_or codes found.0 0)).1 same)) in
    omega (arith, few, count)

pub few_codes_reference_few : (c v : Tree) (n m : ℕ) → n ≡ tree_len c → m ≡ tree_len v → n < m → IsTrue false ↔ ReferencesAll c v
few_codes_reference_few c v n m n_is m_is fewer = (
  (λ no. absurd (cc)),
  (λ all. let few : tree_len v ≤ tree_len c = references_few c v all in absurd (omega (arith, n_is, m_is, fewer, few))),
)

-- ---- flags

pub flag_holds : (t c v : Tree) (f : Bool) → t ≡ dictionary c v f → (IsTrue f → ReferencesAll c v) → IsTrue (referenced_flag t) → ReferencesAll (codes_in t) (values_in t)
flag_holds t c v f same holds set =
    subst (λ x. ReferencesAll (codes_in x) (values_in x)) (sym same) (holds (subst (λ x. IsTrue (referenced_flag x)) same set))

-- the same codes and values with another flag, which holds
pub flag_set : (t c v : Tree) (f g : Bool) (c' v' : Tree) → t ≡ dictionary c v f → IsDictionary c v f → c' ≡ c → v' ≡ v → (IsTrue g → ReferencesAll (codes_in t) (values_in t)) → IsDictionary c' v' g
flag_set t c v f g c' v' same formed c_is v_is holds =
    rw (c_is, v_is) (record {
      codes = formed.codes;
      within = formed.within;
      referenced = λ set. subst (λ x. ReferencesAll (codes_in x) (values_in x)) same (holds set);
    })
