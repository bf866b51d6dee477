-- The rows of a packed form are those that it is the packed form of.
use Rattle.std.proofs.Common.{◌≡◌, ◌∙◌, ◌+◌, ◌*◌, ◌<◌, ◌^◌, ℕ, suc, Bool, true, false, List, [], ◌∷◌, length, map, take, get_or, sum}
use Rattle.std.proofs.Common.{refl, sym, ap, subst, inl, arith, add-zero, pos, None}
use Rattle.std.specs.Prelude.{ℤ, if◌then◌else◌}
use Rattle.std.specs.List.{All, flat_map}
use Rattle.std.proofs.lemmas.List.{get_or-map, length-map, length-take-le}
use Rattle.std.proofs.lemmas.List.Concat.{get_or-flat_map}
use Rattle.std.proofs.lemmas.List.Elements.{All-map, All-take}
use Rattle.std.proofs.lemmas.List.Folds.{length-flat_map-take}
use Rattle.std.proofs.lemmas.List.FromFn.{fill_by_all}
use Rattle.vx_base.proofs.Zeroes.{holds-zero}
use Rattle.vx_base.specs.Integers.{numbers, number_nth, Holds}
use Rattle.vx_base.specs.Kinds.{Kind, booleans, integers, texts, binaries, lists, fixed_lists, records, Kinds, no_kinds, kind, Fits}
use Rattle.vx_base.specs.Kinds.{AllFit, FieldsFit}
use Rattle.vx_base.specs.Rows.{Row, null, boolean, whole, bytes, text, items, record_of, Rows, no_rows, row, Fields, no_fields, field}
use Rattle.vx_base.specs.Rows.{is_present, truth_of, list_from}
use Rattle.vx_base.specs.declared.ptypes.PType.{PType}
use Rattle.vx_tree.specs.Meaning.{fields_at, is_valid_at, row_at, rows, rows_range, tree_len}
use Rattle.vx_tree.specs.RowParts.{field_at}
use Rattle.vx_tree.specs.Tree.{Tree, Trees, no_trees, tree, bools, primitive, fixed_list, structure}
use Rattle.vx_tree.specs.Values.{bytes_in}
use Rattle.vx_text.specs.Items.{IsArrayOf, item_row}
use Rattle.vx_views.specs.Places.{place_of}
use Rattle.vx_pack.specs.Packed.{ArePacked, IsPacked, bytes_of_numbers, field_or_default, items_or_blank, list_sizes, number_or_zero}
use Rattle.vx_pack.specs.Packed.{packed_lists, packed_valid}
use Rattle.vx_pack.proofs.BlankRows.{AllFit-list_from, FieldsFitOrBlank, FitsOrBlank, StandFrom, StandFrom-here, StandFrom-next}
use Rattle.vx_pack.proofs.BlankRows.{fixed_lists_items_blank, length-list_from, lists_items_blank, records_fields_blank}
use Rattle.vx_pack.proofs.BytesOfNumbers.{number_read_back}
use Rattle.vx_pack.proofs.JoinedLists.{All-flat_map, length-flat_map-same, place_of-sizes}
use Rattle.vx_pack.proofs.PackedLen.{packed_len}
use Rattle.vx_pack.proofs.PackedLists.{row_at-packed_lists}
use Rattle.vx_pack.proofs.PackedValid.{is_valid_at-packed_valid}

-- ---- leaves

truth_shown : (n : Bool) (r : Row) → Fits (booleans n) r → (if is_present r then boolean (truth_of r) else null) ≡ r
truth_shown n null fits = refl
truth_shown n (boolean b) fits = refl
truth_shown n _ fits = absurd fits

number_shown : (t : PType) (n : Bool) (r : Row) (z : ℤ) → Fits (integers t n) r → z ≡ number_or_zero r
    → (if is_present r then whole z else null) ≡ r
number_shown t n null z fits e = refl
number_shown t n (whole y) z fits e = ap whole e
number_shown t n _ z fits e = absurd fits

number_held : (t : PType) (n : Bool) (r : Row) → Fits (integers t n) r → Holds t (number_or_zero r)
number_held t n null fits = holds-zero t
number_held t n (whole z) fits = fits
number_held t n _ fits = absurd fits

text_shown : (n : Bool) (r : Row) → Fits (texts n) r → item_row true (bytes_in r) ≡ r
text_shown n null fits = refl
text_shown n (text bs) fits = refl
text_shown n _ fits = absurd fits

binary_shown : (n : Bool) (r : Row) → Fits (binaries n) r → item_row false (bytes_in r) ≡ r
binary_shown n null fits = refl
binary_shown n (bytes bs) fits = refl
binary_shown n _ fits = absurd fits

-- ---- lists

-- rows that a function tells one by one
rows_told : (g : ℕ → Row) (a : ℕ) (qs : Rows) → ((j : ℕ) → j < length (list_from qs) → g (a + j) ≡ get_or (list_from qs) j null)
    → rows_range g a (length (list_from qs)) ≡ qs
rows_told g a no_rows h = refl
rows_told g a (row q qs) h =
    let first : g a ≡ q = ap g (sym (add-zero a)) ∙ h 0 (omega arith) in
    let more : (j : ℕ) → j < length (list_from qs) → g (suc a + j) ≡ get_or (list_from qs) j null =
    λ j l. ap g {x = suc a + j} {y = a + suc j} (omega arith) ∙ h (suc j) (omega arith) in
    λ i. row (first i) (rows_told g (suc a) qs more i)

-- rows that are told wherever they fit
abbrev IsTold : Kind → List Row → (ℕ → Row) → Type 0
IsTold k rs g = (i : ℕ) → i < length rs → Fits k (get_or rs i null) → g i ≡ get_or rs i null

-- the elements of a list that fits stand after those of the lists before it
elements_told : (k : Kind) (f : Row → List Row) (rs : List Row) (g : ℕ → Row) (i : ℕ) (qs : Rows) → i < length rs
    → f (get_or rs i null) ≡ list_from qs → AllFit k qs
    → IsTold k (flat_map f rs) g → rows_range g (length (flat_map f (take i rs))) (length (list_from qs)) ≡ qs
elements_told k f rs g i qs l same fit told = rows_told g (length (flat_map f (take i rs))) qs each
  where
    each : (j : ℕ) → j < length (list_from qs) → g (length (flat_map f (take i rs)) + j) ≡ get_or (list_from qs) j null
    each j small =
        let long : length (f (get_or rs i null)) ≡ length (list_from qs) = ap length same in
        let within : length (flat_map f (take i rs)) + j < length (flat_map f rs) = omega (arith, length-flat_map-take f rs i null l) in
        let here : get_or (flat_map f rs) (length (flat_map f (take i rs)) + j) null ≡ get_or (list_from qs) j null =
        get_or-flat_map f rs i j null null l (omega arith) ∙ ap (λ xs. get_or xs j null) same in
        told (length (flat_map f (take i rs)) + j) within (subst (Fits k) (sym here) (AllFit-list_from k qs fit j null small)) ∙ here

lists_told : (k : Kind) (n : Bool) (rs : List Row) (e : Tree) → sum (list_sizes k rs) < 2 ^ 63
    → IsTold k (flat_map (items_or_blank k 0) rs) (row_at e)
    → IsTold (lists k n) rs (row_at (packed_lists e (list_sizes k rs) (packed_valid n rs)))
lists_told k n rs e counted told i l fits = by_row (get_or rs i null) refl fits
  where
    valid : is_valid_at (packed_valid n rs) i ≡ is_present (get_or rs i null)
    valid = is_valid_at-packed_valid (lists k n) n rs i null refl l fits

    by_row : (r : Row) → get_or rs i null ≡ r → Fits (lists k n) r → row_at (packed_lists e (list_sizes k rs) (packed_valid n rs)) i ≡ r
    by_row null same fit = let off : is_valid_at (packed_valid n rs) i ≡ false = valid ∙ ap is_present same in rw off refl
    by_row (items qs) same fit =
        let inside : i < length (list_sizes k rs) = omega (arith, length-map rs (λ r. length (items_or_blank k 0 r))) in
        let long : get_or (list_sizes k rs) i 0 ≡ length (list_from qs) =
        get_or-map (λ r. length (items_or_blank k 0 r)) rs i null 0 l ∙ ap (λ r. length (items_or_blank k 0 r)) same in
        row_at-packed_lists e (list_sizes k rs) (packed_valid n rs) i counted inside (valid ∙ ap is_present same)
        ∙ ap (λ m. items (rows_range (row_at e) (place_of (list_sizes k rs) i) m)) long
        ∙ ap (λ m. items (rows_range (row_at e) m (length (list_from qs)))) (place_of-sizes (items_or_blank k 0) rs i)
        ∙ ap items (elements_told k (items_or_blank k 0) rs (row_at e) i qs l (ap (items_or_blank k 0) same) fit told)
    by_row _ same fit = absurd fit

fixed_lists_told : (k : Kind) (size : ℕ) (n : Bool) (rs : List Row) (e : Tree) → All (λ r. length (items_or_blank k size r) ≡ size) rs
    → IsTold k (flat_map (items_or_blank k size) rs) (row_at e)
    → IsTold (fixed_lists k size n) rs (row_at (fixed_list e size (packed_valid n rs) (length rs)))
fixed_lists_told k size n rs e sized told i l fits = by_row (get_or rs i null) refl fits
  where
    valid : is_valid_at (packed_valid n rs) i ≡ is_present (get_or rs i null)
    valid = is_valid_at-packed_valid (fixed_lists k size n) n rs i null refl l fits

    start : length (flat_map (items_or_blank k size) (take i rs)) ≡ i * size
    start =
        length-flat_map-same (items_or_blank k size) size (take i rs) (All-take (λ r. length (items_or_blank k size r) ≡ size) i rs sized)
        ∙ ap (λ m. m * size) (length-take-le i rs (omega arith))

    by_row : (r : Row) → get_or rs i null ≡ r → Fits (fixed_lists k size n) r
        → row_at (fixed_list e size (packed_valid n rs) (length rs)) i ≡ r
    by_row null same fit = let off : is_valid_at (packed_valid n rs) i ≡ false = valid ∙ ap is_present same in rw off refl
    by_row (items qs) same fit =
        let on : is_valid_at (packed_valid n rs) i ≡ true = valid ∙ ap is_present same in
        let long : length (list_from qs) ≡ size = length-list_from qs ∙ fit.0 in
        rw on (ap (λ m. items (rows_range (row_at e) m size)) (sym start)
        ∙ ap (λ m. items (rows_range (row_at e) (length (flat_map (items_or_blank k size) (take i rs))) m)) (sym long)
        ∙ ap items (elements_told k (items_or_blank k size) rs (row_at e) i qs l (ap (items_or_blank k size) same) fit.1 told))
    by_row _ same fit = absurd fit

-- ---- leaves, row by row

truths_told : (n : Bool) (rs : List Row) → IsTold (booleans n) rs (row_at (bools 0 (map truth_of rs) (packed_valid n rs)))
truths_told n rs i l fits =
    rw (is_valid_at-packed_valid (booleans n) n rs i null refl l fits)
    (ap (λ b. if is_present (get_or rs i null) then boolean b else null) (get_or-map truth_of rs i null false l)
    ∙ truth_shown n (get_or rs i null) fits)

numbers_told : (p : PType) (n : Bool) (rs : List Row)
    → IsTold (integers p n) rs (row_at (primitive p (bytes_of_numbers p (map number_or_zero rs)) (packed_valid n rs)))
numbers_told p n rs i l fits =
    let here : get_or (map number_or_zero rs) i (pos 0) ≡ number_or_zero (get_or rs i null) =
    get_or-map number_or_zero rs i null (pos 0) l in
    let held : Holds p (get_or (map number_or_zero rs) i (pos 0)) = subst (Holds p) (sym here) (number_held p n (get_or rs i null) fits) in
    rw (is_valid_at-packed_valid (integers p n) n rs i null refl l fits)
    (number_shown p n (get_or rs i null) (number_nth (numbers p (bytes_of_numbers p (map number_or_zero rs))) i) fits
    (number_read_back p (map number_or_zero rs) i (pos 0) (rw length-map l) held ∙ here))

texts_told : (n : Bool) (rs : List Row) (t : Tree) → IsArrayOf (texts n) (map bytes_in rs) t → IsTold (texts n) rs (row_at t)
texts_told n rs t h i l fits =
    h.rows i (rw length-map l) ∙ ap (item_row true) (get_or-map bytes_in rs i null None l) ∙ text_shown n (get_or rs i null) fits

binaries_told : (n : Bool) (rs : List Row) (t : Tree) → IsArrayOf (binaries n) (map bytes_in rs) t → IsTold (binaries n) rs (row_at t)
binaries_told n rs t h i l fits =
    h.rows i (rw length-map l) ∙ ap (item_row false) (get_or-map bytes_in rs i null None l) ∙ binary_shown n (get_or rs i null) fits

-- ---- records

-- columns that are told from a place on
abbrev AreTold : ℕ → Kinds → List Row → Trees → Type 0
AreTold c no_kinds rs us = Unit {0}
AreTold c (kind k ks) rs no_trees = ⊥
AreTold c (kind k ks) rs (tree t us) = IsTold k (map (field_or_default k c) rs) (row_at t) × AreTold (suc c) ks rs us

fields_told : (c : ℕ) (names : List (List ℕ)) (ks : Kinds) (rs : List Row) (us : Trees) (i : ℕ) (fs gs : Fields) → i < length rs
    → get_or rs i null ≡ record_of gs → StandFrom c fs gs
    → FieldsFit names ks fs → ArePacked c ks rs us → AreTold c ks rs us → fields_at us names i ≡ fs
fields_told c [] no_kinds rs no_trees i no_fields gs l same stand fit are told = refl
fields_told c (n ∷ ns) (kind k ks) rs (tree t us) i (field m r fs) gs l same stand fit are told =
    let here : get_or (map (field_or_default k c) rs) i null ≡ r =
    get_or-map (field_or_default k c) rs i null null l ∙ ap (field_or_default k c) same ∙ StandFrom-here c (field m r fs) gs stand in
    let first : row_at t i ≡ r = told.0 i (rw length-map l) (subst (Fits k) (sym here) fit.1) ∙ here in
    let rest : fields_at us ns i ≡ fs =
    fields_told (suc c) ns ks rs us i fs gs l same (StandFrom-next c m r fs gs stand) fit.2 are.1 told.1 in
    λ j. field (fit.0 j) (first j) (rest j)
fields_told c [] no_kinds rs us i (field m r fs) gs l same stand fit are told = absurd fit
fields_told c [] no_kinds rs (tree t us) i no_fields gs l same stand fit are told = absurd are
fields_told c [] (kind k ks) rs us i fs gs l same stand fit are told = absurd fit
fields_told c (n ∷ ns) no_kinds rs us i fs gs l same stand fit are told = absurd fit
fields_told c (n ∷ ns) (kind k ks) rs us i no_fields gs l same stand fit are told = absurd fit
fields_told c (n ∷ ns) (kind k ks) rs no_trees i fs gs l same stand fit are told = absurd are

records_told : (names : List (List ℕ)) (ks : Kinds) (n : Bool) (rs : List Row) (us : Trees) → ArePacked 0 ks rs us → AreTold 0 ks rs us
    → IsTold (records names ks n) rs (row_at (structure names us (packed_valid n rs) (length rs)))
records_told names ks n rs us are told i l fits = by_row (get_or rs i null) refl fits
  where
    valid : is_valid_at (packed_valid n rs) i ≡ is_present (get_or rs i null)
    valid = is_valid_at-packed_valid (records names ks n) n rs i null refl l fits

    by_row : (r : Row) → get_or rs i null ≡ r → Fits (records names ks n) r
        → row_at (structure names us (packed_valid n rs) (length rs)) i ≡ r
    by_row null same fit = let off : is_valid_at (packed_valid n rs) i ≡ false = valid ∙ ap is_present same in rw off refl
    by_row (record_of fs) same fit =
        let on : is_valid_at (packed_valid n rs) i ≡ true = valid ∙ ap is_present same in
        rw on (ap record_of (fields_told 0 names ks rs us i fs fs l same (λ j. ap (λ m. field_at m fs) (omega arith)) fit are told))
    by_row _ same fit = absurd fit

-- ---- at every depth

fixed_items : (k : Kind) (size : ℕ) (n : Bool) (rs : List Row) → All (FitsOrBlank (fixed_lists k size n)) rs
    → All (λ r. length (items_or_blank k size r) ≡ size) rs × All (FitsOrBlank k) (flat_map (items_or_blank k size) rs)
fixed_items k size n rs all = (
  λ i d l. (fixed_lists_items_blank k size n (get_or rs i d) (all i d l)).len,
  All-flat_map (FitsOrBlank k) (items_or_blank k size) rs (λ i d l. (fixed_lists_items_blank k size n (get_or rs i d) (all i d l)).blank),
)

lists_items : (k : Kind) (n : Bool) (rs : List Row) → All (FitsOrBlank (lists k n)) rs
    → All (FitsOrBlank k) (flat_map (items_or_blank k 0) rs)
lists_items k n rs all = All-flat_map (FitsOrBlank k) (items_or_blank k 0) rs (λ i d l. lists_items_blank k n (get_or rs i d) (all i d l))

mutual
  -- a row that fits is told, whatever stands beside it
  pub packed_row : (k : Kind) (rs : List Row) (t : Tree) → IsPacked k rs t → All (FitsOrBlank k) rs → IsTold k rs (row_at t)
  packed_row (booleans n) rs t h all = subst (λ u. IsTold (booleans n) rs (row_at u)) (sym h) (truths_told n rs)
  packed_row (integers p n) rs t h all = subst (λ u. IsTold (integers p n) rs (row_at u)) (sym h) (numbers_told p n rs)
  packed_row (texts n) rs t h all = texts_told n rs t h
  packed_row (binaries n) rs t h all = binaries_told n rs t h
  packed_row (lists k n) rs t h all =
      subst (λ u. IsTold (lists k n) rs (row_at u)) (sym h.1.2)
      (lists_told k n rs h.1.0 h.0 (packed_row k (flat_map (items_or_blank k 0) rs) h.1.0 h.1.1 (lists_items k n rs all)))
  packed_row (fixed_lists k size n) rs t h all =
      let items_of = fixed_items k size n rs all in
      subst (λ u. IsTold (fixed_lists k size n) rs (row_at u)) (sym h.1.2)
      (fixed_lists_told k size n rs h.1.0 items_of.0 (packed_row k (flat_map (items_or_blank k size) rs) h.1.0 h.1.1 items_of.1))
  packed_row (records names ks n) rs t h all =
      subst (λ u. IsTold (records names ks n) rs (row_at u)) (sym h.2)
      (records_told names ks n rs h.0 h.1 (packed_columns 0 ks rs h.0 h.1
      (λ i d l. records_fields_blank names ks n (get_or rs i d) (all i d l))))

  packed_columns : (c : ℕ) (ks : Kinds) (rs : List Row) (us : Trees) → ArePacked c ks rs us → All (FieldsFitOrBlank c ks) rs
      → AreTold c ks rs us
  packed_columns c no_kinds rs us h all = tt
  packed_columns c (kind k ks) rs no_trees h all = absurd h
  packed_columns c (kind k ks) rs (tree t us) h all = (
    packed_row k (map (field_or_default k c) rs) t h.0 (All-map (FitsOrBlank k) (field_or_default k c) rs (λ i d l. (all i d l).0)),
    packed_columns (suc c) ks rs us h.1 (λ i d l. (all i d l).1),
  )

pub packed_rows : (k : Kind) (rs : List Row) (t : Tree) → All (Fits k) rs → IsPacked k rs t → rows t ≡ rs
packed_rows k rs t fits h =
    let len : length rs ≡ tree_len t = sym (packed_len k rs t h) in
    sym (fill_by_all (row_at t) rs (tree_len t) null len (λ i l.
    let inside : i < length rs = omega arith in
    sym (packed_row k rs t h (λ j d small. inl (fits j d small)) i inside (fits i null inside))))
