-- Nodes without a fault, and what is known of their arrays.
use Rattle.std.proofs.Common.{◌≡◌, ℕ, ◌+◌, ◌^◌, ◌<◌, ◌∙◌, Bool, true, false, List, [], ◌∷◌, length, take, drop, length-take, refl, ap, sym, subst, arith}
use Rattle.std.specs.Prelude.{Option, Some, None, ℤ, pos, slice_index_or, if◌then◌else◌}
use Rattle.std.specs.Bool.{beq}
use Rattle.std.proofs.lemmas.Bool.{eq-eqb, le-leb, lt-ltb, le-ltb, false≢true}
use Rattle.std.proofs.lemmas.List.{length-map}
use Rattle.std.proofs.lemmas.List.FromFn.{length-map-range_with_len}
use Rattle.std.proofs.lemmas.Str.{is_utf8-from_IsUtf8}
use Rattle.vx_base.specs.declared.ptypes.PType.{PType}
use Rattle.vx_base.specs.Integers.{numbers, number_nth}
use Rattle.vx_base.specs.Kinds.{Kind, is_integers, is_plain_integers, texts, binaries, is_nullable_kind}
use Rattle.vx_base.specs.Refusals.{Refusal, or_else}
use Rattle.vx_base.specs.Rows.{whole, null as null_row}
use Rattle.vx_base.proofs.FirstFaults.{or_else-none, or_else-second, first_fault-of_none}
use Rattle.vx_base.proofs.PackedBits.{length_unpacked}
use Rattle.vx_views.specs.Emptied.{emptied_views, valid_view}
use Rattle.vx_views.specs.Faulty.{views_fault}
use Rattle.vx_views.specs.Sound.{AreSoundViews}
use Rattle.vx_views.proofs.FaultyViews.{views_fault-AreSoundViews}
use Rattle.vx_tree.specs.Faults.{validity_fault, valid_type_fault, valid_len_fault, length_fault, index_fault, indices_fault}
use Rattle.vx_tree.specs.Meaning.{tree_len, kind_of, row_at, is_valid_at, nullable, is_texts, valid_mask, trees_from}
use Rattle.vx_tree.specs.Tree.{Tree, primitive, dictionary, fixed_list, list_view, structure, Valid, non_nullable, all_valid, all_invalid, by_array}
use Rattle.vx_c.specs.declared.parts.Part.{Part}
use Rattle.vx_c.specs.declared.parts.Part.TheVariants.{Truths, Numbers, Rows}
use Rattle.vx_c.specs.declared.table.CodraskNode.{CodraskNode}
use Rattle.vx_c.specs.declared.table.NodeKind.TheVariants.{Bool as bool_kind, Number, Utf8, Binary, Dictionary, FixedSizeList, ListView, Struct}
use Rattle.vx_c.specs.LentBuffers.{AreTextBuffers}
use Rattle.vx_leaves.specs.Dictionaries.{dictionary_fault}
use Rattle.vx_lists.specs.FixedSizeLists.{element_count_fault, fixed_list_fault}
use Rattle.vx_lists.specs.ListViews.Faults.{list_view_fault, list_parts_fault, list_rows_fault, list_row_fault, whole_at, count_type_fault, sizes_len_fault}
use Rattle.vx_c.specs.Parts.{HasBytes, HasNumbers, Describes, AreDescribed, IsPartMade, Makes, AreTakenColumns, AreLists, AreCodes}
use Rattle.vx_c.specs.Spans.{IsListRow, AreListRows, IsPlace, ArePlaces}
use Rattle.vx_structs.specs.Structs.Faults.{struct_fault, columns_fault, column_lens_fault}
use Rattle.vx_c.specs.Tables.{unless, views_in, buffers_in, bits_fault, names_fault, name_fault}
use Rattle.vx_text.specs.Texts.{array_of_views}
use Rattle.vx_text.specs.TextFaults.{is_values, value_type_fault, nullability_fault, parts_fault, view_array_fault}
use Rattle.vx_leaves.specs.Spread.{whole_fault}
use Rattle.vx_c.proofs.PartLists.{numbers_len}

-- ---- an array without a fault

pub unless_made : (fault : Option Refusal) (t : Tree) (ts : List Tree) (p : Part) (ps : List Part) (len : ℕ) → fault ≡ None → Describes p t → tree_len t ≡ len
    → AreDescribed ps ts → IsPartMade p ps len (unless fault t ts)
unless_made None t ts p ps len none holds long rest = (holds, long, rest)
unless_made (Some r) t ts p ps len none holds long rest = absurd (cc)

both_none : (first second : Option Refusal) → first ≡ None → second ≡ None → or_else first second ≡ None
both_none first second none also = or_else-second first second None none also

-- ---- truth values

module _ (n : CodraskNode) (bits : bits_fault n.bytes.now n.offset n.length ≡ None) where
  faultless_bits : (v : Valid) → validity_fault v n.length ≡ None → or_else (bits_fault n.bytes.now n.offset n.length) (validity_fault v n.length) ≡ None
  faultless_bits v valid = both_none (bits_fault n.bytes.now n.offset n.length) (validity_fault v n.length) bits valid

  pub truths_made : (null : Bool) → null ≡ false → (ps : List Part) → Makes bool_kind n null ps (Truths n.length) ps
  truths_made null plain ps v ts valid may described =
      let long = length_unpacked n.bytes.now n.offset n.length in
      unless_made _ _ ts (Truths n.length) ps n.length (faultless_bits v valid) (rw (may, plain) refl, long) long described

  pub nullable_truths_made : (null : Bool) (ps : List Part) → Makes bool_kind n null ps (Rows n.length) ps
  nullable_truths_made null ps v ts valid may described =
      let long = length_unpacked n.bytes.now n.offset n.length in
      unless_made _ _ ts (Rows n.length) ps n.length (faultless_bits v valid) long long described

-- ---- numbers

pub numbers_made : (n : CodraskNode) (t : PType) (null : Bool) → whole_fault t n.bytes.now ≡ None → length (numbers t n.bytes.now) ≡ n.length
    → (ps : List Part) → Makes (Number t) n null ps (Numbers t n.bytes null) ps
numbers_made n t null fills long ps v ts valid may described =
    let valid_none : validity_fault v (length (numbers t n.bytes.now)) ≡ None = subst (λ k. validity_fault v k ≡ None) (sym long) valid in
    unless_made _ _ ts (Numbers t n.bytes null) ps n.length (both_none (whole_fault t n.bytes.now) (validity_fault v (length (numbers t n.bytes.now))) fills valid_none)
    (record { valid = v; is = refl; may = may }) long described

-- ---- values by views

beq-same : (b : Bool) → beq b b ≡ true
beq-same true = refl
beq-same false = refl

view_array_none : (vs bs : List (List ℕ)) (k : Kind) (v : Valid) → is_values k ≡ true → is_nullable_kind k ≡ nullable v → validity_fault v (length vs) ≡ None
    → ((mask : List Bool) → AreSoundViews vs mask bs (is_texts k)) → view_array_fault vs bs k v ≡ None
view_array_none vs bs k v values may valid sound =
    let parts = or_else-none (valid_type_fault v) (valid_len_fault v (length vs)) valid in
    let type_none : value_type_fault k ≡ None = rw values refl in
    let may_none : nullability_fault k v ≡ None = rw (may, beq-same (nullable v)) refl in
    both_none (parts_fault (length vs) k v) (views_fault (is_texts k) (valid_mask v (length vs)) bs vs)
    (both_none _ _ type_none (both_none _ _ parts.0 (both_none _ _ may_none parts.1)))
    ((views_fault-AreSoundViews (is_texts k) (valid_mask v (length vs)) bs vs).1 (sound (valid_mask v (length vs))))

emptied_len : (vs : List (List ℕ)) (mask : List Bool) → length (emptied_views vs mask) ≡ length vs
emptied_len vs mask = length-map-range_with_len (valid_view vs mask) 0 (length vs)

module _ (n : CodraskNode) (long : length n.views.now ≡ n.length) where
  views_long : length (views_in n) ≡ n.length
  views_long = length-map n.views.now _ ∙ long

  pub texts_made : ((mask : List Bool) → AreSoundViews (views_in n) mask (buffers_in n) true) → (null : Bool) (ps : List Part) → Makes Utf8 n null ps (Rows n.length) ps
  texts_made sound null ps v ts valid may described =
      let all = emptied_len (views_in n) (valid_mask v (length (views_in n))) ∙ views_long in
      unless_made (view_array_fault (views_in n) (buffers_in n) (texts (nullable v)) v) (array_of_views (views_in n) (buffers_in n) (texts (nullable v)) v)
      ts (Rows n.length) ps n.length
      (view_array_none (views_in n) (buffers_in n) (texts (nullable v)) v refl refl (subst (λ k. validity_fault v k ≡ None) (sym views_long) valid) sound)
      all all described

  pub values_made : ((mask : List Bool) → AreSoundViews (views_in n) mask (buffers_in n) false) → (null : Bool) (ps : List Part) → Makes Binary n null ps (Rows n.length) ps
  values_made sound null ps v ts valid may described =
      let all = emptied_len (views_in n) (valid_mask v (length (views_in n))) ∙ views_long in
      unless_made (view_array_fault (views_in n) (buffers_in n) (binaries (nullable v)) v) (array_of_views (views_in n) (buffers_in n) (binaries (nullable v)) v)
      ts (Rows n.length) ps n.length
      (view_array_none (views_in n) (buffers_in n) (binaries (nullable v)) v refl refl (subst (λ k. validity_fault v k ≡ None) (sym views_long) valid) sound)
      all all described

-- ---- lists

pub plain_numbers : (p : PType) (bytes : List ℕ) (t : Tree) → HasBytes p bytes false t → HasNumbers (numbers p bytes) t
plain_numbers p bytes t has = of_valid has.valid has.is has.may
  where
    of_valid : (v : Valid) → t ≡ primitive p bytes v → nullable v ≡ false → HasNumbers (numbers p bytes) t
    of_valid non_nullable is may = record { type = p; bytes = bytes; is = is; same = refl }
    of_valid all_valid is may = absurd (cc)
    of_valid all_invalid is may = absurd (cc)
    of_valid (by_array m) is may = absurd (cc)

row_none : (count row : ℕ) (o s : ℤ) → count < 2 ^ 64 → IsListRow o s count → list_row_fault count row o s ≡ None
row_none count row o s few is =
    let start = is.start in
    let elements = is.elements in
    ap (λ z. list_row_fault count row z s) is.starts ∙ ap (λ z. list_row_fault count row (pos start) z) is.has
    ∙ rw (lt-ltb (start + elements) (2 ^ 64) (omega (arith, few, is.within)), le-leb (start + elements) count is.within) refl

pub lists_are : (zs ws : List ℤ) (count len : ℕ) (o s : Tree) → HasNumbers zs o → HasNumbers ws s → length zs ≡ len → length ws ≡ len → count < 2 ^ 64
    → AreListRows zs ws count → AreLists count len o s
lists_are zs ws count len o s offsets sizes o_long s_long few rows =
    let o_len = numbers_len zs o offsets ∙ o_long in
    let o_at : (i : ℕ) → whole_at o i ≡ number_nth zs i = λ i. ap (λ t. whole_at t i) offsets.is ∙ ap (λ ns. number_nth ns i) offsets.same in
    let s_at : (i : ℕ) → whole_at s i ≡ number_nth ws i = λ i. ap (λ t. whole_at t i) sizes.is ∙ ap (λ ns. number_nth ns i) sizes.same in
    record {
      offsets = ap (λ t. is_plain_integers (kind_of t)) offsets.is;
      sizes = ap (λ t. is_plain_integers (kind_of t)) sizes.is;
      offsets_len = o_len;
      sizes_len = numbers_len ws s sizes ∙ s_long;
      rows = first_fault-of_none (λ i. list_row_fault count i (whole_at o i) (whole_at s i)) (tree_len o) (λ i inside.
          ap (λ z. list_row_fault count i z (whole_at s i)) (o_at i) ∙ ap (λ z. list_row_fault count i (number_nth zs i) z) (s_at i)
          ∙ row_none count i (number_nth zs i) (number_nth ws i) few (rows i (omega (arith, inside, o_len, o_long))));
    }

list_view_none : (e o s : Tree) (v : Valid) (len : ℕ) → AreLists (tree_len e) len o s → validity_fault v len ≡ None → list_view_fault e o s v ≡ None
list_view_none e o s v len lists valid =
    let parts = or_else-none (valid_type_fault v) (valid_len_fault v len) valid in
    let o_none : count_type_fault o ≡ None = rw lists.offsets refl in
    let s_none : count_type_fault s ≡ None = rw lists.sizes refl in
    let same : tree_len s ≡ tree_len o = lists.sizes_len ∙ sym lists.offsets_len in
    let len_none : sizes_len_fault o s ≡ None = rw (eq-eqb (tree_len s) (tree_len o) same) refl in
    both_none (list_parts_fault o s v) (list_rows_fault (tree_len e) o s)
    (both_none _ _ o_none (both_none _ _ s_none (both_none _ _ parts.0 (both_none _ _ len_none (subst (λ k. valid_len_fault v k ≡ None) (sym lists.offsets_len) parts.1)))))
    lists.rows

module _ (n : CodraskNode) (pe po ps : Part) (count : ℕ) (elements : (e : Tree) → Describes pe e → tree_len e ≡ count)
    (lists : (o s : Tree) → Describes po o → Describes ps s → AreLists count n.length o s) where
  pub lists_made : (null : Bool) (left : List Part) → Makes ListView n null (pe ∷ po ∷ ps ∷ left) (Rows n.length) left
  lists_made null left v [] valid may described = absurd described
  lists_made null left v (e ∷ []) valid may described = absurd described.1
  lists_made null left v (e ∷ o ∷ []) valid may described = absurd described.1.1
  lists_made null left v (e ∷ o ∷ s ∷ ts) valid may (of_e, (of_o, (of_s, rest))) =
      let here : AreLists (tree_len e) n.length o s = subst (λ k. AreLists k n.length o s) (sym (elements e of_e)) (lists o s of_o of_s) in
      unless_made (list_view_fault e o s v) (list_view e o s v false) ts (Rows n.length) left n.length (list_view_none e o s v n.length here valid)
      here.offsets_len here.offsets_len rest

-- ---- records

pub names_none : (n : CodraskNode) → AreTextBuffers n.buffers.now → names_fault (buffers_in n) ≡ None
names_none n are =
    first_fault-of_none (name_fault (buffers_in n)) (length (buffers_in n)) (λ i inside.
    rw (is_utf8-from_IsUtf8 (slice_index_or (buffers_in n) i []) (are i (omega (arith, inside, length-map n.buffers.now (λ b. b.bytes.now))))) refl)

records_none : (names : List (List ℕ)) (columns : List Tree) (v : Valid) (len : ℕ) → length columns ≡ length names → validity_fault v len ≡ None
    → column_lens_fault len columns ≡ None → struct_fault names columns v len ≡ None
records_none names columns v len as_many valid long =
    let many_none : length_fault (length names) (length columns) ≡ None = rw (eq-eqb (length columns) (length names) as_many) refl in
    both_none (length_fault (length names) (length columns)) (columns_fault columns v len) many_none (both_none (validity_fault v len) (column_lens_fault len columns) valid long)

pub records_passed : (n : CodraskNode) (old left : List Part) → AreTextBuffers n.buffers.now
    → ((ts : List Tree) → AreDescribed old ts → AreTakenColumns (length n.buffers.now) n.length left ts) → (null : Bool) → Makes Struct n null old (Rows n.length) left
records_passed n old left are columns null v ts valid may described =
    let names = buffers_in n in
    let many : length names ≡ length n.buffers.now = length-map n.buffers.now _ in
    let here : AreTakenColumns (length names) n.length left ts = subst (λ k. AreTakenColumns k n.length left ts) (sym many) (columns ts described) in
    let taken : length (take (length names) ts) ≡ length names = omega (arith, length-take (length names) ts, here.enough) in
    let none = records_none names (take (length names) ts) v n.length taken valid here.faultless in
    rw (le-ltb (length ts) (length names) here.enough)
    (unless_made (or_else (names_fault names) (struct_fault names (take (length names) ts) v n.length)) (structure names (trees_from (take (length names) ts)) v n.length)
    (drop (length names) ts) (Rows n.length) left n.length (both_none (names_fault names) (struct_fault names (take (length names) ts) v n.length) (names_none n are) none) refl refl here.left)

-- ---- dictionaries

index_none : (count i : ℕ) (valid : Bool) (z : ℤ) → IsPlace z count → index_fault count i (if valid then whole z else null_row) ≡ None
index_none count i false z is = refl
index_none count i true z is = ap (λ n. index_fault count i (whole n)) is.is ∙ rw (lt-ltb is.place count is.within) refl

pub codes_are : (p : PType) (bytes : List ℕ) (may : Bool) (count : ℕ) (c : Tree) → HasBytes p bytes may c → ArePlaces (numbers p bytes) count → AreCodes count c
codes_are p bytes may count c has places = (
  ap (λ t. is_integers (kind_of t)) has.is,
  ap (indices_fault count) has.is
      ∙ first_fault-of_none (λ i. index_fault count i (row_at (primitive p bytes has.valid) i)) (length (numbers p bytes)) (λ i inside.
      index_none count i (is_valid_at has.valid i) (number_nth (numbers p bytes) i) (places i inside)),
)

module _ (n : CodraskNode) (pc pv : Part) (count : ℕ) (long : (c : Tree) → Describes pc c → tree_len c ≡ n.length) (values : (v : Tree) → Describes pv v → tree_len v ≡ count)
    (codes : (c : Tree) → Describes pc c → AreCodes count c) where
  dictionary_none : (c v : Tree) → Describes pc c → Describes pv v → dictionary_fault c v ≡ None
  dictionary_none c v of_c of_v =
      let are = subst (λ k. AreCodes k c) (sym (values v of_v)) (codes c of_c) in
      rw are.0 are.1

  pub dictionary_made : (may : Bool) → may ≡ false → (left : List Part) → Makes Dictionary n may (pc ∷ pv ∷ left) (Rows n.length) left
  dictionary_made may plain left non_nullable [] valid is described = absurd described
  dictionary_made may plain left non_nullable (c ∷ []) valid is described = absurd described.1
  dictionary_made may plain left non_nullable (c ∷ v ∷ ts) valid is (of_c, (of_v, rest)) =
      unless_made (dictionary_fault c v) (dictionary c v false) ts (Rows n.length) left n.length (dictionary_none c v of_c of_v) (long c of_c) (long c of_c) rest
  dictionary_made may plain left all_valid ts valid is described = absurd (false≢true (sym (is ∙ plain)))
  dictionary_made may plain left all_invalid ts valid is described = absurd (false≢true (sym (is ∙ plain)))
  dictionary_made may plain left (by_array m) ts valid is described = absurd (false≢true (sym (is ∙ plain)))

-- ---- lists of one size

pub fixed_made : (n : CodraskNode) (pe : Part) (count : ℕ) → ((e : Tree) → Describes pe e → tree_len e ≡ count) → element_count_fault count n.size n.length ≡ None
    → (may : Bool) (left : List Part) → Makes FixedSizeList n may (pe ∷ left) (Rows n.length) left
fixed_made n pe count elements none may left v [] valid is described = absurd described
fixed_made n pe count elements none may left v (e ∷ ts) valid is (of_e, rest) =
    unless_made (fixed_list_fault e n.size v n.length) (fixed_list e n.size v n.length) ts (Rows n.length) left n.length
    (both_none (validity_fault v n.length) (element_count_fault (tree_len e) n.size n.length) valid
    (subst (λ k. element_count_fault k n.size n.length ≡ None) (sym (elements e of_e)) none))
    refl refl rest
