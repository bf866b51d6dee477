-- Texts and byte lists by their views, joined.
use Rattle.std.proofs.Common.{ℕ, suc, ◌+◌, ◌-◌, ◌^◌, ◌<◌, ◌≤◌, ◌≡◌, ◌⊎◌, Bool, true, false, List, [], ◌∷◌, ◌++◌, length, map, get_or, take, drop, replicate, append_assoc, refl, sym, ◌∙◌, ap, subst, inl, inr, arith}
use Rattle.std.specs.Prelude.{IsUtf8, if◌then◌else◌, slice_range, slice_index_or, None}
use Rattle.std.specs.List.{All, sum_by}
use Rattle.std.proofs.lemmas.Bool.{cases_lt, le-leb, lt-leb}
use Rattle.std.proofs.lemmas.List.{length-append, length-map, length-drop, length-take-le, get_or_append_left, get_or-append_right, get_or-map, get_or_default, at_drop_more}
use Rattle.vx_base.proofs.NumberBytes.{below_4}
use Rattle.vx_base.specs.Rows.{Row, null, is_present}
use Rattle.vx_base.specs.Kinds.{Kind}
use Rattle.vx_views.specs.Views.{number_le, view_size, view_prefix, view_block, view_offset, buffer_at, view_value, ref_view, IsView, Resolves}
use Rattle.vx_views.specs.Sound.{IsSoundView}
use Rattle.vx_views.specs.declared.view.TheConstants.{MAX_INLINED_SIZE}
use Rattle.vx_views.proofs.Padding.{bytes-take, bytes-drop}
use Rattle.vx_views.proofs.Places.{size_of_ref, prefix_of_ref, block_of_ref, offset_of_ref, value_of_inlined, value_of_ref}
use Rattle.vx_views.proofs.SoundViews.{size-short}
use Rattle.vx_tree.specs.Tree.{Tree, bools, primitive, constant, dictionary, fixed_list, list_view, structure, view_array, Valid}
use Rattle.vx_tree.specs.Meaning.{tree_len, kind_of, row_at, is_valid_at, nullable, is_texts, value_row}
use Rattle.vx_tree.specs.Formed.{WellFormed, value_kind}
use Rattle.vx_tree.specs.Layouts.{is_view_array}
use Rattle.vx_tree.specs.Fitting.{AllFormed}
use Rattle.vx_tree.specs.Plain.{IsPlain}
use Rattle.vx_tree.specs.CanonicalFaults.{buffers_overflow}
use Rattle.vx_canonical.specs.Joined.{joined_len, joined_at, joined_row, IsJoined, IsValidJoined, views_in, buffers_in, joined_buffers, shifted_view, views_from, AreResolved, AreValues}
use Rattle.vx_tree.specs.Extents.{extent_of, view_extent, buffer_count, joined_extent}
use Rattle.vx_canonical.proofs.ExtentParts.{buffers_of_each}
use Rattle.vx_canonical.proofs.JoinedRows.{joined-here, joined-later, rows_of_content}
use Rattle.vx_canonical.proofs.JoinedLeaves.{shown}
use Rattle.vx_canonical.proofs.PlainTexts.{many_fault}

-- ---- one view

-- a view that reads of some buffers what another one reads of others
pub record ReadsSame (cs bs : List (List ℕ)) (new old : List ℕ) : Type 0 where
  pub resolves : Resolves cs new
  pub size : view_size new ≡ view_size old
  pub prefix : view_prefix new ≡ view_prefix old
  pub value : view_value cs new ≡ view_value bs old

offset-short : (view : List ℕ) → IsView view → view_offset view < 2 ^ 32
unfolding number_le
offset-short view formed = below_4 (slice_range view 12 16) (bytes-take 4 (drop 12 view) (bytes-drop 12 view formed.bytes))

prefix-length : (view : List ℕ) → IsView view → length (view_prefix view) ≡ 4
prefix-length view formed = length-take-le 4 (drop 4 view) (omega (arith, formed.sixteen, length-drop 4 view))

pub shifted_long : (n : ℕ) (view : List ℕ) → MAX_INLINED_SIZE < view_size view → shifted_view n view ≡ ref_view (view_size view) (view_prefix view) (n + view_block view) (view_offset view)
shifted_long n view long = ap (λ (b : Bool). if b then view else ref_view (view_size view) (view_prefix view) (n + view_block view) (view_offset view)) (lt-leb (view_size view) MAX_INLINED_SIZE long)

pub shifted_short : (n : ℕ) (view : List ℕ) → view_size view ≤ MAX_INLINED_SIZE → shifted_view n view ≡ view
shifted_short n view short = ap (λ (b : Bool). if b then view else ref_view (view_size view) (view_prefix view) (n + view_block view) (view_offset view)) (le-leb (view_size view) MAX_INLINED_SIZE short)

-- the buffer of a number, where others stand before and after
buffer_between : (before bs after : List (List ℕ)) (block : ℕ) → block < length bs → buffer_at (before ++ (bs ++ after)) (length before + block) ≡ buffer_at bs block
buffer_between before bs after block l =
    get_or-append_right before (bs ++ after) (length before) (length before + block) [] refl (omega arith)
    ∙ ap (λ i. get_or (bs ++ after) i []) {x = length before + block - length before} {y = block} (omega arith)
    ∙ get_or_append_left bs after [] block l

long_reads : (before bs after : List (List ℕ)) (view : List ℕ) → IsView view → Resolves bs view → length before + length bs ≤ 2 ^ 32 → MAX_INLINED_SIZE < view_size view
    → ReadsSame (before ++ (bs ++ after)) bs (ref_view (view_size view) (view_prefix view) (length before + view_block view) (view_offset view)) view
long_reads before bs after view formed resolves few long =
    let cs = before ++ (bs ++ after) in
    let n = length before + view_block view in
    let new = ref_view (view_size view) (view_prefix view) n (view_offset view) in
    let there = resolves long in
    let four = prefix-length view formed in
    let size : view_size new ≡ view_size view = size_of_ref (view_size view) n (view_offset view) (view_prefix view) four (size-short view formed) in
    let block : view_block new ≡ n = block_of_ref (view_size view) n (view_offset view) (view_prefix view) four (omega (arith, there.0, few)) in
    let offset : view_offset new ≡ view_offset view = offset_of_ref (view_size view) n (view_offset view) (view_prefix view) four (offset-short view formed) in
    let buffer : buffer_at cs n ≡ buffer_at bs (view_block view) = buffer_between before bs after (view_block view) there.0 in
    record {
      resolves = λ more. (rw block (omega (arith, there.0, length-append before (bs ++ after), length-append bs after)), rw (block, offset, size, buffer) there.1);
      size = size;
      prefix = prefix_of_ref (view_size view) n (view_offset view) (view_prefix view) four;
      value =
          value_of_ref cs new (rw size long) ∙ (λ i. slice_range (buffer_at cs (block i)) (offset i) (offset i + size i))
          ∙ ap (λ (b : List ℕ). slice_range b (view_offset view) (view_offset view + view_size view)) buffer ∙ sym (value_of_ref bs view long);
    }

pub shifted_reads : (before bs after : List (List ℕ)) (view : List ℕ) → IsView view → Resolves bs view → length before + length bs ≤ 2 ^ 32
    → ReadsSame (before ++ (bs ++ after)) bs (shifted_view (length before) view) view
shifted_reads before bs after view formed resolves few = by_size (cases_lt MAX_INLINED_SIZE (view_size view))
  where
    by_size : (MAX_INLINED_SIZE < view_size view) ⊎ (view_size view ≤ MAX_INLINED_SIZE) → ReadsSame (before ++ (bs ++ after)) bs (shifted_view (length before) view) view
    by_size (inl long) =
        subst (λ new. ReadsSame (before ++ (bs ++ after)) bs new view) (sym (shifted_long (length before) view long)) (long_reads before bs after view formed resolves few long)
    by_size (inr short) =
        subst (λ new. ReadsSame (before ++ (bs ++ after)) bs new view) (sym (shifted_short (length before) view short))
        (record {
          resolves = λ long. absurd (omega (arith, long, short));
          size = refl;
          prefix = refl;
          value = value_of_inlined (before ++ (bs ++ after)) view short ∙ sym (value_of_inlined bs view short);
        })

pub sound_same : (cs bs : List (List ℕ)) (u : Bool) (new old : List ℕ) → ReadsSame cs bs new old → IsSoundView bs u old → IsSoundView cs u new
sound_same cs bs u new old r h =
    record {
      resolves = r.resolves;
      begins = λ long. r.prefix ∙ h.begins (rw r.size at long) ∙ ap (take 4) (sym r.value);
      utf8 = λ on. subst IsUtf8 (sym r.value) (h.utf8 on);
    }

pub zero_shifted : (n : ℕ) → shifted_view n (replicate 16 0) ≡ replicate 16 0
unfolding number_le
zero_shifted n = refl

-- ---- the view of each row

-- the value at a place
abbrev pub value_at : Bool → Tree → ℕ → Row
value_at u t j = value_row u (view_value (buffers_in t) (slice_index_or (views_in t) j []))

-- a view that may stand at a row, valid or not, and reads its value
pub record IsViewAt (cs : List (List ℕ)) (u valid : Bool) (view : List ℕ) (r : Row) : Type 0 where
  pub sound : valid ≡ true → IsSoundView cs u view
  pub zeroes : valid ≡ false → view ≡ replicate 16 0
  pub value : value_row u (view_value cs view) ≡ r

pub length-views : (n : ℕ) (u : Bool) (ts : List Tree) → All (AreValues u) ts → length (views_from n ts) ≡ joined_len ts
length-views n u [] h = refl
length-views n u (t ∷ ts) h =
    let mine : AreValues u t = h 0 t (omega arith) in
    omega (
      arith,
      length-append (map (shifted_view n) (views_in t)) (views_from (n + length (buffers_in t)) ts),
      length-map (views_in t) (shifted_view n),
      mine.len,
      length-views (n + length (buffers_in t)) u ts (λ k d l. h (suc k) d (omega arith)),
    )

view_here : (before after : List (List ℕ)) (u : Bool) (t : Tree) (j : ℕ) → AreValues u t → length before + length (buffers_in t) ≤ 2 ^ 32 → j < tree_len t
    → IsViewAt (before ++ (buffers_in t ++ after)) u (is_present (row_at t j)) (shifted_view (length before) (slice_index_or (views_in t) j [])) (value_at u t j)
view_here before after u t j mine few l =
    let view = slice_index_or (views_in t) j [] in
    let inside : j < length (views_in t) = rw mine.len l in
    let same = shifted_reads before (buffers_in t) after view (mine.views.each_view j inside) (mine.resolved.resolves j inside) few in
    record {
      sound = λ valid. sound_same (before ++ (buffers_in t ++ after)) (buffers_in t) u (shifted_view (length before) view) view same (mine.sound j l valid);
      zeroes = λ none. ap (shifted_view (length before)) (mine.zeroes j l none) ∙ zero_shifted (length before);
      value = ap (value_row u) same.value;
    }

pub view-joined : (u : Bool) (before : List (List ℕ)) (ts : List Tree) → All (AreValues u) ts → length before + length (joined_buffers ts) ≤ 2 ^ 32 → (i : ℕ) → i < joined_len ts
    → IsViewAt (before ++ joined_buffers ts) u (is_present (joined_row ts i)) (get_or (views_from (length before) ts) i []) (joined_at (value_at u) null ts i)
view-joined u before [] h few i l = absurd (omega arith)
view-joined u before (t ∷ ts) h few i l =
    let mine : AreValues u t = h 0 t (omega arith) in
    let bs = buffers_in t in
    let mapped = map (shifted_view (length before)) (views_in t) in
    let rest = views_from (length before + length bs) ts in
    let long : length mapped ≡ tree_len t = length-map (views_in t) (shifted_view (length before)) ∙ mine.len in
    let both : length (bs ++ joined_buffers ts) ≡ length bs + length (joined_buffers ts) = length-append bs (joined_buffers ts) in
    elim (cases_lt i (tree_len t)) [
      | inl here ↦
          let e : get_or (mapped ++ rest) i [] ≡ shifted_view (length before) (slice_index_or (views_in t) i []) =
          get_or_append_left mapped rest [] i (omega (arith, long)) ∙ get_or-map (shifted_view (length before)) (views_in t) i [] [] (omega (arith, mine.len)) in
          rw (e, joined-here row_at null t ts i here, joined-here (value_at u) null t ts i here) (view_here before (joined_buffers ts) u t i mine (omega (arith, few, both)) here)
      | inr later ↦
          let e : get_or (mapped ++ rest) i [] ≡ get_or rest (i - tree_len t) [] = get_or-append_right mapped rest (tree_len t) i [] long later in
          let n : length (before ++ bs) ≡ length before + length bs = length-append before bs in
          let more = view-joined u (before ++ bs) ts (λ k d q. h (suc k) d (omega arith)) (omega (arith, n, few, both)) (i - tree_len t) (omega arith) in
          let valid = is_present (joined_row ts (i - tree_len t)) in
          let value = joined_at (value_at u) null ts (i - tree_len t) in
          rw (e, joined-later row_at null t ts i later, joined-later (value_at u) null t ts i later)
          (subst (λ cs. IsViewAt cs u valid (get_or rest (i - tree_len t) []) value) (append_assoc before bs (joined_buffers ts))
          (subst (λ m. IsViewAt ((before ++ bs) ++ joined_buffers ts) u valid (get_or (views_from m ts) (i - tree_len t) []) value) n more))
    ]

-- ---- the array of all of them

value_present : (u : Bool) (x : List ℕ) → is_present (value_row u x) ≡ true
value_present true x = refl
value_present false x = refl

views_extent : (k : Kind) (n : Bool) (ts : List Tree) (cs : List (List ℕ)) → All (λ t. is_view_array t ≡ true) ts → cs ≡ joined_buffers ts → k ≡ value_kind (is_texts k) n → view_extent (length cs) ≡ joined_extent k (map extent_of ts)
views_extent k n ts cs h f kind = by_kind (is_texts k) ∙ ap (λ q. joined_extent q (map extent_of ts)) (sym kind)
  where
    many : view_extent (length cs) ≡ view_extent (sum_by buffer_count (map extent_of ts))
    many = ap view_extent (ap length f ∙ sym (buffers_of_each ts h))

    by_kind : (u : Bool) → view_extent (length cs) ≡ joined_extent (value_kind u n) (map extent_of ts)
    by_kind true = many
    by_kind false = many

pub views_joined : (k : Kind) (ts : List Tree) (ws cs : List (List ℕ)) (v : Valid) → All (AreValues (is_texts k)) ts → length (joined_buffers ts) ≤ 2 ^ 32 → ws ≡ views_from 0 ts → cs ≡ joined_buffers ts
    → k ≡ value_kind (is_texts k) (nullable v) → IsValidJoined (nullable v) ts v → IsJoined k ts (view_array ws cs k v) × WellFormed (view_array ws cs k v)
views_joined k ts ws cs v h few e f kind valid =
    let long : length ws ≡ joined_len ts = ap length e ∙ length-views 0 (is_texts k) ts h in (
      record {
        len = long;
        kind = refl;
        plain = valid.plain;
        state = valid.state;
        extent = views_extent k (nullable v) ts cs (λ i d l. (h i d l).resolved.layout) f kind;
        flag = refl;
        rows = λ i l.
            rows_of_content (value_at (is_texts k)) (view_array ws cs k v) ts (λ m d q. (h m d q).content) i l
            (is_valid_at v i) (value_row (is_texts k) (view_value cs (slice_index_or ws i []))) (valid.bits i l) (at_place i l).value refl;
      },
      (
        rw long valid.fits,
        record {
          kind = kind;
          sound = λ i l here. (at_place i (rw long at l)).sound (sym (valid.bits i (rw long at l)) ∙ here);
          zeroes = λ i l none. (at_place i (rw long at l)).zeroes (sym (valid.bits i (rw long at l)) ∙ none);
        },
      ),
    )
  where
    at_place : (i : ℕ) → i < joined_len ts → IsViewAt cs (is_texts k) (is_present (joined_row ts i)) (slice_index_or ws i []) (joined_at (value_at (is_texts k)) null ts i)
    at_place i l = rw (e, f) (view-joined (is_texts k) [] ts h (omega (arith, few)) i l)

-- ---- plain arrays of a kind

valid_where_present : (b : Bool) (r : Row) → is_present r ≡ true → is_present (if b then r else null) ≡ b
valid_where_present true r e = e
valid_where_present false r e = refl

none-long : MAX_INLINED_SIZE < view_size (replicate 16 0) → ⊥
unfolding number_le
none-long h = omega arith

values_of : (vs bs : List (List ℕ)) (k : Kind) (v : Valid) → AllFormed (view_array vs bs k v) → AreValues (is_texts k) (view_array vs bs k v)
values_of vs bs k v f =
    let formed = f.0.1 in
    let value = λ (j : ℕ). value_row (is_texts k) (view_value bs (slice_index_or vs j [])) in
    let bit : (j : ℕ) → is_present (if is_valid_at v j then value j else null) ≡ is_valid_at v j = λ j. valid_where_present (is_valid_at v j) (value j) (value_present (is_texts k) (view_value bs (slice_index_or vs j []))) in
    record {
      len = refl;
      views = f.1;
      resolved = record { layout = refl; resolves = λ j l. each j l (is_valid_at v j) refl };
      sound = λ j l here. formed.sound j l (sym (bit j) ∙ here);
      zeroes = λ j l none. formed.zeroes j l (sym (bit j) ∙ none);
      content = λ j l. shown (is_valid_at v j) (value j) (value_present (is_texts k) (view_value bs (slice_index_or vs j [])));
    }
  where
    each : (j : ℕ) → j < length vs → (b : Bool) → is_valid_at v j ≡ b → Resolves bs (slice_index_or vs j [])
    each j l true e = (f.0.1.sound j l e).resolves
    each j l false e = subst (λ (view : List ℕ). Resolves bs view) (sym (f.0.1.zeroes j l e)) (λ long. absurd (none-long long))

same_kind : (k j : Kind) (vs bs : List (List ℕ)) (v : Valid) → k ≡ j → AllFormed (view_array vs bs k v) → AreValues (is_texts j) (view_array vs bs k v)
same_kind k j vs bs v e f = rw (sym e) (values_of vs bs k v f)

pub values_of_kind : (t : Tree) (u n : Bool) (k : Kind) → k ≡ value_kind u n → IsPlain t → AllFormed t → kind_of t ≡ k → AreValues (is_texts k) t
values_of_kind (view_array vs bs q v) u n k h p f e = same_kind q k vs bs v e f
values_of_kind (constant q r m) u n k h p f e = absurd p
values_of_kind (dictionary c v g) u n k h p f e = absurd p
values_of_kind (bools b bits v) u n k h p f e = absurd (no_booleans u (e ∙ h))
  where
    no_booleans : (c : Bool) → kind_of (bools b bits v) ≡ value_kind c n → ⊥
    no_booleans true x = cc
    no_booleans false x = cc
values_of_kind (primitive q bs v) u n k h p f e = absurd (no_numbers u (e ∙ h))
  where
    no_numbers : (b : Bool) → kind_of (primitive q bs v) ≡ value_kind b n → ⊥
    no_numbers true x = cc
    no_numbers false x = cc
values_of_kind (fixed_list x s v m) u n k h p f e = absurd (no_lists u (e ∙ h))
  where
    no_lists : (b : Bool) → kind_of (fixed_list x s v m) ≡ value_kind b n → ⊥
    no_lists true x = cc
    no_lists false x = cc
values_of_kind (list_view x o s v g) u n k h p f e = absurd (no_lists u (e ∙ h))
  where
    no_lists : (b : Bool) → kind_of (list_view x o s v g) ≡ value_kind b n → ⊥
    no_lists true x = cc
    no_lists false x = cc
values_of_kind (structure ns ts v m) u n k h p f e = absurd (no_records u (e ∙ h))
  where
    no_records : (b : Bool) → kind_of (structure ns ts v m) ≡ value_kind b n → ⊥
    no_records true x = cc
    no_records false x = cc

-- ---- their buffers and views, one array after another

pub buffers-step : (ts : List Tree) (i : ℕ) (t : Tree) → i < length ts → t ≡ get_or ts i t → joined_buffers (drop i ts) ≡ buffers_in t ++ joined_buffers (drop (i + 1) ts)
buffers-step ts i t inside same = at_drop_more joined_buffers ts i t inside ∙ ap (λ u. joined_buffers (u ∷ drop (i + 1) ts)) (sym same)

pub counts-step : (ts : List Tree) (i : ℕ) (t : Tree) → i < length ts → t ≡ get_or ts i t → length (joined_buffers (drop i ts)) ≡ length (buffers_in t) + length (joined_buffers (drop (i + 1) ts))
counts-step ts i t inside same = ap length (buffers-step ts i t inside same) ∙ length-append (buffers_in t) (joined_buffers (drop (i + 1) ts))

pub views-more : (ts : List Tree) (i : ℕ) (t : Tree) (base n : ℕ) (vs joined news : List (List ℕ)) → i < length ts → t ≡ get_or ts i t → vs ≡ views_in t → n ≡ length (buffers_in t)
    → joined ++ views_from base (drop i ts) ≡ views_from 0 ts → news ≡ joined ++ map (shifted_view base) vs → news ++ views_from (base + n) (drop (i + 1) ts) ≡ views_from 0 ts
views-more ts i t base n vs joined news inside same v-is n-is before e =
    let rest = views_from (base + n) (drop (i + 1) ts) in
    let step : views_from base (drop i ts) ≡ map (shifted_view base) (views_in t) ++ views_from (base + length (buffers_in t)) (drop (i + 1) ts) =
    at_drop_more (views_from base) ts i t inside ∙ ap (λ u. views_from base (u ∷ drop (i + 1) ts)) (sym same) in
    let here : map (shifted_view base) vs ++ rest ≡ views_from base (drop i ts) =
    ap (λ us. map (shifted_view base) us ++ rest) v-is ∙ ap (λ k. map (shifted_view base) (views_in t) ++ views_from (base + k) (drop (i + 1) ts)) n-is ∙ sym step in
    ap (λ us. us ++ rest) e ∙ append_assoc joined (map (shifted_view base) vs) rest ∙ ap (λ us. joined ++ us) here ∙ before

-- the numbers of the buffers that the views refer to
pub named-short : (t : Tree) (base end : ℕ) → AreResolved t → base + length (buffers_in t) ≤ end → end ≤ 2 ^ 32 → All (λ view. MAX_INLINED_SIZE < view_size view → base + view_block view < 2 ^ 32) (views_in t)
named-short t base end h within few = λ i d l long.
    let same : get_or (views_in t) i d ≡ slice_index_or (views_in t) i [] = get_or_default (views_in t) i d [] l in
    let size : MAX_INLINED_SIZE < view_size (slice_index_or (views_in t) i []) = rw same at long in
    let there = (h.resolves i l size).0 in
    rw same (omega (arith, there, within, few))

-- ---- how many buffers

pub few_of_none : (n : ℕ) → buffers_overflow n ≡ None → n ≤ 2 ^ 32
few_of_none n h = by_count (cases_lt (2 ^ 32) n)
  where
    by_count : (2 ^ 32 < n) ⊎ (n ≤ 2 ^ 32) → n ≤ 2 ^ 32
    by_count (inl many) = let some = sym (many_fault n many) ∙ h in absurd (cc)
    by_count (inr few) = few
