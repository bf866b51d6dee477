-- The parts of plain arrays of one kind.
use Rattle.std.proofs.Common.{ℕ, zero, suc, ◌+◌, ◌*◌, ◌^◌, ◌<◌, ◌≤◌, ◌≡◌, ◌++◌, Bool, true, false, List, [], ◌∷◌, length, map, take, get_or, None, refl, sym, ◌∙◌, ap, subst, arith}
use Rattle.std.specs.List.{All, sum_by}
use Rattle.std.proofs.lemmas.List.{take_more, take_all, length-map, length-take-le, get_or-map}
use Rattle.vx_base.proofs.FirstFaults.{or_else-none}
use Rattle.vx_base.specs.Booleans.{count_fault}
use Rattle.vx_base.specs.Refusals.{or_else}
use Rattle.vx_base.specs.Kinds.{Kind, lists, fixed_lists, records, Kinds, no_kinds, kind}
use Rattle.vx_tree.specs.Tree.{Tree, bools, primitive, constant, dictionary, fixed_list, list_view, structure, view_array, Trees, no_trees, tree}
use Rattle.vx_tree.specs.Layouts.{is_fixed_list, is_list_view, is_struct}
use Rattle.vx_tree.specs.Meaning.{kind_of, kinds_of, trees_from, is_texts}
use Rattle.vx_tree.specs.Formed.{value_kind, column_count}
use Rattle.vx_tree.specs.Fitting.{AllFormed, ColumnsFormed}
use Rattle.vx_tree.specs.Plain.{IsPlain, ArePlain}
use Rattle.vx_tree.specs.Extents.{Extent, extent_of, buffer_count, element_count, elements_extent, column_extent}
use Rattle.vx_canonical.specs.Concatenated.{extents_fault, fields_extents_fault}
use Rattle.vx_canonical.specs.Joinable.{AreJoinable, AreColumnsJoinable}
use Rattle.vx_canonical.specs.Joined.{joined_len, IsJoined, AreFixedLists, AreLists, AreRecords, AreValues, joined_buffers, AreColumnsJoined, elements_in, columns_in, column_of, column_at, HasJoinedNumbers, HaveJoinedNumbers}
use Rattle.vx_canonical.proofs.Counted.{within_count}
use Rattle.vx_canonical.proofs.ExtentParts.{list_elements, fixed_list_elements, column_extent-of, parts_of_each, elements_of_each, buffers_of_each}
use Rattle.vx_canonical.proofs.JoinedKinds.{fixed_lists_of_kind, lists_of_kind, records_of_kind}
use Rattle.vx_canonical.proofs.JoinedLists.{fixed_elements}
use Rattle.vx_canonical.proofs.JoinedRecords.{column_len, count_of_list}
use Rattle.vx_canonical.proofs.JoinedViews.{few_of_none, values_of_kind}

-- ---- one kind

each-of : {P : Tree → Type 0} (k : Kind) (ts : List Tree) → AreJoinable k ts → ((t : Tree) → IsPlain t → AllFormed t → kind_of t ≡ k → P t) → All P ts
each-of k ts h f = λ i d l. f (get_or ts i d) (h.plain i d l) (h.formed i d l) (h.alike i d l)

pub all_values : (k : Kind) (u n : Bool) (ts : List Tree) → k ≡ value_kind u n → AreJoinable k ts → All (AreValues (is_texts k)) ts
all_values k u n ts e h = each-of k ts h (λ t p f q. values_of_kind t u n k e p f q)

pub all_fixed : (k : Kind) (s : ℕ) (n : Bool) (ts : List Tree) → AreJoinable (fixed_lists k s n) ts → All (AreFixedLists s) ts
all_fixed k s n ts h = each-of (fixed_lists k s n) ts h (λ t p f e. fixed_lists_of_kind t k s n p f e)

pub all_lists : (k : Kind) (n : Bool) (ts : List Tree) → AreJoinable (lists k n) ts → All AreLists ts
all_lists k n ts h = each-of (lists k n) ts h (λ t p f e. lists_of_kind t k n p f e)

pub all_records : (ns : List (List ℕ)) (ks : Kinds) (n : Bool) (ts : List Tree) → AreJoinable (records ns ks n) ts → All (AreRecords ns) ts
all_records ns ks n ts h = each-of (records ns ks n) ts h (λ t p f e. records_of_kind t ns ks n p f e)

-- ---- the elements of lists

all-map : (P : Tree → Type 0) (f : Tree → Tree) (ts : List Tree) → All (λ t. P (f t)) ts → All P (map f ts)
all-map P f ts h = λ k d l.
    let m : k < length ts = rw (length-map ts f) at l in
    rw (get_or-map f ts k d d m) (h k d m)

element-plain : (t : Tree) → IsPlain t → IsPlain (elements_in t)
element-plain (bools b bits v) p = p
element-plain (primitive q bs v) p = p
element-plain (constant q r m) p = p
element-plain (dictionary c v g) p = p
element-plain (fixed_list e s v m) p = p.0
element-plain (list_view e o s v g) p = p.0
element-plain (structure ns ts v m) p = p
element-plain (view_array vs bs q v) p = p

element-formed : (t : Tree) → AllFormed t → AllFormed (elements_in t)
element-formed (bools b bits v) f = f
element-formed (primitive q bs v) f = f
element-formed (constant q r m) f = f
element-formed (dictionary c v g) f = f
element-formed (fixed_list e s v m) f = f.1
element-formed (list_view e o s v g) f = f.1
element-formed (structure ns ts v m) f = f
element-formed (view_array vs bs q v) f = f

kind-in : Kind → Kind → Kind
kind-in (fixed_lists k s n) d = k
kind-in (lists k n) d = k
kind-in _ d = d

fixed-kind : (t : Tree) (k : Kind) (s : ℕ) (n : Bool) → is_fixed_list t ≡ true → kind_of t ≡ fixed_lists k s n → kind_of (elements_in t) ≡ k
unfolding kind-in
fixed-kind (fixed_list x z v m) k s n h e = ap (λ q. kind-in q k) e
fixed-kind _ k s n h e = cc

lists-kind : (t : Tree) (k : Kind) (n : Bool) → is_list_view t ≡ true → kind_of t ≡ lists k n → kind_of (elements_in t) ≡ k
unfolding kind-in
lists-kind (list_view x o s v g) k n h e = ap (λ q. kind-in q k) e
lists-kind _ k n h e = cc

-- their elements, counted
counted-parts : (k : Kind) (es : List Tree) (xs : List Extent) (n : ℕ) → joined_len es ≡ n → map extent_of es ≡ xs → or_else (count_fault n) (extents_fault k n xs) ≡ None → (joined_len es < 2 ^ 64) × (extents_fault k (joined_len es) (map extent_of es) ≡ None)
counted-parts k es xs n long same h =
    let both = or_else-none (count_fault n) (extents_fault k n xs) h in
    (subst (λ m. m < 2 ^ 64) (sym long) (within_count n both.0), (λ i. extents_fault k (long i) (same i)) ∙ both.1)

pub fixed_elements_joinable : (k : Kind) (s : ℕ) (n : Bool) (ts : List Tree) → AreJoinable (fixed_lists k s n) ts → AreJoinable k (map elements_in ts)
fixed_elements_joinable k s n ts h =
    let all = all_fixed k s n ts h in
    let parts = parts_of_each elements_extent elements_in ts (λ i d l. fixed_list_elements (get_or ts i d) (all i d l).layout) in
    let counted = counted-parts k (map elements_in ts) (map elements_extent (map extent_of ts)) (joined_len ts * s) (fixed_elements s ts all) (sym parts) h.fits in
    record {
      plain = all-map IsPlain elements_in ts (λ i d l. element-plain (get_or ts i d) (h.plain i d l));
      formed = all-map AllFormed elements_in ts (λ i d l. element-formed (get_or ts i d) (h.formed i d l));
      alike = all-map (λ x. kind_of x ≡ k) elements_in ts (λ i d l. fixed-kind (get_or ts i d) k s n (all i d l).layout (h.alike i d l));
      short = counted.0;
      fits = counted.1;
    }

pub list_elements_joinable : (k : Kind) (n : Bool) (ts : List Tree) → AreJoinable (lists k n) ts → AreJoinable k (map elements_in ts)
list_elements_joinable k n ts h =
    let all = all_lists k n ts h in
    let xs = map extent_of ts in
    let parts = parts_of_each elements_extent elements_in ts (λ i d l. list_elements (get_or ts i d) (all i d l).layout) in
    let many = elements_of_each ts (λ i d l. (all i d l).layout) in
    let counted = counted-parts k (map elements_in ts) (map elements_extent xs) (sum_by element_count xs) (sym many) (sym parts) h.fits in
    record {
      plain = all-map IsPlain elements_in ts (λ i d l. element-plain (get_or ts i d) (h.plain i d l));
      formed = all-map AllFormed elements_in ts (λ i d l. element-formed (get_or ts i d) (h.formed i d l));
      alike = all-map (λ x. kind_of x ≡ k) elements_in ts (λ i d l. lists-kind (get_or ts i d) k n (all i d l).layout (h.alike i d l));
      short = counted.0;
      fits = counted.1;
    }

-- ---- texts and byte lists

pub few_buffers : (k : Kind) (u n : Bool) (ts : List Tree) → k ≡ value_kind u n → AreJoinable k ts → length (joined_buffers ts) ≤ 2 ^ 32
few_buffers k u n ts e h =
    subst (λ m. m ≤ 2 ^ 32) (buffers_of_each ts (λ i d l. (all_values k u n ts e h i d l).resolved.layout))
    (of_kind u (subst (λ j. extents_fault j (joined_len ts) (map extent_of ts) ≡ None) e h.fits))
  where
    of_kind : (b : Bool) → extents_fault (value_kind b n) (joined_len ts) (map extent_of ts) ≡ None → sum_by buffer_count (map extent_of ts) ≤ 2 ^ 32
    of_kind true none = few_of_none (sum_by buffer_count (map extent_of ts)) none
    of_kind false none = few_of_none (sum_by buffer_count (map extent_of ts)) none

-- ---- the columns of records

column-plain : (us : Trees) (c : ℕ) → ArePlain us → IsPlain (column_at us c)
column-plain no_trees c h = tt
column-plain (tree u us) zero h = h.0
column-plain (tree u us) (suc c) h = column-plain us c h.1

column-formed : (us : Trees) (c : ℕ) → ColumnsFormed us → AllFormed (column_at us c)
column-formed no_trees c h = (tt, tt)
column-formed (tree u us) zero h = h.0
column-formed (tree u us) (suc c) h = column-formed us c h.1

columns-plain : (t : Tree) → is_struct t ≡ true → IsPlain t → ArePlain (columns_in t)
columns-plain (structure ns ts v m) h p = p.0
columns-plain _ h p = cc

columns-formed : (t : Tree) → is_struct t ≡ true → AllFormed t → ColumnsFormed (columns_in t)
columns-formed (structure ns ts v m) h f = f.1
columns-formed _ h f = cc

kinds-in : Kind → Kinds → Kinds
kinds-in (records ns ks n) d = ks
kinds-in _ d = d

pub columns-kinds : (t : Tree) (ns : List (List ℕ)) (ks : Kinds) (n : Bool) → is_struct t ≡ true → kind_of t ≡ records ns ks n → kinds_of (columns_in t) ≡ ks
unfolding kinds-in
columns-kinds (structure ms ts v m) ns ks n h e = ap (λ q. kinds-in q ks) e
columns-kinds _ ns ks n h e = cc

first-kind : Kinds → Kind → Kind
first-kind no_kinds d = d
first-kind (kind k ks) d = k

rest-kinds : Kinds → Kinds
rest-kinds no_kinds = no_kinds
rest-kinds (kind k ks) = ks

column-kind : (us : Trees) (ps : List Tree) (c : ℕ) (d : Tree) → kinds_of us ≡ kinds_of (trees_from ps) → c < length ps → kind_of (column_at us c) ≡ kind_of (get_or ps c d)
unfolding first-kind rest-kinds
column-kind us [] c d e l = absurd (omega arith)
column-kind no_trees (p ∷ ps) c d e l = cc
column-kind (tree u us) (p ∷ ps) zero d e l = ap (λ q. first-kind q (kind_of p)) e
column-kind (tree u us) (p ∷ ps) (suc c) d e l = column-kind us ps c d (ap rest-kinds e) (omega arith)

-- each of them has as many rows as the records
kind_count : Kinds → ℕ
kind_count no_kinds = 0
kind_count (kind k ks) = suc (kind_count ks)

kind_count-of : (ts : Trees) → kind_count (kinds_of ts) ≡ column_count ts
unfolding kind_count
kind_count-of no_trees = refl
kind_count-of (tree t ts) = omega (arith, kind_count-of ts)

column-lens : (ns : List (List ℕ)) (ps : List Tree) (n : Bool) (ts : List Tree) → AreJoinable (records ns (kinds_of (trees_from ps)) n) ts → (c : ℕ) → c < length ps → joined_len (map (column_of c) ts) ≡ joined_len ts
column-lens ns ps n [] h c l = refl
column-lens ns ps n (t ∷ ts) h c l =
    let ks = kinds_of (trees_from ps) in
    let all = all_records ns ks n (t ∷ ts) h in
    let mine : AreRecords ns t = all 0 t (omega arith) in
    let same : kinds_of (columns_in t) ≡ ks = columns-kinds t ns ks n mine.layout (h.alike 0 t (omega arith)) in
    let many : column_count (columns_in t) ≡ length ps = sym (kind_count-of (columns_in t)) ∙ ap kind_count same ∙ kind_count-of (trees_from ps) ∙ count_of_list ps in
    column_len ns c (t ∷ ts) all (omega (arith, l, many, mine.count))

-- and its elements and buffers can be counted where those of the records can
field-fits : (ps : List Tree) (c i m : ℕ) (d : Tree) (n : ℕ) (xs : List Extent) → m ≡ i + c → i < length ps → fields_extents_fault (kinds_of (trees_from ps)) c n xs ≡ None → extents_fault (kind_of (get_or ps i d)) n (map (column_extent m) xs) ≡ None
field-fits [] c i m d n xs e l h = absurd (omega arith)
field-fits (p ∷ ps) c zero m d n xs e l h =
    subst (λ j. extents_fault (kind_of p) n (map (column_extent j) xs) ≡ None) {x = c} {y = m} (omega (arith, e))
    (or_else-none (extents_fault (kind_of p) n (map (column_extent c) xs)) (fields_extents_fault (kinds_of (trees_from ps)) (suc c) n xs) h).0
field-fits (p ∷ ps) c (suc i) m d n xs e l h =
    field-fits ps (suc c) i m d n xs (omega (arith, e)) (omega arith) (or_else-none (extents_fault (kind_of p) n (map (column_extent c) xs)) (fields_extents_fault (kinds_of (trees_from ps)) (suc c) n xs) h).1

pub columns_joinable : (ns : List (List ℕ)) (ps : List Tree) (n : Bool) (ts : List Tree) → AreJoinable (records ns (kinds_of (trees_from ps)) n) ts → AreColumnsJoinable ps ts
columns_joinable ns ps n ts h = λ c d l.
    let ks = kinds_of (trees_from ps) in
    let all = all_records ns ks n ts h in
    let long = column-lens ns ps n ts h c l in
    let parts = parts_of_each (column_extent c) (column_of c) ts (λ i x m. column_extent-of c (get_or ts i x) (all i x m).layout) in
    record {
      plain = all-map IsPlain (column_of c) ts (λ i x m. column-plain (columns_in (get_or ts i x)) c (columns-plain (get_or ts i x) (all i x m).layout (h.plain i x m)));
      formed = all-map AllFormed (column_of c) ts (λ i x m. column-formed (columns_in (get_or ts i x)) c (columns-formed (get_or ts i x) (all i x m).layout (h.formed i x m)));
      alike = all-map (λ x. kind_of x ≡ kind_of (get_or ps c d)) (column_of c) ts (λ i x m. column-kind (columns_in (get_or ts i x)) ps c d (columns-kinds (get_or ts i x) ns ks n (all i x m).layout (h.alike i x m)) l);
      short = subst (λ m. m < 2 ^ 64) (sym long) h.short;
      fits = (λ i. extents_fault (kind_of (get_or ps c d)) (long i) (sym parts i)) ∙ field-fits ps 0 c c d (joined_len ts) (map extent_of ts) (omega arith) l h.fits;
    }

pub plain_at : (ps : List Tree) (i : ℕ) (d : Tree) → ArePlain (trees_from ps) → i < length ps → IsPlain (get_or ps i d)
plain_at [] i d h l = absurd (omega arith)
plain_at (p ∷ ps) zero d h l = h.0
plain_at (p ∷ ps) (suc i) d h l = plain_at ps i d h.1 (omega arith)

pub joinable_at : (ps ts list : List Tree) (i m : ℕ) (p : Tree) → AreColumnsJoinable ps ts → i < length ps → p ≡ get_or ps i p → m ≡ i → list ≡ map (column_of m) ts → AreJoinable (kind_of p) list
joinable_at ps ts list i m p h l e same joined =
    let here : AreJoinable (kind_of p) (map (column_of i) ts) = subst (λ q. AreJoinable (kind_of q) (map (column_of i) ts)) (sym e) (h i p l) in
    rw (joined, same) here

-- each of these is that column of the arrays, one array after another, from place c on
abbrev pub AreJoinedEach : List Tree → ℕ → List Tree → List Tree → Type 0
AreJoinedEach ts c [] [] = Unit {0}
AreJoinedEach ts c (p ∷ ps) (r ∷ rs) = IsJoined (kind_of p) (map (column_of c) ts) r × AreJoinedEach ts (suc c) ps rs
AreJoinedEach ts c _ _ = ⊥

joined-more : (ts : List Tree) (c m : ℕ) (ps rs : List Tree) (p r : Tree) → m ≡ length ps + c → AreJoinedEach ts c ps rs → IsJoined (kind_of p) (map (column_of m) ts) r → AreJoinedEach ts c (ps ++ p ∷ []) (rs ++ r ∷ [])
joined-more ts c m [] [] p r e h j = (subst (λ k. IsJoined (kind_of p) (map (column_of k) ts) r) {x = m} {y = c} (omega (arith, e)) j, tt)
joined-more ts c m [] (w ∷ rs) p r e h j = absurd h
joined-more ts c m (u ∷ ps) [] p r e h j = absurd h
joined-more ts c m (u ∷ ps) (w ∷ rs) p r e h j = (h.0, joined-more ts (suc c) m ps rs p r (omega (arith, e)) h.1 j)

pub joined_count : (ts : List Tree) (c : ℕ) (ps rs : List Tree) → AreJoinedEach ts c ps rs → length rs ≡ length ps
joined_count ts c [] [] h = refl
joined_count ts c [] (w ∷ rs) h = absurd h
joined_count ts c (u ∷ ps) [] h = absurd h
joined_count ts c (u ∷ ps) (w ∷ rs) h = ap suc (joined_count ts (suc c) ps rs h.1)

-- as many as are done
pub joined_done : (ts ps rs : List Tree) (i : ℕ) → i < length ps → AreJoinedEach ts 0 (take i ps) rs → length rs ≡ i
joined_done ts ps rs i l h = joined_count ts 0 (take i ps) rs h ∙ length-take-le i ps (omega arith)

pub joined_next : (ts ps rs new : List Tree) (i m : ℕ) (p r : Tree) → AreJoinedEach ts 0 (take i ps) rs → i < length ps → p ≡ get_or ps i p → m ≡ length rs → IsJoined (kind_of p) (map (column_of m) ts) r → new ≡ rs ++ r ∷ []
    → AreJoinedEach ts 0 (take (i + 1) ps) new
joined_next ts ps rs new i m p r h l e same j grown =
    rw (take_more ps i p l, ← e, grown) (joined-more ts 0 m (take i ps) rs p r (omega (arith, same, joined_count ts 0 (take i ps) rs h)) h j)

numbers-more : (ts : List Tree) (c m : ℕ) (rs : List Tree) (r : Tree) → m ≡ length rs + c → HaveJoinedNumbers ts c (trees_from rs) → HasJoinedNumbers (map (column_of m) ts) r → HaveJoinedNumbers ts c (trees_from (rs ++ r ∷ []))
numbers-more ts c m [] r e h j = (subst (λ k. HasJoinedNumbers (map (column_of k) ts) r) {x = m} {y = c} (omega (arith, e)) j, tt)
numbers-more ts c m (w ∷ rs) r e h j = (h.0, numbers-more ts (suc c) m rs r (omega (arith, e)) h.1 j)

pub numbers_next : (ts rs new : List Tree) (m : ℕ) (r : Tree) → HaveJoinedNumbers ts 0 (trees_from rs) → m ≡ length rs → HasJoinedNumbers (map (column_of m) ts) r → new ≡ rs ++ r ∷ [] → HaveJoinedNumbers ts 0 (trees_from new)
numbers_next ts rs new m r h same j grown = rw grown (numbers-more ts 0 m rs r (omega (arith, same)) h j)

joined-at : (ts : List Tree) (c : ℕ) (ps rs : List Tree) → AreJoinedEach ts c ps rs → (k m : ℕ) → m ≡ k + c → k < length ps → IsJoined (kind_of (column_at (trees_from rs) k)) (map (column_of m) ts) (column_at (trees_from rs) k)
joined-at ts c [] [] h k m e l = absurd (omega arith)
joined-at ts c [] (w ∷ rs) h k m e l = absurd h
joined-at ts c (u ∷ ps) [] h k m e l = absurd h
joined-at ts c (u ∷ ps) (w ∷ rs) h zero m e l =
    subst (λ q. IsJoined (kind_of w) (map (column_of q) ts) w) {x = c} {y = m} (omega (arith, e)) (rw h.0.kind h.0)
joined-at ts c (u ∷ ps) (w ∷ rs) h (suc k) m e l = joined-at ts (suc c) ps rs h.1 k m (omega (arith, e)) (omega arith)

pub columns_joined : (ts ps rs : List Tree) (i : ℕ) → AreJoinedEach ts 0 (take i ps) rs → length ps ≤ i → AreColumnsJoined ts (length ps) (trees_from rs)
columns_joined ts ps rs i h l =
    let all : AreJoinedEach ts 0 ps rs = rw (take_all i ps l) at h in
    record {
      count = count_of_list rs ∙ joined_count ts 0 ps rs all;
      each = λ c q. joined-at ts 0 ps rs all c c (omega arith) q;
    }

kinds-joined : (ts : List Tree) (c : ℕ) (ps rs : List Tree) → AreJoinedEach ts c ps rs → kinds_of (trees_from rs) ≡ kinds_of (trees_from ps)
kinds-joined ts c [] [] h = refl
kinds-joined ts c [] (w ∷ rs) h = absurd h
kinds-joined ts c (u ∷ ps) [] h = absurd h
kinds-joined ts c (u ∷ ps) (w ∷ rs) h =
    let here = h.0.kind in
    let more = kinds-joined ts (suc c) ps rs h.1 in
    λ i. kind (here i) (more i)

pub kinds_joined : (ts ps rs : List Tree) (i : ℕ) → AreJoinedEach ts 0 (take i ps) rs → length ps ≤ i → kinds_of (trees_from rs) ≡ kinds_of (trees_from ps)
kinds_joined ts ps rs i h l = kinds-joined ts 0 ps rs (rw (take_all i ps l) at h)
