-- Arrays that are concatenated: in plain layout they have their kinds and their rows.
use Rattle.std.proofs.Common.{ℕ, zero, suc, ◌+◌, ◌-◌, ◌^◌, ◌<◌, ◌≡◌, Bool, true, false, List, [], ◌∷◌, length, map, get_or, drop, refl, sym, ◌∙◌, ap, subst, inl, inr, Option, Some, None, arith}
use Rattle.std.specs.Prelude.{◌&&◌, not, if◌then◌else◌, Result, Ok, Err, IfOk}
use Rattle.std.specs.List.{All, AllZip, flat_map}
use Rattle.std.proofs.lemmas.Bool.{cases_lt}
use Rattle.std.proofs.lemmas.List.{at_drop_more, same_lists}
use Rattle.vx_base.specs.Kinds.{Kind, integers, is_integers}
use Rattle.vx_base.specs.SameKind.{kind_eq, kind_eq-Decides}
use Rattle.vx_base.specs.Rows.{Row, null}
use Rattle.vx_base.specs.Booleans.{count_fault}
use Rattle.vx_base.specs.Refusals.{Refusal, Gives, Refuses, refusal_of, or_else, IsMemoryOr, differing_dtypes, overflow}
use Rattle.vx_base.specs.declared.errors.VortexError.{VortexError}
use Rattle.vx_base.specs.declared.ptypes.PType.{PType}
use Rattle.vx_tree.specs.Tree.{Tree, primitive}
use Rattle.vx_tree.specs.Layouts.{is_primitive}
use Rattle.vx_tree.specs.Meaning.{tree_len, kind_of, row_at, rows, trees_from}
use Rattle.vx_tree.specs.Shapes.{tree_state}
use Rattle.vx_tree.specs.Plain.{IsPlain}
use Rattle.vx_tree.specs.Fitting.{AllFormed}
use Rattle.vx_canonical.specs.Canonical.{IsCanonical, IsCanonicalWithin}
use Rattle.vx_tree.specs.CanonicalFaults.{columns_fault}
use Rattle.vx_tree.specs.Flags.{is_flagged}
use Rattle.vx_canonical.specs.Joinable.{AreJoinable}
use Rattle.vx_canonical.specs.Joined.{joined_len, joined_state, joined_states, joined_row, IsJoined, HasJoinedNumbers}
use Rattle.vx_tree.specs.Extents.{extent_of, joined_extent}
use Rattle.vx_canonical.specs.Concatenated.{are_alike, given_fault, extents_fault, plain_fault, concat_fault, HasPlainNumbers, HasNumbersOf}
use Rattle.vx_tree.proofs.RowLists.{length-rows, get_or-rows}
use Rattle.vx_canonical.proofs.JoinedRows.{length-joined, joined_item, joined_same, joined-here, joined-later}
use Rattle.vx_canonical.proofs.JoinedNumbers.{columns_faultless}
use Rattle.vx_canonical.proofs.Overflows.{IsOverflow, columns_only, extents_only}
use Rattle.vx_tree.proofs.Dictionaries.{memory_only}

-- ---- kinds

both_true : (a b : Bool) → (a && b) ≡ true → (a ≡ true) × (b ≡ true)
both_true true true e = (refl, refl)
both_true true false e = cc
both_true false b e = cc

first_and_rest : (P : Tree → Type 0) (t : Tree) (ts : List Tree) → P t → All P ts → All P (t ∷ ts)
first_and_rest P t ts here rest zero d l = here
first_and_rest P t ts here rest (suc i) d l = rest i d (omega arith)

pub alike_kinds : (k : Kind) (ts : List Tree) → are_alike k ts ≡ true → All (λ t. kind_of t ≡ k) ts
alike_kinds k [] e = λ i d l. absurd (omega arith)
alike_kinds k (t ∷ ts) e =
    let both = both_true (kind_eq (kind_of t) k) (are_alike k ts) e in
    first_and_rest (λ u. kind_of u ≡ k) t ts ((kind_eq-Decides (kind_of t) k).0 both.0) (alike_kinds k ts both.1)

-- one array more
alike-step : (k : Kind) (ts : List Tree) (i : ℕ) (t : Tree) → i < length ts → t ≡ get_or ts i t → are_alike k (drop i ts) ≡ (kind_eq (kind_of t) k && are_alike k (drop (i + 1) ts))
alike-step k ts i t inside same = at_drop_more (are_alike k) ts i t inside ∙ ap (λ u. are_alike k (u ∷ drop (i + 1) ts)) (sym same)

-- no other kind is found
none_other : (b : Bool) → not b ≡ false → b ≡ true
none_other true e = refl
none_other false e = cc

pub alike-more : (k : Kind) (ts : List Tree) (i : ℕ) (t : Tree) (other : Bool) → i < length ts → t ≡ get_or ts i t → other ≡ not (kind_eq (kind_of t) k) → other ≡ false → are_alike k ts ≡ are_alike k (drop i ts)
    → are_alike k ts ≡ are_alike k (drop (i + 1) ts)
alike-more k ts i t other inside same told none before =
    let here : kind_eq (kind_of t) k ≡ true = none_other (kind_eq (kind_of t) k) (sym told ∙ none) in
    before ∙ alike-step k ts i t inside same ∙ ap (λ b. b && are_alike k (drop (i + 1) ts)) here

-- ---- in plain layout

pub plain_count : (ts ps : List Tree) → AllZip IsCanonical ts ps → length ps ≡ length ts
plain_count [] [] h = refl
plain_count [] (p ∷ ps) h = absurd h
plain_count (t ∷ ts) [] h = absurd h
plain_count (t ∷ ts) (p ∷ ps) h = ap suc (plain_count ts ps h.1)

pub plain_each : (k : Kind) (ts ps : List Tree) → AllZip IsCanonical ts ps → All (λ t. kind_of t ≡ k) ts → All (λ p. IsPlain p × (kind_of p ≡ k)) ps
plain_each k ts ps h same = λ i d l. each ts ps h same i d l
  where
    each : (us qs : List Tree) → AllZip IsCanonical us qs → All (λ t. kind_of t ≡ k) us → (i : ℕ) (d : Tree) → i < length qs → IsPlain (get_or qs i d) × (kind_of (get_or qs i d) ≡ k)
    each [] [] h all i d l = absurd (omega arith)
    each [] (q ∷ qs) h all i d l = absurd h
    each (u ∷ us) [] h all i d l = absurd h
    each (u ∷ us) (q ∷ qs) h all zero d l = (h.0.plain, h.0.same.kind ∙ all 0 d (omega arith))
    each (u ∷ us) (q ∷ qs) h all (suc i) d l = each us qs h.1 (λ j c m. all (suc j) c (omega arith)) i d (omega arith)

plain_len : (ts ps : List Tree) → AllZip IsCanonical ts ps → joined_len ps ≡ joined_len ts
plain_len [] [] h = refl
plain_len [] (p ∷ ps) h = absurd h
plain_len (t ∷ ts) [] h = absurd h
plain_len (t ∷ ts) (p ∷ ps) h = omega (arith, h.0.same.len, plain_len ts ps h.1)

pub plain_states : (ts ps : List Tree) → AllZip IsCanonical ts ps → joined_state ps ≡ joined_state ts
plain_states [] [] h = refl
plain_states [] (p ∷ ps) h = absurd h
plain_states (t ∷ ts) [] h = absurd h
plain_states (t ∷ []) (p ∷ []) h = h.0.state
plain_states (t ∷ []) (p ∷ q ∷ ps) h = absurd h.1
plain_states (t ∷ u ∷ ts) (p ∷ []) h = absurd h.1
plain_states (t ∷ u ∷ ts) (p ∷ q ∷ ps) h =
    let here = h.0.state in
    let rest = plain_states (u ∷ ts) (q ∷ ps) h.1 in
    λ i. joined_states (here i) (rest i)

-- ---- rows

plain_row : (ts ps : List Tree) → AllZip IsCanonical ts ps → (i : ℕ) → i < joined_len ts → joined_row ps i ≡ joined_row ts i
plain_row [] [] h i l = absurd (omega arith)
plain_row [] (p ∷ ps) h i l = absurd h
plain_row (t ∷ ts) [] h i l = absurd h
plain_row (t ∷ ts) (p ∷ ps) h i l = elim (cases_lt i (tree_len t)) [
  | inl here ↦ joined-here row_at null p ps i (omega (arith, h.0.same.len)) ∙ h.0.same.rows i here ∙ sym (joined-here row_at null t ts i here)
  | inr later ↦
      joined-later row_at null p ps i (omega (arith, h.0.same.len)) ∙ ap (λ n. joined_row ps (i - n)) h.0.same.len
      ∙ plain_row ts ps h.1 (i - tree_len t) (omega arith) ∙ sym (joined-later row_at null t ts i later)
]

-- the rows of arrays, one array after another
rows_listed : (ts : List Tree) (i : ℕ) (d : Row) → i < joined_len ts → joined_row ts i ≡ get_or (flat_map rows ts) i d
rows_listed ts i d n =
    joined_same row_at (λ t j. get_or (rows t) j d) null null ts (λ k c m. λ j q. sym (get_or-rows (get_or ts k c) j d q)) i n
    ∙ sym (joined_item rows (λ x. x) d null ts (λ k c l. length-rows (get_or ts k c)) i n)

pub rows_joined : (k : Kind) (ts : List Tree) (r : Tree) → IsJoined k ts r → rows r ≡ flat_map rows ts
rows_joined k ts r joined =
    same_lists (rows r) (flat_map rows ts) (length-rows r ∙ joined.len ∙ sym (length-joined rows ts (λ i d l. length-rows (get_or ts i d)))) (λ i d l.
    let m : i < tree_len r = omega (arith, length-rows r) in
    let n : i < joined_len ts = omega (arith, joined.len) in
    get_or-rows r i d m ∙ joined.rows i n ∙ rows_listed ts i d n)

-- the extents are those in plain layout
extents_same : (ts ps : List Tree) → AllZip IsCanonical ts ps → map extent_of ps ≡ map extent_of ts
extents_same [] [] h = refl
extents_same [] (p ∷ ps) h = absurd h
extents_same (t ∷ ts) [] h = absurd h
extents_same (t ∷ ts) (p ∷ ps) h = let rest = extents_same ts ps h.1 in λ i. h.0.extent i ∷ rest i

-- and they can be joined where these can be counted
pub plain_joinable : (k : Kind) (ts ps : List Tree) → AllZip IsCanonical ts ps → All (λ t. kind_of t ≡ k) ts → All AllFormed ps → joined_len ts < 2 ^ 64 → extents_fault k (joined_len ts) (map extent_of ts) ≡ None → AreJoinable k ps
plain_joinable k ts ps h same formed short fits =
    let long = plain_len ts ps h in
    let extents = extents_same ts ps h in
    record {
      plain = λ i d l. (plain_each k ts ps h same i d l).0;
      formed = formed;
      alike = λ i d l. (plain_each k ts ps h same i d l).1;
      short = subst (λ n. n < 2 ^ 64) (sym long) short;
      fits = (λ i. extents_fault k (long i) (extents i)) ∙ fits;
    }

-- plain layouts that are joined are the arrays joined
plain_joined : (k : Kind) (ts ps : List Tree) (r : Tree) → AllZip IsCanonical ts ps → IsJoined k ps r → IsJoined k ts r
plain_joined k ts ps r h joined =
    record {
      len = joined.len ∙ plain_len ts ps h;
      kind = joined.kind;
      plain = joined.plain;
      state = λ some. joined.state (omega (arith, plain_count ts ps h)) ∙ plain_states ts ps h;
      extent = joined.extent ∙ ap (joined_extent k) (extents_same ts ps h);
      flag = joined.flag;
      rows = λ i l. joined.rows i (omega (arith, plain_len ts ps h)) ∙ plain_row ts ps h i l;
    }

pub rows_concatenated : (k : Kind) (ts ps : List Tree) (r : Tree) → AllZip IsCanonical ts ps → IsJoined k ps r → rows r ≡ flat_map rows ts
rows_concatenated k ts ps r h joined = rows_joined k ts r (plain_joined k ts ps r h joined)

-- ---- faults

given_alike : (ts : List Tree) (t : Tree) → 0 < length ts → t ≡ get_or ts 0 t → are_alike (kind_of t) ts ≡ true → given_fault ts ≡ or_else (count_fault (joined_len ts)) (columns_fault (trees_from ts))
given_alike [] t l e h = absurd (omega arith)
given_alike (u ∷ ts) t l e h =
    let yes : are_alike (kind_of u) (u ∷ ts) ≡ true = subst (λ x. are_alike (kind_of x) (u ∷ ts) ≡ true) e h in
    ap (λ b. or_else (if b then None else Some differing_dtypes) (or_else (count_fault (joined_len (u ∷ ts))) (columns_fault (trees_from (u ∷ ts))))) yes

given_rows : (ts : List Tree) (t : Tree) → 0 < length ts → t ≡ get_or ts 0 t → are_alike (kind_of t) ts ≡ true → count_fault (joined_len ts) ≡ None → given_fault ts ≡ columns_fault (trees_from ts)
given_rows ts t l first h none = given_alike ts t l first h ∙ ap (λ f. or_else f (columns_fault (trees_from ts))) none

plain_fault-first : (ts : List Tree) (t : Tree) → 0 < length ts → t ≡ get_or ts 0 t → extents_fault (kind_of t) (joined_len ts) (map extent_of ts) ≡ plain_fault ts
plain_fault-first [] t l e = absurd (omega arith)
plain_fault-first (u ∷ ts) t l e = ap (λ x. extents_fault (kind_of x) (joined_len (u ∷ ts)) (map extent_of (u ∷ ts))) e

-- what is found of the rows, or of the elements and the buffers, before any array is made plain
pub rows_refuse : (ts : List Tree) (t : Tree) → 0 < length ts → t ≡ get_or ts 0 t → are_alike (kind_of t) ts ≡ true → count_fault (joined_len ts) ≡ None → columns_fault (trees_from ts) ≡ Some overflow → concat_fault ts ≡ Some overflow
rows_refuse ts t l first alike none many = ap (λ f. or_else f (plain_fault ts)) (given_rows ts t l first alike none ∙ many)

either_refuses : (a b : Option Refusal) (e : VortexError) → IsOverflow a → IsOverflow b → b ≡ refusal_of e → IsMemoryOr (or_else a b) e
either_refuses a b e (inl none) h same = inr (ap (λ f. or_else f b) none ∙ same)
either_refuses a b e (inr some) (inl none) same = inl (memory_only None e refl (inr (sym none ∙ same)))
either_refuses a b e (inr some) (inr overflows) same = inr (ap (λ f. or_else f b) some ∙ sym overflows ∙ same)

pub extents_refuse : (ts : List Tree) (t : Tree) (e : VortexError) → 0 < length ts → t ≡ get_or ts 0 t → are_alike (kind_of t) ts ≡ true → count_fault (joined_len ts) ≡ None
    → IsMemoryOr (extents_fault (kind_of t) (joined_len ts) (map extent_of ts)) e → IsMemoryOr (concat_fault ts) e
extents_refuse ts t e l first alike none (inl memory) = inl memory
extents_refuse ts t e l first alike none (inr same) =
    let given = given_rows ts t l first alike none in
    let extents = plain_fault-first ts t l first in
    either_refuses (given_fault ts) (plain_fault ts) e (subst IsOverflow (sym given) (columns_only (trees_from ts)))
    (subst IsOverflow extents (extents_only (kind_of t) (joined_len ts) (map extent_of ts))) (sym extents ∙ same)

-- and where none is
pub concat_faultless : (ts : List Tree) (t : Tree) → 0 < length ts → t ≡ get_or ts 0 t → are_alike (kind_of t) ts ≡ true → count_fault (joined_len ts) ≡ None → columns_fault (trees_from ts) ≡ None
    → extents_fault (kind_of t) (joined_len ts) (map extent_of ts) ≡ None → concat_fault ts ≡ None
concat_faultless ts t l first alike none plain extents =
    ap (λ f. or_else f (plain_fault ts)) (given_rows ts t l first alike none ∙ plain) ∙ sym (plain_fault-first ts t l first) ∙ extents

-- numbers have none, where they can be counted
pub numbers_concatenated : (ts : List Tree) (t : Tree) (p : PType) (n : Bool) → kind_of t ≡ integers p n → 0 < length ts → t ≡ get_or ts 0 t → are_alike (kind_of t) ts ≡ true → count_fault (joined_len ts) ≡ None → concat_fault ts ≡ None
numbers_concatenated ts t p n kind l first alike none =
    concat_faultless ts t l first alike none (columns_faultless ts (kind_of t) (ap is_integers kind) (alike_kinds (kind_of t) ts alike)) (ap (λ k. extents_fault k (joined_len ts) (map extent_of ts)) kind)

-- ---- what is answered

-- the kind of the first array in plain layout
pub first_kind : (ts ps : List Tree) (t p : Tree) → AllZip IsCanonical ts ps → are_alike (kind_of t) ts ≡ true → 0 < length ps → p ≡ get_or ps 0 p → kind_of p ≡ kind_of t
first_kind ts ps t p h alike l e = ap kind_of e ∙ (plain_each (kind_of t) ts ps h (alike_kinds (kind_of t) ts alike) 0 p l).1

pub first_plain : (ts ps : List Tree) (t p : Tree) → AllZip IsCanonical ts ps → are_alike (kind_of t) ts ≡ true → 0 < length ps → p ≡ get_or ps 0 p → IsPlain p
first_plain ts ps t p h alike l e = subst IsPlain (sym e) (plain_each (kind_of t) ts ps h (alike_kinds (kind_of t) ts alike) 0 p l).0

pub kinds_of_first : (ts ps : List Tree) (t p : Tree) → AllZip IsCanonical ts ps → are_alike (kind_of t) ts ≡ true → 0 < length ps → p ≡ get_or ps 0 p → All (λ u. kind_of u ≡ kind_of p) ts
kinds_of_first ts ps t p h alike l e = subst (λ k. All (λ u. kind_of u ≡ k) ts) (sym (first_kind ts ps t p h alike l e)) (alike_kinds (kind_of t) ts alike)

pub ok_refuses : (r : Result Tree VortexError) (k : Kind) (ts ps : List Tree) → concat_fault ts ≡ None → Gives r (IsJoined k ps) → Refuses r (concat_fault ts)
ok_refuses (Ok a) k ts ps none joined = none
ok_refuses (Err e) k ts ps none memory = inl memory

pub ok_rows : (r : Result Tree VortexError) (k : Kind) (ts ps : List Tree) → AllZip IsCanonical ts ps → Gives r (IsJoined k ps) → IfOk r (λ a. rows a ≡ flat_map rows ts)
ok_rows (Ok a) k ts ps h joined = rows_concatenated k ts ps a h joined
ok_rows (Err e) k ts ps h joined = tt

pub ok_kind : (r : Result Tree VortexError) (k : Kind) (ts ps : List Tree) → All (λ t. kind_of t ≡ k) ts → Gives r (IsJoined k ps) → IfOk r (λ a. All (λ t. kind_of t ≡ kind_of a) ts)
ok_kind (Ok a) k ts ps same joined = λ i d l. same i d l ∙ sym joined.kind
ok_kind (Err e) k ts ps same joined = tt

pub ok_plain : (r : Result Tree VortexError) (k : Kind) (ps : List Tree) → Gives r (IsJoined k ps) → IfOk r IsPlain
ok_plain (Ok a) k ps joined = joined.plain
ok_plain (Err e) k ps joined = tt

pub ok_state : (r : Result Tree VortexError) (k : Kind) (ts ps : List Tree) → AllZip IsCanonical ts ps → 0 < length ps → Gives r (IsJoined k ps) → IfOk r (λ a. tree_state a ≡ joined_state ts)
ok_state (Ok a) k ts ps h some joined = joined.state some ∙ plain_states ts ps h
ok_state (Err e) k ts ps h some joined = tt

pub ok_extent : (r : Result Tree VortexError) (k : Kind) (ts ps : List Tree) → AllZip IsCanonical ts ps → Gives r (IsJoined k ps) → IfOk r (λ a. extent_of a ≡ joined_extent (kind_of a) (map extent_of ts))
ok_extent (Ok a) k ts ps h joined = (plain_joined k ts ps a h joined).extent ∙ ap (λ j. joined_extent j (map extent_of ts)) (sym joined.kind)
ok_extent (Err e) k ts ps h joined = tt

pub ok_flag : (r : Result Tree VortexError) (k : Kind) (ps : List Tree) → Gives r (IsJoined k ps) → IfOk r (λ a. is_flagged a ≡ false)
ok_flag (Ok a) k ps joined = joined.flag
ok_flag (Err e) k ps joined = tt

-- ---- the numbers

pub primitive_numbers : (ts : List Tree) (r : Tree) → is_primitive r ≡ true → HasNumbersOf ts r
primitive_numbers ts (primitive p bs v) e = tt
primitive_numbers ts _ e = absurd (cc)

numbers_of : (ts : List Tree) (r : Tree) → HasPlainNumbers ts r → HasNumbersOf ts r
numbers_of ts (primitive p bs v) h = tt
numbers_of ts _ h = h

pub ok_numbers : (r : Result Tree VortexError) (ts ps : List Tree) → AllZip IsCanonical ts ps → AllZip IsCanonicalWithin ts ps → IfOk r (HasJoinedNumbers ps) → IfOk r (HasNumbersOf ts)
ok_numbers (Ok a) ts ps h g j = numbers_of ts a (record { plain = ps; canonical = h; within = g; numbers = j })
ok_numbers (Err e) ts ps h g j = tt
