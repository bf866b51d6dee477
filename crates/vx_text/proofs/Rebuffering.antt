-- Moving the values of views to new buffers: the faults, and the array that is made.
use Rattle.std.proofs.Common.{◌≡◌, ℕ, ◌+◌, ◌<◌, ◌≤◌, Bool, false, List, [], ◌∷◌, ◌++◌, length, take, get_or, map, replicate, pos, sum, if◌then◌else◌, Some, None, Ok, Err, Result, IfOk, inr, inl, refl, sym, ◌∙◌, ap, subst, zero-add, eq-eqb, arith}
use Rattle.std.specs.Prelude.{slice_index_or, IsUtf8}
use Rattle.std.specs.List.{All, flat_map, range_with_len}
use Rattle.std.specs.Result.{IsErrAnd}
use Rattle.std.proofs.lemmas.Bool.{cases_Bool, le-leb, lt-leb}
use Rattle.std.proofs.lemmas.List.{length-map, get_or-map, map_more}
use Rattle.std.proofs.lemmas.List.Folds.{flat_map-map}
use Rattle.std.proofs.lemmas.List.FromFn.{fill_by_all}
use Rattle.std.proofs.lemmas.Simd.{map-map}
use Rattle.vx_base.specs.Refusals.{limit_too_large, lengths_not_exact, or_else, refusal_of, Names, IsMemoryOr, Refuses}
use Rattle.vx_base.specs.declared.errors.VortexError.{VortexError}
use Rattle.vx_base.specs.declared.errors.VortexError.TheVariants.{Memory, LimitTooLarge}
use Rattle.vx_base.specs.Kinds.{Kind}
use Rattle.vx_base.specs.Rows.{null}
use Rattle.vx_base.proofs.ListParts.{map_range_same}
use Rattle.vx_base.proofs.FirstFaults.{or_else-first, or_else-second, or_else-none, first_fault-of_none}
use Rattle.vx_views.specs.BuildFaults.{IsPieceCount, build_fault, lengths_of, limit_fault, negative_at, sum_fault, numbering_fault, first_negative, first_too_long}
use Rattle.vx_views.specs.Cut.{IsCut, IsMaximalCut}
use Rattle.vx_views.specs.Places.{AreBuilt, ReadBack, value_at, pieces_of, place_of, piece_of, offset_of}
use Rattle.vx_views.specs.Views.{view_of, view_value}
use Rattle.vx_views.specs.declared.view.TheConstants.{MAX_BUFFER_LEN}
use Rattle.vx_views.proofs.BuildRefusals.{piece_count, AreBuilt-fewest}
use Rattle.vx_views.proofs.CutOpen.{some_maximal}
use Rattle.vx_views.proofs.NoFaults.{not_negative_at}
use Rattle.vx_views.proofs.Places.{ReadsAs, view_of-reads}
use Rattle.vx_tree.specs.Tree.{Tree, view_array, Valid}
use Rattle.vx_tree.specs.Meaning.{is_valid_at, is_texts, row_at, rows, value_row}
use Rattle.vx_tree.specs.Formed.{WellFormed, ValidFits}
use Rattle.vx_tree.proofs.ViewArrays.{empty_is_zeroes}
use Rattle.vx_text.specs.Rebuffered.{joined_values, value_lens, bytes_at, row_values, row_lens, heap_of_rows, IsRebuffered, too_many_fault, moving_fault, rebuffer_fault, heap_fault}
use Rattle.vx_text.proofs.HeapCounts.{all_short}
use Rattle.vx_text.proofs.ItemArrays.{empty_view, sound_view}
use Rattle.vx_text.proofs.ItemHeaps.{lengths_back, number_at, part_at}

-- ---- one value more

pub len_pushed : {X : Type 0} (f : List X → ℕ) (lens more : List ℕ) (views : List (List X)) (row len : ℕ) → more ≡ lens ++ len ∷ [] → lens ≡ map f (take row views) → row < length views → len ≡ f (get_or views row []) → more ≡ map f (take (row + 1) views)
len_pushed f lens more views row len pushed before within is =
    pushed ∙ ap (λ ns. ns ++ len ∷ []) before ∙ ap (λ n. map f (take row views) ++ n ∷ []) is ∙ sym (map_more f views row [] within)

-- ---- faults

-- what is answered of moving values of these lengths
abbrev pub IsMoved : {A : Type 0} → ℕ → List ℕ → Result A VortexError → Type 0
IsMoved limit lens r = (pieces : ℕ) × (IsPieceCount limit lens pieces × Refuses r (moving_fault limit lens pieces))

abbrev pub IsAnswered : {A : Type 0} → ℕ → List ℕ → Result A VortexError → Type 0
IsAnswered limit lens r = (pieces : ℕ) × (IsPieceCount limit lens pieces × Refuses r (rebuffer_fault limit lens pieces))

pub moved-memory : {A : Type 0} {Q : VortexError → Type 0} (limit : ℕ) (lens : List ℕ) (r : Result A VortexError) → IsErrAnd r Q → ((e : VortexError) → Q e → e ≡ Memory) → IsMoved limit lens r
moved-memory limit lens (Ok x) h memory = absurd h
moved-memory limit lens (Err e) h memory = let p = piece_count limit lens in (p.0, (p.1, inl (memory e h)))

pub answered-memory : {A : Type 0} {Q : VortexError → Type 0} (limit : ℕ) (lens : List ℕ) (r : Result A VortexError) → IsErrAnd r Q → ((e : VortexError) → Q e → e ≡ Memory) → IsAnswered limit lens r
answered-memory limit lens (Ok x) h memory = absurd h
answered-memory limit lens (Err e) h memory = let p = piece_count limit lens in (p.0, (p.1, inl (memory e h)))

-- a value that is too long
pub moved-long : {A : Type 0} {Q : VortexError → Type 0} (limit : ℕ) (lens made : List ℕ) (r : Result A VortexError) → made ≡ lens → IsErrAnd r Q → ((e : VortexError) → Q e → Names (first_too_long limit (map pos made)) e) → IsMoved limit lens r
moved-long limit lens made (Ok x) same h names = absurd h
moved-long limit lens made (Err e) same h names =
    let p = piece_count limit lens in
    let named : Names (first_too_long limit (map pos lens)) e = subst (λ ns. Names (first_too_long limit (map pos ns)) e) same (names e h) in
    (p.0, (p.1, inr (or_else-first (first_too_long limit (map pos lens)) (too_many_fault lens p.0) (refusal_of e) named.1 named.0)))

-- values that are too many
pub moved-many : {A : Type 0} {Q : VortexError → Type 0} (limit : ℕ) (lens made : List ℕ) (r : Result A VortexError) → made ≡ lens → first_too_long limit (map pos made) ≡ None → IsErrAnd r Q
    → ((e : VortexError) → Q e → (pieces : ℕ) × (IsPieceCount limit made pieces × Names (too_many_fault made pieces) e)) → IsMoved limit lens r
moved-many limit lens made (Ok x) same none h names = absurd h
moved-many {A = A} limit lens made (Err e) same none h names =
    let found = names e h in
    subst (λ ns. IsMoved {A = A} limit ns (Err e)) same (found.0, (found.1.0, inr (or_else-second (first_too_long limit (map pos made)) (too_many_fault made found.0) (refusal_of e) none found.1.1.1)))

limit-none : (limit : ℕ) → limit ≤ MAX_BUFFER_LEN → limit_fault limit ≡ None
limit-none limit h = ap (λ b. if b then None else Some limit_too_large) (le-leb limit MAX_BUFFER_LEN h)

-- lengths of a heap without a fault
no_build_fault : (limit heap_len : ℕ) (lens : List ℕ) (pieces : ℕ) → limit ≤ MAX_BUFFER_LEN → sum lens ≡ heap_len → first_too_long limit (map pos lens) ≡ None → numbering_fault 0 pieces ≡ None
    → build_fault 0 limit heap_len (map pos lens) pieces ≡ None
no_build_fault limit heap_len lens pieces small exact fits numbered =
    let long : length (map pos lens) ≡ length lens = length-map lens pos in
    let natural : first_negative (map pos lens) ≡ None =
    first_fault-of_none (negative_at (map pos lens)) (length (map pos lens)) (λ k l. not_negative_at (map pos lens) k _ (number_at lens k (rw long at l))) in
    let same : sum_fault heap_len (map pos lens) ≡ None = ap (λ e. if e then None else Some lengths_not_exact) (eq-eqb (sum (lengths_of (map pos lens))) heap_len (ap sum (lengths_back lens) ∙ exact)) in
    or_else-second (limit_fault limit) _ None (limit-none limit small)
    (or_else-second (or_else (first_negative (map pos lens)) (or_else (sum_fault heap_len (map pos lens)) (first_too_long limit (map pos lens)))) (numbering_fault 0 pieces) None
    (or_else-second (first_negative (map pos lens)) _ None natural (or_else-second (sum_fault heap_len (map pos lens)) (first_too_long limit (map pos lens)) None same fits)) numbered)

-- what building views of values without a fault answers
pub moved-built : {A : Type 0} (limit heap_len : ℕ) (lens made : List ℕ) (r : Result A VortexError) → made ≡ lens → limit ≤ MAX_BUFFER_LEN → first_too_long limit (map pos lens) ≡ None → sum lens ≡ heap_len
    → (pieces : ℕ) × (IsPieceCount limit lens pieces × (too_many_fault lens pieces ≡ None))
    → (pieces : ℕ) × (IsPieceCount limit (lengths_of (map pos made)) pieces × Refuses r (build_fault 0 limit heap_len (map pos made) pieces)) → IsMoved limit lens r
moved-built limit heap_len lens made r same small fits exact counted refused =
    let built = subst (λ ns. (pieces : ℕ) × (IsPieceCount limit (lengths_of (map pos ns)) pieces × Refuses r (build_fault 0 limit heap_len (map pos ns) pieces))) same refused in
    let m = some_maximal limit lens (all_short limit lens fits) in
    let back : IsPieceCount limit lens built.0 = subst (λ ns. IsPieceCount limit ns built.0) (lengths_back lens) built.1.0 in
    let one : counted.0 ≡ built.0 = sym (counted.1.0 m.0 m.1) ∙ back m.0 m.1 in
    let few : too_many_fault lens built.0 ≡ None = subst (λ n. too_many_fault lens n ≡ None) one counted.1.1 in
    let numbered = (or_else-none (heap_fault (sum lens)) (numbering_fault 0 built.0) few).1 in
    let before : build_fault 0 limit heap_len (map pos lens) built.0 ≡ None = no_build_fault limit heap_len lens built.0 small exact fits numbered in
    let after : moving_fault limit lens built.0 ≡ None = or_else-second (first_too_long limit (map pos lens)) (too_many_fault lens built.0) None fits few in
    (built.0, (back, subst (λ fault. Refuses r fault) (before ∙ sym after) built.1.1))

pub answered-limit : (limit : ℕ) (lens : List ℕ) → MAX_BUFFER_LEN < limit → (pieces : ℕ) × (IsPieceCount limit lens pieces × IsMemoryOr (rebuffer_fault limit lens pieces) LimitTooLarge)
answered-limit limit lens over =
    let p = piece_count limit lens in
    let first : limit_fault limit ≡ Some limit_too_large = ap (λ b. if b then None else Some limit_too_large) (lt-leb limit MAX_BUFFER_LEN over) in
    (p.0, (p.1, inr (or_else-first (limit_fault limit) (moving_fault limit lens p.0) (Some limit_too_large) first refl)))

pub answered-moved : {A : Type 0} (limit : ℕ) (lens made : List ℕ) (r : Result A VortexError) → made ≡ lens → limit ≤ MAX_BUFFER_LEN → IsMoved limit made r → IsAnswered limit lens r
answered-moved {A = A} limit lens made r same small moved =
    let fault : moving_fault limit made moved.0 ≡ rebuffer_fault limit made moved.0 = sym (or_else-second (limit_fault limit) (moving_fault limit made moved.0) (moving_fault limit made moved.0) (limit-none limit small) refl) in
    subst (λ ns. IsAnswered {A = A} limit ns r) same (moved.0, (moved.1.0, subst (λ f. Refuses r f) fault moved.1.1))

-- the same of an error that is passed on
pub answered-passed : {A : Type 0} {Q : VortexError → Type 0} (limit : ℕ) (lens made : List ℕ) (r : Result A VortexError) (e : VortexError) → made ≡ lens → limit ≤ MAX_BUFFER_LEN → IsErrAnd r Q → ((y : VortexError) → Q y → y ≡ e)
    → (pieces : ℕ) × (IsPieceCount limit made pieces × IsMemoryOr (moving_fault limit made pieces) e) → IsAnswered limit lens r
answered-passed limit lens made (Ok x) e same small h is moved = absurd h
answered-passed {A = A} limit lens made (Err y) e same small h is moved =
    subst (λ z. IsAnswered {A = A} limit lens (Err z)) (sym (is y h)) (answered-moved {A = A} limit lens made (Err e) same small moved)

-- what holds anyway
pub anyway : {A E : Type 0} (P : Type 0) (r : Result A E) → P → IfOk r (λ _. P)
anyway P (Ok x) h = h
anyway P (Err e) h = tt

-- ---- the values of an array

zeroes_read : (bs : List (List ℕ)) → view_value bs (replicate 16 0) ≡ []
zeroes_read bs = ap (view_value bs) (sym empty_is_zeroes) ∙ (view_of-reads bs [] 0 0 (λ long. absurd (omega (arith, long)))).reads

pub bytes_are : (vs bs : List (List ℕ)) (k : Kind) (v : Valid) (i : ℕ) → WellFormed (view_array vs bs k v) → i < length vs → bytes_at (view_array vs bs k v) i ≡ view_value bs (slice_index_or vs i [])
bytes_are vs bs k v i formed l = elim (cases_Bool (is_valid_at v i)) [
  | inl valid ↦ ap (λ (b : Bool). if b then view_value bs (slice_index_or vs i []) else []) valid
  | inr none ↦ ap (λ (b : Bool). if b then view_value bs (slice_index_or vs i []) else []) none ∙ sym (ap (view_value bs) (formed.1.zeroes i l none) ∙ zeroes_read bs)
]

values_are : (vs bs : List (List ℕ)) (k : Kind) (v : Valid) → WellFormed (view_array vs bs k v) → row_values (view_array vs bs k v) ≡ map (view_value bs) vs
values_are vs bs k v formed =
    sym (fill_by_all (bytes_at (view_array vs bs k v)) (map (view_value bs) vs) (length vs) [] (length-map vs (view_value bs))
    (λ i l. get_or-map (view_value bs) vs i [] [] l ∙ sym (bytes_are vs bs k v i formed l)))

pub lens_are : (vs bs : List (List ℕ)) (k : Kind) (v : Valid) → WellFormed (view_array vs bs k v) → row_lens (view_array vs bs k v) ≡ map (λ view. length (view_value bs view)) vs
lens_are vs bs k v formed = ap (map (λ value. length value)) (values_are vs bs k v formed) ∙ map-map (λ (value : List ℕ). length value) (view_value bs) vs

heap_is : (vs bs : List (List ℕ)) (k : Kind) (v : Valid) → WellFormed (view_array vs bs k v) → heap_of_rows (view_array vs bs k v) ≡ flat_map (view_value bs) vs
heap_is vs bs k v formed = ap (flat_map (λ value. value)) (values_are vs bs k v formed) ∙ flat_map-map (λ (value : List ℕ). value) (view_value bs) vs

-- ---- the array that is made

abbrev pub HasMoved : ℕ → List (List ℕ) → List (List ℕ) → List (List ℕ) → List (List ℕ) → Type 0
HasMoved limit vs bs ws cs = AreBuilt 0 limit (joined_values bs vs) (value_lens bs vs) cs ws

abbrev pub HasRead : List (List ℕ) → List (List ℕ) → List (List ℕ) → List (List ℕ) → Type 0
HasRead vs bs ws cs = ReadBack 0 (value_at (joined_values bs vs) (value_lens bs vs)) cs ws

module _ (limit : ℕ) (vs bs ws cs : List (List ℕ)) (k : Kind) (v : Valid) (formed : WellFormed (view_array vs bs k v)) (built : HasMoved limit vs bs ws cs) (back : HasRead vs bs ws cs) where
  abbrev pub heap : List ℕ
  heap = flat_map (view_value bs) vs

  abbrev pub lens : List ℕ
  lens = map (λ view. length (view_value bs view)) vs

  abbrev pub old : Tree
  old = view_array vs bs k v

  one_each : length ws ≡ length vs
  one_each = built.one_each ∙ length-map vs (λ view. length (view_value bs view))

  value_is : (i : ℕ) → i < length vs → value_at heap lens i ≡ bytes_at old i
  value_is i l = part_at (view_value bs) vs i [] l ∙ sym (bytes_are vs bs k v i formed l)

  view_is : (i : ℕ) → i < length vs → slice_index_or ws i [] ≡ view_of (bytes_at old i) (piece_of built.ends (place_of lens i)) (offset_of built.ends (place_of lens i))
  view_is i l =
      built.each i (omega (arith, built.one_each, one_each))
      ∙ ap (λ value. view_of value (0 + piece_of built.ends (place_of lens i)) (offset_of built.ends (place_of lens i))) (value_is i l)
      ∙ ap (λ p. view_of (bytes_at old i) p (offset_of built.ends (place_of lens i))) (zero-add (piece_of built.ends (place_of lens i)))

  view_reads : (i : ℕ) → i < length vs → ReadsAs cs (slice_index_or ws i []) (bytes_at old i)
  view_reads i l =
      let here : i < length ws = omega (arith, one_each) in
      record { resolves = back.resolve [] i refl here; reads = back.read [] i refl here ∙ value_is i l }

  null_is : (i : ℕ) → i < length vs → is_valid_at v i ≡ false → slice_index_or ws i [] ≡ replicate 16 0
  null_is i l none =
      let empty : bytes_at old i ≡ [] = ap (λ (b : Bool). if b then view_value bs (slice_index_or vs i []) else []) none in
      view_is i l ∙ empty_view (bytes_at old i) _ _ empty

  pub moved_made : IsRebuffered limit (view_array vs bs k v) (view_array ws cs k v)
  moved_made = record {
    ends = built.ends;
    cut = subst (λ ns. IsMaximalCut limit ns built.ends) (sym (lens_are vs bs k v formed)) built.cut;
    numbered = omega (arith, built.numbered);
    pieces = built.pieces ∙ ap (λ h. pieces_of h 0 built.ends) (sym (heap_is vs bs k v formed));
    one_each = one_each;
    each = λ i l. view_is i l ∙ ap (λ ns. view_of (bytes_at old i) (piece_of built.ends (place_of ns i)) (offset_of built.ends (place_of ns i))) (sym (lens_are vs bs k v formed));
    zeroes = null_is;
    resolve = λ i l. (view_reads i l).resolves;
    read = λ i l. (view_reads i l).reads;
    tree = refl;
  }

  pub moved_formed : limit ≤ MAX_BUFFER_LEN → All (λ n. n ≤ limit) lens → WellFormed (view_array ws cs k v)
  moved_formed small short = (
    subst (ValidFits v) (sym one_each) formed.0,
    record {
      kind = formed.1.kind;
      sound = λ i l valid.
          let here : i < length vs = omega (arith, one_each) in
          let same : bytes_at old i ≡ view_value bs (slice_index_or vs i []) = bytes_are vs bs k v i formed here in
          let len : length (bytes_at old i) ≤ limit =
          subst (λ n. n ≤ limit) (get_or-map (λ view. length (view_value bs view)) vs i [] 0 here ∙ ap length (sym same)) (short i 0 (omega (arith, length-map vs (λ view. length (view_value bs view))))) in
          sound_view cs (is_texts k) (bytes_at old i) (slice_index_or ws i []) _ _ (view_is i here) (omega (arith, len, small)) (view_reads i here)
          (λ on. subst IsUtf8 (sym same) ((formed.1.sound i here valid).utf8 on));
      zeroes = λ i l none. null_is i (omega (arith, one_each)) none;
    },
  )

  row_kept : (i : ℕ) → i < length vs → row_at (view_array ws cs k v) i ≡ row_at (view_array vs bs k v) i
  row_kept i l = ap (λ value. if is_valid_at v i then value_row (is_texts k) value else null) ((view_reads i l).reads ∙ bytes_are vs bs k v i formed l)

  pub moved_rows : rows (view_array ws cs k v) ≡ rows (view_array vs bs k v)
  moved_rows =
      ap (λ n. map (row_at (view_array ws cs k v)) (range_with_len 0 n)) one_each
      ∙ map_range_same (row_at (view_array ws cs k v)) (row_at (view_array vs bs k v)) 0 0 (length vs) (λ i l. row_kept (0 + i) (omega arith))

  pub moved_fewest : (others : List ℕ) → IsCut limit (row_lens (view_array vs bs k v)) others → length cs ≤ length others
  moved_fewest others cut = AreBuilt-fewest 0 limit heap lens cs ws built others (subst (λ ns. IsCut limit ns others) (lens_are vs bs k v formed) cut)
