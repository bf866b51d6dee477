-- Columns, one beside another, and the records that they make.
use Rattle.std.proofs.Common.{ℕ, zero, suc, ◌+◌, ◌*◌, ◌<◌, ◌≤◌, ◌≡◌, ◌++◌, true, List, [], ◌∷◌, length, map, take, get_or, Option, Some, None, refl, sym, ◌∙◌, ap, subst, arith}
use denote.Param.Weighed.{most}
use Rattle.std.specs.List.{AllZip}
use Rattle.std.specs.Prelude.{slice_index, if◌then◌else◌}
use Rattle.std.proofs.lemmas.List.{length-map, take_more, take_all}
use Rattle.std.proofs.lemmas.List.Elements.{AllZip-push}
use Rattle.vx_base.specs.Refusals.{Refusal, overflow, or_else}
use Rattle.vx_base.specs.Kinds.{kind, kinds_from, records}
use Rattle.vx_base.specs.Rows.{null, record_of, Rows, rows_from, field}
use Rattle.vx_base.specs.declared.scalar_value.ScalarValue.{ScalarValue}
use Rattle.vx_base.specs.declared.scalar_value.ScalarValue.TheVariants as value
use Rattle.vx_base.specs.ValueRows.{row_under, fields_named, unnamed, option_row}
use Rattle.vx_base.specs.declared.dtypes.DType.{DType}
use Rattle.vx_base.specs.DTypes.{dtype_meaning}
use Rattle.vx_tree.specs.declared.array.ArrayRef.TheDeep.{size-ArrayRef}
use Rattle.vx_tree.specs.Tree.{Tree, Trees, no_trees, tree, structure, Valid, depth, trees_depth}
use Rattle.vx_tree.specs.Meaning.{tree_len, kind_of, kinds_of, row_at, fields_at, is_valid_at, nullable, trees_from}
use Rattle.vx_tree.specs.Shapes.{struct_shape}
use Rattle.vx_tree.specs.Formed.{AllLen, column_count}
use Rattle.vx_tree.specs.Fitting.{AllFormed, ColumnsFormed}
use Rattle.vx_tree.specs.Faults.{take_overflow, columns_overflow}
use Rattle.vx_tree.specs.Operations.{IsSlice, IsSelected, IsValidSelected, AreBelow, IsValidSlice}
use Rattle.vx_tree.specs.Plain.{ArePlain}
use Rattle.vx_tree.specs.DefaultRows.{AreDefaults}
use Rattle.vx_tree.specs.Columns.{AllReach, AllHave, AreAlike, AreRowsAt, AreSelected, AreSlices, AreFields}
use Rattle.vx_tree.proofs.Needs.{columns_need, records_need}

-- ---- one of the columns

-- it lies below the record
pub depth-at : (ts : List Tree) (i : ℕ) (d : Tree) → i < length ts → depth (get_or ts i d) + 1 ≤ trees_depth (trees_from ts)
depth-at [] i d l = absurd (omega arith)
depth-at (t ∷ ts) zero d l = omega arith
depth-at (t ∷ ts) (suc i) d l = omega (arith, depth-at ts i d (omega arith))

-- and so do all of them together, by the measure that a recursion over columns goes by
pub columns_below : (t : Tree) (ns : List (List ℕ)) (cs ts : List Tree) (v : Valid) (n : ℕ) → t ≡ structure ns (trees_from cs) v n → ts ≡ cs → most size-ArrayRef ts ≤ 4 * depth t
columns_below t ns cs ts v n e same = rw (e, same) (omega (arith, sizes cs))
  where
    sizes : (us : List Tree) → most size-ArrayRef us ≤ 4 * trees_depth (trees_from us)
    sizes [] = omega arith
    sizes (u ∷ us) = omega (arith, sizes us)

pub AllReach-at : (n : ℕ) (ts : List Tree) (i : ℕ) (d : Tree) → AllReach n (trees_from ts) → i < length ts → n ≤ tree_len (get_or ts i d)
AllReach-at n [] i d h l = absurd (omega arith)
AllReach-at n (t ∷ ts) zero d h l = h.0
AllReach-at n (t ∷ ts) (suc i) d h l = AllReach-at n ts i d h.1 (omega arith)

pub AllHave-at : (ps : List ℕ) (ts : List Tree) (i : ℕ) (d : Tree) → AllHave ps (trees_from ts) → i < length ts → AreBelow (tree_len (get_or ts i d)) ps
AllHave-at ps [] i d h l = absurd (omega arith)
AllHave-at ps (t ∷ ts) zero d h l = h.0
AllHave-at ps (t ∷ ts) (suc i) d h l = AllHave-at ps ts i d h.1 (omega arith)

or_none : (a b : Option Refusal) → or_else a b ≡ None → (a ≡ None) × (b ≡ None)
or_none None b h = (refl, h)
or_none (Some r) b h = cc

pub countable-at : (n : ℕ) (ts : List Tree) (i : ℕ) (d : Tree) → columns_overflow (trees_from ts) n ≡ None → i < length ts → take_overflow (get_or ts i d) n ≡ None
countable-at n [] i d h l = absurd (omega arith)
countable-at n (t ∷ ts) zero d h l = (or_none (take_overflow t n) (columns_overflow (trees_from ts) n) h).0
countable-at n (t ∷ ts) (suc i) d h l = countable-at n ts i d (or_none (take_overflow t n) (columns_overflow (trees_from ts) n) h).1 (omega arith)

-- ---- what the columns of a record have

pub AllReach-from_len : (n m : ℕ) (ts : Trees) → AllLen n ts → m ≤ n → AllReach m ts
AllReach-from_len n m no_trees h l = tt
AllReach-from_len n m (tree t ts) h l = (omega (arith, h.0), AllReach-from_len n m ts h.1 l)

pub AllReach-less : (n m : ℕ) (ts : Trees) → AllReach n ts → m ≤ n → AllReach m ts
AllReach-less n m no_trees h l = tt
AllReach-less n m (tree t ts) h l = (omega (arith, h.0), AllReach-less n m ts h.1 l)

pub AllHave-from_len : (n : ℕ) (ps : List ℕ) (ts : Trees) → AllLen n ts → AreBelow n ps → AllHave ps ts
AllHave-from_len n ps no_trees h w = tt
AllHave-from_len n ps (tree t ts) h w = (rw h.0 w, AllHave-from_len n ps ts h.1 w)

pub kinds_of-trees_from : (ts : List Tree) → kinds_of (trees_from ts) ≡ kinds_from (map kind_of ts)
kinds_of-trees_from [] = refl
kinds_of-trees_from (t ∷ ts) = ap (kind (kind_of t)) (kinds_of-trees_from ts)

pub column_count-trees_from : (ts : List Tree) → column_count (trees_from ts) ≡ length ts
column_count-trees_from [] = refl
column_count-trees_from (t ∷ ts) = omega (arith, column_count-trees_from ts)

-- the kinds that the data types of columns mean, and how many they are
pub kinds_of-columns : (ts : List Tree) (ds : List DType) → map dtype_meaning ds ≡ map kind_of ts → kinds_from (map dtype_meaning ds) ≡ kinds_of (trees_from ts)
kinds_of-columns ts ds e = ap kinds_from e ∙ sym (kinds_of-trees_from ts)

pub column_count-columns : (ts : List Tree) (ds : List DType) → map dtype_meaning ds ≡ map kind_of ts → column_count (trees_from ts) ≡ length ds
column_count-columns ts ds e = column_count-trees_from ts ∙ sym (length-map ts kind_of) ∙ ap length (sym e) ∙ length-map ds dtype_meaning

-- ---- column by column

-- n rows of the same kind
pub record IsAlike (t : Tree) (n : ℕ) (u : Tree) : Type 0 where
  pub len : tree_len u ≡ n
  pub kind : kind_of u ≡ kind_of t

-- n rows, of which row i is that at the position f i
pub record IsRowsAt (t : Tree) (f : ℕ → ℕ) (n : ℕ) (u : Tree) : Type 0 where
  pub len : tree_len u ≡ n
  pub kind : kind_of u ≡ kind_of t
  pub rows : (i : ℕ) → i < n → row_at u i ≡ row_at t (f i)

pub IsAlike-defaults : (t u : Tree) (n : ℕ) → AreDefaults (kind_of t) n u → IsAlike t n u
IsAlike-defaults t u n h = record { len = h.len; kind = h.kind }

-- one more column, made of the next one
pub AllZip-next : (R : Tree → Tree → Type 0) (ts us vs : List Tree) (i : ℕ) (t u : Tree) → AllZip R (take i ts) us → i < length ts → t ≡ get_or ts i t → R t u → vs ≡ us ++ u ∷ []
    → AllZip R (take (i + 1) ts) vs
AllZip-next R ts us vs i t u h l e here q = rw (q, take_more ts i t l, ← e) (AllZip-push R (take i ts) us t u h here)

-- all of them
pub AllZip-all : (R : Tree → Tree → Type 0) (ts us : List Tree) (i : ℕ) → AllZip R (take i ts) us → length ts ≤ i → AllZip R ts us
AllZip-all R ts us i h l = rw (take_all i ts l) at h

alike_each : (n : ℕ) (ts us : List Tree) → AllZip (λ t u. IsAlike t n u) ts us → AreAlike (trees_from ts) n (trees_from us)
alike_each n [] [] h = record { count = refl; kinds = refl; lens = tt }
alike_each n [] (u ∷ us) h = absurd h
alike_each n (t ∷ ts) [] h = absurd h
alike_each n (t ∷ ts) (u ∷ us) h =
    let rest = alike_each n ts us h.1 in
    record { count = ap (λ k. k + 1) rest.count; kinds = λ i. kind (h.0.kind i) (rest.kinds i); lens = (h.0.len, rest.lens) }

alike_of_rows : (f : ℕ → ℕ) (n : ℕ) (ts us : List Tree) → AllZip (λ t u. IsRowsAt t f n u) ts us → AllZip (λ t u. IsAlike t n u) ts us
alike_of_rows f n [] [] h = tt
alike_of_rows f n [] (u ∷ us) h = absurd h
alike_of_rows f n (t ∷ ts) [] h = absurd h
alike_of_rows f n (t ∷ ts) (u ∷ us) h = (record { len = h.0.len; kind = h.0.kind }, alike_of_rows f n ts us h.1)

fields_each : (f : ℕ → ℕ) (n : ℕ) (ts us : List Tree) → AllZip (λ t u. IsRowsAt t f n u) ts us → (names : List (List ℕ)) (i : ℕ) → i < n
    → fields_at (trees_from us) names i ≡ fields_at (trees_from ts) names (f i)
fields_each f n [] [] h names i l = refl
fields_each f n [] (u ∷ us) h names i l = absurd h
fields_each f n (t ∷ ts) [] h names i l = absurd h
fields_each f n (t ∷ ts) (u ∷ us) h [] i l = refl
fields_each f n (t ∷ ts) (u ∷ us) h (m ∷ names) i l = λ j. field m (h.0.rows i l j) (fields_each f n ts us h.1 names i l j)

pub AreAlike-from_each : (n : ℕ) (ts us : List Tree) (i : ℕ) → AllZip (λ t u. IsAlike t n u) (take i ts) us → length ts ≤ i → AreAlike (trees_from ts) n (trees_from us)
AreAlike-from_each n ts us i h l = alike_each n ts us (AllZip-all (λ t u. IsAlike t n u) ts us i h l)

pub AreRowsAt-from_each : (f : ℕ → ℕ) (n : ℕ) (ts us : List Tree) (i : ℕ) → AllZip (λ t u. IsRowsAt t f n u) (take i ts) us → length ts ≤ i
    → AreRowsAt (trees_from ts) f n (trees_from us)
AreRowsAt-from_each f n ts us i h l =
    let each = AllZip-all (λ t u. IsRowsAt t f n u) ts us i h l in
    record { alike = alike_each n ts us (alike_of_rows f n ts us each); rows = fields_each f n ts us each }

selected_plain : (ps : List ℕ) (ts us : List Tree) → AllZip (λ t u. IsSelected t ps u) ts us → ArePlain (trees_from ts) → ArePlain (trees_from us)
selected_plain ps [] [] h p = tt
selected_plain ps [] (u ∷ us) h p = absurd h
selected_plain ps (t ∷ ts) [] h p = absurd h
selected_plain ps (t ∷ ts) (u ∷ us) h p = (h.0.plain p.0, selected_plain ps ts us h.1 p.1)

selected_rows : (ps : List ℕ) (ts us : List Tree) → AllZip (λ t u. IsSelected t ps u) ts us → AllZip (λ t u. IsRowsAt t (slice_index ps) (length ps) u) ts us
selected_rows ps [] [] h = tt
selected_rows ps [] (u ∷ us) h = absurd h
selected_rows ps (t ∷ ts) [] h = absurd h
selected_rows ps (t ∷ ts) (u ∷ us) h = (record { len = h.0.len; kind = h.0.kind; rows = h.0.rows }, selected_rows ps ts us h.1)

pub AreSelected-from_each : (ps : List ℕ) (ts us : List Tree) (i : ℕ) → AllZip (λ t u. IsSelected t ps u) (take i ts) us → length ts ≤ i → AreSelected (trees_from ts) ps (trees_from us)
AreSelected-from_each ps ts us i h l =
    let each = AllZip-all (λ t u. IsSelected t ps u) ts us i h l in
    let rows = selected_rows ps ts us each in
    record {
      rows_at = record { alike = alike_each (length ps) ts us (alike_of_rows (slice_index ps) (length ps) ts us rows); rows = fields_each (slice_index ps) (length ps) ts us rows };
      plain = selected_plain ps ts us each;
      needs = columns_need (λ t u. IsSelected t ps u) (λ t u h. h.needs) ts us each;
    }

sliced_plain : (start n : ℕ) (ts us : List Tree) → AllZip (λ t u. IsSlice t start n u) ts us → ArePlain (trees_from ts) → ArePlain (trees_from us)
sliced_plain start n [] [] h p = tt
sliced_plain start n [] (u ∷ us) h p = absurd h
sliced_plain start n (t ∷ ts) [] h p = absurd h
sliced_plain start n (t ∷ ts) (u ∷ us) h p = (h.0.plain p.0, sliced_plain start n ts us h.1 p.1)

sliced_rows : (start n : ℕ) (ts us : List Tree) → AllZip (λ t u. IsSlice t start n u) ts us → AllZip (λ t u. IsRowsAt t (λ i. start + i) n u) ts us
sliced_rows start n [] [] h = tt
sliced_rows start n [] (u ∷ us) h = absurd h
sliced_rows start n (t ∷ ts) [] h = absurd h
sliced_rows start n (t ∷ ts) (u ∷ us) h = (record { len = h.0.len; kind = h.0.kind; rows = h.0.rows }, sliced_rows start n ts us h.1)

pub AreSlices-from_each : (start n : ℕ) (ts us : List Tree) (i : ℕ) → AllZip (λ t u. IsSlice t start n u) (take i ts) us → length ts ≤ i → AreSlices (trees_from ts) start n (trees_from us)
AreSlices-from_each start n ts us i h l =
    let each = AllZip-all (λ t u. IsSlice t start n u) ts us i h l in
    let rows = sliced_rows start n ts us each in
    record {
      rows_at = record { alike = alike_each n ts us (alike_of_rows (λ i. start + i) n ts us rows); rows = fields_each (λ i. start + i) n ts us rows };
      plain = sliced_plain start n ts us each;
      needs = columns_need (λ t u. IsSlice t start n u) (λ t u h. h.needs) ts us each;
    }

-- ---- what is known of columns, one after another

pub ColumnsFormed-next : (ts : List Tree) (i : ℕ) (t : Tree) → ColumnsFormed (trees_from (take i ts)) → i < length ts → t ≡ get_or ts i t → AllFormed t
    → ColumnsFormed (trees_from (take (i + 1) ts))
ColumnsFormed-next ts i t h l e here = rw (take_more ts i t l, ← e) (more (take i ts) t h here)
  where
    more : (us : List Tree) (u : Tree) → ColumnsFormed (trees_from us) → AllFormed u → ColumnsFormed (trees_from (us ++ u ∷ []))
    more [] u h here = (here, tt)
    more (w ∷ us) u h here = (h.0, more us u h.1 here)

pub ColumnsFormed-all : (ts : List Tree) (i : ℕ) → ColumnsFormed (trees_from (take i ts)) → length ts ≤ i → ColumnsFormed (trees_from ts)
ColumnsFormed-all ts i h l = rw (take_all i ts l) at h

pub countable-next : (n : ℕ) (ts : List Tree) (i : ℕ) (t : Tree) → columns_overflow (trees_from (take i ts)) n ≡ None → i < length ts → t ≡ get_or ts i t → take_overflow t n ≡ None
    → columns_overflow (trees_from (take (i + 1) ts)) n ≡ None
countable-next n ts i t h l e here = rw (take_more ts i t l, ← e) (more (take i ts) t h here)
  where
    more : (us : List Tree) (u : Tree) → columns_overflow (trees_from us) n ≡ None → take_overflow u n ≡ None → columns_overflow (trees_from (us ++ u ∷ [])) n ≡ None
    more [] u h here = rw here refl
    more (w ∷ us) u h here =
        let both = or_none (take_overflow w n) (columns_overflow (trees_from us) n) h in
        rw both.0 (more us u both.1 here)

-- the first column that has the fault
pub overflow-first : (n : ℕ) (ts : List Tree) (i : ℕ) (t : Tree) → columns_overflow (trees_from (take i ts)) n ≡ None → i < length ts → t ≡ get_or ts i t → take_overflow t n ≡ Some overflow
    → columns_overflow (trees_from ts) n ≡ Some overflow
overflow-first n [] i t h l e here = absurd (omega arith)
overflow-first n (u ∷ ts) zero t h l e here = rw (← e, here) refl
overflow-first n (u ∷ ts) (suc i) t h l e here =
    let both = or_none (take_overflow u n) (columns_overflow (trees_from (take i ts)) n) h in
    rw both.0 (overflow-first n ts i t both.1 (omega arith) e here)

-- ---- records

-- values of columns are the fields of the record
pub fields-named : (ns : List (List ℕ)) (ts : Trees) (i : ℕ) (vs : List (Option ScalarValue)) → length ns ≡ column_count ts → AreFields ts i vs
    → fields_named ns (kinds_of ts) (unnamed (rows_from (map option_row vs))) ≡ fields_at ts ns i
fields-named [] no_trees i [] e h = refl
fields-named (m ∷ ns) no_trees i [] e h = absurd (omega arith)
fields-named ns no_trees i (v ∷ vs) e h = absurd h
fields-named ns (tree t ts) i [] e h = absurd h
fields-named [] (tree t ts) i (v ∷ vs) e h = absurd (omega arith)
fields-named (m ∷ ns) (tree t ts) i (v ∷ vs) e h = λ j. field m (h.0 j) (fields-named ns ts i vs (omega arith) h.1 j)

-- and so the record that a valid row is
pub record_under : (t : Tree) (ns : List (List ℕ)) (ts : Trees) (v : Valid) (n i : ℕ) (vs : List (Option ScalarValue)) (rs : Rows) → t ≡ structure ns ts v n → is_valid_at v i ≡ true
    → length ns ≡ column_count ts → AreFields ts i vs → rs ≡ rows_from (map option_row vs) → row_under (kind_of t) (Some (value.Record rs)) ≡ row_at t i
record_under t ns ts v n i vs rs e valid named h same =
    let P : Tree → Type 0 = λ x. row_under (kind_of x) (Some (value.Record rs)) ≡ row_at x i in
    let Q : Rows → Type 0 = λ x. row_under (records ns (kinds_of ts) (nullable v)) (Some (value.Record x)) ≡ row_at (structure ns ts v n) i in
    let here = ap record_of (fields-named ns ts i vs named h) ∙ sym (ap (λ b. if b then record_of (fields_at ts ns i) else null) valid) in
    subst P (sym e) (subst Q (sym same) here)

pub AreFields-next : (ts : List Tree) (i k : ℕ) (t : Tree) (vs ws : List (Option ScalarValue)) (v : Option ScalarValue) → AreFields (trees_from (take k ts)) i vs → k < length ts → t ≡ get_or ts k t
    → row_under (kind_of t) v ≡ row_at t i → ws ≡ vs ++ v ∷ [] → AreFields (trees_from (take (k + 1) ts)) i ws
AreFields-next ts i k t vs ws v h l e here q = rw (q, take_more ts k t l, ← e) (more (take k ts) vs h)
  where
    more : (us : List Tree) (xs : List (Option ScalarValue)) → AreFields (trees_from us) i xs → AreFields (trees_from (us ++ t ∷ [])) i (xs ++ v ∷ [])
    more [] [] g = (here, tt)
    more [] (x ∷ xs) g = absurd g
    more (u ∷ us) [] g = absurd g
    more (u ∷ us) (x ∷ xs) g = (g.0, more us xs g.1)

pub AreFields-all : (ts : List Tree) (i k : ℕ) (vs : List (Option ScalarValue)) → AreFields (trees_from (take k ts)) i vs → length ts ≤ k → AreFields (trees_from ts) i vs
AreFields-all ts i k vs h l = rw (take_all k ts l) at h

pub record_row : (ns : List (List ℕ)) (ts us : Trees) (v w : Valid) (m n i k : ℕ) → is_valid_at w i ≡ is_valid_at v k → fields_at us ns i ≡ fields_at ts ns k
    → row_at (structure ns us w n) i ≡ row_at (structure ns ts v m) k
record_row ns ts us v w m n i k a b = rw (a, b) refl

pub struct_selected : (t u : Tree) (ns : List (List ℕ)) (ts us : Trees) (v w : Valid) (m : ℕ) (ps : List ℕ) → t ≡ structure ns ts v m → u ≡ structure ns us w (length ps)
    → AreSelected ts ps us → IsValidSelected v ps w → IsSelected t ps u
struct_selected t u ns ts us v w m ps a b h s =
    rw (a, b) (record {
      len = refl;
      kind = λ i. records ns (h.rows_at.alike.kinds i) (s.kind i);
      shape = ap struct_shape s.state;
      plain = λ p. (h.plain p.0, s.plain p.1);
      needs = records_need ns ts us v w m (length ps) h.needs;
      rows = λ i l. record_row ns ts us v w m (length ps) i (slice_index ps i) (s.bits i l) (h.rows_at.rows ns i l);
    })

pub struct_sliced : (t u : Tree) (ns : List (List ℕ)) (ts us : Trees) (v w : Valid) (m start n : ℕ) → t ≡ structure ns ts v m → u ≡ structure ns us w n
    → AreSlices ts start n us → IsValidSlice v start n w → IsSlice t start n u
struct_sliced t u ns ts us v w m start n a b h s =
    rw (a, b) (record {
      len = refl;
      kind = λ i. records ns (h.rows_at.alike.kinds i) (s.kind i);
      shape = ap struct_shape s.state;
      plain = λ p. (h.plain p.0, s.plain p.1);
      needs = records_need ns ts us v w m n h.needs;
      rows = λ i l. record_row ns ts us v w m n i (start + i) (s.bits i l) (h.rows_at.rows ns i l);
    })
