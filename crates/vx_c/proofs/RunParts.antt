-- A run: what is read one after another, what is written of it, and why it is refused.
use Rattle.std.proofs.Common.{◌≡◌, ◌+◌, ◌≤◌, ◌<◌, ℕ, zero, suc, List, [], ◌∷◌, ◌++◌, length, map, take, get_or, refl, sym, ◌∙◌, ap, subst, inl, inr, arith, rules, Bor}
use Rattle.std.specs.Prelude.{Option, Some, None, Result, Ok, slice_get, IsSomeAnd}
use Rattle.std.specs.List.{All, AllZip}
use Rattle.std.specs.Option.{option_map}
use Rattle.std.specs.Slice.{IsItemAt}
use Rattle.std.proofs.lemmas.List.{map-append, length-map, take_more}
use Rattle.std.proofs.lemmas.Option.{slice_get-get_or, slice_get_within, get_or_from_slice_get}
use Rattle.vx_base.specs.declared.errors.VortexError.{VortexError}
use Rattle.vx_base.specs.declared.errors.VortexError.TheVariants.{Memory, OutOfBounds}
use Rattle.vx_base.specs.Refusals.{out_of_bounds, IsMemoryOr}
use Rattle.vx_tree.specs.Tree.{Tree, bools, non_nullable}
use Rattle.vx_canonical.specs.Canonical.{IsCanonical, IsCanonicalWithin}
use Rattle.vx_tree.specs.CanonicalFaults.{canonical_fault}
use Rattle.vx_tree.specs.Faults.{position_fault}
use Rattle.vx_tree.specs.Fitting.{AllFormed}
use Rattle.vx_tree.specs.Meaning.{kind_of}
use Rattle.vx_tree.specs.Plain.{IsPlain}
use Rattle.vx_run.specs.Steps.{array_at}
use Rattle.vx_c.specs.declared.column_steps.ColumnStep.{ColumnStep}
use Rattle.vx_c.specs.declared.faults.NodeError.{NodeError}
use Rattle.vx_c.specs.declared.faults.NodeError.TheVariants.{TooManyNodes, TooManySteps, Refused}
use Rattle.vx_c.specs.declared.faults.RunError.{RunError}
use Rattle.vx_c.specs.declared.faults.RunError.TheVariants as error
use Rattle.vx_c.specs.declared.reading.TheConstants.{MAX_NODES}
use Rattle.vx_c.specs.declared.running.TheConstants.{MAX_STEPS}
use Rattle.vx_c.specs.declared.steps.CodraskStep.{CodraskStep}
use Rattle.vx_c.specs.declared.table.CodraskTable.{CodraskTable}
use Rattle.vx_c.specs.declared.written.WrittenNode.{WrittenNode}
use Rattle.vx_c.specs.declared.written.WrittenTable.{WrittenTable}
use Rattle.vx_c.specs.Tables.{NodeFault, refused, too_many_nodes, column_of}
use Rattle.vx_c.specs.Answers.{IsFormFault, IsTableFault}
use Rattle.vx_c.specs.ColumnSteps.{HasColumnRun}
use Rattle.vx_c.specs.Steps.{IsStepOf, step_form_fault}
use Rattle.vx_c.specs.Unflagged.{unflagged, least_count, node_count}
use Rattle.vx_c.specs.Written.{IsWritten, plainly, node_of}
use Rattle.vx_c.specs.Runs.{column_in, AreColumns, AreSteps, IsMadeOf, IsMadePlain, IsMade, IsNoTable, kind_fault, or_fault, result_fault, IsRunError, IsToldOf}
use Rattle.vx_c.specs.Runs.{AreColumnsOr, AreStepsOr, IsRanOr, AreTablesOr, told_of_run}
use Rattle.vx_c.specs.declared.faults.CodraskRunFault.{CodraskRunFault}
use Rattle.vx_c.proofs.Unflagged.{kept_count}
use Rattle.vx_c.proofs.Meant.{form_refused}
use Rattle.vx_c.proofs.SameNodes.{lent_columns}
use Rattle.vx_c.proofs.WrittenTables.{tables-column}

zipped_more : {A B : Type 0} (R : A → B → Type 0) (xs : List A) (ys : List B) (x : A) (y : B) → AllZip R xs ys → R x y → AllZip R (xs ++ x ∷ []) (ys ++ y ∷ [])
zipped_more R [] [] x y h r = (r, tt)
zipped_more R [] (b ∷ ys) x y h r = absurd h
zipped_more R (a ∷ xs) [] x y h r = absurd h
zipped_more R (a ∷ xs) (b ∷ ys) x y h r = (h.0, zipped_more R xs ys x y h.1 r)

-- what holds of the first ones holds of one more
taken_more : {A B : Type 0} (R : A → B → Type 0) (xs : List A) (i : ℕ) (other : A) (ys made : List B) (y : B) → i < length xs → AllZip R (take i xs) ys
    → R (get_or xs i other) y → made ≡ ys ++ y ∷ [] → AllZip R (take (i + 1) xs) made
taken_more R xs i other ys made y inside before here pushed =
    subst (AllZip R (take (i + 1) xs)) (sym pushed)
    (subst (λ zs. AllZip R zs (ys ++ y ∷ [])) (sym (take_more xs i other inside)) (zipped_more R (take i xs) ys (get_or xs i other) y before here))

-- what holds of the item that stands at a place
there : {A : Type 0} (P : A → Type 0) (xs : List A) (i : ℕ) (other : A) → i < length xs → P (get_or xs i other) → IsSomeAnd (slice_get xs i) P
there P xs i other inside here = subst (λ o. IsSomeAnd o P) (sym (slice_get-get_or xs i other inside)) here

-- ---- columns

pub columns_read : (tables : List CodraskTable) (i : ℕ) (other : CodraskTable) (columns made : List Tree) (t : Tree) → i < length tables
    → AreColumns (take i tables) columns → column_in (get_or tables i other) ≡ Ok t → made ≡ columns ++ t ∷ [] → AreColumns (take (i + 1) tables) made
columns_read tables i other columns made t inside before here pushed =
    ap (map column_in) (take_more tables i other inside) ∙ map-append column_in (take i tables) (get_or tables i other ∷ [])
    ∙ (λ j. before j ++ here j ∷ []) ∙ sym (map-append Ok columns (t ∷ [])) ∙ ap (map Ok) (sym pushed)

pub no_column : (tables : List CodraskTable) (i : ℕ) (other : CodraskTable) (columns : List Tree) (node : ℕ) (e : NodeError) → i < length tables
    → AreColumns (take i tables) columns → IsTableFault (node, e) (column_in (get_or tables i other)) → AreColumnsOr tables (error.Table i node e)
no_column tables i other columns node e inside before fault =
    ((columns, before), there (λ table. IsTableFault (node, e) (column_in table)) tables i other inside fault)

-- ---- steps

pub steps_read : (steps : List CodraskStep) (i : ℕ) (other : CodraskStep) (read made : List ColumnStep) (s : ColumnStep) → i < length steps
    → AllZip IsStepOf (take i steps) read → IsStepOf (get_or steps i other) s → made ≡ read ++ s ∷ [] → AllZip IsStepOf (take (i + 1) steps) made
steps_read steps i other read made s inside before here pushed = taken_more IsStepOf steps i other read made s inside before here pushed

pub no_step : (steps : List CodraskStep) (i : ℕ) (other : CodraskStep) (read : List ColumnStep) (e : NodeError) → i < length steps → length steps ≤ MAX_STEPS
    → AllZip IsStepOf (take i steps) read → IsFormFault e (step_form_fault (get_or steps i other)) → AreStepsOr steps (error.Form i e)
no_step steps i other read e inside few before fault =
    inr (few, (read, before), there (λ c. IsFormFault e (step_form_fault c)) steps i other inside fault)

pub many_steps : (steps : List CodraskStep) → MAX_STEPS < length steps → AreStepsOr steps (error.Form MAX_STEPS TooManySteps)
many_steps steps many = inl (many, refl, refl)

-- ---- tables

pub tables_read : (results : List Tree) (wanted : List ℕ) (i other : ℕ) (tables made : List WrittenTable) (t : WrittenTable) → i < length wanted
    → AllZip (IsMadeOf results) (take i wanted) (map (λ (w : WrittenTable). column_of (map node_of w.nodes.items)) tables)
    → IsMadeOf results (get_or wanted i other) (column_of (map node_of t.nodes.items)) → made ≡ tables ++ t ∷ []
    → AllZip (IsMadeOf results) (take (i + 1) wanted) (map (λ (w : WrittenTable). column_of (map node_of w.nodes.items)) made)
tables_read results wanted i other tables made t inside before here pushed =
    let read : WrittenTable → Result Tree (ℕ × NodeFault) = λ w. column_of (map node_of w.nodes.items) in
    taken_more (IsMadeOf results) wanted i other (map read tables) (map read made) (read t) inside before here
    (ap (map read) pushed ∙ map-append read tables (t ∷ []))

pub no_table : (results : List Tree) (wanted : List ℕ) (i other : ℕ) (tables : List WrittenTable) (e : NodeError) → i < length wanted
    → AllZip (IsMadeOf results) (take i wanted) (map (λ (w : WrittenTable). column_of (map node_of w.nodes.items)) tables)
    → IsNoTable results (get_or wanted i other) e → AreTablesOr results wanted (error.Result i e)
no_table results wanted i other tables e inside before fault =
    ((map (λ (w : WrittenTable). column_of (map node_of w.nodes.items)) tables, before), there (λ w. IsNoTable results w e) wanted i other inside fault)

-- what `get` lends stands there
pub lent_there : (results : List Tree) (w : ℕ) (lent : Option (Bor Tree)) (a : Bor Tree) → IsItemAt results w lent → lent ≡ Some a → slice_get results w ≡ Some a.now
lent_there results w lent a item is =
    let here : IsItemAt results w (Some a) = subst (IsItemAt results w) is item in
    slice_get-get_or results w a.now here.3.0 ∙ ap Some (sym here.1)

array_there : (results : List Tree) (w : ℕ) (a : Tree) → slice_get results w ≡ Some a → array_at results w ≡ a
array_there results w a is = get_or_from_slice_get results w a (bools 0 [] non_nullable) is

-- why an array that stands there has no table
abbrev array_fault : Tree → Option NodeFault
array_fault a = or_fault (kind_fault (kind_of a)) (option_map refused (canonical_fault a))

pub no_array : (results : List Tree) (w len : ℕ) → slice_get results w ≡ None → IsNoTable results w (Refused (OutOfBounds w len))
no_array results w len none = inl (inr (ap (λ o. or_fault (option_map refused o) (array_fault (array_at results w))) past))
  where
    outside : (xs : List Tree) (i : ℕ) → slice_get xs i ≡ None → length xs ≤ i
    outside [] i is = omega arith
    outside (x ∷ xs) zero is = absurd (cc)
    outside (x ∷ xs) (suc i) is = omega (arith, outside xs i is)

    past : position_fault (length results) w ≡ Some (out_of_bounds w)
    past = let long = outside results w none in search (rules, arith, long)

-- the fault of an array that stands there is its own
fault_there : (results : List Tree) (w : ℕ) (a : Tree) → slice_get results w ≡ Some a → result_fault results w ≡ array_fault a
fault_there results w a is =
    ap (λ o. or_fault (option_map refused o) (array_fault (array_at results w))) stands ∙ ap array_fault (array_there results w a is)
  where
    inside : w < length results
    inside = slice_get_within results w a is

    stands : position_fault (length results) w ≡ None
    stands = search (rules, arith, inside)

-- where its kind needs no more nodes than a table may have, it is that of making it plain
few_nodes : (a : Tree) → least_count (kind_of a) ≤ MAX_NODES → array_fault a ≡ option_map refused (canonical_fault a)
few_nodes a few = ap (λ o. or_fault o (option_map refused (canonical_fault a))) none
  where
    none : kind_fault (kind_of a) ≡ None
    none = search (rules, arith, few)

pub many_nodes : (results : List Tree) (w : ℕ) (a : Tree) → slice_get results w ≡ Some a → MAX_NODES < least_count (kind_of a)
    → IsNoTable results w TooManyNodes
many_nodes results w a is many =
    inl (inr (fault_there results w a is ∙ ap (λ o. or_fault o (option_map refused (canonical_fault a))) fault))
  where
    fault : kind_fault (kind_of a) ≡ Some too_many_nodes
    fault = search (rules, arith, many)

pub not_plain : (results : List Tree) (w : ℕ) (a : Tree) (v : VortexError) → slice_get results w ≡ Some a → least_count (kind_of a) ≤ MAX_NODES
    → IsMemoryOr (canonical_fault a) v → IsNoTable results w (Refused v)
not_plain results w a v is few fault =
    inl (subst (IsFormFault (Refused v)) (sym (fault_there results w a is ∙ few_nodes a few)) (form_refused (canonical_fault a) v fault))

pub no_memory : (results : List Tree) (w : ℕ) → IsNoTable results w (Refused Memory)
no_memory results w = inl (inl refl)

-- the nodes that were written where there were none
pub written_alone : (c : Tree) (nodes : List WrittenNode) → IsWritten [] (unflagged c ∷ []) nodes → length nodes ≡ node_count c
written_alone c nodes written = let same = ap length written.put in omega (arith, same, written.len, kept_count c)

-- there is no fault
faultless : (results : List Tree) (w : ℕ) (a : Tree) → slice_get results w ≡ Some a → least_count (kind_of a) ≤ MAX_NODES → canonical_fault a ≡ None
    → result_fault results w ≡ None
faultless results w a is few none = fault_there results w a is ∙ few_nodes a few ∙ ap (option_map refused) none

pub made_plain : (a c : Tree) → IsCanonical a c → IsCanonicalWithin a c → (IsPlain a → c ≡ a) → AllFormed c → IsMadePlain a c
made_plain a c canonical within shared formed = record { canonical = canonical; within = within; shared = shared; formed = formed }

pub too_long : (results : List Tree) (w : ℕ) (a c : Tree) → slice_get results w ≡ Some a → least_count (kind_of a) ≤ MAX_NODES
    → canonical_fault a ≡ None → IsMadePlain a c → MAX_NODES < node_count c → IsNoTable results w TooManyNodes
too_long results w a c is few none made long =
    inr (refl, faultless results w a is few none, (c, subst (λ x. IsMadePlain x c) (sym (array_there results w a is)) made, long))

pub table_made : (results : List Tree) (w : ℕ) (a c : Tree) (nodes made : List WrittenNode) → slice_get results w ≡ Some a
    → least_count (kind_of a) ≤ MAX_NODES → canonical_fault a ≡ None → IsMadePlain a c
    → IsWritten [] (unflagged c ∷ []) nodes → node_count c ≤ MAX_NODES → made ≡ nodes → IsMadeOf results w (column_of (map node_of made))
table_made results w a c nodes made is few none plain written short kept =
    let counted : length (map node_of written.more) ≤ MAX_NODES =
    omega (arith, length-map written.more node_of, ap length written.put, written_alone c nodes written, short) in
    let read : column_of (map node_of made) ≡ Ok (unflagged c) =
    ap (λ ws. column_of (map node_of ws)) (kept ∙ written.put) ∙ tables-column (map node_of written.more) (unflagged c) written.tables counted in
    let of : IsMadePlain (array_at results w) c = subst (λ x. IsMadePlain x c) (sym (array_there results w a is)) plain in
    (faultless results w a is few none, record { plain = c; made = of; short = short; is = read })

-- ---- the whole run

pub columns_error : (tables : List CodraskTable) (steps : List CodraskStep) (wanted : List ℕ) (e : RunError) → AreColumnsOr tables e → IsRunError tables steps wanted e
columns_error tables steps wanted error.Memory is = tt
columns_error tables steps wanted (error.Table i node e) is = is
columns_error tables steps wanted (error.Form i e) is = absurd (cc)
columns_error tables steps wanted (error.Step i e) is = absurd (cc)
columns_error tables steps wanted (error.Result i e) is = absurd (cc)

pub steps_error : (tables : List CodraskTable) (steps : List CodraskStep) (wanted : List ℕ) (columns : List Tree) (e : RunError) → AreColumns tables columns
    → AreStepsOr steps e → IsRunError tables steps wanted e
steps_error tables steps wanted columns error.Memory are is = tt
steps_error tables steps wanted columns (error.Table i node e) are is = absurd (cc)
steps_error tables steps wanted columns (error.Form i e) are is = ((columns, are), is)
steps_error tables steps wanted columns (error.Step i e) are is = absurd (cc)
steps_error tables steps wanted columns (error.Result i e) are is = absurd (cc)

pub run_error : (tables : List CodraskTable) (steps : List CodraskStep) (wanted : List ℕ) (columns : List Tree) (taken : List ColumnStep) (e : RunError)
    → AreColumns tables columns → AreSteps steps taken → IsRanOr taken columns e → IsRunError tables steps wanted e
run_error tables steps wanted columns taken error.Memory are meant is = tt
run_error tables steps wanted columns taken (error.Table i node e) are meant is = absurd (cc)
run_error tables steps wanted columns taken (error.Form i e) are meant is = absurd (cc)
run_error tables steps wanted columns taken (error.Step i e) are meant is =
    record { columns = columns; are = are; taken = taken; meant = meant; results = is.0; ran = is.1; formed = is.2; stops = is.3 }
run_error tables steps wanted columns taken (error.Result i e) are meant is = absurd (cc)

pub result_error : (tables : List CodraskTable) (steps : List CodraskStep) (wanted : List ℕ) (columns results : List Tree) (taken : List ColumnStep) (e : RunError)
    → AreColumns tables columns → AreSteps steps taken → HasColumnRun taken columns results → All AllFormed results → AreTablesOr results wanted e
    → IsRunError tables steps wanted e
result_error tables steps wanted columns results taken error.Memory are meant ran formed is = tt
result_error tables steps wanted columns results taken (error.Table i node e) are meant ran formed is = absurd (cc)
result_error tables steps wanted columns results taken (error.Form i e) are meant ran formed is = absurd (cc)
result_error tables steps wanted columns results taken (error.Step i e) are meant ran formed is = absurd (cc)
result_error tables steps wanted columns results taken (error.Result i e) are meant ran formed is =
    record { columns = columns; are = are; taken = taken; meant = meant; results = results; ran = ran; formed = formed; refused = is }

pub run_made : (tables : List CodraskTable) (steps : List CodraskStep) (wanted : List ℕ) (columns results : List Tree) (taken : List ColumnStep)
    (written : List WrittenTable) (made : List CodraskTable) → AreColumns tables columns → AreSteps steps taken → HasColumnRun taken columns results
    → All AllFormed results
    → AllZip (IsMadeOf results) wanted (map (λ (w : WrittenTable). column_of (map node_of w.nodes.items)) written)
    → map (λ (t : CodraskTable). map plainly t.nodes.now) made ≡ map (λ (w : WrittenTable). map node_of w.nodes.items) written
    → IsMade tables steps wanted made
run_made tables steps wanted columns results taken written made are meant ran formed read lent =
    record { columns = columns; are = are; taken = taken; meant = meant; results = results; ran = ran; formed = formed; written = subst (AllZip (IsMadeOf results) wanted) (sym (lent_columns made written lent)) read }

pub told_run : (tables : List CodraskTable) (steps : List CodraskStep) (wanted : List ℕ) (e : RunError) (fault : CodraskRunFault)
    → IsRunError tables steps wanted e → fault ≡ told_of_run e → IsToldOf tables steps wanted fault
told_run tables steps wanted e fault is told = (e, is, told)

pub ruleset step_parts = (steps_read, no_step, many_steps)

pub ruleset table_parts = (no_array, many_nodes, not_plain, no_memory, made_plain, too_long, table_made)

pub ruleset run_parts = (columns_error, steps_error, run_error, result_error, run_made)
