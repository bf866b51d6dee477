-- What a run writes, and why it is refused.
use Rattle.std.specs.Prelude.{◌≡◌, ◌<◌, ◌≤◌, ◌⊎◌, ℕ, List, length, map, take, Option, Some, None, Result, Ok, IsSomeAnd, slice_get, nat_lt, ◌==◌, if◌then◌else◌}
use Rattle.std.specs.List.{All, AllZip}
use Rattle.std.specs.Option.{option_map}
use Rattle.vx_base.specs.declared.errors.VortexError.{VortexError}
use Rattle.vx_base.specs.Kinds.{Kind}
use Rattle.vx_base.specs.Refusals.{error_number}
use Rattle.vx_tree.specs.Tree.{Tree}
use Rattle.vx_canonical.specs.Canonical.{IsCanonical, IsCanonicalWithin}
use Rattle.vx_tree.specs.CanonicalFaults.{canonical_fault}
use Rattle.vx_tree.specs.Faults.{position_fault}
use Rattle.vx_tree.specs.Fitting.{AllFormed}
use Rattle.vx_tree.specs.Meaning.{kind_of}
use Rattle.vx_tree.specs.Plain.{IsPlain}
use Rattle.vx_run.specs.Steps.{array_at}
use Rattle.vx_c.specs.declared.column_steps.ColumnStep.{ColumnStep}
use Rattle.vx_c.specs.declared.faults.NodeError.{NodeError}
use Rattle.vx_c.specs.declared.faults.NodeError.TheVariants.{TooManyNodes}
use Rattle.vx_c.specs.declared.faults.RunError.{RunError}
use Rattle.vx_c.specs.declared.faults.RunError.TheVariants as error
use Rattle.vx_c.specs.declared.faults.CodraskRunFault.{CodraskRunFault}
use Rattle.vx_c.specs.declared.reading.TheConstants.{MAX_NODES}
use Rattle.vx_c.specs.declared.running.TheConstants.{MAX_STEPS}
use Rattle.vx_c.specs.declared.steps.CodraskStep.{CodraskStep}
use Rattle.vx_c.specs.declared.table.CodraskNode.{CodraskNode}
use Rattle.vx_c.specs.declared.table.CodraskTable.{CodraskTable}
use Rattle.vx_c.specs.Tables.{NodeFault, too_many_nodes, too_many_steps, refused, column_of}
use Rattle.vx_c.specs.Answers.{IsFormFault, IsTableFault, error_place, node_error_number, node_error_place, fault_of}
use Rattle.vx_c.specs.ColumnSteps.{HasColumnRun, IsColumnStop}
use Rattle.vx_c.specs.Steps.{IsStepOf, step_form_fault}
use Rattle.vx_c.specs.TablesOf.{table_of}
use Rattle.vx_c.specs.Unflagged.{unflagged, least_count, node_count}
use Rattle.vx_c.specs.Written.{plainly}

-- ---- what is run

-- the column that a table is, or its first fault
abbrev pub column_in : CodraskTable → Result Tree (ℕ × NodeFault)
column_in table = column_of table.nodes.now

-- each table is a column
abbrev pub AreColumns : List CodraskTable → List Tree → Type 0
AreColumns tables columns = map column_in tables ≡ map Ok columns

-- the steps that C means, no more than a run may have
abbrev pub AreSteps : List CodraskStep → List ColumnStep → Type 0
AreSteps meant steps = (length meant ≤ MAX_STEPS) × AllZip IsStepOf meant steps

-- ---- what is written

-- an array in plain layout, it and each of its parts, at every depth: itself where it is plain already, and well formed
pub record IsMadePlain (t plain : Tree) : Type 0 where
  pub canonical : IsCanonical t plain
  pub within : IsCanonicalWithin t plain
  pub shared : IsPlain t → plain ≡ t
  pub formed : AllFormed plain

-- a table that was read is a column: this array, made plain, of no more nodes than a table may have, with no flag set
pub record IsReadBack (t : Tree) (read : Result Tree (ℕ × NodeFault)) : Type 0 where
  pub plain : Tree
  pub made : IsMadePlain t plain
  pub short : node_count plain ≤ MAX_NODES
  pub is : read ≡ Ok (unflagged plain)

-- an array needs more nodes than a table may have, whatever its rows are: each plain one of its kind does
abbrev pub kind_fault : Kind → Option NodeFault
kind_fault k = if nat_lt MAX_NODES (least_count k) then Some too_many_nodes else None

-- a fault, else a second one
abbrev pub or_fault : Option NodeFault → Option NodeFault → Option NodeFault
or_fault None second = second
or_fault (Some first) second = Some first

-- no array stands at a position, or those of its kind need too many nodes, or it cannot be made plain
abbrev pub result_fault : List Tree → ℕ → Option NodeFault
result_fault results w =
    let array = array_at results w in
    or_fault (option_map refused (position_fault (length results) w))
    (or_fault (kind_fault (kind_of array)) (option_map refused (canonical_fault array)))

-- the array at a position has no fault, and the table is read back as it
abbrev pub IsMadeOf : List Tree → ℕ → Result Tree (ℕ × NodeFault) → Type 0
IsMadeOf results w read = (result_fault results w ≡ None) × IsReadBack (array_at results w) read

-- the tables are columns, the steps are run on them, and each table that is written, read again, is the array that is asked
-- for, made plain, with no flag set. All arrays are well formed at every depth, the columns in front
pub record IsMade (tables : List CodraskTable) (steps : List CodraskStep) (wanted : List ℕ) (made : List CodraskTable) : Type 0 where
  pub columns : List Tree
  pub are : AreColumns tables columns
  pub taken : List ColumnStep
  pub meant : AreSteps steps taken
  pub results : List Tree
  pub ran : HasColumnRun taken columns results
  pub formed : All AllFormed results
  pub written : AllZip (IsMadeOf results) wanted (map column_in made)

-- nodes at no place are the table of the column that they are
abbrev pub AreExact : List CodraskNode → Type 0
AreExact nodes = (t : Tree) → column_of nodes ≡ Ok t → nodes ≡ table_of t

-- a table has the bytes of the table of its column, and no others: whatever column it is, its nodes are that table, wherever their
-- blocks lie
abbrev pub IsExactTable : CodraskTable → Type 0
IsExactTable table = (t : Tree) → column_in table ≡ Ok t → map plainly table.nodes.now ≡ table_of t

-- ---- why a run is refused

-- the tables up to one are columns, and that one has a fault at a node
abbrev pub IsNoColumn : List CodraskTable → ℕ → ℕ × NodeError → Type 0
IsNoColumn tables i fault =
    ((columns : List Tree) × AreColumns (take i tables) columns)
    × IsSomeAnd (slice_get tables i) (λ table. IsTableFault fault (column_in table))

-- there are too many steps; or there are not, those up to one are meant, and that one has a fault
abbrev pub IsNoStep : List CodraskStep → ℕ → NodeError → Type 0
IsNoStep steps i e =
    ((MAX_STEPS < length steps) × (i ≡ MAX_STEPS) × (fault_of e ≡ Some too_many_steps))
    ⊎ ((length steps ≤ MAX_STEPS) × ((taken : List ColumnStep) × AllZip IsStepOf (take i steps) taken)
    × IsSomeAnd (slice_get steps i) (λ c. IsFormFault e (step_form_fault c)))

-- the columns and the steps, which stop at one; all arrays before it are well formed at every depth
pub record IsStopped (tables : List CodraskTable) (steps : List CodraskStep) (i : ℕ) (e : VortexError) : Type 0 where
  pub columns : List Tree
  pub are : AreColumns tables columns
  pub taken : List ColumnStep
  pub meant : AreSteps steps taken
  pub results : List Tree
  pub ran : HasColumnRun (take i taken) columns results
  pub formed : All AllFormed results
  pub stops : IsColumnStop taken i results e

-- an array, made plain, has more nodes than a table may have
abbrev pub IsTooLong : Tree → Type 0
IsTooLong t = (plain : Tree) × IsMadePlain t plain × (MAX_NODES < node_count plain)

-- the array at a position has a fault, or it has none, and its table has too many nodes
abbrev pub IsNoTable : List Tree → ℕ → NodeError → Type 0
IsNoTable results w e =
    IsFormFault e (result_fault results w)
    ⊎ ((e ≡ TooManyNodes) × (result_fault results w ≡ None) × IsTooLong (array_at results w))

-- the arrays that are asked for, up to one, are read back from their tables, and that one is refused
abbrev pub IsNoResult : List Tree → List ℕ → ℕ → NodeError → Type 0
IsNoResult results wanted i e =
    ((read : List (Result Tree (ℕ × NodeFault))) × AllZip (IsMadeOf results) (take i wanted) read)
    × IsSomeAnd (slice_get wanted i) (λ w. IsNoTable results w e)

-- the run is done, with arrays that are well formed at every depth, and one that is asked for is refused
pub record IsNotMade (tables : List CodraskTable) (steps : List CodraskStep) (wanted : List ℕ) (i : ℕ) (e : NodeError) : Type 0 where
  pub columns : List Tree
  pub are : AreColumns tables columns
  pub taken : List ColumnStep
  pub meant : AreSteps steps taken
  pub results : List Tree
  pub ran : HasColumnRun taken columns results
  pub formed : All AllFormed results
  pub refused : IsNoResult results wanted i e

-- why a run is refused
abbrev pub IsRunError : List CodraskTable → List CodraskStep → List ℕ → RunError → Type 0
IsRunError tables steps wanted error.Memory = Unit {0}
IsRunError tables steps wanted (error.Table i node e) = IsNoColumn tables i (node, e)
IsRunError tables steps wanted (error.Form i e) = ((columns : List Tree) × AreColumns tables columns) × IsNoStep steps i e
IsRunError tables steps wanted (error.Step i e) = IsStopped tables steps i e
IsRunError tables steps wanted (error.Result i e) = IsNotMade tables steps wanted i e

-- the same of each part of a run by itself
abbrev pub AreColumnsOr : List CodraskTable → RunError → Type 0
AreColumnsOr tables (error.Table i node e) = IsNoColumn tables i (node, e)
AreColumnsOr tables e = e ≡ error.Memory

abbrev pub AreStepsOr : List CodraskStep → RunError → Type 0
AreStepsOr steps (error.Form i e) = IsNoStep steps i e
AreStepsOr steps e = e ≡ error.Memory

abbrev pub IsRanOr : List ColumnStep → List Tree → RunError → Type 0
IsRanOr steps columns (error.Step i e) =
    (results : List Tree) × HasColumnRun (take i steps) columns results × All AllFormed results × IsColumnStop steps i results e
IsRanOr steps columns e = e ≡ error.Memory

abbrev pub AreTablesOr : List Tree → List ℕ → RunError → Type 0
AreTablesOr results wanted (error.Result i e) = IsNoResult results wanted i e
AreTablesOr results wanted e = e ≡ error.Memory

-- ---- what C is told

-- that there is no fault, and that memory was refused
abbrev pub no_run_fault : CodraskRunFault
no_run_fault = record { number = 0; part = 0; which = 0; node = 0; place = 0 }

abbrev pub run_want_of_memory : CodraskRunFault
run_want_of_memory = record { number = 1; part = 0; which = 0; node = 0; place = 0 }

-- an error: its number, its part of the run and its place there
abbrev pub run_fault_at : RunError → CodraskRunFault
run_fault_at error.Memory = run_want_of_memory
run_fault_at (error.Table i node e) = record { number = node_error_number e; part = 1; which = i; node = node; place = node_error_place e }
run_fault_at (error.Form i e) = record { number = node_error_number e; part = 2; which = i; node = 0; place = node_error_place e }
run_fault_at (error.Step i e) = record { number = error_number e; part = 2; which = i; node = 0; place = error_place e }
run_fault_at (error.Result i e) = record { number = node_error_number e; part = 3; which = i; node = 0; place = node_error_place e }

-- where memory was refused, that alone
abbrev pub run_as_told : CodraskRunFault → CodraskRunFault
run_as_told fault = if fault.number == 1 then run_want_of_memory else fault

abbrev pub told_of_run : RunError → CodraskRunFault
told_of_run e = run_as_told (run_fault_at e)

-- C is told of an error that stands
abbrev pub IsToldOf : List CodraskTable → List CodraskStep → List ℕ → CodraskRunFault → Type 0
IsToldOf tables steps wanted fault = (e : RunError) × IsRunError tables steps wanted e × (fault ≡ told_of_run e)
