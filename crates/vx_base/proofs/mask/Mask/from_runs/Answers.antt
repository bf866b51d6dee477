use Rattle.std.proofs.Common.{◌≡◌, ◌≤◌, ℕ, List, Bool, true, false, length, replicate, count_by, sym, ap, ◌∙◌, arith}
use Rattle.std.specs.List.{flat_map}
use Rattle.std.proofs.lemmas.List.Sums.{count_by-le-length}
use Rattle.vx_base.specs.Selections.{run_positions}
use Rattle.vx_base.specs.Trues.{trues}
use Rattle.vx_base.specs.MaskRuns.{marked, AreRuns}
use Rattle.vx_base.proofs.MaskCounts.{all_true_from_count, all_false_from_count}
use Rattle.vx_base.proofs.MaskRuns.{length-marked, trues_of_runs, count_of_runs}
use Rattle.vx_base.proofs.mask.Mask.from_runs.Goals as goal

-- as many rows lie in the runs, where they lie, as are true
told : (lent runs : List (ℕ × ℕ)) (len n : ℕ) → AreRuns len runs → lent ≡ runs → n ≡ length (flat_map run_positions lent) → n ≡ count_by (λ b. b) (marked len runs)
told lent runs len n are same h = h ∙ ap (λ rs. length (flat_map run_positions rs)) same ∙ sym (count_of_runs len runs are)

few : (len : ℕ) (runs : List (ℕ × ℕ)) → AreRuns len runs → length (flat_map run_positions runs) ≤ len
few len runs are = omega (arith, count_of_runs len runs are, count_by-le-length (λ (b : Bool). b) (marked len runs), length-marked len runs)

pub rows_in-true_count-requires-clause-filled : goal.rows_in-true_count-requires-clause-filled
rows_in-true_count-requires-clause-filled c = rw c.deref.ensures.value c.requires.filled

pub rows_in-true_count-requires-clause-countable : goal.rows_in-true_count-requires-clause-countable
rows_in-true_count-requires-clause-countable c =
    let h = few c.args.len c.args.runs.items c.requires in
    rw c.deref.ensures.value (omega arith)

-- where all rows lie in them, and where none does
all : (lent runs : List (ℕ × ℕ)) (len n : ℕ) → AreRuns len runs → lent ≡ runs → n ≡ length (flat_map run_positions lent) → n ≡ len → replicate len true ≡ marked len runs
all lent runs len n are same h full =
    let long = length-marked len runs in
    sym (all_true_from_count (marked len runs) (sym (told lent runs len n are same h) ∙ full ∙ sym long) ∙ ap (λ n. replicate n true) long)

none : (lent runs : List (ℕ × ℕ)) (len n : ℕ) → AreRuns len runs → lent ≡ runs → n ≡ length (flat_map run_positions lent) → n ≡ 0 → replicate len false ≡ marked len runs
none lent runs len n are same h empty =
    sym (all_false_from_count (marked len runs) (sym (told lent runs len n are same h) ∙ empty) ∙ ap (λ n. replicate n false) (length-marked len runs))

pub returns-then-true_count-len-clause-marked : goal.returns-then-true_count-len-clause-marked
returns-then-true_count-len-clause-marked c =
    c.new_true.ensures ∙ all c.deref.result.now c.args.runs.items c.args.len c.rows_in-true_count.result c.requires c.deref.ensures.value c.rows_in-true_count.ensures c.if-true_count-len.true

pub returns-then-true_count-len-clause-trues : goal.returns-then-true_count-len-clause-trues
returns-then-true_count-len-clause-trues c =
    ap trues (c.new_true.ensures ∙ all c.deref.result.now c.args.runs.items c.args.len c.rows_in-true_count.result c.requires c.deref.ensures.value c.rows_in-true_count.ensures c.if-true_count-len.true)
    ∙ trues_of_runs c.args.len c.args.runs.items c.requires

pub returns-then-true_count-eq0-clause-marked : goal.returns-then-true_count-eq0-clause-marked
returns-then-true_count-eq0-clause-marked c =
    c.new_false.ensures ∙ none c.deref.result.now c.args.runs.items c.args.len c.rows_in-true_count.result c.requires c.deref.ensures.value c.rows_in-true_count.ensures c.if-true_count-eq0.true

pub returns-then-true_count-eq0-clause-trues : goal.returns-then-true_count-eq0-clause-trues
returns-then-true_count-eq0-clause-trues c =
    ap trues (c.new_false.ensures ∙ none c.deref.result.now c.args.runs.items c.args.len c.rows_in-true_count.result c.requires c.deref.ensures.value c.rows_in-true_count.ensures c.if-true_count-eq0.true)
    ∙ trues_of_runs c.args.len c.args.runs.items c.requires

pub new-requires-clause-counted : goal.new-requires-clause-counted
new-requires-clause-counted c = told c.deref.result.now c.args.runs.items c.args.len c.rows_in-true_count.result c.requires c.deref.ensures.value c.rows_in-true_count.ensures

pub new-requires-clause-mixed : goal.new-requires-clause-mixed
new-requires-clause-mixed c =
    let m = marked c.args.len c.args.runs.items in
    let long = length-marked c.args.len c.args.runs.items in
    let most = count_by-le-length (λ (b : Bool). b) m in
    let count = told c.deref.result.now c.args.runs.items c.args.len c.rows_in-true_count.result c.requires c.deref.ensures.value c.rows_in-true_count.ensures in
    (omega arith, omega arith)

pub returns-clause-len : goal.returns-clause-len
returns-clause-len c = ap length c.new.ensures ∙ length-marked c.args.len c.args.runs.items

pub returns-clause-trues : goal.returns-clause-trues
returns-clause-trues c = ap trues c.new.ensures ∙ trues_of_runs c.args.len c.args.runs.items c.requires
