use Rattle.std.proofs.Common.{◌≡◌, true, ap, sym, ◌∙◌, subst}
use Rattle.std.specs.List.{All}
use Rattle.std.proofs.lemmas.Result.{err_from_is_err_and}
use Rattle.vx_base.specs.Refusals.{IsMemoryOr}
use Rattle.vx_canonical.specs.Concatenated.{concat_fault}
use Rattle.vx_structs.specs.Structs.{arrays_of, is_struct, AreConcatenated}
use Rattle.vx_structs.proofs.Structs.JoinedColumns.{records_made, columns_concatenated}
use Rattle.vx_structs.proofs.concat.concat_all.Goals as goal

pub returns-in_err-joined-clause-refuses : goal.returns-in_err-joined-clause-refuses
returns-in_err-joined-clause-refuses c =
    let p = err_from_is_err_and c.from_residual-in_err-joined.result c.from_residual-in_err-joined.ensures.1 in
    let same : c.deref.result.now ≡ arrays_of c.args.arrays.now = c.deref.ensures.value ∙ c.in_ok-shared.ensures.shared in
    rw (p.1, p.2) (subst (λ ts. IsMemoryOr (concat_fault ts) c.in_err-joined.field-0.0) same c.in_err-joined.ensures.refuses)

pub from_array-requires : goal.from_array-requires
from_array-requires c =
    let made = c.in_ok-joined.ensures in
    records_made c.deref.result.now c.in_ok-joined.joined (rw c.deref.ensures.value c.in_ok-shared.ensures.records) made.refuses made.kind made.plain made.extent

pub returns-clause-ok : goal.returns-clause-ok
returns-clause-ok c =
    let ts = c.deref.result.now in
    let made = c.in_ok-joined.ensures in
    let are : All (λ t. is_struct t ≡ true) ts = rw c.deref.ensures.value c.in_ok-shared.ensures.records in
    let same : ts ≡ arrays_of c.args.arrays.now = c.deref.ensures.value ∙ c.in_ok-shared.ensures.shared in
    let whole : AreConcatenated ts c.in_ok-joined.joined = record {
      kind = made.kind;
      same_rows = made.rows;
      columns = columns_concatenated ts c.in_ok-joined.joined are (records_made ts c.in_ok-joined.joined are made.refuses made.kind made.plain made.extent) made.numbers;
      state = made.state;
      extent = made.extent;
      plain = made.plain;
    } in
    rw c.from_array.ensures (subst (λ us. AreConcatenated us c.in_ok-joined.joined) same whole)

pub returns-clause-refuses : goal.returns-clause-refuses
returns-clause-refuses c =
    let same : c.deref.result.now ≡ arrays_of c.args.arrays.now = c.deref.ensures.value ∙ c.in_ok-shared.ensures.shared in
    sym (ap concat_fault same) ∙ c.in_ok-joined.ensures.refuses
