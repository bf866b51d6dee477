-- What is read back from a table that a run wrote.
use Rattle.std.proofs.Common.{◌≡◌, ℕ, sym, ◌∙◌, ap, subst, arith}
use Rattle.std.specs.Prelude.{Result, Ok, Err}
use Rattle.vx_canonical.specs.Canonical.{HasRowsOf}
use Rattle.vx_tree.specs.Fitting.{AllFormed}
use Rattle.vx_tree.specs.Plain.{IsPlain}
use Rattle.vx_tree.specs.Tree.{Tree}
use Rattle.vx_c.specs.Tables.{NodeFault}
use Rattle.vx_c.specs.Runs.{IsReadBack}
use Rattle.vx_c.specs.Unflagged.{unflagged}
use Rattle.vx_c.proofs.Unflagged.{unflagged-rows, kept_plain}
use Rattle.vx_c.proofs.UnflaggedFormed.{kept_formed}

rows_both : (t r s : Tree) → HasRowsOf t r → HasRowsOf r s → HasRowsOf t s
rows_both t r s first second = record {
  len = second.len ∙ first.len;
  kind = second.kind ∙ first.kind;
  rows = λ i inside. second.rows i (omega (arith, inside, first.len)) ∙ first.rows i inside;
}

abbrev pub column_or : Tree → Result Tree (ℕ × NodeFault) → Tree
column_or other (Ok t) = t
column_or other (Err f) = other

pub read_rows : (t r : Tree) → IsReadBack t (Ok r) → HasRowsOf t r × IsPlain r × AllFormed r
read_rows t r back =
    let c = back.plain in
    let same : unflagged c ≡ r = sym (ap (column_or r) back.is) in
    subst (λ (x : Tree). HasRowsOf t x × IsPlain x × AllFormed x) same
    (rows_both t c (unflagged c) back.made.canonical.same (unflagged-rows c), kept_plain c back.made.canonical.plain, kept_formed c back.made.formed)

-- a plain array is read back as it is, without its flags
pub read_plain : (t r : Tree) → IsPlain t → IsReadBack t (Ok r) → r ≡ unflagged t
read_plain t r plain back = ap (column_or r) back.is ∙ ap unflagged (back.made.shared plain)
