use Rattle.std.proofs.Common.{◌≡◌, ◌++◌, ap, sym, ◌∙◌}
use Rattle.std.proofs.lemmas.Result.{err_from_is_err_and}
use Rattle.vx_base.specs.Kinds.{is_nullable_kind, is_integers}
use Rattle.vx_tree.specs.Parts.{tree_of}
use Rattle.vx_tree.specs.Meaning.{tree_len, kind_of}
use Rattle.vx_tree.specs.Named.{AreIndices}
use Rattle.vx_canonical.specs.Canonical.{IsCanonicalAt}
use Rattle.vx_tree.specs.CanonicalFaults.{canonical_fault}
use Rattle.vx_canonical.specs.Joined.{AreNumbers, bytes_in}
use Rattle.vx_tree.proofs.Dictionaries.{memory_only}
use Rattle.vx_canonical.proofs.JoinedLeaves.{numbers_of_kind}
use Rattle.vx_canonical.proofs.JoinedNumbers.{few_held, no_overflow, type_faultless}
use Rattle.vx_tree.proofs.Taken.{positions_below}
use Rattle.vx_canonical.proofs.concat.numbers.append_few_named.Goals as goal

pub canonical_at-requires-clause-within : goal.canonical_at-requires-clause-within
canonical_at-requires-clause-within c =
    let n = tree_len c.args.values.now in
    let ps = c.in_ok-positions.positions in
    let are : AreIndices c.args.codes.now n ps = rw c.len.ensures at c.in_ok-positions.ensures in
    rw c.selection.ensures (positions_below c.args.codes.now n ps are c.requires.some)

pub canonical_at-requires-clause-countable : goal.canonical_at-requires-clause-countable
canonical_at-requires-clause-countable c = no_overflow (kind_of c.args.values.now) _ (ap is_integers c.requires.kind)

pub returns-in_err-picked : goal.returns-in_err-picked
returns-in_err-picked c =
    let p = err_from_is_err_and c.from_residual-in_err-picked.result c.from_residual-in_err-picked.ensures.1 in
    rw (p.1, p.2) (memory_only (canonical_fault c.args.values.now) c.in_err-picked.field-0.0 (type_faultless c.args.values.now c.args.ptype c.requires.kind) c.in_err-picked.ensures.refuses)

pub returns : goal.returns
returns c =
    let v = c.args.values.now in
    let w = c.in_ok-picked.picked in
    let ps = c.in_ok-positions.positions in
    let made : IsCanonicalAt v ps w = rw c.selection.ensures at c.in_ok-picked.ensures.ok in
    let are : AreIndices c.args.codes.now (tree_len v) ps = rw c.len.ensures at c.in_ok-positions.ensures in
    let held : AreNumbers c.args.ptype w = numbers_of_kind w c.args.ptype (is_nullable_kind (kind_of v)) made.plain c.known.ensures (made.kind ∙ c.requires.kind) in
    let bytes : c.as_slice.result.now ≡ bytes_in w = c.as_slice.ensures.value ∙ ap bytes_in (sym (ap tree_of c.in-Primitive.is) ∙ c.layout.ensures.parts) in
    record {
      bytes = bytes_in w;
      items = c.in_ok-extend_from_slice.ensures.items ∙ ap (λ more. c.args.before.items ++ more) bytes;
      holds = few_held c.args.ptype c.args.codes.now v w ps made held are;
    }
