use Rattle.std.proofs.Common.{◌≡◌, ap, sym, ◌∙◌}
use Rattle.std.proofs.lemmas.Bool.{eqb-true}
use Rattle.std.proofs.lemmas.Result.{err_from_is_err_and}
use Rattle.vx_base.specs.Kinds.{is_nullable_kind}
use Rattle.vx_base.proofs.Refused.{Gives-weaker}
use Rattle.vx_tree.specs.Parts.{tree_of}
use Rattle.vx_tree.specs.Meaning.{tree_len, kind_of}
use Rattle.vx_tree.specs.Named.{AreIndices}
use Rattle.vx_tree.specs.CanonicalFaults.{canonical_fault}
use Rattle.vx_canonical.specs.Joined.{AreNumbers, bytes_in}
use Rattle.vx_tree.proofs.Dictionaries.{memory_only, not_empty}
use Rattle.vx_canonical.proofs.JoinedLeaves.{numbers_of_kind}
use Rattle.vx_canonical.proofs.JoinedNumbers.{appended_more, named_held, named_within, absent_held, type_faultless}
use Rattle.vx_tree.proofs.Taken.{positions_below}
use Rattle.vx_canonical.proofs.concat.numbers.append_named.Goals as goal

pub returns-then-is_empty : goal.returns-then-is_empty
returns-then-is_empty c =
    Gives-weaker c.append_number.result _ _
    (λ x. appended_more c.args.before.items x.items
    (λ bs h. absent_held c.args.ptype c.args.codes.now c.args.values.now bs c.requires.codes (eqb-true (tree_len c.args.values.now) 0 (sym c.is_empty.ensures ∙ c.if-is_empty.true)) (rw c.len.ensures at h)))
    c.append_number.ensures

pub returns-in_err-plain : goal.returns-in_err-plain
returns-in_err-plain c =
    let p = err_from_is_err_and c.from_residual.result c.from_residual.ensures.1 in
    rw (p.1, p.2) (memory_only (canonical_fault c.args.values.now) c.in_err-plain.field-0.0 (type_faultless c.args.values.now c.args.ptype c.requires.kind) c.in_err-plain.ensures.refuses)

pub append_picked-requires : goal.append_picked-requires
append_picked-requires c =
    let v = c.args.values.now in
    let w = c.in_ok-plain.plain in
    let ps = c.in_ok-positions.positions in
    let rows = c.in_ok-plain.ensures.ok.same in
    let are : AreIndices c.args.codes.now (tree_len v) ps = rw c.len-4.ensures at c.in_ok-positions.ensures in
    let held : AreNumbers c.args.ptype w = numbers_of_kind w c.args.ptype (is_nullable_kind (kind_of v)) c.in_ok-plain.ensures.ok.plain c.known.ensures (rows.kind ∙ c.requires.kind) in
    let bytes : c.as_slice.result.now ≡ bytes_in w = c.as_slice.ensures.value ∙ ap bytes_in (sym (ap tree_of c.in-Primitive.is) ∙ c.layout.ensures.parts) in
    rw (c.selection.ensures, named_within c.args.ptype v w c.as_slice.result.now rows held bytes)
    (positions_below c.args.codes.now (tree_len v) ps are (not_empty c.is_empty.result (tree_len v) c.is_empty.ensures c.if-is_empty.false))

pub returns : goal.returns
returns c =
    let v = c.args.values.now in
    let w = c.in_ok-plain.plain in
    let ps = c.in_ok-positions.positions in
    let rows = c.in_ok-plain.ensures.ok.same in
    let are : AreIndices c.args.codes.now (tree_len v) ps = rw c.len-4.ensures at c.in_ok-positions.ensures in
    let held : AreNumbers c.args.ptype w = numbers_of_kind w c.args.ptype (is_nullable_kind (kind_of v)) c.in_ok-plain.ensures.ok.plain c.known.ensures (rows.kind ∙ c.requires.kind) in
    let bytes : c.as_slice.result.now ≡ bytes_in w = c.as_slice.ensures.value ∙ ap bytes_in (sym (ap tree_of c.in-Primitive.is) ∙ c.layout.ensures.parts) in
    appended_more _ _
    (λ bs h. named_held c.args.ptype c.args.codes.now v w c.as_slice.result.now ps bs rows held bytes are (rw c.selection.ensures at h))
    c.in_ok-append_picked.ensures
