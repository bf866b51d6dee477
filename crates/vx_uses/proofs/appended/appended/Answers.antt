use Rattle.std.proofs.Common.{◌≡◌, ◌++◌, ◌∙◌}
use Rattle.std.specs.List.{flat_map}
use Rattle.std.proofs.lemmas.Result.{IfOk-weaker}
use Rattle.vx_tree.specs.Meaning.{rows}
use Rattle.vx_canonical.specs.Concatenated.{IsConcatenated}
use Rattle.vx_uses.proofs.AppendedArrays.{appended_rows, appended_kinds, appended_extent, appended_refused}
use Rattle.vx_uses.proofs.appended.appended.Goals as goal

pub returns-clause-rows : goal.returns-clause-rows
returns-clause-rows c =
    let ts = c.args.first.now in
    let r = c.in_ok-concat.field-0 in
    let e = c.in_ok-concat.ensures in
    let first : IsConcatenated ts r = record { same_rows = e.rows; kind = e.kind; plain = e.plain; extent = e.extent } in
    IfOk-weaker c.concat-2.result _ (λ a. rows a ≡ flat_map rows ts ++ rows c.args.later.now)
    (λ a same. same ∙ appended_rows ts r c.in_ok-try_clone.field-0 c.args.later.now first c.in_ok-try_clone.ensures) c.concat-2.ensures.rows

pub returns-clause-kind : goal.returns-clause-kind
returns-clause-kind c =
    let e = c.in_ok-concat.ensures in
    let first : IsConcatenated c.args.first.now c.in_ok-concat.field-0 = record { same_rows = e.rows; kind = e.kind; plain = e.plain; extent = e.extent } in
    appended_kinds c.args.first.now c.in_ok-concat.field-0 c.in_ok-try_clone.field-0 c.args.later.now first c.in_ok-try_clone.ensures c.concat-2.result c.concat-2.ensures.kind

pub returns-clause-extent : goal.returns-clause-extent
returns-clause-extent c =
    let ts = c.args.first.now in
    let r = c.in_ok-concat.field-0 in
    let e = c.in_ok-concat.ensures in
    let first : IsConcatenated ts r = record { same_rows = e.rows; kind = e.kind; plain = e.plain; extent = e.extent } in
    appended_extent ts r c.in_ok-try_clone.field-0 c.args.later.now first c.in_ok-try_clone.ensures c.concat-2.result c.concats_of_concats_are_concats.ensures.extents
    c.concat-2.ensures.kind c.concat-2.ensures.extent

pub returns-clause-refuses : goal.returns-clause-refuses
returns-clause-refuses c =
    let ts = c.args.first.now in
    let r = c.in_ok-concat.field-0 in
    let e = c.in_ok-concat.ensures in
    let first : IsConcatenated ts r = record { same_rows = e.rows; kind = e.kind; plain = e.plain; extent = e.extent } in
    appended_refused ts r c.in_ok-try_clone.field-0 c.args.later.now first c.in_ok-try_clone.ensures c.concat-2.result c.concats_of_concats_are_concats.ensures.refused
    e.refuses c.concat-2.ensures.refuses
