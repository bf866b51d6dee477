use Rattle.std.proofs.Common.{◌∙◌, sym, ap}
use Rattle.vx_base.proofs.Refused.{Gives-weaker, Gives-IfOk}
use Rattle.vx_tree.specs.Parts.{tree_of, valid_of}
use Rattle.vx_tree.specs.Meaning.{trees_from}
use Rattle.vx_tree.specs.Slots.{under_validity}
use Rattle.vx_canonical.proofs.CanonicalWithin.{fixed_lists_nulled, fixed_lists_nulled_fit, records_nulled, records_nulled_fit, others_nulled}
use Rattle.vx_canonical.proofs.canonical.nulled_parts.Goals as goal

pub returns-in_default-clause-parts : goal.returns-in_default-clause-parts
returns-in_default-clause-parts c =
    others_nulled c.args.array.now c.in_ok-nulled.nulled (valid_of c.args.nulls.now) c.layout.result.now c.layout.ensures.parts c.in_ok-nulled.ensures.by_row c.in_default.not-FixedSizeList c.in_default.not-Struct

pub with_validity-requires : goal.with_validity-requires
with_validity-requires c =
    let parts = c.in-FixedSizeList in
    let s = c.args.array.now in
    let q = c.in_ok-nulled.nulled in
    let same = sym c.layout.ensures.parts ∙ ap tree_of parts.is in
    rw c.in_ok-try_clone-in-FixedSizeList.ensures (fixed_lists_nulled_fit s q parts.elements parts.size parts.len (valid_of c.args.nulls.now) (valid_of parts.validity) same c.in_ok-nulled.ensures.by_row c.known.ensures (rw parts.is at c.layout.ensures.formed))

pub returns-in_ok-try_clone-in-FixedSizeList-clause-rows : goal.returns-in_ok-try_clone-in-FixedSizeList-clause-rows
returns-in_ok-try_clone-in-FixedSizeList-clause-rows c =
    let parts = c.in-FixedSizeList in
    let s = c.args.array.now in
    let q = c.in_ok-nulled.nulled in
    let same = sym c.layout.ensures.parts ∙ ap tree_of parts.is in
    Gives-weaker c.with_validity.result _ _
    (λ a e. (fixed_lists_nulled s q a parts.elements parts.size parts.len (valid_of c.args.nulls.now) (valid_of parts.validity) same (e ∙ ap (under_validity s) c.in_ok-try_clone-in-FixedSizeList.ensures) c.in_ok-nulled.ensures.by_row).0)
    c.with_validity.ensures

pub returns-in_ok-try_clone-in-FixedSizeList-clause-parts : goal.returns-in_ok-try_clone-in-FixedSizeList-clause-parts
returns-in_ok-try_clone-in-FixedSizeList-clause-parts c =
    let parts = c.in-FixedSizeList in
    let s = c.args.array.now in
    let q = c.in_ok-nulled.nulled in
    let same = sym c.layout.ensures.parts ∙ ap tree_of parts.is in
    Gives-IfOk c.with_validity.result _ _
    (λ a e. (fixed_lists_nulled s q a parts.elements parts.size parts.len (valid_of c.args.nulls.now) (valid_of parts.validity) same (e ∙ ap (under_validity s) c.in_ok-try_clone-in-FixedSizeList.ensures) c.in_ok-nulled.ensures.by_row).1)
    c.with_validity.ensures

pub with_validity-requires-in-Struct : goal.with_validity-requires-in-Struct
with_validity-requires-in-Struct c =
    let parts = c.in-Struct in
    let s = c.args.array.now in
    let q = c.in_ok-nulled.nulled in
    let same = sym c.layout.ensures.parts ∙ ap tree_of parts.is in
    rw c.in_ok-try_clone-in-Struct.ensures (records_nulled_fit s q parts.names (trees_from parts.columns.items) parts.len (valid_of c.args.nulls.now) (valid_of parts.validity) same c.in_ok-nulled.ensures.by_row c.known.ensures (rw parts.is at c.layout.ensures.formed))

pub returns-in_ok-try_clone-in-Struct-clause-rows : goal.returns-in_ok-try_clone-in-Struct-clause-rows
returns-in_ok-try_clone-in-Struct-clause-rows c =
    let parts = c.in-Struct in
    let s = c.args.array.now in
    let q = c.in_ok-nulled.nulled in
    let same = sym c.layout.ensures.parts ∙ ap tree_of parts.is in
    Gives-weaker c.with_validity-in-Struct.result _ _
    (λ a e. (records_nulled s q a parts.names (trees_from parts.columns.items) parts.len (valid_of c.args.nulls.now) (valid_of parts.validity) same (e ∙ ap (under_validity s) c.in_ok-try_clone-in-Struct.ensures) c.in_ok-nulled.ensures.by_row).0)
    c.with_validity-in-Struct.ensures

pub returns-in_ok-try_clone-in-Struct-clause-parts : goal.returns-in_ok-try_clone-in-Struct-clause-parts
returns-in_ok-try_clone-in-Struct-clause-parts c =
    let parts = c.in-Struct in
    let s = c.args.array.now in
    let q = c.in_ok-nulled.nulled in
    let same = sym c.layout.ensures.parts ∙ ap tree_of parts.is in
    Gives-IfOk c.with_validity-in-Struct.result _ _
    (λ a e. (records_nulled s q a parts.names (trees_from parts.columns.items) parts.len (valid_of c.args.nulls.now) (valid_of parts.validity) same (e ∙ ap (under_validity s) c.in_ok-try_clone-in-Struct.ensures) c.in_ok-nulled.ensures.by_row).1)
    c.with_validity-in-Struct.ensures
