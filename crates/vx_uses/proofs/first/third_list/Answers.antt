use Rattle.std.proofs.Common.{refl, ◌∙◌, ap, arith}
use Rattle.vx_base.specs.Rows.{number_in}
use Rattle.vx_base.specs.Kinds.{is_integers}
use Rattle.vx_uses.proofs.FirstLists.{ArePlaced, IsFirst, IsThird, first_rebuilt, first_integers, third_read}
use Rattle.vx_uses.proofs.first.third_list.Goals as goal

pub list_elements_at-requires : goal.list_elements_at-requires
list_elements_at-requires c =
    let law : ArePlaced = (record { rows_len = c.rows_stand_at_their_places.ensures.len; rows_each = c.rows_stand_at_their_places.ensures.each; counts_len = c.counts_stand_at_their_places.ensures.len; counts_each = c.counts_stand_at_their_places.ensures.each }) in
    let is : IsFirst c.in_ok-rebuilt.rebuilt = first_rebuilt law c.in_ok-elements.elements c.in_ok-offsets.offsets c.in_ok-sizes.sizes c.in_ok-lists.lists c.in_ok-rebuilt.rebuilt c.in_ok-elements.ensures.numbers c.in_ok-offsets.ensures.numbers c.in_ok-sizes.ensures.numbers c.in_ok-lists.ensures.parts (c.in_ok-rebuilt.ensures.rebuilt refl) in
    omega (arith, is.len)

pub offset_at-requires : goal.offset_at-requires
offset_at-requires c =
    let law : ArePlaced = (record { rows_len = c.rows_stand_at_their_places.ensures.len; rows_each = c.rows_stand_at_their_places.ensures.each; counts_len = c.counts_stand_at_their_places.ensures.len; counts_each = c.counts_stand_at_their_places.ensures.each }) in
    let is : IsFirst c.in_ok-rebuilt.rebuilt = first_rebuilt law c.in_ok-elements.elements c.in_ok-offsets.offsets c.in_ok-sizes.sizes c.in_ok-lists.lists c.in_ok-rebuilt.rebuilt c.in_ok-elements.ensures.numbers c.in_ok-offsets.ensures.numbers c.in_ok-sizes.ensures.numbers c.in_ok-lists.ensures.parts (c.in_ok-rebuilt.ensures.rebuilt refl) in
    omega (arith, is.len)

pub int_at-requires-clause-ints : goal.int_at-requires-clause-ints
int_at-requires-clause-ints c =
    ap is_integers c.in_ok-third.ensures.kind
    ∙ first_integers (record { rows_len = c.rows_stand_at_their_places.ensures.len; rows_each = c.rows_stand_at_their_places.ensures.each; counts_len = c.counts_stand_at_their_places.ensures.len; counts_each = c.counts_stand_at_their_places.ensures.each }) c.in_ok-elements.elements c.in_ok-offsets.offsets c.in_ok-sizes.sizes c.in_ok-lists.lists c.in_ok-rebuilt.rebuilt c.in_ok-elements.ensures.numbers c.in_ok-offsets.ensures.numbers c.in_ok-sizes.ensures.numbers c.in_ok-lists.ensures.parts (c.in_ok-rebuilt.ensures.rebuilt refl)

pub int_at-requires-clause-in_bounds : goal.int_at-requires-clause-in_bounds
int_at-requires-clause-in_bounds c =
    let law : ArePlaced = (record { rows_len = c.rows_stand_at_their_places.ensures.len; rows_each = c.rows_stand_at_their_places.ensures.each; counts_len = c.counts_stand_at_their_places.ensures.len; counts_each = c.counts_stand_at_their_places.ensures.each }) in
    let is : IsFirst c.in_ok-rebuilt.rebuilt = first_rebuilt law c.in_ok-elements.elements c.in_ok-offsets.offsets c.in_ok-sizes.sizes c.in_ok-lists.lists c.in_ok-rebuilt.rebuilt c.in_ok-elements.ensures.numbers c.in_ok-offsets.ensures.numbers c.in_ok-sizes.ensures.numbers c.in_ok-lists.ensures.parts (c.in_ok-rebuilt.ensures.rebuilt refl) in
    let third : IsThird c.in_ok-third.third = third_read law c.in_ok-rebuilt.rebuilt c.in_ok-third.third is c.in_ok-third.ensures.rows in
    omega (arith, third.len)

pub returns-clause-read : goal.returns-clause-read
returns-clause-read c =
    let law : ArePlaced = (record { rows_len = c.rows_stand_at_their_places.ensures.len; rows_each = c.rows_stand_at_their_places.ensures.each; counts_len = c.counts_stand_at_their_places.ensures.len; counts_each = c.counts_stand_at_their_places.ensures.each }) in
    let is : IsFirst c.in_ok-rebuilt.rebuilt = first_rebuilt law c.in_ok-elements.elements c.in_ok-offsets.offsets c.in_ok-sizes.sizes c.in_ok-lists.lists c.in_ok-rebuilt.rebuilt c.in_ok-elements.ensures.numbers c.in_ok-offsets.ensures.numbers c.in_ok-sizes.ensures.numbers c.in_ok-lists.ensures.parts (c.in_ok-rebuilt.ensures.rebuilt refl) in
    let third : IsThird c.in_ok-third.third = third_read law c.in_ok-rebuilt.rebuilt c.in_ok-third.third is c.in_ok-third.ensures.rows in
    (c.offset_at.ensures.value ∙ is.start, c.int_at.ensures.value ∙ ap number_in third.first)
