use Rattle.std.proofs.Common.{◌≡◌, ◌<◌, length, map, true, None, Some, ap, sym, subst, ◌∙◌, inr, arith}
use Rattle.std.proofs.lemmas.Result.{err_from_is_err_and}
use Rattle.std.specs.List.{All}
use Rattle.vx_base.specs.DTypes.{dtype_meaning, is_nullable}
use Rattle.vx_base.specs.Kinds.{integers}
use Rattle.vx_tree.specs.Meaning.{kind_of}
use Rattle.vx_base.specs.Refusals.{IsMemoryOr, overflow}
use Rattle.vx_tree.specs.Extents.{extent_of, joined_extent}
use Rattle.vx_tree.specs.Meaning.{trees_from}
use Rattle.vx_canonical.specs.Joined.{joined_len}
use Rattle.vx_canonical.specs.Concatenated.{are_alike, extents_fault}
use Rattle.vx_canonical.specs.Counted.{columns_rows_overflow}
use Rattle.vx_canonical.proofs.Counted.{within_count}
use Rattle.vx_canonical.proofs.Overflows.{columns_rows_refused}
use Rattle.vx_canonical.proofs.Concatenated.{alike_kinds, rows_joined, numbers_concatenated, rows_refuse, extents_refuse, concat_faultless, first_kind, first_plain, kinds_of_first, ok_refuses, ok_rows, ok_kind, ok_plain, ok_state, ok_extent, ok_flag, ok_numbers, primitive_numbers, plain_count, plain_joinable}
use Rattle.vx_canonical.proofs.concat.ArrayRefConcatenate.concat.Goals as goal

pub join_like-requires-clause-plain : goal.join_like-requires-clause-plain
join_like-requires-clause-plain c =
    let ts = c.args.arrays.now in
    let ps = c.in_ok-plain.plain.items in
    let t = c.in-Some.first.now in
    let alike : are_alike (kind_of t) ts ≡ true = sym (ap (λ k. are_alike k ts) c.dtype.ensures) ∙ sym c.are_alike.ensures ∙ c.if-not-are_alike.false in
    let some : 0 < length ps = omega (arith, plain_count ts ps c.in_ok-plain.ensures.ok, c.in-Some.ensures.item.3.0) in
    first_plain ts ps t c.index.result.now c.in_ok-plain.ensures.ok alike some c.index.ensures

pub join_like-requires-clause-arrays : goal.join_like-requires-clause-arrays
join_like-requires-clause-arrays c =
    let ts = c.args.arrays.now in
    let ps = c.in_ok-plain.plain.items in
    let t = c.in-Some.first.now in
    let p = c.index.result.now in
    let alike : are_alike (kind_of t) ts ≡ true = sym (ap (λ k. are_alike k ts) c.dtype.ensures) ∙ sym c.are_alike.ensures ∙ c.if-not-are_alike.false in
    let some : 0 < length ps = omega (arith, plain_count ts ps c.in_ok-plain.ensures.ok, c.in-Some.ensures.item.3.0) in
    let same = first_kind ts ps t p c.in_ok-plain.ensures.ok alike some c.index.ensures in
    let fits : extents_fault (kind_of p) (joined_len ts) (map extent_of ts) ≡ None =
    (λ i. extents_fault ((same ∙ sym c.dtype-3.ensures) i) (sym c.in_ok-len.ensures.len i) (map extent_of ts)) ∙ c.in_ok-arrays_fit.ensures in
    rw c.deref-2.ensures.value (plain_joinable (kind_of p) ts ps c.in_ok-plain.ensures.ok (kinds_of_first ts ps t p c.in_ok-plain.ensures.ok alike some c.index.ensures) (rw c.deref.ensures.value at c.all_formed.ensures)
    (within_count (joined_len ts) c.in_ok-len.ensures.tests) fits)

pub returns-clause-rows : goal.returns-clause-rows
returns-clause-rows c =
    ok_rows c.join_like.result (kind_of c.index.result.now) c.args.arrays.now c.in_ok-plain.plain.items c.in_ok-plain.ensures.ok (rw c.deref-2.ensures.value at c.join_like.ensures.joined)

pub returns-clause-kind : goal.returns-clause-kind
returns-clause-kind c =
    let ts = c.args.arrays.now in
    let ps = c.in_ok-plain.plain.items in
    let t = c.in-Some.first.now in
    let p = c.index.result.now in
    let alike : are_alike (kind_of t) ts ≡ true = sym (ap (λ k. are_alike k ts) c.dtype.ensures) ∙ sym c.are_alike.ensures ∙ c.if-not-are_alike.false in
    let some : 0 < length ps = omega (arith, plain_count ts ps c.in_ok-plain.ensures.ok, c.in-Some.ensures.item.3.0) in
    ok_kind c.join_like.result (kind_of p) ts ps (kinds_of_first ts ps t p c.in_ok-plain.ensures.ok alike some c.index.ensures) (rw c.deref-2.ensures.value at c.join_like.ensures.joined)

pub returns-clause-plain : goal.returns-clause-plain
returns-clause-plain c = ok_plain c.join_like.result (kind_of c.index.result.now) c.deref-2.result.now c.join_like.ensures.joined

pub returns-clause-state : goal.returns-clause-state
returns-clause-state c =
    let ts = c.args.arrays.now in
    let ps = c.in_ok-plain.plain.items in
    let some : 0 < length ps = omega (arith, plain_count ts ps c.in_ok-plain.ensures.ok, c.in-Some.ensures.item.3.0) in
    ok_state c.join_like.result (kind_of c.index.result.now) ts ps c.in_ok-plain.ensures.ok some (rw c.deref-2.ensures.value at c.join_like.ensures.joined)

pub returns-clause-extent : goal.returns-clause-extent
returns-clause-extent c =
    ok_extent c.join_like.result (kind_of c.index.result.now) c.args.arrays.now c.in_ok-plain.plain.items c.in_ok-plain.ensures.ok (rw c.deref-2.ensures.value at c.join_like.ensures.joined)

pub returns-clause-flag : goal.returns-clause-flag
returns-clause-flag c = ok_flag c.join_like.result (kind_of c.index.result.now) c.deref-2.result.now c.join_like.ensures.joined

pub returns-clause-refuses : goal.returns-clause-refuses
returns-clause-refuses c =
    let ts = c.args.arrays.now in
    let ps = c.in_ok-plain.plain.items in
    let t = c.in-Some.first.now in
    let item = c.in-Some.ensures.item in
    let alike : are_alike (kind_of t) ts ≡ true = sym (ap (λ k. are_alike k ts) c.dtype.ensures) ∙ sym c.are_alike.ensures ∙ c.if-not-are_alike.false in
    let fits : extents_fault (kind_of t) (joined_len ts) (map extent_of ts) ≡ None =
    (λ i. extents_fault (sym c.dtype-3.ensures i) (sym c.in_ok-len.ensures.len i) (map extent_of ts)) ∙ c.in_ok-arrays_fit.ensures in
    let none = concat_faultless ts t item.3.0 item.1 alike c.in_ok-len.ensures.tests c.in_ok-plain.ensures.refuses fits in
    ok_refuses c.join_like.result (kind_of c.index.result.now) ts ps none (rw c.deref-2.ensures.value at c.join_like.ensures.joined)

pub concat_numbers-requires-clause-kind : goal.concat_numbers-requires-clause-kind
concat_numbers-requires-clause-kind c =
    let ts = c.args.arrays.now in
    let t = c.in-Some.first.now in
    let alike : are_alike (kind_of t) ts ≡ true = sym (ap (λ k. are_alike k ts) c.dtype.ensures) ∙ sym c.are_alike.ensures ∙ c.if-not-are_alike.false in
    let kind : kind_of t ≡ integers c.in-Primitive.ptype (is_nullable c.in-Primitive.nullability) = sym c.dtype-2.ensures ∙ ap dtype_meaning c.in-Primitive.is in
    subst (λ k. All (λ u. kind_of u ≡ k) ts) kind (alike_kinds (kind_of t) ts alike)

pub returns-then-not-have_listed_codes-clause-rows : goal.returns-then-not-have_listed_codes-clause-rows
returns-then-not-have_listed_codes-clause-rows c =
    rows_joined (integers c.in-Primitive.ptype (is_nullable c.in-Primitive.nullability)) c.args.arrays.now c.in_ok-concat_numbers.field-0 c.in_ok-concat_numbers.ensures.joined

pub returns-then-not-have_listed_codes-clause-kind : goal.returns-then-not-have_listed_codes-clause-kind
returns-then-not-have_listed_codes-clause-kind c =
    let ts = c.args.arrays.now in
    let t = c.in-Some.first.now in
    let alike : are_alike (kind_of t) ts ≡ true = sym (ap (λ k. are_alike k ts) c.dtype.ensures) ∙ sym c.are_alike.ensures ∙ c.if-not-are_alike.false in
    let kind : kind_of t ≡ integers c.in-Primitive.ptype (is_nullable c.in-Primitive.nullability) = sym c.dtype-2.ensures ∙ ap dtype_meaning c.in-Primitive.is in
    λ i d l. alike_kinds (kind_of t) ts alike i d l ∙ kind ∙ sym c.in_ok-concat_numbers.ensures.joined.kind

pub returns-then-not-have_listed_codes-clause-plain : goal.returns-then-not-have_listed_codes-clause-plain
returns-then-not-have_listed_codes-clause-plain c = c.in_ok-concat_numbers.ensures.joined.plain

pub returns-then-not-have_listed_codes-clause-state : goal.returns-then-not-have_listed_codes-clause-state
returns-then-not-have_listed_codes-clause-state c = c.in_ok-concat_numbers.ensures.joined.state c.in-Some.ensures.item.3.0

pub returns-then-not-have_listed_codes-clause-extent : goal.returns-then-not-have_listed_codes-clause-extent
returns-then-not-have_listed_codes-clause-extent c =
    c.in_ok-concat_numbers.ensures.joined.extent ∙ ap (λ k. joined_extent k (map extent_of c.args.arrays.now)) (sym c.in_ok-concat_numbers.ensures.joined.kind)

pub returns-then-not-have_listed_codes-clause-flag : goal.returns-then-not-have_listed_codes-clause-flag
returns-then-not-have_listed_codes-clause-flag c = c.in_ok-concat_numbers.ensures.joined.flag

pub returns-then-not-have_listed_codes-clause-refuses : goal.returns-then-not-have_listed_codes-clause-refuses
returns-then-not-have_listed_codes-clause-refuses c =
    let ts = c.args.arrays.now in
    let t = c.in-Some.first.now in
    let item = c.in-Some.ensures.item in
    let alike : are_alike (kind_of t) ts ≡ true = sym (ap (λ k. are_alike k ts) c.dtype.ensures) ∙ sym c.are_alike.ensures ∙ c.if-not-are_alike.false in
    let kind : kind_of t ≡ integers c.in-Primitive.ptype (is_nullable c.in-Primitive.nullability) = sym c.dtype-2.ensures ∙ ap dtype_meaning c.in-Primitive.is in
    numbers_concatenated ts t c.in-Primitive.ptype (is_nullable c.in-Primitive.nullability) kind item.3.0 item.1 alike c.in_ok-len.ensures.tests

pub returns-then-not-have_countable_rows : goal.returns-then-not-have_countable_rows
returns-then-not-have_countable_rows c =
    let ts = c.args.arrays.now in
    let t = c.in-Some.first.now in
    let item = c.in-Some.ensures.item in
    let alike : are_alike (kind_of t) ts ≡ true = sym (ap (λ k. are_alike k ts) c.dtype.ensures) ∙ sym c.are_alike.ensures ∙ c.if-not-are_alike.false in
    let many : columns_rows_overflow (trees_from ts) ≡ Some overflow = rw c.if-not-have_countable_rows.true at c.have_countable_rows.ensures in
    record {
      rows = tt;
      kind = tt;
      plain = tt;
      state = tt;
      extent = tt;
      flag = tt;
      numbers = tt;
      refuses = inr (rows_refuse ts t item.3.0 item.1 alike c.in_ok-len.ensures.tests (columns_rows_refused (trees_from ts) many));
    }

pub returns-in_err-arrays_fit-clause-refuses : goal.returns-in_err-arrays_fit-clause-refuses
returns-in_err-arrays_fit-clause-refuses c =
    let ts = c.args.arrays.now in
    let t = c.in-Some.first.now in
    let item = c.in-Some.ensures.item in
    let e = c.in_err-arrays_fit.field-0.0 in
    let alike : are_alike (kind_of t) ts ≡ true = sym (ap (λ k. are_alike k ts) c.dtype.ensures) ∙ sym c.are_alike.ensures ∙ c.if-not-are_alike.false in
    let same : extents_fault (dtype_meaning c.dtype-3.result.now) c.in_ok-len.len (map extent_of ts) ≡ extents_fault (kind_of t) (joined_len ts) (map extent_of ts) =
    λ i. extents_fault (c.dtype-3.ensures i) (c.in_ok-len.ensures.len i) (map extent_of ts) in
    let p = err_from_is_err_and c.from_residual-in_err-arrays_fit.result c.from_residual-in_err-arrays_fit.ensures.1 in
    rw (p.1, p.2) (extents_refuse ts t e item.3.0 item.1 alike c.in_ok-len.ensures.tests (subst (λ f. IsMemoryOr f e) same c.in_err-arrays_fit.ensures))

pub returns-clause-numbers : goal.returns-clause-numbers
returns-clause-numbers c =
    ok_numbers c.join_like.result c.args.arrays.now c.in_ok-plain.plain.items c.in_ok-plain.ensures.ok c.in_ok-plain.ensures.within (rw c.deref-2.ensures.value at c.join_like.ensures.numbers)

pub returns-then-not-have_listed_codes-clause-numbers : goal.returns-then-not-have_listed_codes-clause-numbers
returns-then-not-have_listed_codes-clause-numbers c = primitive_numbers c.args.arrays.now c.in_ok-concat_numbers.field-0 c.in_ok-concat_numbers.ensures.layout
