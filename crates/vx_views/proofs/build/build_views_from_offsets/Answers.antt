use Rattle.std.proofs.Common.{◌≡◌, ◌<◌, ◌+◌, ◌^◌, ℕ, List, None, map, length, sym, ◌∙◌, subst, arith, rules}
use Rattle.vx_base.specs.Refusals.{Names}
use Rattle.vx_views.specs.Cut.{IsCut}
use Rattle.vx_views.specs.Places.{AreBuilt, ReadBack, value_at}
use Rattle.vx_views.specs.BuildFaults.{lengths_of, differences, used_part, bytes_between, offsets_fault}
use Rattle.vx_views.proofs.BuildRefusals.{refused-limit, refused-numbers, answer-memory, answer-fault, made-faultless, AreBuilt-fewest, short_differences}
use Rattle.vx_views.proofs.BytesBetween.{ReadBack-between}
use Rattle.vx_views.proofs.build.build_views_from_offsets.Goals as goal

pub returns-then-limit-gt-MAX_BUFFER_LEN-clause-refuses : goal.returns-then-limit-gt-MAX_BUFFER_LEN-clause-refuses
returns-then-limit-gt-MAX_BUFFER_LEN-clause-refuses g c =
    let fault = offsets_fault c.args.limit (length c.args.bytes) (map g.P.Number.value c.args.offsets.now) in
    let lens = lengths_of (differences (map g.P.Number.value c.args.offsets.now)) in
    refused-limit c.args.start c.args.limit fault lens (omega arith)

pub returns-in_err-buffers-clause-refuses : goal.returns-in_err-buffers-clause-refuses
returns-in_err-buffers-clause-refuses g c =
    let fault = offsets_fault c.args.limit (length c.args.bytes) (map g.P.Number.value c.args.offsets.now) in
    let lens = lengths_of (differences (map g.P.Number.value c.args.offsets.now)) in
    answer-memory c.args.start c.args.limit fault lens c.from_residual.result c.from_residual.ensures.1 (λ e same. same ∙ c.in_err-buffers.ensures.built)

pub returns-in_err-from_vec-in-Some-clause-refuses : goal.returns-in_err-from_vec-in-Some-clause-refuses
returns-in_err-from_vec-in-Some-clause-refuses g c =
    let fault = offsets_fault c.args.limit (length c.args.bytes) (map g.P.Number.value c.args.offsets.now) in
    let lens = lengths_of (differences (map g.P.Number.value c.args.offsets.now)) in
    answer-memory c.args.start c.args.limit fault lens c.from_residual-in_err-from_vec-in-Some.result c.from_residual-in_err-from_vec-in-Some.ensures.1
    (λ e same. same ∙ c.in_err-from_vec-in-Some.ensures)

pub returns-in-Some-clause-fewest : goal.returns-in-Some-clause-fewest
returns-in-Some-clause-fewest g c =
    let lens = lengths_of (differences (map g.P.Number.value c.args.offsets.now)) in
    let built : AreBuilt c.args.start c.args.limit (used_part c.args.bytes (map g.P.Number.value c.args.offsets.now)) lens c.in-Some.buffers.items c.in-Some.views.items = search rules in
    AreBuilt-fewest c.args.start c.args.limit (used_part c.args.bytes (map g.P.Number.value c.args.offsets.now)) lens c.in-Some.buffers.items c.in-Some.views.items built

pub returns-in-Some-clause-refuses : goal.returns-in-Some-clause-refuses
returns-in-Some-clause-refuses g c =
    let fault = offsets_fault c.args.limit (length c.args.bytes) (map g.P.Number.value c.args.offsets.now) in
    let lens = lengths_of (differences (map g.P.Number.value c.args.offsets.now)) in
    let built : AreBuilt c.args.start c.args.limit (used_part c.args.bytes (map g.P.Number.value c.args.offsets.now)) lens c.in-Some.buffers.items c.in-Some.views.items = search rules in
    let none : fault ≡ None = search rules in
    made-faultless c.args.start c.args.limit fault (used_part c.args.bytes (map g.P.Number.value c.args.offsets.now)) lens c.in-Some.buffers.items c.in-Some.views.items (omega arith) none built

pub returns-in-Some-clause-values : goal.returns-in-Some-clause-values
returns-in-Some-clause-values g c =
    let offsets = map g.P.Number.value c.args.offsets.now in
    let none : offsets_fault c.args.limit (length c.args.bytes) offsets ≡ None = search rules in
    let built : AreBuilt c.args.start c.args.limit (used_part c.args.bytes offsets) (lengths_of (differences offsets)) c.in-Some.buffers.items c.in-Some.views.items = search rules in
    let back : ReadBack c.args.start (value_at (used_part c.args.bytes offsets) (lengths_of (differences offsets))) c.in-Some.buffers.items c.in-Some.views.items = search rules in
    let between = ReadBack-between c.args.start c.args.limit c.args.bytes offsets c.in-Some.buffers.items c.in-Some.views.items none built back in
    subst (ReadBack c.args.start (bytes_between c.args.bytes offsets) c.in-Some.buffers.items) (sym c.in_ok-from_vec-in-Some.ensures) between

pub returns-in_err-check_offsets-in-None-clause-refuses : goal.returns-in_err-check_offsets-in-None-clause-refuses
returns-in_err-check_offsets-in-None-clause-refuses g c =
    let fault = offsets_fault c.args.limit (length c.args.bytes) (map g.P.Number.value c.args.offsets.now) in
    let lens = lengths_of (differences (map g.P.Number.value c.args.offsets.now)) in
    answer-fault c.args.start c.args.limit fault lens c.from_residual-in_err-check_offsets-in-None.result (omega arith) c.from_residual-in_err-check_offsets-in-None.ensures.1
    (λ e same. subst (λ n. Names (offsets_fault c.args.limit n (map g.P.Number.value c.args.offsets.now)) e) c.len-heap_len.ensures.value (subst (Names (offsets_fault c.args.limit c.len-heap_len.result (map g.P.Number.value c.args.offsets.now))) (sym same) c.in_err-check_offsets-in-None.ensures))

pub returns-clause-refuses : goal.returns-clause-refuses
returns-clause-refuses g c =
    let fault = offsets_fault c.args.limit (length c.args.bytes) (map g.P.Number.value c.args.offsets.now) in
    let lens = lengths_of (differences (map g.P.Number.value c.args.offsets.now)) in
    let none : fault ≡ None = search rules in
    let past : fault ≡ None → (ends : List ℕ) → IsCut c.args.limit lens ends → 2 ^ 32 < c.args.start + length ends = search rules in
    refused-numbers c.args.start c.args.limit fault lens (omega arith) none (short_differences c.args.limit (length c.args.bytes) (map g.P.Number.value c.args.offsets.now) none) (past none)
