use Rattle.std.proofs.Common.{◌∙◌, ◌++◌, ap, sym, arith}
use Rattle.std.specs.List.{flat_map, range_with_len}
use Rattle.std.proofs.lemmas.Grind.{flat_map-append}
use Rattle.std.proofs.lemmas.List.{append_assoc}
use Rattle.vx_base.specs.Integers.{byte_width}
use Rattle.vx_base.specs.Selections.{bytes_of_position}
use Rattle.vx_pack.specs.StoredLists.{positions_of, stored_sizes, stored_starts}
use Rattle.vx_pack.proofs.StoredLists.{positions_joined}
use Rattle.vx_pack.proofs.list_runs.extend_with_lists.Goals as goal

pub loop-first-preserved : goal.loop-first-preserved
loop-first-preserved c =
    let f = bytes_of_position (byte_width c.args.ptype) c.args.elements.now in
    let places = positions_of (stored_starts c.args.lists) (stored_sizes c.args.lists) in
    let first = c.loop-first.first in
    let count = c.min-count.result in
    let old = flat_map places (range_with_len 0 first) in
    let more = flat_map places (range_with_len first count) in
    record {
      within = omega (arith, c.min-count.ensures);
      bytes =
          c.in_ok-all.ensures ∙ ap (λ bs. bs ++ flat_map f more) c.loop-first.invariant.bytes
          ∙ append_assoc c.args.before.items (flat_map f old) (flat_map f more)
          ∙ ap (λ bs. c.args.before.items ++ bs) (sym (ap (flat_map f) (positions_joined places first count) ∙ flat_map-append f old more));
    }
