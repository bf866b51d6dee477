use Rattle.std.proofs.Common.{◌<◌, ◌/◌, ◌∙◌, length, sym, ap, subst, rules}
use Rattle.std.specs.List.{All, flat_map, range_with_len}
use Rattle.vx_base.specs.Integers.{byte_width}
use Rattle.vx_pack.specs.StoredLists.{positions_of, stored_sizes, stored_starts}
use Rattle.vx_pack.proofs.StoredLists.{positions_below}
use Rattle.vx_pack.proofs.list_runs.extend_with_block.Goals as goal

pub extend_with_numbers-requires : goal.extend_with_numbers-requires
extend_with_numbers-requires c =
    let s = c.args.lists in
    let n = length c.args.elements.now / byte_width c.args.ptype in
    let below = positions_below s.offset_type s.size_type s.offsets.now s.sizes.now n c.args.first c.args.count c.requires.lists
    c.requires.within in
    let places = positions_of (stored_starts s) (stored_sizes s) in
    subst (All (λ k. k < n))
    (sym (c.of_runs.ensures ∙ c.put_runs-len.ensures.runs ∙ ap (λ m. flat_map places (range_with_len c.args.first m)) (search rules))) below
