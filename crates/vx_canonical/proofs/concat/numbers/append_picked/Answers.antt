use Rattle.std.specs.List.{flat_map}
use Rattle.vx_base.specs.Integers.{byte_width}
use Rattle.vx_base.specs.Selections.{bytes_of_position}
use Rattle.vx_base.proofs.Gathered.{length_gathered, numbers_gathered}
use Rattle.vx_canonical.proofs.concat.numbers.append_picked.Goals as goal

pub returns : goal.returns
returns c =
    let t = c.args.ptype in
    let bs = c.args.bytes.now in
    let ps = c.args.selection.now in
    record {
      bytes = flat_map (bytes_of_position (byte_width t) bs) ps;
      items = c.in_ok-extend_with_numbers.ensures;
      holds = record { len = length_gathered t bs ps c.requires; numbers = numbers_gathered t bs ps c.requires };
    }
