use Rattle.std.proofs.Common.{rules, ◌∙◌, ap, map}
use Rattle.std.specs.Prelude.{pos, unsigned_abs}
use Rattle.std.proofs.lemmas.Iterator.{YieldsList-from_map, items_from_collect}
use Rattle.std.proofs.lemmas.Iterator.Consumers.{YieldsList-at}
use Rattle.std.proofs.lemmas.Result.{IfOk-at_ok}
use Rattle.vx_base.specs.Integers.{byte_width, numbers}
use Rattle.vx_base.proofs.NumberChunks.{numbers_from_chunks}
use Rattle.vx_base.proofs.Positions.{sizes_of}
use Rattle.vx_base.proofs.counts.read_native.Goals as goal

pub returns : goal.returns
returns g c =
    let t = g.T.NativePType.PTYPE in
    let wide = c.chunks_exact-places.ensures.size ∙ c.byte_width-width.ensures ∙ ap byte_width c.PTYPE.ensures in
    let places = YieldsList-at c.map.ensures.source (numbers_from_chunks t c.args.bytes.now c.chunks_exact-places.ensures.rest wide) in
    let read = IfOk-at_ok _ c.in_ok-collect.was (items_from_collect _ c.collect.ensures.ran (YieldsList-from_map _ unsigned_abs places c.map.ensures.closure (λ x r q k. search rules))) in
    ap (map pos) read ∙ sizes_of (numbers t c.args.bytes.now) c.requires
