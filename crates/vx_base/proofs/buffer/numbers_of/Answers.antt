use Rattle.std.proofs.Common.{rules, ◌∙◌, ap}
use Rattle.std.proofs.lemmas.Iterator.{YieldsList-from_map_by}
use Rattle.std.proofs.lemmas.Iterator.Consumers.{YieldsList-at, map_from_collect}
use Rattle.std.proofs.lemmas.Result.{IfOk-at_ok}
use Rattle.std.proofs.lemmas.List.{map-id}
use Rattle.vx_base.specs.Integers.{byte_width}
use Rattle.vx_base.proofs.NumberChunks.{numbers_from_chunks}
use Rattle.vx_base.proofs.buffer.numbers_of.Goals as goal

pub returns : goal.returns
returns g c =
    let t = g.T.NativePType.PTYPE in
    let wide = c.chunks_exact-places.ensures.size ∙ c.byte_width-width.ensures ∙ ap byte_width c.PTYPE.ensures in
    let places = YieldsList-at c.map.ensures.source (numbers_from_chunks t c.args.bytes.now c.chunks_exact-places.ensures.rest wide) in
    IfOk-at_ok _ c.in_ok-collect.was (map_from_collect _ c.collect.ensures.ran (YieldsList-from_map_by _ g.T.Number.value (λ z. z) places c.map.ensures.closure (λ x r q k. search rules))) ∙ map-id _
