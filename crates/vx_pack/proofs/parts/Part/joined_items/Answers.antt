use Rattle.std.proofs.lemmas.Option.{IfSome_then}
use Rattle.vx_pack.proofs.JoinedRuns.{all_items_of_stored}
use Rattle.vx_pack.proofs.parts.Part.joined_items.Goals as goal

pub returns-in-Some : goal.returns-in-Some
returns-in-Some c =
    IfSome_then c.joined.result c.joined.ensures (λ p h item k blank of_item blanks whole.
    all_items_of_stored item k blank c.args.self p c.in-Some.lists (c.in-Some.ensures.lists item k of_item whole) h)
