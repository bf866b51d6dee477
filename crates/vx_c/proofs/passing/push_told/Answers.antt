use Rattle.std.proofs.Common.{◌≡◌, length, reverse, subst, sym, arith}
use Rattle.std.specs.Prelude.{Some, ◌-ℤ◌}
use Rattle.std.proofs.lemmas.List.{length-map}
use Rattle.vx_base.specs.Integers.{numbers, number_nth}
use Rattle.vx_views.specs.BuildFaults.{differences}
use Rattle.vx_views.proofs.Differences.{length_differences}
use Rattle.vx_c.specs.declared.parts.Part.TheVariants.{Starts, Sizes}
use Rattle.vx_c.specs.Parts.{IsDescribed}
use Rattle.vx_c.specs.Spans.{starts_of}
use Rattle.vx_c.specs.Tables.{node_made}
use Rattle.vx_c.specs.Told.{told_by}
use Rattle.vx_c.proofs.NodesPassed.{told_numbers, told_texts, told_values}
use Rattle.vx_c.proofs.passing.push_told.Goals as goal

pub returns-then-are_texts_between-clause-told : goal.returns-then-are_texts_between-clause-told
returns-then-are_texts_between-clause-told c = λ ok told ts shows described.
    let n = c.args.node.now in
    told_texts c.in-Utf8.ptype n told (subst (λ k. told_by (Some k) n told) c.in-Utf8.is shows) (c.are_texts_between.ensures.texts c.if-are_texts_between.true)
    (reverse c.push_values.new.parts.items) ts (c.push_values.ensures ok ts described)

pub returns-then-are_values_between-clause-told : goal.returns-then-are_values_between-clause-told
returns-then-are_values_between-clause-told c = λ ok told ts shows described.
    let n = c.args.node.now in
    told_values c.in-Binary.ptype n told (subst (λ k. told_by (Some k) n told) c.in-Binary.is shows)
    (reverse c.push_values-then-are_values_between.new.parts.items) ts (c.push_values-then-are_values_between.ensures ok ts described)

pub returns-then-number_count-node-clause-told : goal.returns-then-number_count-node-clause-told
returns-then-number_count-node-clause-told c = λ ok told ts shows described.
    let n = c.args.node.now in
    let t = c.in-Starts.ptype in
    let zs = numbers t n.bytes.now in
    let long : length (starts_of zs) ≡ n.length = omega (arith, length-map zs (λ z. z -ℤ number_nth zs 0), c.number_count.ensures, c.if-number_count-node.true) in
    subst (λ ps. IsDescribed ps (node_made told ts)) (sym (c.push.ensures ok))
    (told_numbers (starts_of zs) n told (subst (λ k. told_by (Some k) n told) c.in-Starts.is shows) long (Starts t n.bytes) (λ u has. has) (reverse c.args.parts.now.items) ts described)

pub returns-then-has_one_more-clause-told : goal.returns-then-has_one_more-clause-told
returns-then-has_one_more-clause-told c = λ ok told ts shows described.
    let n = c.args.node.now in
    let t = c.in-Sizes.ptype in
    let zs = numbers t n.bytes.now in
    let long : length (differences zs) ≡ n.length = omega (arith, length_differences zs, c.has_one_more.ensures c.if-has_one_more.true) in
    subst (λ ps. IsDescribed ps (node_made told ts)) (sym (c.push-then-has_one_more.ensures ok))
    (told_numbers (differences zs) n told (subst (λ k. told_by (Some k) n told) c.in-Sizes.is shows) long (Sizes t n.bytes) (λ u has. has) (reverse c.args.parts.now.items) ts described)
