use Rattle.std.proofs.Common.{◌≡◌, ◌∙◌, ◌++◌, List, ℕ, take, drop, refl, ap, rules}
use Rattle.std.specs.List.{flat_map}
use Rattle.vx_pack.specs.CountBytes.{counts_of}
use Rattle.vx_pack.proofs.NarrowCounts.{of_up_to, up_to_of}
use Rattle.vx_pack.proofs.list_counts.push_block.Goals as goal

pub returns : goal.returns
returns g c = λ ns h.
    let old = c.args.counts.now in
    let total = old.total in
    let ms : List ℕ = take c.args.count (drop c.args.first (counts_of g.T.NativePType.PTYPE c.args.sizes.now)) in
    let os : List ℕ = old.offsets.items ++ flat_map (λ b. b) (take c.args.count c.put_narrow-next.new.offsets) in
    let ss : List ℕ = old.sizes.items ++ flat_map (λ b. b) (take c.args.count c.put_narrow-next.new.lens) in
    let offsets : c.extend_from_slice.new.self.items ≡ os =
    c.in_ok-extend_from_slice.ensures.items ∙ ap (λ bs. old.offsets.items ++ bs) c.as_flattened.ensures.value in
    let sizes : c.extend_from_slice-2.new.self.items ≡ ss =
    c.in_ok-extend_from_slice-2.ensures.items ∙ ap (λ bs. old.sizes.items ++ bs) c.as_flattened-2.ensures.value in
    of_up_to total c.put_narrow-next.result (ns ++ ms) os ss _ c.requires.fits refl refl offsets sizes
    (c.put_narrow-next.ensures ns old.offsets.items old.sizes.items (up_to_of total ns old c.requires.fits h))
