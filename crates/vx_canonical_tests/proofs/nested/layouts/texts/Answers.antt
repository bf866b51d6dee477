use Rattle.std.proofs.Common.{ℕ, zero, suc, ◌<◌, ◌≡◌, true, false, List, [], ◌∷◌, replicate, refl, ◌∙◌, arith}
use Rattle.std.specs.Prelude.{slice_index_or}
use Rattle.vx_base.specs.Bits.{bool_at}
use Rattle.vx_tree.proofs.ViewArrays.{empty_is_zeroes}
use Rattle.vx_canonical_tests.proofs.nested.layouts.texts.Goals as goal

-- the second row alone is null
second : (a b x y z : List ℕ) → b ≡ replicate 16 0 → (i : ℕ) → i < 5 → bool_at (true ∷ false ∷ true ∷ true ∷ true ∷ []) i ≡ false → slice_index_or (a ∷ b ∷ x ∷ y ∷ z ∷ []) i [] ≡ replicate 16 0
second a b x y z e zero l h = cc
second a b x y z e (suc zero) l h = e
second a b x y z e (suc (suc zero)) l h = cc
second a b x y z e (suc (suc (suc zero))) l h = cc
second a b x y z e (suc (suc (suc (suc zero)))) l h = cc
second a b x y z e (suc (suc (suc (suc (suc i))))) l h = absurd (omega arith)

pub from_parts-requires : goal.from_parts-requires
from_parts-requires c =
    let mask = c.in_ok-mask.ensures ∙ c.in_ok-from_bools.ensures.bits in
    let sound = rw (mask, c.deref.ensures.value) at c.in_ok-check_views.ensures.sound in
    rw (c.in_ok-bools.ensures, c.in_ok-views.ensures) (
      record { len = refl; kind = refl },
      record {
        kind = refl;
        sound = λ i l h. sound i l h;
        zeroes = λ i l h. second c.make_view.result c.empty_view.result c.make_view-2.result c.make_view-3.result c.make_view-4.result (c.empty_view.ensures ∙ empty_is_zeroes) i l h;
      },
    )
