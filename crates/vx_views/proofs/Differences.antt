-- The differences of offsets.
use Rattle.std.proofs.Common.{◌≡◌, ℕ, ℤ, pos, ◌+◌, ◌-◌, ◌<◌, ◌-ℤ◌, List, [], ◌∷◌, ◌++◌, take, Option, Some, None, IfSome, subst, length, map, drop, get_or, sym, ap, ◌∙◌, arith}
use Rattle.std.specs.List.{zip}
use Rattle.std.proofs.lemmas.List.{get_or-drop, get_or-map, length-map, map-append, take_more}
use Rattle.std.proofs.lemmas.Slice.Zip.{get_or-zip, length-zip}
use Rattle.std.proofs.Common.{length-drop}
use Rattle.vx_views.specs.BuildFaults.{differences}
use Rattle.vx_base.specs.Integers.{number_nth}

pub length_differences : (offsets : List ℤ) → length (differences offsets) ≡ length offsets - 1
length_differences offsets = omega (arith, length-map (zip offsets (drop 1 offsets)) (λ pair. pair.1 -ℤ pair.0), length-zip offsets (drop 1 offsets), length-drop 1 offsets)

pub number_at_differences : (offsets : List ℤ) (row : ℕ) → row + 1 < length offsets → number_nth (differences offsets) row ≡ number_nth offsets (row + 1) -ℤ number_nth offsets row
number_at_differences offsets row h =
    get_or-map (λ pair. pair.1 -ℤ pair.0) (zip offsets (drop 1 offsets)) row (pos 0, pos 0) (pos 0) (omega (arith, length-zip offsets (drop 1 offsets), length-drop 1 offsets))
    ∙ ap (λ pair. pair.1 -ℤ pair.0) (get_or-zip offsets (drop 1 offsets) row (pos 0, pos 0) (omega arith) (omega (arith, length-drop 1 offsets)))
    ∙ ap (λ z. z -ℤ number_nth offsets row) (get_or-drop 1 offsets row (pos 0) ∙ ap (λ i. get_or offsets i (pos 0)) (omega arith))

pub IfSome-at : {X : Type 0} (P : X → Type 0) (found : Option X) (x : X) → found ≡ Some x → IfSome found P → P x
IfSome-at P None x e h = cc
IfSome-at P (Some y) x e h = let same : y ≡ x = cc in subst P same h

-- one more of the numbers is made
pub made_more : {X : Type 0} (value : X → ℤ) (items more : List X) (x : X) (numbers : List ℤ) (row : ℕ) → more ≡ items ++ x ∷ [] → map value items ≡ take row numbers → row < length numbers → value x ≡ number_nth numbers row → map value more ≡ take (row + 1) numbers
made_more value items more x numbers row pushed before h is =
    ap (map value) pushed ∙ map-append value items (x ∷ []) ∙ ap (λ front. front ++ value x ∷ []) before ∙ ap (λ z. take row numbers ++ z ∷ []) is ∙ sym (take_more numbers row (pos 0) h)
