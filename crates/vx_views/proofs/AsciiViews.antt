-- Bytes below 128 of a value that a view holds are told by how many stand at the front of the view.
use Rattle.std.proofs.Common.{◌≡◌, ℕ, zero, suc, ◌+◌, ◌-◌, ◌*◌, ◌<◌, ◌≤◌, ◌↔◌, List, [], ◌∷◌, get_or, take, drop, inl, inr, arith}
use Rattle.std.specs.Prelude.{nat_le, IsTrue}
use Rattle.std.specs.Str.{IsAscii}
use Rattle.std.proofs.lemmas.Bool.{cases_lt, leb-true, le-leb}
use Rattle.std.proofs.lemmas.List.{get_or-drop, get_or-take}
use Rattle.vx_views.specs.Views.{number_le, view_size, held_value}
use Rattle.vx_views.specs.declared.view.TheConstants.{MAX_INLINED_SIZE}

take_ascii : (n : ℕ) (bs : List ℕ) → ((k : ℕ) → k < n → get_or bs k 0 < 128) → IsAscii (take n bs)
take_ascii zero bs low k = omega arith
take_ascii (suc n) [] low k = omega arith
take_ascii (suc n) (b ∷ bs) low zero = low 0 (omega arith)
take_ascii (suc n) (b ∷ bs) low (suc k) = take_ascii n bs (λ j inside. low (suc j) (omega arith)) k

digits_of_size : (view : List ℕ) → view_size view ≡ get_or view 0 0 + 256 * get_or view 1 0 + 65536 * get_or view 2 0 + 16777216 * get_or view 3 0
unfolding number_le
digits_of_size view =
    omega (arith, get_or-take 4 view 0 0 (omega arith), get_or-take 4 view 1 0 (omega arith), get_or-take 4 view 2 0 (omega arith), get_or-take 4 view 3 0 (omega arith))

-- the length of a value that a view holds has bytes below 128 too
low_lengths : (view : List ℕ) → view_size view ≤ MAX_INLINED_SIZE → (n : ℕ) → n < 4 → get_or view n 0 < 128
low_lengths view inlined zero h = omega (arith, inlined, digits_of_size view)
low_lengths view inlined (suc zero) h = omega (arith, inlined, digits_of_size view)
low_lengths view inlined (suc (suc zero)) h = omega (arith, inlined, digits_of_size view)
low_lengths view inlined (suc (suc (suc zero))) h = omega (arith, inlined, digits_of_size view)
low_lengths view inlined (suc (suc (suc (suc n)))) h = absurd (omega arith)

module _ (view : List ℕ) (inlined : view_size view ≤ MAX_INLINED_SIZE) (n : ℕ) (before : (i : ℕ) → i < n → get_or view i 0 < 128) (stop : n < 16 → 128 ≤ get_or view n 0) where
  held_ascii : 4 + view_size view ≤ n → IsAscii (held_value view)
  held_ascii enough =
      let size : 4 + view_size view - 4 ≡ view_size view = omega arith in
      rw size (take_ascii (view_size view) (drop 4 view) (λ k inside. omega (arith, get_or-drop 4 view k 0, before (4 + k) (omega arith))))

  held_high : n < 4 + view_size view → IsAscii (held_value view) → ⊥
  held_high below ascii =
      elim (cases_lt n 4) [
        | inl front ↦ absurd (omega (arith, stop (omega arith), low_lengths view inlined n front))
        | inr behind ↦
            let same : 4 + (n - 4) ≡ n = omega arith in
            absurd (omega (arith, stop (omega arith), ascii (n - 4), get_or-take (4 + view_size view - 4) (drop 4 view) (n - 4) 0 (omega arith), rw same at (get_or-drop 4 view (n - 4) 0)))
      ]

  pub ascii_by_front : IsTrue (nat_le (4 + view_size view) n) ↔ IsAscii (held_value view)
  ascii_by_front = (
    λ told. held_ascii (leb-true (4 + view_size view) n told),
    λ ascii. elim (cases_lt n (4 + view_size view)) [
      | inl below ↦ absurd (held_high below ascii)
      | inr enough ↦ le-leb (4 + view_size view) n enough
    ],
  )
