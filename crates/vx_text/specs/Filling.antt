-- Buffers while values are put into them, one after another.
use Rattle.std.specs.Prelude.{◌≡◌, ◌+◌, ◌<◌, ◌^◌, ℕ, List, [], ◌∷◌, ◌++◌, length, nat_le, nat_lt, if◌then◌else◌}
use Rattle.vx_views.specs.Views.{view_of}
use Rattle.vx_views.specs.declared.view.TheConstants.{MAX_BUFFER_LEN}

-- the buffers that are full, the bytes of the last one, and the views of the values
pub record Filling : Type 0 where
  pub full : List (List ℕ)
  pub last : List ℕ
  pub views : List (List ℕ)

abbrev pub filling : List (List ℕ) → List ℕ → List (List ℕ) → Filling
filling full last views = record { full = full; last = last; views = views }

-- one view more
abbrev pub viewed : Filling → List ℕ → Filling
viewed f view = filling f.full f.last (f.views ++ view ∷ [])

-- the last buffer has room for so many bytes more: it is another one where it had not
abbrev pub with_room : Filling → ℕ → Filling
with_room f size = if nat_le (length f.last + size) MAX_BUFFER_LEN then f else filling (f.full ++ f.last ∷ []) [] f.views

-- a value is put at the end of the last buffer, and its view names the place, where u32 has the buffer's number
pub record IsPut (f : Filling) (value : List ℕ) (g : Filling) : Type 0 where
  pub number : ℕ
  pub numbered : length f.full < 2 ^ 32 → number ≡ length f.full
  pub is : g ≡ filling f.full (f.last ++ value) (f.views ++ view_of value number (length f.last) ∷ [])

-- all buffers, the last one too where it has bytes
abbrev pub all_buffers : Filling → List (List ℕ)
all_buffers f = if nat_lt 0 (length f.last) then f.full ++ f.last ∷ [] else f.full
