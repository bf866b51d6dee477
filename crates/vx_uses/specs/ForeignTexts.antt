-- Texts by parts from outside.
use Rattle.std.specs.Prelude.{◌≡◌, ◌<◌, ℕ, List, [], length, slice_index_or, if◌then◌else◌, Option, Some, None, String, string_bytes}
use Rattle.std.specs.Global.{Global}
use Rattle.std.specs.Option.{option_map}
use Rattle.vx_base.specs.Kinds.{texts}
use Rattle.vx_base.specs.Refusals.{Refusal}
use Rattle.vx_tree.specs.Meaning.{is_valid_at, nullable}
use Rattle.vx_tree.specs.Tree.{Valid}
use Rattle.vx_views.specs.Views.{view_value}
use Rattle.vx_text.specs.TextFaults.{view_array_fault}

-- the text of a row: the value of its view, none where the validity is false
abbrev pub foreign_text : List (List ℕ) → List (List ℕ) → Valid → ℕ → Option (List ℕ)
foreign_text views buffers v row = if is_valid_at v row then Some (view_value buffers (slice_index_or views row [])) else None

-- the bytes of a text, if there is one
abbrev pub text_bytes : Option (String Global) → Option (List ℕ)
text_bytes found = option_map string_bytes found

-- these are the texts of all rows, in order
pub record AreForeignTexts (views buffers : List (List ℕ)) (v : Valid) (found : List (Option (String Global))) : Type 0 where
  pub len : length found ≡ length views
  pub each : (row : ℕ) → row < length views → text_bytes (slice_index_or found row None) ≡ foreign_text views buffers v row

-- the first fault of texts by these parts, null standing where the validity has it stand
abbrev pub foreign_fault : List (List ℕ) → List (List ℕ) → Valid → Option Refusal
foreign_fault views buffers v = view_array_fault views buffers (texts (nullable v)) v
