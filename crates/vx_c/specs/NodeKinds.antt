-- The number of each kind of node, and of each validity.
use Rattle.std.specs.Prelude.{ℕ, Bool, true, false, List, [], ◌∷◌, Option, slice_get}
use Rattle.vx_base.specs.declared.ptypes.PType.TheVariants.{U8, U16, U32, U64, I8, I16, I32, I64}
use Rattle.vx_c.specs.declared.table.NodeKind.{NodeKind}
use Rattle.vx_tree.specs.Tree.{Valid, non_nullable, all_valid, all_invalid, by_array}
use Rattle.vx_c.specs.declared.table.NodeKind.TheVariants.{Bool as bool_kind, Number, Utf8, Binary, Dictionary, FixedSizeList, ListView, Struct}

abbrev pub kinds : List NodeKind
kinds =
    bool_kind ∷ Number U8 ∷ Number U16 ∷ Number U32 ∷ Number U64 ∷ Number I8 ∷ Number I16 ∷ Number I32 ∷ Number I64
    ∷ Utf8 ∷ Binary ∷ Dictionary ∷ FixedSizeList ∷ ListView ∷ Struct ∷ []

-- the kind of a number, if there is one
abbrev pub kind_numbered : ℕ → Option NodeKind
kind_numbered n = slice_get kinds n

-- the number of a kind
abbrev pub kind_number : NodeKind → ℕ
kind_number bool_kind = 0
kind_number (Number U8) = 1
kind_number (Number U16) = 2
kind_number (Number U32) = 3
kind_number (Number U64) = 4
kind_number (Number I8) = 5
kind_number (Number I16) = 6
kind_number (Number I32) = 7
kind_number (Number I64) = 8
kind_number Utf8 = 9
kind_number Binary = 10
kind_number Dictionary = 11
kind_number FixedSizeList = 12
kind_number ListView = 13
kind_number Struct = 14

-- the kind of texts, else of byte lists
abbrev pub view_kind : Bool → NodeKind
view_kind true = Utf8
view_kind false = Binary

-- the number of a validity
abbrev pub valid_number : Valid → ℕ
valid_number non_nullable = 0
valid_number all_valid = 1
valid_number all_invalid = 2
valid_number (by_array t) = 3
