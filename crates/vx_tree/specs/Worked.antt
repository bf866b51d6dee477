-- Small arrays of each layout, with the rows that they have, worked by hand.
use Rattle.std.specs.Prelude.{ℕ, pos, negsuc, Bool, true, false, List, [], ◌∷◌, codes, Option, Some, None}
use Rattle.vx_base.specs.Rows.{Row, null, boolean, whole, text, bytes, items, record_of, no_rows, row, no_fields, field}
use Rattle.vx_base.specs.Kinds.{lists, integers, texts, binaries}
use Rattle.vx_base.specs.declared.ptypes.PType.TheVariants.{U8, U32, I8, I16}
use Rattle.vx_tree.specs.Tree.{Tree, bools, primitive, constant, dictionary, fixed_list, list_view, structure}
use Rattle.vx_tree.specs.Tree.{view_array, no_trees, tree, Valid, non_nullable, all_invalid, by_array}

-- ---- parts

-- the rows that are valid, one by one
abbrev pub valid_where : List Bool → Valid
valid_where valid = by_array (bools 0 valid non_nullable)

-- numbers of one byte, none of them null
abbrev pub small_numbers : List ℕ → Tree
small_numbers bs = primitive U8 bs non_nullable

-- a number as a row
abbrev pub count : ℕ → Row
count n = whole (pos n)

-- a list of two numbers as a row
abbrev pub pair : ℕ → ℕ → Row
pair a b = items (row (count a) (row (count b) no_rows))

-- ---- numbers, booleans, a constant

-- two numbers of two bytes, the lower byte first
abbrev pub signed_numbers : Tree
signed_numbers = primitive I16 (254 ∷ 255 ∷ 1 ∷ 2 ∷ []) non_nullable

abbrev pub signed_rows : List Row
signed_rows = whole (negsuc 1) ∷ count 513 ∷ []

-- booleans that begin at the third bit of their first byte
abbrev pub some_booleans : Tree
some_booleans = bools 2 (true ∷ true ∷ false ∷ []) (valid_where (true ∷ false ∷ true ∷ []))

abbrev pub some_boolean_rows : List Row
some_boolean_rows = boolean true ∷ null ∷ boolean false ∷ []

-- under this validity every row is null
abbrev pub all_null : Tree
all_null = primitive U8 (7 ∷ 8 ∷ []) all_invalid

abbrev pub all_null_rows : List Row
all_null_rows = null ∷ null ∷ []

-- one row, three times
abbrev pub same_pair : Tree
same_pair = constant (lists (integers U8 false) false) (pair 5 6) 3

abbrev pub same_pair_rows : List Row
same_pair_rows = pair 5 6 ∷ pair 5 6 ∷ pair 5 6 ∷ []

-- ---- a dictionary

-- the codes 0, null, 2, null, 1 into the values null, 6, 9: a code may be null, and a value
abbrev pub dictionary_with_nulls : Tree
dictionary_with_nulls =
    dictionary (primitive U8 (0 ∷ 0 ∷ 2 ∷ 0 ∷ 1 ∷ []) (valid_where (true ∷ false ∷ true ∷ false ∷ true ∷ [])))
    (primitive U8 (0 ∷ 6 ∷ 9 ∷ []) (valid_where (false ∷ true ∷ true ∷ []))) false

abbrev pub dictionary_rows : List Row
dictionary_rows = null ∷ null ∷ count 9 ∷ null ∷ count 6 ∷ []

-- ---- lists

-- three lists of no elements
abbrev pub empty_lists : Tree
empty_lists = fixed_list (small_numbers []) 0 non_nullable 3

abbrev pub empty_list_rows : List Row
empty_list_rows = items no_rows ∷ items no_rows ∷ items no_rows ∷ []

-- the numbers 1 to 4
abbrev pub one_to_four : Tree
one_to_four = small_numbers (1 ∷ 2 ∷ 3 ∷ 4 ∷ [])

-- two lists of two elements, the first of them null
abbrev pub pairs : Tree
pairs = fixed_list one_to_four 2 (valid_where (false ∷ true ∷ [])) 2

abbrev pub pair_rows : List Row
pair_rows = null ∷ pair 3 4 ∷ []

-- 2, 0, 1 as offsets
abbrev pub scattered_offsets : Tree
scattered_offsets = primitive U32 (2 ∷ 0 ∷ 0 ∷ 0 ∷ 0 ∷ 0 ∷ 0 ∷ 0 ∷ 1 ∷ 0 ∷ 0 ∷ 0 ∷ []) non_nullable

-- 2, 1, 2 as sizes
abbrev pub mixed_sizes : Tree
mixed_sizes = primitive U32 (2 ∷ 0 ∷ 0 ∷ 0 ∷ 1 ∷ 0 ∷ 0 ∷ 0 ∷ 2 ∷ 0 ∷ 0 ∷ 0 ∷ []) non_nullable

-- lists out of order, that overlap
abbrev pub overlapping_lists : Tree
overlapping_lists = list_view one_to_four scattered_offsets mixed_sizes non_nullable false

abbrev pub overlapping_rows : List Row
overlapping_rows = pair 3 4 ∷ items (row (count 1) no_rows) ∷ pair 2 3 ∷ []

-- the last of those lists, none, and the first
abbrev pub last_none_first : List (Option ℕ)
last_none_first = Some 2 ∷ None ∷ Some 0 ∷ []

abbrev pub taken_rows : List Row
taken_rows = pair 2 3 ∷ null ∷ pair 3 4 ∷ []

-- ---- records

-- a number and a boolean, under the names a and b
abbrev pub some_records : Tree
some_records =
    structure (codes "a" ∷ codes "b" ∷ []) (tree (small_numbers (1 ∷ 2 ∷ []))
    (tree (bools 0 (true ∷ false ∷ []) non_nullable) no_trees)) (valid_where (false ∷ true ∷ [])) 2

abbrev pub record_rows : List Row
record_rows = null ∷ record_of (field (codes "a") (count 2) (field (codes "b") (boolean false) no_fields)) ∷ []

-- ---- texts and bytes

-- the view that holds "abc" itself
abbrev pub view_of_abc : List ℕ
view_of_abc = 3 ∷ 0 ∷ 0 ∷ 0 ∷ 97 ∷ 98 ∷ 99 ∷ 0 ∷ 0 ∷ 0 ∷ 0 ∷ 0 ∷ 0 ∷ 0 ∷ 0 ∷ 0 ∷ []

-- the view of the 13 bytes from place 2 on of buffer 1
abbrev pub view_of_thirteen : List ℕ
view_of_thirteen = 13 ∷ 0 ∷ 0 ∷ 0 ∷ 97 ∷ 32 ∷ 108 ∷ 111 ∷ 1 ∷ 0 ∷ 0 ∷ 0 ∷ 2 ∷ 0 ∷ 0 ∷ 0 ∷ []

abbrev pub two_buffers : List (List ℕ)
two_buffers = codes "unread" ∷ codes "..a longer text." ∷ []

-- the view of a null row
abbrev pub null_view : List ℕ
null_view = 0 ∷ 0 ∷ 0 ∷ 0 ∷ 0 ∷ 0 ∷ 0 ∷ 0 ∷ 0 ∷ 0 ∷ 0 ∷ 0 ∷ 0 ∷ 0 ∷ 0 ∷ 0 ∷ []

abbrev pub some_texts : Tree
some_texts = view_array (view_of_abc ∷ view_of_thirteen ∷ null_view ∷ []) two_buffers (texts true)
    (valid_where (true ∷ true ∷ false ∷ []))

abbrev pub text_rows : List Row
text_rows = text (codes "abc") ∷ text (codes "a longer text") ∷ null ∷ []

abbrev pub some_bytes : Tree
some_bytes = view_array (view_of_abc ∷ []) [] (binaries false) non_nullable

abbrev pub bytes_rows : List Row
bytes_rows = bytes (codes "abc") ∷ []

-- ---- indices

-- the indices 0, 5, -1
abbrev pub faulty_indices : Tree
faulty_indices = primitive I8 (0 ∷ 5 ∷ 255 ∷ []) non_nullable

-- the indices 0, -1, 5
abbrev pub negative_indices : Tree
negative_indices = primitive I8 (0 ∷ 255 ∷ 5 ∷ []) non_nullable

-- the indices null (of the number 5), 0
abbrev pub null_indices : Tree
null_indices = primitive I8 (5 ∷ 0 ∷ []) (valid_where (false ∷ true ∷ []))
