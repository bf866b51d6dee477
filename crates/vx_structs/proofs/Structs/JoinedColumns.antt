-- Arrays of records, one after another: each column is that column of all of them.
use Rattle.std.proofs.Common.{ℕ, zero, suc, ◌+◌, ◌<◌, ◌≡◌, ◌++◌, true, List, [], ◌∷◌, length, map, take, get_or, None, refl, sym, ◌∙◌, ap, arith}
use Rattle.std.specs.Borrow.{Bor}
use Rattle.std.specs.List.{All, AllZip, flat_map}
use Rattle.std.proofs.lemmas.List.{take_more, map-append}
use Rattle.std.proofs.lemmas.List.Elements.{All-head, All-tail}
use Rattle.std.proofs.lemmas.List.Folds.{flat_map-map}
use Rattle.vx_tree.specs.Tree.{Tree, constant, dictionary, structure, view_array, Trees, no_trees, tree}
use Rattle.vx_tree.specs.Meaning.{kind_of, rows}
use Rattle.vx_tree.specs.Plain.{IsPlain}
use Rattle.vx_tree.specs.Extents.{Extent, extent_of, joined_extent}
use Rattle.vx_canonical.specs.Canonical.{IsCanonicalWithin, AreCanonicalWithin}
use Rattle.vx_canonical.specs.Joined.{column_at, column_of}
use Rattle.vx_canonical.specs.Concatenated.{concat_fault, HasNumbersOf}
use Rattle.vx_canonical.proofs.CanonicalArrays.{rows_canonical}
use Rattle.vx_canonical.proofs.Concatenated.{rows_joined}
use Rattle.vx_structs.specs.Structs.{arrays_of, columns_of, is_struct}
use Rattle.vx_structs.proofs.Structs.Parts.{length-list}

-- ---- arrays that are lent

-- one more that is shared
pub shared-more : (arrays : List (Bor Tree)) (i : ℕ) (a : Bor Tree) (olds news : List Tree) (t : Tree) → i < length arrays → a ≡ get_or arrays i a → olds ≡ arrays_of (take i arrays) → t ≡ a.now → news ≡ olds ++ t ∷ []
    → news ≡ arrays_of (take (i + 1) arrays)
shared-more arrays i a olds news t inside same before here grown =
    let more : take (i + 1) arrays ≡ take i arrays ++ a ∷ [] = take_more arrays i a inside ∙ ap (λ b. take i arrays ++ b ∷ []) (sym same) in
    grown ∙ (λ j. before j ++ here j ∷ []) ∙ sym (map-append (λ b. b.now) (take i arrays) (a ∷ [])) ∙ ap arrays_of (sym more)

-- ---- the layout

struct_of_kind : (t r : Tree) (xs : List Extent) → is_struct t ≡ true → kind_of t ≡ kind_of r → IsPlain r → extent_of r ≡ joined_extent (kind_of r) xs → is_struct r ≡ true
struct_of_kind (structure ns ts v n) (structure ms us w m) xs s e p x = refl
struct_of_kind (structure ns ts v n) (constant k r m) xs s e p x = absurd p
struct_of_kind (structure ns ts v n) (dictionary d u f) xs s e p x = absurd p
struct_of_kind (structure ns ts v n) (view_array vs bs k w) xs s e p x =
    let other = x ∙ ap (λ j. joined_extent j xs) (sym e) in absurd (cc (other))
struct_of_kind (structure ns ts v n) _ xs s e p x = absurd (cc)
struct_of_kind _ r xs s e p x = absurd (cc)

-- what is made of records is a plain array of their kind, and so records
pub records_made : (ts : List Tree) (r : Tree) → All (λ t. is_struct t ≡ true) ts → concat_fault ts ≡ None → All (λ t. kind_of t ≡ kind_of r) ts → IsPlain r
    → extent_of r ≡ joined_extent (kind_of r) (map extent_of ts) → is_struct r ≡ true
records_made [] r are none kinds p x = absurd (cc)
records_made (t ∷ ts) r are none kinds p x =
    struct_of_kind t r (map extent_of (t ∷ ts)) (All-head (λ u. is_struct u ≡ true) t ts are) (All-head (λ u. kind_of u ≡ kind_of r) t ts kinds) p x

-- ---- columns

-- a column in plain layout, also where there is none
column_rows : (ts us : Trees) (k : ℕ) → AreCanonicalWithin ts us → rows (column_at us k) ≡ rows (column_at ts k)
column_rows no_trees no_trees k h = refl
column_rows no_trees (tree u us) k h = absurd h
column_rows (tree t ts) no_trees k h = absurd h
column_rows (tree t ts) (tree u us) zero h = rows_canonical t u h.0
column_rows (tree t ts) (tree u us) (suc k) h = column_rows ts us k h.2

plain_column : (k : ℕ) (t p : Tree) → is_struct t ≡ true → IsCanonicalWithin t p → rows (column_of k p) ≡ rows (column_of k t)
plain_column k (structure ns ts v n) (structure ms us w m) s h = column_rows ts us k h
plain_column k (structure ns ts v n) _ s h = absurd h
plain_column k _ p s h = absurd (cc)

plain_columns : (k : ℕ) (ts ps : List Tree) → All (λ t. is_struct t ≡ true) ts → AllZip IsCanonicalWithin ts ps → flat_map (λ p. rows (column_of k p)) ps ≡ flat_map (λ t. rows (column_of k t)) ts
plain_columns k [] [] are h = refl
plain_columns k [] (p ∷ ps) are h = absurd h
plain_columns k (t ∷ ts) [] are h = absurd h
plain_columns k (t ∷ ts) (p ∷ ps) are h =
    let here = plain_column k t p (All-head (λ u. is_struct u ≡ true) t ts are) h.0 in
    let rest = plain_columns k ts ps (All-tail (λ u. is_struct u ≡ true) t ts are) h.1 in
    λ i. here i ++ rest i

pub columns_concatenated : (ts : List Tree) (r : Tree) → All (λ t. is_struct t ≡ true) ts → is_struct r ≡ true → HasNumbersOf ts r → (k : ℕ) → k < length (columns_of r) → rows (column_of k r) ≡ flat_map (λ t. rows (column_of k t)) ts
columns_concatenated ts (structure ns us v n) are s h k l =
    rows_joined (kind_of (column_at us k)) (map (column_of k) h.plain) (column_at us k) (h.numbers.0.each k (omega (arith, length-list us)))
    ∙ flat_map-map rows (column_of k) h.plain
    ∙ plain_columns k ts h.plain are h.within
columns_concatenated ts _ are s h k l = absurd (cc)
