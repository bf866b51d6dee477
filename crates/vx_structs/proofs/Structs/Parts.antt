-- Columns as trees and as a list: the same columns, as many of them, as long.
use Rattle.std.proofs.Common.{◌≡◌, ◌<◌, ℕ, Bool, true, List, [], ◌∷◌, length, Some, refl, sym, ap, ◌∙◌, arith}
use Rattle.std.specs.Prelude.{bytes_eq}
use Rattle.std.specs.List.{All}
use Rattle.std.proofs.lemmas.List.Elements.{All-nil, All-cons, All-head, All-tail}
use Rattle.std.proofs.lemmas.List.Quantifiers.{position-Some}
use Rattle.vx_base.specs.Fields.{place_of_name}
use Rattle.vx_base.specs.Kinds.{Kinds, records}
use Rattle.vx_tree.specs.Tree.{Tree, Trees, no_trees, tree, structure, Valid}
use Rattle.vx_tree.specs.Layouts.{is_struct}
use Rattle.vx_tree.specs.Meaning.{tree_len, kind_of, kinds_of, trees_from}
use Rattle.vx_tree.specs.Formed.{AllLen, WellFormed, column_count}
use Rattle.vx_tree.proofs.Columns.{column_count-trees_from}
use Rattle.vx_canonical.proofs.JoinedParts.{columns-kinds}
use Rattle.vx_structs.specs.Structs.{column_list, columns_of}

pub column_list-from : (columns : List Tree) → column_list (trees_from columns) ≡ columns
column_list-from [] = refl
column_list-from (t ∷ ts) = ap (λ rest. t ∷ rest) (column_list-from ts)

pub trees_from-list : (columns : Trees) → trees_from (column_list columns) ≡ columns
trees_from-list no_trees = refl
trees_from-list (tree t ts) = ap (tree t) (trees_from-list ts)

pub length-list : (columns : Trees) → length (column_list columns) ≡ column_count columns
length-list columns = sym (column_count-trees_from (column_list columns)) ∙ ap column_count (trees_from-list columns)

pub each_len : (n : ℕ) (columns : List Tree) → AllLen n (trees_from columns) → All (λ t. tree_len t ≡ n) columns
each_len n [] lens = All-nil (λ t. tree_len t ≡ n)
each_len n (t ∷ ts) lens = All-cons (λ u. tree_len u ≡ n) t ts lens.0 (each_len n ts lens.1)

pub AllLen-from_each : (n : ℕ) (columns : List Tree) → All (λ t. tree_len t ≡ n) columns → AllLen n (trees_from columns)
AllLen-from_each n [] each = tt
AllLen-from_each n (t ∷ ts) each =
    (All-head (λ u. tree_len u ≡ n) t ts each, AllLen-from_each n ts (All-tail (λ u. tree_len u ≡ n) t ts each))

-- the columns of records that have these
pub columns_of-parts : (t : Tree) (names : List (List ℕ)) (columns : List Tree) (v : Valid) (n : ℕ) → t ≡ structure names (trees_from columns) v n → columns_of t ≡ columns
columns_of-parts t names columns v n same = ap columns_of same ∙ column_list-from columns

pub field_kinds_are : (t : Tree) (names : List (List ℕ)) (ks : Kinds) (n : Bool) → is_struct t ≡ true → kind_of t ≡ records names ks n → ks ≡ kinds_of (trees_from (columns_of t))
field_kinds_are (structure ns ts v m) names ks n here same =
    sym (columns-kinds (structure ns ts v m) names ks n here same) ∙ ap kinds_of (sym (trees_from-list ts))
field_kinds_are _ names ks n here same = cc

-- the place of a name is that of a column
pub place_of_column : (names : List (List ℕ)) (columns : List Tree) (v : Valid) (n : ℕ) (name : List ℕ) (place : ℕ)
    → WellFormed (structure names (trees_from columns) v n) → place_of_name names name ≡ Some place → place < length columns
place_of_column names columns v n name place formed found =
    let inside = (position-Some (λ other. bytes_eq other name) names place [] found).0 in
    omega (arith, inside, formed.1.named, column_count-trees_from columns)
