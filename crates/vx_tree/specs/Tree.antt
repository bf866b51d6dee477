-- An array as the tree of its parts, with no pointers.
use Rattle.std.specs.Prelude.{◌≡◌, ◌+◌, max, ℕ, Bool, List, refl}
use Rattle.std.proofs.Common.{ap, arith}
use base.Stored.{Gv, gnil, gnum, gcons, Coded, coded_ℕ, coded_bool, coded_list}
use Rattle.vx_base.specs.declared.ptypes.PType.{PType}
use Rattle.vx_base.specs.Rows.{Row}
use Rattle.vx_base.specs.Kinds.{Kind}
use Rattle.vx_base.specs.Codes.{first, rest, tag, number, code_type, code_type-inj, code_row, code_row-inj, code_kind, code_kind-inj}

mutual
  -- the eight layouts
  pub data Tree : Type 0 where
    -- the bit of the first byte at which the booleans begin, booleans, validity
    bools : ℕ → List Bool → Valid → Tree
    -- integer type, bytes, validity
    primitive : PType → List ℕ → Valid → Tree
    -- data type, the one row, how often
    constant : Kind → Row → ℕ → Tree
    -- codes, values, whether every value is referenced
    dictionary : Tree → Tree → Bool → Tree
    -- elements, size of each list, validity, number of lists
    fixed_list : Tree → ℕ → Valid → ℕ → Tree
    -- elements, offsets, sizes, validity, whether the lists are consecutive
    list_view : Tree → Tree → Tree → Valid → Bool → Tree
    -- names, columns, validity, number of records
    structure : List (List ℕ) → Trees → Valid → ℕ → Tree
    -- views, buffers, data type, validity
    view_array : List (List ℕ) → List (List ℕ) → Kind → Valid → Tree

  pub data Trees : Type 0 where
    no_trees : Trees
    tree : Tree → Trees → Trees

  -- the states of a validity: no null may stand, all rows are valid, none is, or an array tells
  pub data Valid : Type 0 where
    non_nullable : Valid
    all_valid : Valid
    all_invalid : Valid
    by_array : Tree → Valid

-- ---- how the logic stores a tree

abbrev mutual
  pub code_tree : Tree → Gv
  code_tree (bools b bits v) = gcons (gnum 0) (gcons (gnum b) (gcons ((coded_list coded_bool).code bits) (code_valid v)))
  code_tree (primitive t bs v) = gcons (gnum 1) (gcons (code_type t) (gcons ((coded_list coded_ℕ).code bs) (code_valid v)))
  code_tree (constant k r n) = gcons (gnum 2) (gcons (code_kind k) (gcons (code_row r) (gnum n)))
  code_tree (dictionary c v f) = gcons (gnum 3) (gcons (code_tree c) (gcons (code_tree v) (coded_bool.code f)))
  code_tree (fixed_list e k v n) = gcons (gnum 4) (gcons (code_tree e) (gcons (gnum k) (gcons (code_valid v) (gnum n))))
  code_tree (list_view e o s v f) =
      gcons (gnum 5) (gcons (code_tree e) (gcons (code_tree o) (gcons (code_tree s) (gcons (code_valid v) (coded_bool.code f)))))
  code_tree (structure ns ts v n) =
      gcons (gnum 6) (gcons ((coded_list (coded_list coded_ℕ)).code ns) (gcons (code_trees ts) (gcons (code_valid v) (gnum n))))
  code_tree (view_array vs bs k v) =
      gcons (gnum 7) (gcons ((coded_list (coded_list coded_ℕ)).code vs)
      (gcons ((coded_list (coded_list coded_ℕ)).code bs) (gcons (code_kind k) (code_valid v))))

  pub code_trees : Trees → Gv
  code_trees no_trees = gnil
  code_trees (tree t ts) = gcons (code_tree t) (code_trees ts)

  pub code_valid : Valid → Gv
  code_valid non_nullable = gnum 0
  code_valid all_valid = gnum 1
  code_valid all_invalid = gnum 2
  code_valid (by_array t) = gcons gnil (code_tree t)

mutual
  pub code_tree-inj : (x y : Tree) → code_tree x ≡ code_tree y → x ≡ y
  code_tree-inj (bools b bits v) (bools b2 bits2 v2) p =
      λ i. bools
      (ap (λ g. number (first (rest g))) p i)
      ((coded_list coded_bool).inj bits bits2 (ap (λ g. first (rest (rest g))) p) i)
      (code_valid-inj v v2 (ap (λ g. rest (rest (rest g))) p) i)
  code_tree-inj (primitive t bs v) (primitive t2 bs2 v2) p =
      λ i. primitive
      (code_type-inj t t2 (ap (λ g. first (rest g)) p) i)
      ((coded_list coded_ℕ).inj bs bs2 (ap (λ g. first (rest (rest g))) p) i)
      (code_valid-inj v v2 (ap (λ g. rest (rest (rest g))) p) i)
  code_tree-inj (constant k r n) (constant k2 r2 n2) p =
      λ i. constant
      (code_kind-inj k k2 (ap (λ g. first (rest g)) p) i)
      (code_row-inj r r2 (ap (λ g. first (rest (rest g))) p) i)
      (ap (λ g. number (rest (rest (rest g)))) p i)
  code_tree-inj (dictionary c v f) (dictionary c2 v2 f2) p =
      λ i. dictionary
      (code_tree-inj c c2 (ap (λ g. first (rest g)) p) i)
      (code_tree-inj v v2 (ap (λ g. first (rest (rest g))) p) i)
      (coded_bool.inj f f2 (ap (λ g. rest (rest (rest g))) p) i)
  code_tree-inj (fixed_list e k v n) (fixed_list e2 k2 v2 n2) p =
      λ i. fixed_list
      (code_tree-inj e e2 (ap (λ g. first (rest g)) p) i)
      (ap (λ g. number (first (rest (rest g)))) p i)
      (code_valid-inj v v2 (ap (λ g. first (rest (rest (rest g)))) p) i)
      (ap (λ g. number (rest (rest (rest (rest g))))) p i)
  code_tree-inj (list_view e o s v f) (list_view e2 o2 s2 v2 f2) p =
      λ i. list_view
      (code_tree-inj e e2 (ap (λ g. first (rest g)) p) i)
      (code_tree-inj o o2 (ap (λ g. first (rest (rest g))) p) i)
      (code_tree-inj s s2 (ap (λ g. first (rest (rest (rest g)))) p) i)
      (code_valid-inj v v2 (ap (λ g. first (rest (rest (rest (rest g))))) p) i)
      (coded_bool.inj f f2 (ap (λ g. rest (rest (rest (rest (rest g))))) p) i)
  code_tree-inj (structure ns ts v n) (structure ns2 ts2 v2 n2) p =
      λ i. structure
      ((coded_list (coded_list coded_ℕ)).inj ns ns2 (ap (λ g. first (rest g)) p) i)
      (code_trees-inj ts ts2 (ap (λ g. first (rest (rest g))) p) i)
      (code_valid-inj v v2 (ap (λ g. first (rest (rest (rest g)))) p) i)
      (ap (λ g. number (rest (rest (rest (rest g))))) p i)
  code_tree-inj (view_array vs bs k v) (view_array vs2 bs2 k2 v2) p =
      λ i. view_array
      ((coded_list (coded_list coded_ℕ)).inj vs vs2 (ap (λ g. first (rest g)) p) i)
      ((coded_list (coded_list coded_ℕ)).inj bs bs2 (ap (λ g. first (rest (rest g))) p) i)
      (code_kind-inj k k2 (ap (λ g. first (rest (rest (rest g)))) p) i)
      (code_valid-inj v v2 (ap (λ g. rest (rest (rest (rest g)))) p) i)
  code_tree-inj _ _ p = let e = ap tag p in absurd (omega (arith, e))

  pub code_trees-inj : (x y : Trees) → code_trees x ≡ code_trees y → x ≡ y
  code_trees-inj no_trees no_trees p = refl
  code_trees-inj (tree t ts) (tree u us) p = λ i. tree (code_tree-inj t u (ap first p) i) (code_trees-inj ts us (ap rest p) i)
  code_trees-inj _ _ p = cc

  pub code_valid-inj : (x y : Valid) → code_valid x ≡ code_valid y → x ≡ y
  code_valid-inj non_nullable non_nullable p = refl
  code_valid-inj all_valid all_valid p = refl
  code_valid-inj all_invalid all_invalid p = refl
  code_valid-inj (by_array t) (by_array u) p = ap by_array (code_tree-inj t u (ap rest p))
  code_valid-inj _ _ p = cc

abbrev pub tree_code : Coded Tree
tree_code = record { code = code_tree; inj = code_tree-inj }

-- ---- how many levels lie below a tree

abbrev mutual
  pub depth : Tree → ℕ
  depth (bools b bits v) = valid_depth v
  depth (primitive t bs v) = valid_depth v
  depth (constant k r n) = 0
  depth (dictionary c v f) = max (depth c + 1) (depth v + 1)
  depth (fixed_list e k v n) = max (depth e + 1) (valid_depth v)
  depth (list_view e o s v f) = max (depth e + 1) (max (depth o + 1) (max (depth s + 1) (valid_depth v)))
  depth (structure ns ts v n) = max (trees_depth ts) (valid_depth v)
  depth (view_array vs bs k v) = valid_depth v

  pub trees_depth : Trees → ℕ
  trees_depth no_trees = 0
  trees_depth (tree t ts) = max (depth t + 1) (trees_depth ts)

  pub valid_depth : Valid → ℕ
  valid_depth non_nullable = 0
  valid_depth all_valid = 0
  valid_depth all_invalid = 0
  valid_depth (by_array t) = depth t + 1
