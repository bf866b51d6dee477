-- The parts of packed forms have the lengths that their layouts ask for.
use Rattle.std.proofs.Common.{◌≡◌, ◌∙◌, ◌*◌, ◌<◌, ◌^◌, ℕ, suc, Bool, List, length, map, sum, refl, sym, ap, arith}
use Rattle.std.specs.Prelude.{ℤ}
use Rattle.std.specs.List.{All, flat_map}
use Rattle.std.proofs.lemmas.List.{length-map}
use Rattle.vx_base.specs.Fields.{kind_count}
use Rattle.vx_base.specs.Integers.{byte_width, numbers}
use Rattle.vx_base.specs.Kinds.{Kind, fixed_lists, Kinds, no_kinds, kind, Fits}
use Rattle.vx_base.specs.Rows.{Row}
use Rattle.vx_base.specs.declared.ptypes.PType.{PType}
use Rattle.vx_tree.specs.Formed.{AllLen, ValidFits, WellFormed, column_count}
use Rattle.vx_tree.specs.Meaning.{tree_len}
use Rattle.vx_tree.specs.Tree.{Tree, Trees, no_trees, tree, primitive, fixed_list, Valid}
use Rattle.vx_pack.specs.Packed.{ArePacked, IsPacked, bytes_of_numbers, field_or_default, items_or_blank, list_sizes, packed_lists}
use Rattle.vx_pack.specs.Packed.{packed_valid}
use Rattle.vx_pack.proofs.BytesOfNumbers.{length-bytes_of_numbers, length-numbers_read}
use Rattle.vx_pack.proofs.JoinedLists.{length-fixed_items, sum-list_sizes}
use Rattle.vx_pack.proofs.PackedLen.{packed_len}
use Rattle.vx_pack.proofs.PackedLists.{WellFormed-packed_lists}
use Rattle.vx_pack.proofs.PackedValid.{ValidFits-packed_valid}

-- ---- numbers

pub WellFormed-numbers : (t : PType) (zs : List ℤ) (v : Valid) → ValidFits v (length zs)
    → WellFormed (primitive t (bytes_of_numbers t zs) v)
WellFormed-numbers t zs v valid =
    let read : length (numbers t (bytes_of_numbers t zs)) ≡ length zs = length-numbers_read t zs in
    (rw read valid, length-bytes_of_numbers t zs ∙ ap (λ n. n * byte_width t) (sym read))

-- ---- lists

pub elements_len : (k : Kind) (rs : List Row) (e : Tree) → IsPacked k (flat_map (items_or_blank k 0) rs) e
    → tree_len e ≡ sum (list_sizes k rs)
elements_len k rs e h = packed_len k (flat_map (items_or_blank k 0) rs) e h ∙ sym (sum-list_sizes k rs)

pub lists_formed : (k : Kind) (n : Bool) (rs : List Row) (e : Tree) → sum (list_sizes k rs) < 2 ^ 63
    → IsPacked k (flat_map (items_or_blank k 0) rs) e
    → WellFormed (packed_lists e (list_sizes k rs) (packed_valid n rs))
lists_formed k n rs e fits h =
    let sizes : length (list_sizes k rs) ≡ length rs = length-map rs (λ r. length (items_or_blank k 0 r)) in
    WellFormed-packed_lists e (list_sizes k rs) (packed_valid n rs) (elements_len k rs e h) fits (rw sizes (ValidFits-packed_valid n rs))

pub fixed_elements_len : (k : Kind) (size : ℕ) (n : Bool) (rs : List Row) (e : Tree) → All (Fits (fixed_lists k size n)) rs
    → IsPacked k (flat_map (items_or_blank k size) rs) e → tree_len e ≡ length rs * size
fixed_elements_len k size n rs e fits h =
    packed_len k (flat_map (items_or_blank k size) rs) e h ∙ length-fixed_items k size n rs fits

pub fixed_lists_formed : (k : Kind) (size : ℕ) (n : Bool) (rs : List Row) (e : Tree) → All (Fits (fixed_lists k size n)) rs
    → IsPacked k (flat_map (items_or_blank k size) rs) e → WellFormed (fixed_list e size (packed_valid n rs) (length rs))
fixed_lists_formed k size n rs e fits h = (ValidFits-packed_valid n rs, fixed_elements_len k size n rs e fits h)

-- ---- records

pub columns_len : (c : ℕ) (ks : Kinds) (rs : List Row) (us : Trees) → ArePacked c ks rs us → AllLen (length rs) us
columns_len c no_kinds rs no_trees h = tt
columns_len c no_kinds rs (tree t us) h = absurd h
columns_len c (kind k ks) rs no_trees h = absurd h
columns_len c (kind k ks) rs (tree t us) h =
    (packed_len k (map (field_or_default k c) rs) t h.0 ∙ length-map rs (field_or_default k c), columns_len (suc c) ks rs us h.1)

pub columns_counted : (c : ℕ) (ks : Kinds) (rs : List Row) (us : Trees) → ArePacked c ks rs us → column_count us ≡ kind_count ks
columns_counted c no_kinds rs no_trees h = refl
columns_counted c no_kinds rs (tree t us) h = absurd h
columns_counted c (kind k ks) rs no_trees h = absurd h
columns_counted c (kind k ks) rs (tree t us) h = omega (arith, columns_counted (suc c) ks rs us h.1)
