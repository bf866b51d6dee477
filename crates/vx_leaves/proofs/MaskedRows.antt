-- The rows of arrays of truth values and of numbers, by their validity.
use Rattle.std.proofs.Common.{◌≡◌, ℕ, ◌<◌, Bool, false, cond, List, [], ◌∷◌, length, map, get_or, refl, sym, ◌∙◌, ap, arith}
use Rattle.std.specs.Prelude.{ℤ, pos}
use Rattle.std.specs.List.{range_with_len}
use Rattle.std.proofs.lemmas.List.{length-map, get_or-map}
use Rattle.std.proofs.lemmas.List.FromFn.{fill_by_all}
use Rattle.vx_base.specs.Integers.{numbers, number_nth}
use Rattle.vx_base.specs.Bits.{bool_at}
use Rattle.vx_base.specs.Rows.{Row, null, boolean, whole}
use Rattle.vx_base.specs.declared.ptypes.PType.{PType}
use Rattle.vx_tree.proofs.Masks.{bits_are_truths}
use Rattle.vx_tree.specs.Formed.{ValidFits}
use Rattle.vx_tree.specs.Tree.{Tree, Valid, bools, primitive, non_nullable, by_array}
use Rattle.vx_tree.specs.Meaning.{tree_len, row_at, rows, valid_mask, is_valid_at}
use Rattle.vx_tree.specs.Operations.{masked}
use Rattle.vx_leaves.specs.Leaves.{IsPrimitive}

-- rows that are made of their places, under a mask that is
masked-map : (g : ℕ → Bool) (f : ℕ → Row) (ks : List ℕ) → map (λ k. cond (g k) (f k) null) ks ≡ masked (map g ks) (map f ks)
masked-map g f [] = refl
masked-map g f (k ∷ ks) = ap (λ rs. cond (g k) (f k) null ∷ rs) (masked-map g f ks)

-- n rows under the mask of a validity
rows_under_mask : (v : Valid) (f : ℕ → Row) (rs : List Row) → ((i : ℕ) → i < length rs → get_or rs i null ≡ f i) → map (λ i. cond (is_valid_at v i) (f i) null) (range_with_len 0 (length rs)) ≡ masked (valid_mask v (length rs)) rs
rows_under_mask v f rs each =
    masked-map (is_valid_at v) f (range_with_len 0 (length rs)) ∙ ap (masked (valid_mask v (length rs))) (sym (fill_by_all f rs (length rs) null refl each))

-- ---- numbers

rows-primitive : (t : PType) (bs : List ℕ) (v : Valid) → rows (primitive t bs v) ≡ masked (valid_mask v (length (numbers t bs))) (map whole (numbers t bs))
rows-primitive t bs v =
    let zs : List ℤ = numbers t bs in
    let len : length (map whole zs) ≡ length zs = length-map zs whole in
    let under = rows_under_mask v (λ i. whole (number_nth zs i)) (map whole zs) (λ i inside. get_or-map whole zs i (pos 0) null (omega (arith, len))) in
    ap (λ n. map (row_at (primitive t bs v)) (range_with_len 0 n)) (sym len) ∙ under ∙ ap (λ n. masked (valid_mask v n) (map whole zs)) len

pub IsPrimitive-len : (t : PType) (zs : List ℤ) (v : Valid) (a : Tree) → IsPrimitive t zs v a → tree_len a ≡ length zs
IsPrimitive-len t zs v a is = ap tree_len is.tree ∙ ap length is.same

pub IsPrimitive-each : (t : PType) (zs : List ℤ) (v : Valid) (a : Tree) (i : ℕ) → IsPrimitive t zs v a → row_at a i ≡ cond (is_valid_at v i) (whole (number_nth zs i)) null
IsPrimitive-each t zs v a i is = ap (λ x. row_at x i) is.tree ∙ ap (λ ns. cond (is_valid_at v i) (whole (number_nth ns i)) null) is.same

pub IsPrimitive-masked : (t : PType) (zs : List ℤ) (v : Valid) (a : Tree) → IsPrimitive t zs v a → rows a ≡ masked (valid_mask v (length zs)) (map whole zs)
IsPrimitive-masked t zs v a is = ap rows is.tree ∙ rows-primitive t is.bytes v ∙ ap (λ ns. masked (valid_mask v (length ns)) (map whole ns)) is.same

pub IsPrimitive-all : (t : PType) (zs : List ℤ) (a : Tree) → IsPrimitive t zs non_nullable a → rows a ≡ map whole zs
IsPrimitive-all t zs a is =
    let ns : List ℤ = numbers t is.bytes in
    ap rows is.tree
    ∙ sym (fill_by_all (λ i. whole (number_nth ns i)) (map whole ns) (length ns) null (length-map ns whole) (λ i inside. get_or-map whole ns i (pos 0) null inside))
    ∙ ap (map whole) is.same

-- ---- truth values

pub rows-bools : (first : ℕ) (bits : List Bool) (v : Valid) → rows (bools first bits v) ≡ masked (valid_mask v (length bits)) (map boolean bits)
rows-bools first bits v =
    let len : length (map boolean bits) ≡ length bits = length-map bits boolean in
    let under = rows_under_mask v (λ i. boolean (bool_at bits i)) (map boolean bits) (λ i inside. get_or-map boolean bits i false null (omega (arith, len))) in
    ap (λ n. map (row_at (bools first bits v)) (range_with_len 0 n)) (sym len) ∙ under ∙ ap (λ n. masked (valid_mask v n) (map boolean bits)) len

pub rows-bools-all : (first : ℕ) (bits : List Bool) → rows (bools first bits non_nullable) ≡ map boolean bits
rows-bools-all first bits = sym (fill_by_all (λ i. boolean (bool_at bits i)) (map boolean bits) (length bits) null (length-map bits boolean) (λ i inside. get_or-map boolean bits i false null inside))

-- the bits of plain truth values tell which rows are valid
pub told_by_bits : {b : ℕ} (t : Tree) (bits : List Bool) (v : Valid) (n : ℕ) → t ≡ bools b bits v → ValidFits (by_array t) n → bits ≡ valid_mask (by_array t) n
told_by_bits t bits v n e fits = bits_are_truths t bits v e fits.kind ∙ ap (valid_mask (by_array t)) fits.len
