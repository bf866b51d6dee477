-- Arrays of counts that are written as numbers of a type which holds them.
use Rattle.std.proofs.Common.{◌≡◌, ◌∙◌, ◌*◌, ◌^◌, ◌-◌, ◌<◌, ◌≤◌, ℕ, pos, List, length, map, get_or, refl, sym, ap, arith, inl, inr}
use Rattle.std.specs.List.{All}
use Rattle.std.proofs.lemmas.Bool.Decides.{leb_tells}
use Rattle.std.proofs.lemmas.Int.{ints}
use Rattle.std.proofs.lemmas.List.{get_or-map, length-map}
use Rattle.vx_base.specs.Integers.{byte_width, Holds}
use Rattle.vx_base.specs.Rows.{whole, count_in}
use Rattle.vx_base.specs.declared.ptypes.PType.{PType}
use Rattle.vx_tree.specs.Formed.{IsCounts, WellFormed}
use Rattle.vx_tree.specs.Meaning.{row_at, tree_len}
use Rattle.vx_pack.specs.Packed.{count_type, counts_array}
use Rattle.vx_pack.proofs.BytesOfNumbers.{length-bytes_of_numbers, length-numbers_read, number_read_back}

-- ---- the type

-- a number that is no greater than one that i64 holds stands in the type of that one
pub holds-count_type : (total c : ℕ) → c ≤ total → total < 2 ^ 63 → Holds (count_type total) (pos c)
holds-count_type total c below fits = elim (leb_tells total (2 ^ 31 - 1)) [
  | inl narrow ↦ rw narrow.0 (let small : total ≤ 2 ^ 31 - 1 = narrow.1 in (omega (arith, ints), omega (arith, ints)))
  | inr wide ↦ rw wide.0 (omega (arith, ints), omega (arith, ints))
]

-- ---- the array

-- the type has each of the counts
abbrev pub AreHeld : PType → List ℕ → Type 0
AreHeld t ns = All (λ n. Holds t (pos n)) ns

pub tree_len-counts_array : (t : PType) (ns : List ℕ) → tree_len (counts_array t ns) ≡ length ns
tree_len-counts_array t ns = length-numbers_read t (map pos ns) ∙ length-map ns pos

pub row_at-counts_array : (t : PType) (ns : List ℕ) (i : ℕ) → AreHeld t ns → i < length ns
    → row_at (counts_array t ns) i ≡ whole (pos (get_or ns i 0))
row_at-counts_array t ns i held l =
    let inside : i < length (map pos ns) = rw length-map l in
    let here : get_or (map pos ns) i (pos 0) ≡ pos (get_or ns i 0) = get_or-map pos ns i 0 (pos 0) l in
    ap whole (number_read_back t (map pos ns) i (pos 0) inside (rw here (held i 0 l)) ∙ here)

pub count_in-counts_array : (t : PType) (ns : List ℕ) (i : ℕ) → AreHeld t ns → i < length ns
    → count_in (row_at (counts_array t ns) i) ≡ get_or ns i 0
count_in-counts_array t ns i held l = ap count_in (row_at-counts_array t ns i held l)

pub IsCounts-counts_array : (t : PType) (ns : List ℕ) → AreHeld t ns → IsCounts (counts_array t ns)
IsCounts-counts_array t ns held = record {
  kind = refl;
  counts = λ i l.
      let here = row_at-counts_array t ns i held (omega (arith, tree_len-counts_array t ns)) in
      rw here refl;
}

pub WellFormed-counts_array : (t : PType) (ns : List ℕ) → WellFormed (counts_array t ns)
WellFormed-counts_array t ns =
    (tt, length-bytes_of_numbers t (map pos ns) ∙ ap (λ n. n * byte_width t) (sym (length-numbers_read t (map pos ns))))
