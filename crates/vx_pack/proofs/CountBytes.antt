-- Counts of lists, as bytes of a type.
use Rattle.std.proofs.Common.{◌≡◌, ◌∙◌, ◌<◌, ◌≤◌, ◌^◌, ℕ, List, [], ◌∷◌, ◌++◌, map, pos, sym, ap, subst, Result}
use Rattle.std.proofs.lemmas.List.{append-nil, map_push}
use Rattle.std.proofs.lemmas.List.Concat.{flat_map-append}
use Rattle.vx_base.specs.Integers.{bytes_of, Holds}
use Rattle.vx_base.specs.Refusals.{Gives}
use Rattle.vx_base.specs.declared.errors.VortexError.{VortexError}
use Rattle.vx_base.specs.declared.ptypes.PType.{PType}
use Rattle.vx_tree.specs.Formed.{WellFormed}
use Rattle.vx_tree.specs.Tree.{Tree, primitive, non_nullable}
use Rattle.vx_pack.specs.Packed.{bytes_of_numbers, count_type, counts_array}
use Rattle.vx_pack.proofs.CountsArrays.{WellFormed-counts_array, holds-count_type}

-- one count more
pub bytes_of_counts_push : (t : PType) (ns : List ℕ) (n : ℕ)
    → bytes_of_numbers t (map pos (ns ++ n ∷ [])) ≡ bytes_of_numbers t (map pos ns) ++ bytes_of t (pos n)
bytes_of_counts_push t ns n =
    ap (bytes_of_numbers t) (map_push pos ns n)
    ∙ flat_map-append (bytes_of t) (map pos ns) (pos n ∷ [])
    ∙ ap (λ bs. bytes_of_numbers t (map pos ns) ++ bs) (append-nil (bytes_of t (pos n)))

-- the type of counts has each that is no greater than their sum
pub count_held : (t : PType) (total n : ℕ) → t ≡ count_type total → n ≤ total → total < 2 ^ 63 → Holds t (pos n)
count_held t total n type below fits =
    let Q : PType → Type 0 = λ u. Holds u (pos n) in
    subst Q (sym type) (holds-count_type total n below fits)

-- bytes of counts make an array
pub counts_formed : (t : PType) (ns bs : List ℕ) → bs ≡ bytes_of_numbers t (map pos ns) → WellFormed (primitive t bs non_nullable)
counts_formed t ns bs e = subst (λ xs. WellFormed (primitive t xs non_nullable)) (sym e) (WellFormed-counts_array t ns)

pub counts_given : (t u : PType) (ns bs : List ℕ) (r : Result Tree VortexError) → bs ≡ bytes_of_numbers t (map pos ns) → t ≡ u
    → Gives r (λ a. a ≡ primitive t bs non_nullable) → Gives r (λ a. a ≡ counts_array u ns)
counts_given t u ns bs r e type h =
    let same : primitive t bs non_nullable ≡ counts_array u ns = ap (λ xs. primitive t xs non_nullable) e
    ∙ ap (λ x. counts_array x ns) type in
    subst (λ x. Gives r (λ a. a ≡ x)) same h
