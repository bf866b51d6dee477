-- Lists of what is known of arrays.
use Rattle.std.proofs.Common.{◌≡◌, ℕ, zero, suc, ◌-◌, ◌∙◌, ◌++◌, Bool, true, List, [], ◌∷◌, length, take, reverse, refl, ap, arith}
use Rattle.std.specs.Prelude.{None, ◌-ℤ◌, ℤ}
use Rattle.std.proofs.lemmas.Bool.{eq-eqb}
use Rattle.std.proofs.lemmas.List.{reverse-append, length-map}
use Rattle.vx_base.proofs.FirstFaults.{or_else-none, or_else-second}
use Rattle.vx_base.specs.declared.ptypes.PType.{PType}
use Rattle.vx_base.specs.Integers.{numbers, number_nth}
use Rattle.vx_views.specs.BuildFaults.{differences}
use Rattle.vx_views.proofs.Differences.{length_differences}
use Rattle.vx_tree.specs.Faults.{validity_fault, length_fault}
use Rattle.vx_tree.specs.Meaning.{tree_len}
use Rattle.vx_tree.specs.Tree.{Tree, by_array}
use Rattle.vx_c.specs.declared.parts.Part.{Part}
use Rattle.vx_c.specs.declared.parts.Part.TheVariants.{Truths}
use Rattle.vx_c.specs.Parts.{HasBytes, HasNumbers, Describes, AreDescribed, IsValidOver, AreTakenColumns}
use Rattle.vx_c.specs.Spans.{starts_of}
use Rattle.vx_structs.specs.Structs.Faults.{column_lens_fault}
use Rattle.vx_c.specs.Tables.{valid_of_number}

-- the last of a list is the nearest
pub nearest : (old new : List Part) (p : Part) → new ≡ old ++ p ∷ [] → reverse new ≡ p ∷ reverse old
nearest old new p is = ap reverse is ∙ reverse-append old (p ∷ [])

-- ---- how many rows

pub bytes_len : (p : PType) (bytes : List ℕ) (null : Bool) (t : Tree) → HasBytes p bytes null t → tree_len t ≡ length (numbers p bytes)
bytes_len p bytes null t has = ap tree_len has.is

pub numbers_len : (zs : List ℤ) (t : Tree) → HasNumbers zs t → tree_len t ≡ length zs
numbers_len zs t has = ap tree_len has.is ∙ ap length has.same

pub starts_len : (zs : List ℤ) (t : Tree) → HasNumbers (starts_of zs) t → tree_len t ≡ length zs
starts_len zs t has = numbers_len (starts_of zs) t has ∙ length-map zs (λ z. z -ℤ number_nth zs 0)

pub sizes_len : (zs : List ℤ) (t : Tree) → HasNumbers (differences zs) t → tree_len t ≡ length zs - 1
sizes_len zs t has = numbers_len (differences zs) t has ∙ length_differences zs

-- ---- validity

pub valid_by_array : (found len : ℕ) (ps : List Part) (ts : List Tree) → found ≡ len → AreDescribed (Truths found ∷ ps) ts → IsValidOver true len ps (valid_of_number 3 ts)
valid_by_array found len ps [] same described = absurd described
valid_by_array found len ps (t ∷ ts) same (d, rest) = (faultless, refl, rest)
  where
    long : tree_len t ≡ len
    long = d.1 ∙ same

    faultless : validity_fault (by_array t) len ≡ None
    faultless = rw (d.0, eq-eqb (tree_len t) len long) refl

-- ---- columns

pub columns-none : (len : ℕ) (ps : List Part) (ts : List Tree) → AreDescribed ps ts → AreTakenColumns 0 len ps ts
columns-none len ps ts described = record { enough = omega arith; faultless = refl; left = described }

pub columns-more : (count len : ℕ) (p : Part) (ps : List Part) (ts : List Tree) → ((t : Tree) → Describes p t → tree_len t ≡ len)
    → AreTakenColumns count len (p ∷ ps) ts → AreTakenColumns (suc count) len ps ts
columns-more zero len p ps [] long columns = absurd columns.left
columns-more zero len p ps (t ∷ ts) long columns = record {
  enough = omega arith;
  faultless = or_else-second (length_fault len (tree_len t)) None None (rw (eq-eqb (tree_len t) len (long t columns.left.0)) refl) refl;
  left = columns.left.1;
}
columns-more (suc count) len p ps [] long columns = absurd (omega (arith, columns.enough))
columns-more (suc count) len p ps (t ∷ ts) long columns =
    let faults = or_else-none (length_fault len (tree_len t)) (column_lens_fault len (take count ts)) columns.faultless in
    let more = columns-more count len p ps ts long (record { enough = omega (arith, columns.enough); faultless = faults.1; left = columns.left }) in
    record {
      enough = omega (arith, more.enough);
      faultless = or_else-second (length_fault len (tree_len t)) (column_lens_fault len (take (suc count) ts)) None faults.0 more.faultless;
      left = more.left;
    }
