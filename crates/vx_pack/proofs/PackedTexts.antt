-- Texts and byte lists that are packed, by their kind, and what refuses them.
use Rattle.std.proofs.Common.{◌≡◌, ◌+◌, ◌<◌, ◌≤◌, ◌^◌, ℕ, Bool, true, false, List, length, map, Some, None, refl}
use Rattle.std.proofs.Common.{sym, ap, subst, inl, inr, le-leb, arith}
use Rattle.std.specs.Prelude.{IsSome, if◌then◌else◌, nat_le}
use Rattle.std.proofs.lemmas.Bool.Decides.{leb_tells}
use Rattle.vx_base.specs.Kinds.{Kind, texts, binaries, is_nullable_kind, Fits}
use Rattle.vx_base.specs.Refusals.{Names, Refusal, overflow, refusal_of, value_too_long}
use Rattle.vx_base.proofs.FirstFaults.{or_else-second}
use Rattle.vx_base.specs.Rows.{Row, null, bytes, text}
use Rattle.vx_base.specs.declared.errors.VortexError.{VortexError}
use Rattle.vx_base.specs.declared.errors.VortexError.TheVariants.{Overflow}
use Rattle.vx_views.proofs.FaultyViews.{text_fault_none}
use Rattle.vx_views.specs.BuildFaults.{numbering_fault}
use Rattle.vx_views.specs.Faulty.{text_fault}
use Rattle.vx_views.specs.declared.view.TheConstants.{MAX_BUFFER_LEN}
use Rattle.vx_tree.specs.Meaning.{is_texts}
use Rattle.vx_tree.specs.Tree.{Tree}
use Rattle.vx_tree.specs.Values.{bytes_in}
use Rattle.vx_text.specs.Items.{IsArrayOf, item_fault}
use Rattle.vx_pack.specs.Packed.{HasTooManyBuffers, IsPacked, IsTooLarge, has_bytes}

-- ---- by their kind

pub packed_values : (k : Kind) (rs : List Row) (t : Tree) → has_bytes k ≡ true → IsArrayOf k (map bytes_in rs) t → IsPacked k rs t
packed_values (texts n) rs t values is = is
packed_values (binaries n) rs t values is = is
packed_values _ rs t values is = absurd (cc)

pub too_many_values : (k : Kind) (rs : List Row) → has_bytes k ≡ true → HasTooManyBuffers (map bytes_in rs) → IsTooLarge k rs
too_many_values (texts n) rs values many = many
too_many_values (binaries n) rs values many = many
too_many_values _ rs values many = absurd (cc)

-- a value short enough for a view, which is text where that is asked
value_faultless : (u n : Bool) (row : ℕ) (value : List ℕ) → length value ≤ MAX_BUFFER_LEN → text_fault u value row ≡ None
    → item_fault u n row (Some value) ≡ None
value_faultless u n row value short none_of_text =
    let none : (if nat_le (length value) MAX_BUFFER_LEN then None else Some (value_too_long row)) ≡ None =
    ap (λ (b : Bool). if b then None else Some (value_too_long row)) (le-leb (length value) MAX_BUFFER_LEN short) in
    or_else-second _ (text_fault u value row) None none none_of_text

-- a row that fits has no fault
pub row_faultless : (k : Kind) (r : Row) (i : ℕ) → has_bytes k ≡ true → Fits k r
    → item_fault (is_texts k) (is_nullable_kind k) i (bytes_in r) ≡ None
row_faultless (texts true) null i values fits = refl
row_faultless (texts false) null i values fits = absurd (cc)
row_faultless (texts n) (text bs) i values fits =
    value_faultless true n i bs fits.1 (text_fault_none true bs i (inr fits.0))
row_faultless (texts n) _ i values fits = absurd fits
row_faultless (binaries true) null i values fits = refl
row_faultless (binaries false) null i values fits = absurd (cc)
row_faultless (binaries n) (bytes bs) i values fits =
    value_faultless false n i bs fits.1 (text_fault_none false bs i (inl refl))
row_faultless (binaries n) _ i values fits = absurd fits
row_faultless _ r i values fits = absurd (cc)

-- ---- what overflows

pub there_is_none : (e : VortexError) → None ≡ refusal_of e → IsSome (refusal_of e) → ⊥
there_is_none e none some = let there : IsSome {T = Refusal} None = subst IsSome (sym none) some in absurd (cc)

overflow_alone : (e : VortexError) → Some overflow ≡ refusal_of e → e ≡ Overflow
overflow_alone Overflow same = refl
overflow_alone _ same = absurd (cc)

pub past_numbers : (pieces : ℕ) (e : VortexError) → Names (numbering_fault 0 pieces) e → (e ≡ Overflow) × (2 ^ 32 < pieces)
past_numbers pieces e (some, same) = elim (leb_tells (0 + pieces) (2 ^ 32)) [
  | inl few ↦
      let none : None ≡ refusal_of e = rw few.0 at same in absurd (there_is_none e none some)
  | inr many ↦ (overflow_alone e (rw many.0 at same), omega (arith, many.1))
]
