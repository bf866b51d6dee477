-- The worked arrays are well formed.
use Rattle.std.proofs.Common.{ℕ, zero, suc, ◌+◌, ◌<◌, ◌≤◌, ◌≡◌, Bool, true, false, List, [], ◌∷◌, refl, arith}
use Rattle.std.specs.Prelude.{pos, ◌&&◌, nat_lt, slice_index, IsUtf8}
use Rattle.std.proofs.lemmas.Str.{IsUtf8-from_ascii}
use Rattle.std.proofs.lemmas.Bool.Decides.{nat_tests}
use Rattle.vx_base.specs.Bytes.{AreBytes}
use Rattle.vx_base.specs.Integers.{numbers}
use Rattle.vx_base.specs.Rows.{whole, count_in}
use Rattle.vx_base.specs.declared.ptypes.PType.TheVariants.{U8}
use Rattle.vx_tree.specs.Tree.{primitive}
use Rattle.vx_tree.specs.Meaning.{row_at}
use Rattle.vx_tree.specs.Formed.{IsCode, IsListView}
use Rattle.vx_tree.specs.Worked.{valid_where, one_to_four, scattered_offsets, mixed_sizes}

-- each offset and size is a count
are_counts : (i : ℕ) → (row_at scattered_offsets i ≡ whole (pos (count_in (row_at scattered_offsets i)))) × (row_at mixed_sizes i ≡ whole (pos (count_in (row_at mixed_sizes i))))
unfolding numbers
are_counts zero = (refl, refl)
are_counts (suc zero) = (refl, refl)
are_counts (suc (suc zero)) = (refl, refl)
are_counts (suc (suc (suc i))) = (refl, refl)

-- each list ends within the elements
ends : (i : ℕ) → count_in (row_at scattered_offsets i) + count_in (row_at mixed_sizes i) ≤ 4
unfolding numbers
ends zero = omega arith
ends (suc zero) = omega arith
ends (suc (suc zero)) = omega arith
ends (suc (suc (suc i))) = omega arith

pub overlapping_formed : IsListView one_to_four scattered_offsets mixed_sizes false
unfolding numbers
overlapping_formed = record {
  offsets = record { kind = refl; counts = λ i h. (are_counts i).0 };
  sizes = record { kind = refl; counts = λ i h. (are_counts i).1 };
  same_len = refl;
  within = λ i h. ends i;
  follows = λ h. absurd (cc);
}

-- each code that is not null is the position of one of three values
pub are_codes : (i : ℕ) → IsCode 3 (row_at (primitive U8 (0 ∷ 0 ∷ 2 ∷ 0 ∷ 1 ∷ []) (valid_where (true ∷ false ∷ true ∷ false ∷ true ∷ []))) i)
unfolding numbers
are_codes zero = omega arith
are_codes (suc zero) = tt
are_codes (suc (suc zero)) = omega arith
are_codes (suc (suc (suc zero))) = tt
are_codes (suc (suc (suc (suc zero)))) = omega arith
are_codes (suc (suc (suc (suc (suc i))))) = tt

-- ---- bytes

-- items that a test finds below a limit
unfoldable pub are_below : ℕ → List ℕ → Bool
are_below n [] = true
are_below n (b ∷ bs) = nat_lt b n && are_below n bs

both_true : (a b : Bool) → (a && b) ≡ true → (a ≡ true) × (b ≡ true)
both_true true b h = (refl, h)
both_true false b h = absurd (cc)

is_below : (b n : ℕ) → nat_lt b n ≡ true → b < n
is_below b n h = grind (arith, nat_tests)

all_below : (n : ℕ) (bs : List ℕ) → 0 < n → are_below n bs ≡ true → (i : ℕ) → slice_index bs i < n
unfolding are_below
all_below n [] some h i = some
all_below n (b ∷ bs) some h zero = is_below b n (both_true (nat_lt b n) (are_below n bs) h).0
all_below n (b ∷ bs) some h (suc i) = all_below n bs some (both_true (nat_lt b n) (are_below n bs) h).1 i

pub are_bytes : (bs : List ℕ) → are_below 256 bs ≡ true → AreBytes bs
are_bytes bs h = all_below 256 bs (omega arith) h

pub are_text : (bs : List ℕ) → are_below 128 bs ≡ true → IsUtf8 bs
are_text bs h = IsUtf8-from_ascii bs (all_below 128 bs (omega arith) h)
