-- The narrowed type of numbers: it has them all, none of fewer bytes does, and it is told by the least and the greatest.
use Rattle.std.proofs.Common.{ℕ, suc, ◌<◌, ◌≤◌, ◌≡◌, Bool, true, false, cond, List, [], ◌∷◌, ◌++◌, refl, sym, ◌∙◌, ap, subst, inl, inr, to_z, of_z, arith}
use Rattle.std.specs.Prelude.{ℤ, pos, ◌≤ℤ◌, ◌&&◌}
use Rattle.std.specs.Int.Signed.{le_z}
use Rattle.std.specs.List.{All, list_all}
use Rattle.std.proofs.lemmas.Int.{ints}
use Rattle.std.proofs.lemmas.Bool.{cases_lt}
use Rattle.std.proofs.lemmas.List.Elements.{All-nil, All-cons}
use Rattle.std.proofs.lemmas.List.Folds.{list_all-append}
use Rattle.vx_base.specs.declared.ptypes.PType.{PType}
use Rattle.vx_base.specs.declared.ptypes.PType.TheVariants.{U8, U16, U32, U64, I8, I16, I32, I64}
use Rattle.vx_base.specs.Integers.{byte_width, is_unsigned, least, greatest, Holds}
use Rattle.std.specs.Int.{w128}
use Rattle.vx_base.proofs.NumberBytes.{number_passed}
use Rattle.vx_leaves.specs.Narrow.{none_negative, none_above, holds_all, narrower, first_that_holds, narrowed_type, IsLeastWidth, NarrowedTypes, IsSpan, covers, first_that_covers, type_between}

-- ---- tests of the order

pub le_of : (a b : ℤ) → le_z a b ≡ true → a ≤ℤ b
le_of a b e = grind (arith, ints)

pub of_le : (a b : ℤ) → a ≤ℤ b → le_z a b ≡ true
of_le a b h = grind (arith, ints)

both_true : (a b : Bool) → a ≡ true → b ≡ true → (a && b) ≡ true
both_true true b p q = q
both_true false b p q = p

pub first_true : (a b : Bool) → (a && b) ≡ true → a ≡ true
first_true true b p = refl
first_true false b p = p

pub second_true : (a b : Bool) → (a && b) ≡ true → b ≡ true
second_true true b p = p
second_true false b p = absurd (false_is_true p)
  where
    false_is_true : false ≡ true → ⊥
    false_is_true e = cc

contradiction : (b : Bool) → b ≡ false → b ≡ true → ⊥
contradiction true p q = cc
contradiction false p q = cc

-- ---- all of a list

all_of : (p : ℤ → Bool) (P : ℤ → Type 0) → ((z : ℤ) → p z ≡ true → P z) → (zs : List ℤ) → list_all p zs ≡ true → All P zs
all_of p P holds_so [] e = All-nil P
all_of p P holds_so (z ∷ zs) e = All-cons P z zs (holds_so z (first_true (p z) (list_all p zs) e)) (all_of p P holds_so zs (second_true (p z) (list_all p zs) e))

pub list_of : (p : ℤ → Bool) (P : ℤ → Type 0) → ((z : ℤ) → P z → p z ≡ true) → (zs : List ℤ) → All P zs → list_all p zs ≡ true
list_of p P holds_so [] all = refl
list_of p P holds_so (z ∷ zs) all =
    let here : P z = all 0 (pos 0) (omega arith) in
    both_true (p z) (list_all p zs) (holds_so z here) (list_of p P holds_so zs (λ k d inside. all (suc k) d (omega arith)))

list_both : (p q : ℤ → Bool) (zs : List ℤ) → list_all (λ z. p z && q z) zs ≡ (list_all p zs && list_all q zs)
list_both p q [] = refl
list_both p q (z ∷ zs) = ap (λ b. (p z && q z) && b) (list_both p q zs) ∙ mixed (p z) (q z) (list_all p zs) (list_all q zs)
  where
    mixed : (a b c d : Bool) → ((a && b) && (c && d)) ≡ ((a && c) && (b && d))
    mixed true true c d = refl
    mixed true false true d = refl
    mixed true false false d = refl
    mixed false b c d = refl

-- ---- types

pub least_low : (t : PType) → least t ≤ℤ pos 0
least_low U8 = omega (arith, ints)
least_low U16 = omega (arith, ints)
least_low U32 = omega (arith, ints)
least_low U64 = omega (arith, ints)
least_low I8 = omega (arith, ints)
least_low I16 = omega (arith, ints)
least_low I32 = omega (arith, ints)
least_low I64 = omega (arith, ints)

pub greatest_high : (t : PType) → pos 0 ≤ℤ greatest t
greatest_high U8 = omega (arith, ints)
greatest_high U16 = omega (arith, ints)
greatest_high U32 = omega (arith, ints)
greatest_high U64 = omega (arith, ints)
greatest_high I8 = omega (arith, ints)
greatest_high I16 = omega (arith, ints)
greatest_high I32 = omega (arith, ints)
greatest_high I64 = omega (arith, ints)

pub through : (a b c : ℤ) → a ≤ℤ b → b ≤ℤ c → a ≤ℤ c
through a b c p q = omega (arith, ints)

pub least_to_greatest : (t u : PType) → least t ≤ℤ greatest u
least_to_greatest t u = through (least t) (pos 0) (greatest u) (least_low t) (greatest_high u)

least_unsigned : (t : PType) → is_unsigned t ≡ true → least t ≡ pos 0
least_unsigned U8 e = refl
least_unsigned U16 e = refl
least_unsigned U32 e = refl
least_unsigned U64 e = refl
least_unsigned I8 e = cc
least_unsigned I16 e = cc
least_unsigned I32 e = cc
least_unsigned I64 e = cc

most_bytes : (t : PType) → byte_width t ≤ 8
most_bytes U8 = omega arith
most_bytes U16 = omega arith
most_bytes U32 = omega arith
most_bytes U64 = omega arith
most_bytes I8 = omega arith
most_bytes I16 = omega arith
most_bytes I32 = omega arith
most_bytes I64 = omega arith

some_bytes : (u : PType) → byte_width u < 1 → ⊥
some_bytes U8 h = omega arith
some_bytes U16 h = omega arith
some_bytes U32 h = omega arith
some_bytes U64 h = omega arith
some_bytes I8 h = omega arith
some_bytes I16 h = omega arith
some_bytes I32 h = omega arith
some_bytes I64 h = omega arith

-- types of fewer bytes than n have no greater numbers than v
abbrev IsTop : ℕ → PType → Type 0
IsTop n v = (u : PType) → byte_width u < n → greatest u ≤ℤ greatest v

top_1 : IsTop 2 U8
top_1 U8 h = omega (arith, ints)
top_1 U16 h = absurd (omega arith)
top_1 U32 h = absurd (omega arith)
top_1 U64 h = absurd (omega arith)
top_1 I8 h = omega (arith, ints)
top_1 I16 h = absurd (omega arith)
top_1 I32 h = absurd (omega arith)
top_1 I64 h = absurd (omega arith)

top_2 : IsTop 4 U16
top_2 U8 h = omega (arith, ints)
top_2 U16 h = omega (arith, ints)
top_2 U32 h = absurd (omega arith)
top_2 U64 h = absurd (omega arith)
top_2 I8 h = omega (arith, ints)
top_2 I16 h = omega (arith, ints)
top_2 I32 h = absurd (omega arith)
top_2 I64 h = absurd (omega arith)

top_4 : IsTop 8 U32
top_4 U8 h = omega (arith, ints)
top_4 U16 h = omega (arith, ints)
top_4 U32 h = omega (arith, ints)
top_4 U64 h = absurd (omega arith)
top_4 I8 h = omega (arith, ints)
top_4 I16 h = omega (arith, ints)
top_4 I32 h = omega (arith, ints)
top_4 I64 h = absurd (omega arith)

-- types with a sign and of fewer bytes than n have no numbers that v has not
abbrev IsRange : ℕ → PType → Type 0
IsRange n v = (u : PType) → is_unsigned u ≡ false → byte_width u < n → (least v ≤ℤ least u) × (greatest u ≤ℤ greatest v)

range_1 : IsRange 2 I8
range_1 U8 s h = cc
range_1 U16 s h = cc
range_1 U32 s h = cc
range_1 U64 s h = cc
range_1 I8 s h = (omega (arith, ints), omega (arith, ints))
range_1 I16 s h = absurd (omega arith)
range_1 I32 s h = absurd (omega arith)
range_1 I64 s h = absurd (omega arith)

range_2 : IsRange 4 I16
range_2 U8 s h = cc
range_2 U16 s h = cc
range_2 U32 s h = cc
range_2 U64 s h = cc
range_2 I8 s h = (omega (arith, ints), omega (arith, ints))
range_2 I16 s h = (omega (arith, ints), omega (arith, ints))
range_2 I32 s h = absurd (omega arith)
range_2 I64 s h = absurd (omega arith)

range_4 : IsRange 8 I32
range_4 U8 s h = cc
range_4 U16 s h = cc
range_4 U32 s h = cc
range_4 U64 s h = cc
range_4 I8 s h = (omega (arith, ints), omega (arith, ints))
range_4 I16 s h = (omega (arith, ints), omega (arith, ints))
range_4 I32 s h = (omega (arith, ints), omega (arith, ints))
range_4 I64 s h = absurd (omega arith)

-- ---- the narrowed type has the numbers

pub holds_all-All : (u : PType) (zs : List ℤ) → holds_all u zs ≡ true → All (Holds u) zs
holds_all-All u zs e =
    all_of (λ z. le_z (least u) z && le_z z (greatest u)) (Holds u)
    (λ z t. (le_of (least u) z (first_true (le_z (least u) z) (le_z z (greatest u)) t), le_of z (greatest u) (second_true (le_z (least u) z) (le_z z (greatest u)) t))) zs e

held_case : (b : Bool) (u rest : PType) (zs : List ℤ) → (b ≡ true → All (Holds u) zs) → All (Holds rest) zs → All (Holds (cond b u rest)) zs
held_case true u rest zs holds_so lacks = holds_so refl
held_case false u rest zs holds_so lacks = lacks

first_held : (us : List PType) (t : PType) (zs : List ℤ) → All (Holds t) zs → All (Holds (first_that_holds us t zs)) zs
first_held [] t zs all = all
first_held (u ∷ us) t zs all = held_case (holds_all u zs) u (first_that_holds us t zs) zs (holds_all-All u zs) (first_held us t zs all)

pub narrowed_held : (t : PType) (zs : List ℤ) → All (Holds t) zs → All (Holds (narrowed_type t zs)) zs
narrowed_held t zs all =
    held_case (none_above I64 zs) (first_that_holds (narrower (none_negative zs)) t zs) t zs (λ _. first_held (narrower (none_negative zs)) t zs all) all

-- ---- no type of fewer bytes does

least_case : (b : Bool) (u rest : PType) (zs : List ℤ) → (b ≡ true → IsLeastWidth u zs) → (b ≡ false → IsLeastWidth rest zs) → IsLeastWidth (cond b u rest) zs
least_case true u rest zs holds_so lacks = holds_so refl
least_case false u rest zs holds_so lacks = lacks refl

-- numbers that a type has are no greater than its greatest
not_above : (u v : PType) (zs : List ℤ) → greatest u ≤ℤ greatest v → All (Holds u) zs → none_above v zs ≡ true
not_above u v zs h all = list_of (λ z. le_z z (greatest v)) (Holds u) (λ z held. of_le z (greatest v) (through z (greatest u) (greatest v) held.1 h)) zs all

held_between : (v : PType) (lo hi : ℤ) (zs : List ℤ) → least v ≤ℤ lo → hi ≤ℤ greatest v → All (λ z. (lo ≤ℤ z) × (z ≤ℤ hi)) zs → holds_all v zs ≡ true
held_between v lo hi zs low high all =
    list_of (λ z. le_z (least v) z && le_z z (greatest v)) (λ z. (lo ≤ℤ z) × (z ≤ℤ hi))
    (λ z b. both_true (le_z (least v) z) (le_z z (greatest v)) (of_le (least v) z (through (least v) lo z low b.0)) (of_le z (greatest v) (through z hi (greatest v) b.1 high))) zs all

-- where no number is negative and v has them not, no type of fewer bytes than n has them
unsigned_least : (n : ℕ) (w v : PType) (zs : List ℤ) → byte_width w ≤ n → IsTop n v → least v ≡ pos 0 → none_negative zs ≡ true → holds_all v zs ≡ false → IsLeastWidth w zs
unsigned_least n w v zs most top low_end plain lacks u less all =
    let low : All (λ z. pos 0 ≤ℤ z) zs = all_of (λ z. le_z (pos 0) z) (λ z. pos 0 ≤ℤ z) (λ z e. le_of (pos 0) z e) zs plain in
    contradiction (holds_all v zs) lacks
    (held_between v (pos 0) (greatest u) zs (rw low_end (zero_le (pos 0))) (top u (omega arith)) (λ k d inside. (low k d inside, (all k d inside).1)))
  where
    zero_le : (z : ℤ) → z ≤ℤ z
    zero_le z = omega (arith, ints)

unsigned_none : (u : PType) (b : Bool) (zs : List ℤ) → is_unsigned u ≡ b → none_negative zs ≡ false → All (Holds u) zs → b ≡ false
unsigned_none u false zs sign some all = refl
unsigned_none u true zs sign some all =
    absurd (contradiction (none_negative zs) some
    (list_of (λ z. le_z (pos 0) z) (Holds u) (λ z held. of_le (pos 0) z (subst (λ m. m ≤ℤ z) (least_unsigned u sign) held.0)) zs all))

-- where some number is negative and v has them not, no type of fewer bytes than n has them
signed_least : (n : ℕ) (w v : PType) (zs : List ℤ) → byte_width w ≤ n → IsRange n v → none_negative zs ≡ false → holds_all v zs ≡ false → IsLeastWidth w zs
signed_least n w v zs most range some lacks u less all =
    let sign : is_unsigned u ≡ false = unsigned_none u (is_unsigned u) zs refl some all in
    let within = range u sign (omega arith) in
    contradiction (holds_all v zs) lacks (held_between v (least u) (greatest u) zs within.0 within.1 all)

one_byte : (w : PType) (zs : List ℤ) → byte_width w ≡ 1 → IsLeastWidth w zs
one_byte w zs one u less all = some_bytes u (omega arith)

plain_least : (t : PType) (zs : List ℤ) → none_negative zs ≡ true → IsLeastWidth (first_that_holds (narrower true) t zs) zs
plain_least t zs plain =
    least_case (holds_all U8 zs) U8 (first_that_holds (U16 ∷ U32 ∷ []) t zs) zs (λ _. one_byte U8 zs refl)
    (λ no8. least_case (holds_all U16 zs) U16 (first_that_holds (U32 ∷ []) t zs) zs (λ _. unsigned_least 2 U16 U8 zs (omega arith) top_1 refl plain no8)
    (λ no16. least_case (holds_all U32 zs) U32 t zs (λ _. unsigned_least 4 U32 U16 zs (omega arith) top_2 refl plain no16)
    (λ no32. unsigned_least 8 t U32 zs (most_bytes t) top_4 refl plain no32)))

negative_least : (t : PType) (zs : List ℤ) → none_negative zs ≡ false → IsLeastWidth (first_that_holds (narrower false) t zs) zs
negative_least t zs some =
    least_case (holds_all I8 zs) I8 (first_that_holds (I16 ∷ I32 ∷ []) t zs) zs (λ _. one_byte I8 zs refl)
    (λ no8. least_case (holds_all I16 zs) I16 (first_that_holds (I32 ∷ []) t zs) zs (λ _. signed_least 2 I16 I8 zs (omega arith) range_1 some no8)
    (λ no16. least_case (holds_all I32 zs) I32 t zs (λ _. signed_least 4 I32 I16 zs (omega arith) range_2 some no16)
    (λ no32. signed_least 8 t I32 zs (most_bytes t) range_4 some no32)))

sign_least : (b : Bool) (t : PType) (zs : List ℤ) → none_negative zs ≡ b → IsLeastWidth (first_that_holds (narrower b) t zs) zs
sign_least true t zs e = plain_least t zs e
sign_least false t zs e = negative_least t zs e

greatest_small : greatest U32 ≤ℤ greatest I64
greatest_small = omega (arith, ints)

pub narrowed_least : (t : PType) (zs : List ℤ) → IsLeastWidth (narrowed_type t zs) zs
narrowed_least t zs =
    least_case (none_above I64 zs) (first_that_holds (narrower (none_negative zs)) t zs) t zs (λ _. sign_least (none_negative zs) t zs refl)
    (λ some u less all. contradiction (none_above I64 zs) some
    (not_above u I64 zs (through (greatest u) (greatest U32) (greatest I64) (top_4 u (let most : byte_width t ≤ 8 = most_bytes t in omega arith)) greatest_small) all))

-- and so it has no more bytes than the numbers' own
pub narrowed_width : (t : PType) (zs : List ℤ) → All (Holds t) zs → byte_width (narrowed_type t zs) ≤ byte_width t
narrowed_width t zs all = elim (cases_lt (byte_width t) (byte_width (narrowed_type t zs))) [ inl less ↦ absurd (narrowed_least t zs t less all) | inr more ↦ more ]

pub narrowed_types : NarrowedTypes
narrowed_types t zs all = record {
  holds = narrowed_held t zs all;
  least_width = narrowed_least t zs;
  none = λ e. ap (narrowed_type t) e;
}

-- ---- the least and the greatest tell it

-- of no numbers yet
pub IsSpan-none : (t : PType) (m g : ℤ) → m ≡ greatest t → g ≡ least t → IsSpan t [] m g
IsSpan-none t m g m_is g_is = record {
  above = λ lo h. sym (ap (le_z lo) m_is ∙ of_le lo (greatest t) h);
  below = λ hi h. sym (ap (λ z. le_z z hi) g_is ∙ of_le (least t) hi h);
}

one_more : (p : ℤ → Bool) (zs : List ℤ) (z : ℤ) → list_all p (zs ++ z ∷ []) ≡ (list_all p zs && p z)
one_more p zs z = list_all-append p zs (z ∷ []) ∙ ap (λ c. list_all p zs && c) (and_true (p z))
  where
    and_true : (c : Bool) → (c && true) ≡ c
    and_true true = refl
    and_true false = refl

-- one number more
pub IsSpan-more : (t : PType) (zs : List ℤ) (z m g m' g' : ℤ) → IsSpan t zs m g → ((lo : ℤ) → le_z lo m' ≡ (le_z lo m && le_z lo z))
    → ((hi : ℤ) → le_z g' hi ≡ (le_z g hi && le_z z hi)) → IsSpan t (zs ++ z ∷ []) m' g'
IsSpan-more t zs z m g m' g' span low high = record {
  above = λ lo h. one_more (λ y. le_z lo y) zs z ∙ ap (λ c. c && le_z lo z) (span.above lo h) ∙ sym (low lo);
  below = λ hi h. one_more (λ y. le_z y hi) zs z ∙ ap (λ c. c && le_z z hi) (span.below hi h) ∙ sym (high hi);
}

module _ (t : PType) (zs : List ℤ) (m g : ℤ) (span : IsSpan t zs m g) where
  covers_is : (u : PType) → holds_all u zs ≡ covers u m g
  covers_is u =
      list_both (λ z. le_z (least u) z) (λ z. le_z z (greatest u)) zs
      ∙ ap (λ b. b && list_all (λ z. le_z z (greatest u)) zs) (span.above (least u) (least_to_greatest u t))
      ∙ ap (λ b. le_z (least u) m && b) (span.below (greatest u) (least_to_greatest t u))

  first_is : (us : List PType) → first_that_holds us t zs ≡ first_that_covers us t m g
  first_is [] = refl
  first_is (u ∷ us) = ap (λ b. cond b u (first_that_holds us t zs)) (covers_is u) ∙ ap (cond (covers u m g) u) (first_is us)

  pub type_between_is : narrowed_type t zs ≡ type_between t m g
  type_between_is =
      ap (λ b. cond b (first_that_holds (narrower (none_negative zs)) t zs) t) (span.below (greatest I64) (least_to_greatest t I64))
      ∙ ap (λ b. cond (le_z g (greatest I64)) (first_that_holds (narrower b) t zs) t) (span.above (pos 0) (greatest_high t))
      ∙ ap (λ w. cond (le_z g (greatest I64)) w t) (first_is (narrower (le_z (pos 0) m)))

-- numbers that are passed out as they are
pub IsSpan-passed : (t : PType) (zs : List ℤ) (m g x y : ℤ) → x ≡ m → y ≡ g → Holds t x → Holds t y → IsSpan t zs m g → IsSpan t zs (to_z w128 (of_z w128 x)) (to_z w128 (of_z w128 y))
IsSpan-passed t zs m g x y x_is y_is x_held y_held span =
    subst (λ a. IsSpan t zs a (to_z w128 (of_z w128 y))) (sym (number_passed t x x_held ∙ x_is))
    (subst (IsSpan t zs m) (sym (number_passed t y y_held ∙ y_is)) span)
