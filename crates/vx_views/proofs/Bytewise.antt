-- The bytewise order of values, and of the same values with zeroes after them.
use Rattle.std.proofs.Common.{◌≡◌, ℕ, zero, suc, ◌<◌, ◌≤◌, List, [], ◌∷◌, ◌++◌, length, replicate, refl, sym, ◌∙◌, ap, arith, inl, inr, get_or, drop}
use Rattle.std.specs.declared.cmp.Ordering.{Ordering}
use Rattle.std.specs.declared.cmp.Ordering.TheVariants.{Less, Equal, Greater}
use Rattle.std.specs.Ordering.{MatchOrdering, ordering_then, ordering_reverse, nat_cmp}
use Rattle.std.specs.Cmp.{nat_cmp_is}
use Rattle.std.specs.Cmp.Lexicographic.{slice_cmp}
use Rattle.std.proofs.lemmas.Cmp.{ranked, nat_list_cmp_total}
use Rattle.vx_views.specs.Order.{bytewise, IsSmaller}
use Rattle.vx_views.specs.Views.{padded}
use Rattle.vx_views.proofs.Padding.{padded_nil, padded_cons, length_padded, padded_zero}

-- the bytewise order is what `cmp` of two slices of bytes answers
pub bytewise_is_cmp : (a b : List ℕ) → bytewise a b ≡ slice_cmp nat_cmp a b
bytewise_is_cmp [] [] = refl
bytewise_is_cmp [] (y ∷ b) = refl
bytewise_is_cmp (x ∷ a) [] = refl
bytewise_is_cmp (x ∷ a) (y ∷ b) = ap (ordering_then (nat_cmp x y)) (bytewise_is_cmp a b)

pub then_assoc : (o p q : Ordering) → ordering_then (ordering_then o p) q ≡ ordering_then o (ordering_then p q)
then_assoc Less p q = refl
then_assoc Equal p q = refl
then_assoc Greater p q = refl

same_number : (x : ℕ) → nat_cmp x x ≡ Equal
same_number x = sym (nat_cmp_is x x Equal refl)

-- fronts of one length decide first
pub bytewise-append : (a b c d : List ℕ) → length a ≡ length b → bytewise (a ++ c) (b ++ d) ≡ ordering_then (bytewise a b) (bytewise c d)
bytewise-append [] [] c d e = refl
bytewise-append [] (y ∷ b) c d e = absurd (omega arith)
bytewise-append (x ∷ a) [] c d e = absurd (omega arith)
bytewise-append (x ∷ a) (y ∷ b) c d e =
    ap (ordering_then (nat_cmp x y)) (bytewise-append a b c d (omega arith)) ∙ sym (then_assoc (nat_cmp x y) (bytewise a b) (bytewise c d))

same_value : (v : List ℕ) → bytewise v v ≡ Equal
same_value [] = refl
same_value (x ∷ v) = ap (λ o. ordering_then o (bytewise v v)) (same_number x) ∙ same_value v

-- a decided front stays decided
keeps : (o p r : Ordering) → ordering_then p r ≡ r → MatchOrdering o (o ≡ r) (Unit {0}) (o ≡ r) → ordering_then (ordering_then o p) r ≡ r
keeps Less p r e h = h
keeps Equal p r e h = e
keeps Greater p r e h = h

least : (y : ℕ) (o : Ordering) → MatchOrdering o (0 < y) (0 ≡ y) (y < 0) → MatchOrdering o (o ≡ Less) (Unit {0}) (o ≡ Less)
least y Less h = refl
least y Equal h = tt
least y Greater h = absurd (omega arith)

greatest : (y : ℕ) (o : Ordering) → MatchOrdering o (y < 0) (y ≡ 0) (0 < y) → MatchOrdering o (o ≡ Greater) (Unit {0}) (o ≡ Greater)
greatest y Less h = absurd (omega arith)
greatest y Equal h = tt
greatest y Greater h = refl

-- zeroes come before other bytes, or are the same
zeroes_first : (n : ℕ) (v : List ℕ) → length v ≡ n → ordering_then (bytewise (replicate n 0) v) Less ≡ Less
zeroes_first zero [] e = refl
zeroes_first zero (y ∷ v) e = absurd (omega arith)
zeroes_first (suc n) [] e = absurd (omega arith)
zeroes_first (suc n) (y ∷ v) e =
    keeps (nat_cmp 0 y) (bytewise (replicate n 0) v) Less (zeroes_first n v (omega arith)) (least y (nat_cmp 0 y) (ranked 0 y _ refl))

zeroes_last : (n : ℕ) (v : List ℕ) → length v ≡ n → ordering_then (bytewise v (replicate n 0)) Greater ≡ Greater
zeroes_last zero [] e = refl
zeroes_last zero (y ∷ v) e = absurd (omega arith)
zeroes_last (suc n) [] e = absurd (omega arith)
zeroes_last (suc n) (y ∷ v) e =
    keeps (nat_cmp y 0) (bytewise v (replicate n 0)) Greater (zeroes_last n v (omega arith)) (greatest y (nat_cmp y 0) (ranked y 0 _ refl))

one_more : (a b : ℕ) (o : Ordering) → MatchOrdering o (a < b) (a ≡ b) (b < a) → MatchOrdering o (suc a < suc b) (suc a ≡ suc b) (suc b < suc a)
one_more a b Less h = omega arith
one_more a b Equal h = omega arith
one_more a b Greater h = omega arith

compare_suc : (a b : ℕ) → nat_cmp (suc a) (suc b) ≡ nat_cmp a b
compare_suc a b = sym (nat_cmp_is (suc a) (suc b) (nat_cmp a b) (one_more a b (nat_cmp a b) (ranked a b _ refl)))

-- values compare as the same values with zeroes after them, and then by their lengths
pub padded_order : (n : ℕ) (a b : List ℕ) → length a ≤ n → length b ≤ n
    → ordering_then (bytewise (padded n a) (padded n b)) (nat_cmp (length a) (length b)) ≡ bytewise a b
padded_order n [] [] h k = ap (λ o. ordering_then o (nat_cmp 0 0)) (same_value (padded n [])) ∙ same_number 0
padded_order n [] (y ∷ b) h k =
    let fewer : nat_cmp 0 (length (y ∷ b)) ≡ Less = sym (nat_cmp_is 0 (length (y ∷ b)) Less (omega arith)) in
    ap (λ v. ordering_then (bytewise v (padded n (y ∷ b))) (nat_cmp 0 (length (y ∷ b)))) (padded_nil n)
    ∙ ap (ordering_then (bytewise (replicate n 0) (padded n (y ∷ b)))) fewer
    ∙ zeroes_first n (padded n (y ∷ b)) (length_padded n (y ∷ b))
padded_order n (x ∷ a) [] h k =
    let more : nat_cmp (length (x ∷ a)) 0 ≡ Greater = sym (nat_cmp_is (length (x ∷ a)) 0 Greater (omega arith)) in
    ap (λ v. ordering_then (bytewise (padded n (x ∷ a)) v) (nat_cmp (length (x ∷ a)) 0)) (padded_nil n)
    ∙ ap (ordering_then (bytewise (padded n (x ∷ a)) (replicate n 0))) more
    ∙ zeroes_last n (padded n (x ∷ a)) (length_padded n (x ∷ a))
padded_order zero (x ∷ a) (y ∷ b) h k = absurd (omega arith)
padded_order (suc n) (x ∷ a) (y ∷ b) h k =
    let fronts : bytewise (padded (suc n) (x ∷ a)) (padded (suc n) (y ∷ b)) ≡ ordering_then (nat_cmp x y) (bytewise (padded n a) (padded n b)) =
    ap (λ v. bytewise v (padded (suc n) (y ∷ b))) (padded_cons n x a) ∙ ap (bytewise (x ∷ padded n a)) (padded_cons n y b) in
    ap (λ o. ordering_then o (nat_cmp (suc (length a)) (suc (length b)))) fronts
    ∙ then_assoc (nat_cmp x y) (bytewise (padded n a) (padded n b)) (nat_cmp (suc (length a)) (suc (length b)))
    ∙ ap (λ o. ordering_then (nat_cmp x y) (ordering_then (bytewise (padded n a) (padded n b)) o)) (compare_suc (length a) (length b))
    ∙ ap (ordering_then (nat_cmp x y)) (padded_order n a b (omega arith) (omega arith))

then_less : (o p q : Ordering) → (p ≡ Less → q ≡ Less) → ordering_then o p ≡ Less → ordering_then o q ≡ Less
then_less Less p q f h = refl
then_less Equal p q f h = f h
then_less Greater p q f h = h

not_both : (o : Ordering) → o ≡ Less → ordering_then o Greater ≡ Greater → ⊥
not_both Less h k = cc
not_both Equal h k = cc
not_both Greater h k = cc

not_less : {o : Ordering} → o ≡ Equal → o ≡ Less → ⊥
not_less e h = cc

-- values whose fronts differ compare as their fronts
pub lower_front : (n : ℕ) (a b : List ℕ) → bytewise (padded n a) (padded n b) ≡ Less → bytewise a b ≡ Less
lower_front n [] [] h = absurd (not_less (same_value (padded n [])) h)
lower_front n [] (y ∷ b) h = refl
lower_front n (x ∷ a) [] h = absurd (not_both (bytewise (padded n (x ∷ a)) (padded n [])) h last)
  where
    last : ordering_then (bytewise (padded n (x ∷ a)) (padded n [])) Greater ≡ Greater
    last = ap (λ v. ordering_then (bytewise (padded n (x ∷ a)) v) Greater) (padded_nil n) ∙ zeroes_last n (padded n (x ∷ a)) (length_padded n (x ∷ a))
lower_front zero (x ∷ a) (y ∷ b) h = absurd (not_less (ap (λ v. bytewise v (padded zero (y ∷ b))) (padded_zero (x ∷ a)) ∙ ap (bytewise []) (padded_zero (y ∷ b))) h)
lower_front (suc n) (x ∷ a) (y ∷ b) h = then_less (nat_cmp x y) (bytewise (padded n a) (padded n b)) (bytewise a b) (lower_front n a b) (sym fronts ∙ h)
  where
    fronts : bytewise (padded (suc n) (x ∷ a)) (padded (suc n) (y ∷ b)) ≡ ordering_then (nat_cmp x y) (bytewise (padded n a) (padded n b))
    fronts = ap (λ v. bytewise v (padded (suc n) (y ∷ b))) (padded_cons n x a) ∙ ap (bytewise (x ∷ padded n a)) (padded_cons n y b)

-- the smaller value, by its first byte that differs
one_more_place : (x y : ℕ) (a b : List ℕ) → x ≡ y → IsSmaller a b → IsSmaller (x ∷ a) (y ∷ b)
one_more_place x y a b e (k, same, within, inl ends) = (suc k, λ i. e i ∷ same i, omega arith, inl (omega arith))
one_more_place x y a b e (k, same, within, inr (inside, below)) = (suc k, λ i. e i ∷ same i, omega arith, inr (omega arith, below))

first_smaller : (x y : ℕ) (a b : List ℕ) (o : Ordering) → MatchOrdering o (x < y) (x ≡ y) (y < x)
    → (bytewise a b ≡ Less → IsSmaller a b) → ordering_then o (bytewise a b) ≡ Less → IsSmaller (x ∷ a) (y ∷ b)
first_smaller x y a b Less below rest h = (0, refl, omega arith, inr (omega arith, below))
first_smaller x y a b Equal same rest h = one_more_place x y a b same (rest h)
first_smaller x y a b Greater above rest h = cc

pub smaller_from_less : (a b : List ℕ) → bytewise a b ≡ Less → IsSmaller a b
smaller_from_less [] [] h = cc
smaller_from_less [] (y ∷ b) h = (0, refl, omega arith, inl refl)
smaller_from_less (x ∷ a) [] h = cc
smaller_from_less (x ∷ a) (y ∷ b) h = first_smaller x y a b (nat_cmp x y) (ranked x y _ refl) (smaller_from_less a b) h

less_by_first : (x y : ℕ) (a b : List ℕ) → x < y → bytewise (x ∷ a) (y ∷ b) ≡ Less
less_by_first x y a b h = ap (λ o. ordering_then o (bytewise a b)) (sym (nat_cmp_is x y Less h))

less_by_rest : (x y : ℕ) (a b : List ℕ) → x ≡ y → bytewise a b ≡ Less → bytewise (x ∷ a) (y ∷ b) ≡ Less
less_by_rest x y a b e h = ap (λ o. ordering_then o (bytewise a b)) (sym (nat_cmp_is x y Equal e)) ∙ h

pub less_from_smaller : (a b : List ℕ) → IsSmaller a b → bytewise a b ≡ Less
less_from_smaller [] [] s = absurd (omega (arith, s.2))
less_from_smaller [] (y ∷ b) s = refl
less_from_smaller (x ∷ a) [] s = absurd (omega (arith, s.2))
less_from_smaller (x ∷ a) (y ∷ b) (zero, same, within, inl ends) = absurd (omega arith)
less_from_smaller (x ∷ a) (y ∷ b) (zero, same, within, inr (inside, below)) = less_by_first x y a b below
less_from_smaller (x ∷ a) (y ∷ b) (suc k, same, within, inl ends) =
    less_by_rest x y a b (ap (λ v. get_or v 0 0) same) (less_from_smaller a b (k, ap (drop 1) same, omega arith, inl (omega arith)))
less_from_smaller (x ∷ a) (y ∷ b) (suc k, same, within, inr (inside, below)) =
    less_by_rest x y a b (ap (λ v. get_or v 0 0) same) (less_from_smaller a b (k, ap (drop 1) same, omega arith, inr (omega arith, below)))

pub equal_from_same : (a b : List ℕ) → a ≡ b → bytewise a b ≡ Equal
equal_from_same a b e = ap (bytewise a) (sym e) ∙ same_value a

same_rest : (x y : ℕ) (a b : List ℕ) (o : Ordering) → MatchOrdering o (x < y) (x ≡ y) (y < x) → (bytewise a b ≡ Equal → a ≡ b)
    → ordering_then o (bytewise a b) ≡ Equal → x ∷ a ≡ y ∷ b
same_rest x y a b Less below rest h = cc
same_rest x y a b Equal e rest h = λ i. e i ∷ rest h i
same_rest x y a b Greater above rest h = cc

pub same_from_equal : (a b : List ℕ) → bytewise a b ≡ Equal → a ≡ b
same_from_equal [] [] h = refl
same_from_equal [] (y ∷ b) h = cc
same_from_equal (x ∷ a) [] h = cc
same_from_equal (x ∷ a) (y ∷ b) h = same_rest x y a b (nat_cmp x y) (ranked x y _ refl) (same_from_equal a b) h

turned : (a b : List ℕ) → bytewise a b ≡ ordering_reverse (bytewise b a)
turned a b = bytewise_is_cmp a b ∙ nat_list_cmp_total.antisymm a b ∙ ap ordering_reverse (sym (bytewise_is_cmp b a))

pub less_from_greater : (a b : List ℕ) → bytewise a b ≡ Greater → bytewise b a ≡ Less
less_from_greater a b h = turned b a ∙ ap ordering_reverse h

pub greater_from_less : (a b : List ℕ) → bytewise b a ≡ Less → bytewise a b ≡ Greater
greater_from_less a b h = turned a b ∙ ap ordering_reverse h
