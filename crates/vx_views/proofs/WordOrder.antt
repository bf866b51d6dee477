-- The order of words is the bytewise order of values.
use Rattle.std.proofs.Common.{◌≡◌, ℕ, ◌<◌, ◌≤◌, List, ◌++◌, length, take, drop, refl, sym, ◌∙◌, ap, arith}
use Rattle.std.specs.declared.cmp.Ordering.TheVariants.{Less}
use Rattle.std.specs.Ordering.{ordering_then, nat_cmp}
use Rattle.std.specs.Cmp.{nat_cmp_is}
use Rattle.std.proofs.lemmas.List.{take-append-drop}
use Rattle.vx_views.specs.Order.{bytewise, by_words}
use Rattle.vx_views.specs.Views.{view_value, padded, inlined_view, held_value, AreBytes, IsZeroPadded, order_prefix_of, order_tail_of}
use Rattle.vx_views.specs.declared.view.TheConstants.{MAX_INLINED_SIZE}
use Rattle.vx_views.proofs.Bytewise.{then_assoc, bytewise-append, padded_order, lower_front}
use Rattle.vx_views.proofs.Digits.{compare_four, compare_eight}
use Rattle.vx_views.proofs.Padding.{length_padded, take_padded, drop_padded, bytes-padded, bytes-drop}
use Rattle.vx_views.proofs.Places.{size_of_inlined, order_prefix_of_inlined, order_tail_of_inlined, inlined_again, size_of_held, bytes_of_held, value_of_inlined}

pub compare_prefixes : (a b : List ℕ) → AreBytes a → AreBytes b → nat_cmp (order_prefix_of a) (order_prefix_of b) ≡ bytewise (padded 4 a) (padded 4 b)
unfolding order_prefix_of
compare_prefixes a b h k = compare_four (padded 4 a) (padded 4 b) (bytes-padded 4 a h) (bytes-padded 4 b k) (length_padded 4 a) (length_padded 4 b)

pub compare_tails : (a b : List ℕ) → AreBytes a → AreBytes b → nat_cmp (order_tail_of a) (order_tail_of b) ≡ bytewise (padded 8 (drop 4 a)) (padded 8 (drop 4 b))
unfolding order_tail_of
compare_tails a b h k =
    compare_eight (padded 8 (drop 4 a)) (padded 8 (drop 4 b)) (bytes-padded 8 (drop 4 a) (bytes-drop 4 a h)) (bytes-padded 8 (drop 4 b) (bytes-drop 4 b k))
    (length_padded 8 (drop 4 a)) (length_padded 8 (drop 4 b))

-- twelve bytes are the four of the prefix and the eight of the tail
two_words : (v : List ℕ) → padded 4 v ++ padded 8 (drop 4 v) ≡ padded MAX_INLINED_SIZE v
two_words v =
    ap (λ (front : List ℕ). front ++ padded 8 (drop 4 v)) (sym (take_padded 4 MAX_INLINED_SIZE v (omega arith)))
    ∙ ap (λ (rest : List ℕ). take 4 (padded MAX_INLINED_SIZE v) ++ rest) (sym (drop_padded 4 8 MAX_INLINED_SIZE v refl))
    ∙ take-append-drop 4 (padded MAX_INLINED_SIZE v)

both_words : (a b : List ℕ) → bytewise (padded MAX_INLINED_SIZE a) (padded MAX_INLINED_SIZE b) ≡ ordering_then (bytewise (padded 4 a) (padded 4 b)) (bytewise (padded 8 (drop 4 a)) (padded 8 (drop 4 b)))
both_words a b =
    ap (λ v. bytewise v (padded MAX_INLINED_SIZE b)) (sym (two_words a)) ∙ ap (bytewise (padded 4 a ++ padded 8 (drop 4 a))) (sym (two_words b))
    ∙ bytewise-append (padded 4 a) (padded 4 b) (padded 8 (drop 4 a)) (padded 8 (drop 4 b)) (length_padded 4 a ∙ sym (length_padded 4 b))

-- the prefix, then the tail, then the length, of two values of at most 12 bytes
compare_words : (a b : List ℕ) → AreBytes a → AreBytes b → length a ≤ MAX_INLINED_SIZE → length b ≤ MAX_INLINED_SIZE
    → ordering_then (nat_cmp (order_prefix_of a) (order_prefix_of b)) (ordering_then (nat_cmp (order_tail_of a) (order_tail_of b)) (nat_cmp (length a) (length b)))
    ≡ bytewise a b
compare_words a b h k few less =
    ap (λ o. ordering_then o (ordering_then (nat_cmp (order_tail_of a) (order_tail_of b)) (nat_cmp (length a) (length b)))) (compare_prefixes a b h k)
    ∙ ap (λ o. ordering_then (bytewise (padded 4 a) (padded 4 b)) (ordering_then o (nat_cmp (length a) (length b)))) (compare_tails a b h k)
    ∙ sym (then_assoc (bytewise (padded 4 a) (padded 4 b)) (bytewise (padded 8 (drop 4 a)) (padded 8 (drop 4 b))) (nat_cmp (length a) (length b)))
    ∙ ap (λ o. ordering_then o (nat_cmp (length a) (length b))) (sym (both_words a b))
    ∙ padded_order MAX_INLINED_SIZE a b few less

words_of_inlined : (a b : List ℕ) → length a ≤ MAX_INLINED_SIZE → length b ≤ MAX_INLINED_SIZE → by_words (inlined_view a) (inlined_view b)
    ≡ ordering_then (nat_cmp (order_prefix_of a) (order_prefix_of b)) (ordering_then (nat_cmp (order_tail_of a) (order_tail_of b)) (nat_cmp (length a) (length b)))
words_of_inlined a b few less i =
    ordering_then (nat_cmp (order_prefix_of_inlined a i) (order_prefix_of_inlined b i))
    (ordering_then (nat_cmp (order_tail_of_inlined a i) (order_tail_of_inlined b i)) (nat_cmp (size_of_inlined a (omega arith) i) (size_of_inlined b (omega arith) i)))

-- views that hold their values, zero-padded, compare by their words as their values do
pub words_order : (buffers others : List (List ℕ)) (v w : List ℕ) → IsZeroPadded v → IsZeroPadded w → by_words v w ≡ bytewise (view_value buffers v) (view_value others w)
words_order buffers others v w z y =
    ap (λ view. by_words view w) (sym (inlined_again v z)) ∙ ap (by_words (inlined_view (held_value v))) (sym (inlined_again w y))
    ∙ words_of_inlined (held_value v) (held_value w) few less
    ∙ compare_words (held_value v) (held_value w) (bytes_of_held v z.formed) (bytes_of_held w y.formed) few less
    ∙ ap (λ value. bytewise value (held_value w)) (sym (value_of_inlined buffers v z.inlined)) ∙ ap (bytewise (view_value buffers v)) (sym (value_of_inlined others w y.inlined))
  where
    few : length (held_value v) ≤ MAX_INLINED_SIZE
    few = omega (arith, size_of_held v z, z.inlined)

    less : length (held_value w) ≤ MAX_INLINED_SIZE
    less = omega (arith, size_of_held w y, y.inlined)

-- the lower of two unequal order prefixes belongs to the smaller value
pub lower_prefix : (a b : List ℕ) → AreBytes a → AreBytes b → order_prefix_of a < order_prefix_of b → bytewise a b ≡ Less
lower_prefix a b h k lower = lower_front 4 a b (sym (compare_prefixes a b h k) ∙ sym (nat_cmp_is (order_prefix_of a) (order_prefix_of b) Less lower))

-- views that hold their values, zero-padded, are the same exactly where their values are
pub same_from_values : (buffers others : List (List ℕ)) (v w : List ℕ) → IsZeroPadded v → IsZeroPadded w → view_value buffers v ≡ view_value others w → v ≡ w
same_from_values buffers others v w z y e =
    sym (inlined_again v z) ∙ ap inlined_view (sym (value_of_inlined buffers v z.inlined) ∙ e ∙ value_of_inlined others w y.inlined) ∙ inlined_again w y

pub values_from_same : (buffers others : List (List ℕ)) (v w : List ℕ) → IsZeroPadded v → IsZeroPadded w → v ≡ w → view_value buffers v ≡ view_value others w
values_from_same buffers others v w z y e = value_of_inlined buffers v z.inlined ∙ ap held_value e ∙ sym (value_of_inlined others w y.inlined)
