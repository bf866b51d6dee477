-- The bytewise order of values, and the order of views by their words.
use Rattle.std.specs.Prelude.{◌≡◌, ℕ, ◌<◌, ◌⊎◌, List, [], ◌∷◌, length, take, slice_index}
use Rattle.std.specs.declared.cmp.Ordering.{Ordering}
use Rattle.std.specs.declared.cmp.Ordering.TheVariants.{Less, Equal, Greater}
use Rattle.std.specs.Ordering.{ordering_then, nat_cmp}
use Rattle.vx_views.specs.Views.{view_size, view_order_prefix, view_order_tail}

-- by the first byte that differs; a proper beginning comes first
abbrev pub bytewise : List ℕ → List ℕ → Ordering
bytewise [] [] = Equal
bytewise [] (b ∷ bs) = Less
bytewise (a ∷ rest) [] = Greater
bytewise (a ∷ rest) (b ∷ others) = ordering_then (nat_cmp a b) (bytewise rest others)

-- by the order prefix, then by the order tail, then by the length
abbrev pub by_words : List ℕ → List ℕ → Ordering
by_words v w =
    ordering_then (nat_cmp (view_order_prefix v) (view_order_prefix w))
    (ordering_then (nat_cmp (view_order_tail v) (view_order_tail w)) (nat_cmp (view_size v) (view_size w)))

-- at the first place where two values differ, the first one ends, or has the lower byte
abbrev pub IsSmaller : List ℕ → List ℕ → Type 0
IsSmaller a b =
    (k : ℕ) × (take k a ≡ take k b) × (k < length b)
    × ((k ≡ length a) ⊎ ((k < length a) × (slice_index a k < slice_index b k)))
