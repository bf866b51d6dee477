-- The rows of lists, one list after another.
use Rattle.std.proofs.Common.{◌≡◌, ◌∙◌, ◌*◌, ℕ, Bool, List, [], ◌∷◌, length, map, take, get_or, sum, sym, ap, arith, inl}
use Rattle.std.specs.List.{All, flat_map}
use Rattle.std.proofs.lemmas.List.{length-append, take-map}
use Rattle.std.proofs.lemmas.List.Concat.{length-flat_map}
use Rattle.std.proofs.lemmas.List.Elements.{All-append, All-head, All-nil, All-tail}
use Rattle.std.proofs.lemmas.List.Sums.{sum-map}
use Rattle.vx_base.specs.Kinds.{Kind, fixed_lists, Fits}
use Rattle.vx_base.specs.Rows.{Row}
use Rattle.vx_views.specs.Places.{place_of}
use Rattle.vx_pack.specs.Packed.{items_or_blank, list_sizes}
use Rattle.vx_pack.proofs.BlankRows.{fixed_lists_items_blank}

-- ---- any lists

-- those before a list, by the sizes of the lists
pub place_of-sizes : {X Y : Type 0} (f : X → List Y) (rs : List X) (i : ℕ)
    → place_of (map (λ r. length (f r)) rs) i ≡ length (flat_map f (take i rs))
place_of-sizes f rs i =
    ap sum (take-map (λ r. length (f r)) i rs) ∙ sum-map (λ r. length (f r)) (take i rs) ∙ sym (length-flat_map f (take i rs))

-- all of them, where each list has one size
pub length-flat_map-same : {X Y : Type 0} (f : X → List Y) (size : ℕ) (rs : List X) → All (λ r. length (f r) ≡ size) rs
    → length (flat_map f rs) ≡ length rs * size
length-flat_map-same f size [] all = omega arith
length-flat_map-same f size (r ∷ rs) all =
    omega (
      arith,
      length-append (f r) (flat_map f rs),
      All-head (λ r. length (f r) ≡ size) r rs all,
      length-flat_map-same f size rs (All-tail (λ r. length (f r) ≡ size) r rs all),
    )

pub All-flat_map : {X Y : Type 0} (P : Y → Type 0) (f : X → List Y) (xs : List X) → All (λ x. All P (f x)) xs → All P (flat_map f xs)
All-flat_map P f [] all = All-nil P
All-flat_map P f (x ∷ xs) all =
    All-append P (f x) (flat_map f xs) (All-head (λ x. All P (f x)) x xs all) (All-flat_map P f xs (All-tail (λ x. All P (f x)) x xs all))

-- ---- those of rows

pub sum-list_sizes : (k : Kind) (rs : List Row) → sum (list_sizes k rs) ≡ length (flat_map (items_or_blank k 0) rs)
sum-list_sizes k rs =
    sum-map (λ r. length (items_or_blank k 0 r)) rs ∙ sym (length-flat_map (items_or_blank k 0) rs)

pub length-fixed_items : (k : Kind) (size : ℕ) (n : Bool) (rs : List Row) → All (Fits (fixed_lists k size n)) rs
    → length (flat_map (items_or_blank k size) rs) ≡ length rs * size
length-fixed_items k size n rs fits =
    length-flat_map-same (items_or_blank k size) size rs
    (λ i d l. (fixed_lists_items_blank k size n (get_or rs i d) (inl (fits i d l))).len)
