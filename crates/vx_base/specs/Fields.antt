-- The fields of a record, by their names and places.
use Rattle.std.specs.Prelude.{ℕ, zero, suc, List, Option, bytes_eq, position}
use Rattle.vx_base.specs.Kinds.{Kinds, no_kinds, kind}

-- the place of the first field of this name
abbrev pub place_of_name : List (List ℕ) → List ℕ → Option ℕ
place_of_name names name = position (λ other. bytes_eq other name) names

-- how many kinds there are
abbrev pub kind_count : Kinds → ℕ
kind_count no_kinds = 0
kind_count (kind k ks) = suc (kind_count ks)

-- the kinds without the one at a place
abbrev pub kinds_without : ℕ → Kinds → Kinds
kinds_without i no_kinds = no_kinds
kinds_without zero (kind k ks) = ks
kinds_without (suc i) (kind k ks) = kind k (kinds_without i ks)
