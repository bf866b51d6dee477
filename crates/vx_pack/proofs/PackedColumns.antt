-- Fields that are packed one after another.
use Rattle.std.proofs.Common.{◌≡◌, ◌∙◌, ◌+◌, ◌<◌, ℕ, zero, suc, List, [], ◌∷◌, ◌++◌, length, map, get_or, sym, subst, inl, inr}
use Rattle.std.proofs.Common.{arith, zero-add}
use Rattle.std.proofs.lemmas.Bool.{cases_lt}
use Rattle.std.proofs.lemmas.List.{get_or_append_left, get_or_push, length_push}
use Rattle.vx_base.specs.Fields.{kind_count}
use Rattle.vx_base.specs.Kinds.{Kinds, no_kinds, kind}
use Rattle.vx_base.specs.Rows.{Row}
use Rattle.vx_tree.specs.Formed.{AllLen, IsStruct}
use Rattle.vx_tree.specs.Meaning.{trees_from}
use Rattle.vx_tree.specs.Tree.{Tree, Trees}
use Rattle.vx_pack.specs.Packed.{ArePacked, AreTooLarge, IsPacked, IsTooLarge, field_or_default}
use Rattle.vx_pack.specs.Records.{kind_at}
use Rattle.vx_pack.proofs.PackedParts.{columns_counted, columns_len}

-- the rows of the field at a place
abbrev pub field_rows : Kinds → List Row → ℕ → List Row
field_rows ks rs place = map (field_or_default (kind_at place ks) place) rs

-- the columns are the packed first fields
abbrev pub AreFirstPacked : Kinds → List Row → List Tree → Type 0
AreFirstPacked ks rs ts = (j : ℕ) (d : Tree) → j < length ts → IsPacked (kind_at j ks) (field_rows ks rs j) (get_or ts j d)

pub none_packed : (ks : Kinds) (rs : List Row) → AreFirstPacked ks rs []
none_packed ks rs j d l = absurd (omega arith)

pushed_packed : (ks : Kinds) (rs : List Row) (ts : List Tree) (place : ℕ) (t : Tree) → length ts ≡ place → AreFirstPacked ks rs ts
    → IsPacked (kind_at place ks) (field_rows ks rs place) t → AreFirstPacked ks rs (ts ++ t ∷ [])
pushed_packed ks rs ts place t len before here j d l = elim (cases_lt j place) [
  | inl below ↦
      let at : get_or ts j d ≡ get_or (ts ++ t ∷ []) j d = sym (get_or_append_left ts (t ∷ []) d j (omega (arith, len))) in
      subst (IsPacked (kind_at j ks) (field_rows ks rs j)) at (before j d (omega (arith, len)))
  | inr last ↦
      let same : place ≡ j = omega (arith, len, length_push ts t) in
      let at : t ≡ get_or (ts ++ t ∷ []) j d = sym (get_or_push ts t d j (len ∙ same)) in
      subst (λ i. IsPacked (kind_at i ks) (field_rows ks rs i) (get_or (ts ++ t ∷ []) j d)) same
      (subst (IsPacked (kind_at place ks) (field_rows ks rs place)) at here)
]

pub one_more_packed : (ks : Kinds) (rs : List Row) (ts more : List Tree) (place : ℕ) (t : Tree) → length ts ≡ place → more ≡ ts ++ t ∷ []
    → AreFirstPacked ks rs ts → IsPacked (kind_at place ks) (field_rows ks rs place) t → AreFirstPacked ks rs more
one_more_packed ks rs ts more place t len pushed before here =
    subst (AreFirstPacked ks rs) (sym pushed) (pushed_packed ks rs ts place t len before here)

-- where all fields are packed
pub all_packed : (ks : Kinds) (rs : List Row) (ts : List Tree) → length ts ≡ kind_count ks → AreFirstPacked ks rs ts
    → ArePacked 0 ks rs (trees_from ts)
all_packed ks rs ts count first =
    from_place 0 ks ts count (λ j d l.
    subst (λ c. IsPacked (kind_at j ks) (map (field_or_default (kind_at j ks) c) rs) (get_or ts j d)) (sym (zero-add j)) (first j d l))
  where
    from_place : (c : ℕ) (ks : Kinds) (ts : List Tree) → length ts ≡ kind_count ks
        → ((j : ℕ) (d : Tree) → j < length ts → IsPacked (kind_at j ks) (map (field_or_default (kind_at j ks) (c + j)) rs) (get_or ts j d))
        → ArePacked c ks rs (trees_from ts)
    from_place c no_kinds [] count each = tt
    from_place c no_kinds (t ∷ ts) count each = absurd (omega arith)
    from_place c (kind k ks) [] count each = absurd (omega arith)
    from_place c (kind k ks) (t ∷ ts) count each =
        let here : c + 0 ≡ c = omega arith in (
          subst (λ n. IsPacked k (map (field_or_default k n) rs) t) here (each 0 t (omega arith)),
          from_place (suc c) ks ts (omega arith) (λ j d l.
              let next : c + suc j ≡ suc c + j = omega arith in
              subst (λ n. IsPacked (kind_at j ks) (map (field_or_default (kind_at j ks) n) rs) (get_or ts j d)) next
              (each (suc j) d (omega arith))),
        )

-- where one is too large
pub one_too_large : (ks : Kinds) (rs : List Row) (place : ℕ) → place < kind_count ks
    → IsTooLarge (kind_at place ks) (field_rows ks rs place) → AreTooLarge 0 ks rs
one_too_large ks rs place inside large =
    let at : place ≡ 0 + place = sym (zero-add place) in
    from_place 0 ks place inside (subst (λ c. IsTooLarge (kind_at place ks) (map (field_or_default (kind_at place ks) c) rs)) at large)
  where
    from_place : (c : ℕ) (ks : Kinds) (j : ℕ) → j < kind_count ks
        → IsTooLarge (kind_at j ks) (map (field_or_default (kind_at j ks) (c + j)) rs) → AreTooLarge c ks rs
    from_place c no_kinds j inside large = absurd (omega arith)
    from_place c (kind k ks) zero inside large =
        let here : c + 0 ≡ c = omega arith in inl (subst (λ n. IsTooLarge k (map (field_or_default k n) rs)) here large)
    from_place c (kind k ks) (suc j) inside large =
        let next : c + suc j ≡ suc c + j = omega arith in
        inr (from_place (suc c) ks j (omega arith)
        (subst (λ n. IsTooLarge (kind_at j ks) (map (field_or_default (kind_at j ks) n) rs)) next large))

-- ---- the records of them

pub packed_struct : (names : List (List ℕ)) (ks : Kinds) (rs : List Row) (us : Trees) (len : ℕ) → length names ≡ kind_count ks
    → length rs ≡ len
    → ArePacked 0 ks rs us → IsStruct names us len
packed_struct names ks rs us len named counted are = record {
  named = named ∙ sym (columns_counted 0 ks rs us are);
  lens = subst (λ n. AllLen n us) counted (columns_len 0 ks rs us are);
}
