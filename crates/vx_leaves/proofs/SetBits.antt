-- The bits of a word that are set, gone through from the lowest on.
use Rattle.std.proofs.Common.{ℕ, ◌+◌, ◌-◌, ◌^◌, ◌<◌, ◌≤◌, ◌≡◌, ◌↔◌, Bool, false, List, length, set, inl, inr, refl, sym, ◌∙◌, ap, subst, arith}
use Rattle.std.specs.Prelude.{◌⊎◌, bit_and, slice_index, slice_set}
use Rattle.std.specs.Int.{bit_at, w64, trailing_zeros}
use Rattle.std.proofs.lemmas.Bool.{cases_lt, cases_eq}
use Rattle.std.proofs.lemmas.Grind.{get_or-set_at}
use Rattle.std.proofs.lemmas.List.{get_or-set_other, length-set}
use Rattle.std.proofs.lemmas.Nat.Bits.{bit_at-trailing_zeros, bit_at-zero}
use Rattle.vx_base.specs.Bits.{bool_at}
use Rattle.vx_base.proofs.Edges.{lowest_gone}
use Rattle.vx_leaves.specs.Dictionaries.{MarksSet, NamesSet}

-- the lowest of the bits that are left, and those that are left after it
pub record IsLowest (rest t next : ℕ) : Type 0 where
  pub inside : t < 64
  pub set : bit_at rest t ≡ 1
  pub gone : bit_at next t ≡ 0
  pub others : (i : ℕ) → (i ≡ t → ⊥) → bit_at next i ≡ bit_at rest i

pub lowest_is : (rest : ℕ) → 0 < rest → rest < 2 ^ 64 → IsLowest rest (trailing_zeros w64 rest) (bit_and rest (rest - 1))
lowest_is rest some fits =
    let t : ℕ = trailing_zeros w64 rest in
    let first = bit_at-trailing_zeros w64 rest some fits in
    let after = lowest_gone t rest first.1 first.2 in
    record {
      inside = first.0;
      set = first.1;
      gone = after.0 t (omega arith);
      others = λ i other. elim (cases_lt i t) [
        | inl low ↦ after.0 i (omega arith) ∙ sym (first.2 i low)
        | inr high ↦ elim (cases_lt t i) [ inl past ↦ after.1 i past | inr upto ↦ absurd (other (omega arith)) ]
      ];
    }

-- a bit that is set lies before a place from which on none is
pub set_before : (word start end t : ℕ) → ((i : ℕ) → end ≤ start + i → bit_at word i ≡ 0) → bit_at word t ≡ 1 → start + t < end
set_before word start end t none set = elim (cases_lt (start + t) end) [ inl before ↦ before | inr past ↦ absurd (omega (arith, none t past, set)) ]

-- ---- what is gone through

-- the bits that are left are set in the word, and for each other one that is set there P holds
pub record IsDone (word rest : ℕ) (P : ℕ → Type 0) : Type 0 where
  pub among : (i : ℕ) → bit_at rest i ≡ 1 → bit_at word i ≡ 1
  pub done : (i : ℕ) → bit_at word i ≡ 1 → bit_at rest i ≡ 0 → P i

pub IsDone-none : (word : ℕ) (P : ℕ → Type 0) → IsDone word word P
IsDone-none word P = record { among = λ i on. on; done = λ i on off. absurd (omega (arith, on, off)) }

pub IsDone-next : (word rest t next : ℕ) (P : ℕ → Type 0) → IsLowest rest t next → P t → IsDone word rest P → IsDone word next P
IsDone-next word rest t next P lowest here done = record {
  among = λ i on. elim (cases_eq i t) [
    | inl same ↦ absurd (omega (arith, on, lowest.gone, ap (bit_at next) same))
    | inr other ↦ done.among i (sym (lowest.others i other) ∙ on)
  ];
  done = λ i on off. elim (cases_eq i t) [
    | inl same ↦ subst P (sym same) here
    | inr other ↦ done.done i on (sym (lowest.others i other) ∙ off)
  ];
}

pub IsDone-all : (word : ℕ) (P : ℕ → Type 0) → IsDone word 0 P → (i : ℕ) → bit_at word i ≡ 1 → P i
IsDone-all word P done i on = done.done i on (bit_at-zero i)

-- ---- what is marked

-- some of the codes from first on whose bit is set in a word, and no more left, is j
abbrev pub NamesGone : List ℕ → ℕ → ℕ → ℕ → ℕ → Type 0
NamesGone ps first word rest j = (i : ℕ) × (bit_at word i ≡ 1) × (bit_at rest i ≡ 0) × (slice_index ps (first + i) ≡ j)

pub record MarksGone (ps : List ℕ) (first word rest : ℕ) (r : Bool) (old new : List Bool) : Type 0 where
  pub among : (i : ℕ) → bit_at rest i ≡ 1 → bit_at word i ≡ 1
  pub len : length new ≡ length old
  pub each : (j : ℕ) → j < length old → (bool_at new j ≡ r) ↔ ((bool_at old j ≡ r) ⊎ NamesGone ps first word rest j)

pub MarksGone-none : (ps : List ℕ) (first word : ℕ) (r : Bool) (old : List Bool) → MarksGone ps first word word r old old
MarksGone-none ps first word r old = record {
  among = λ i on. on;
  len = refl;
  each = λ j inside. (
    (λ is. inl is),
    (λ (either : (bool_at old j ≡ r) ⊎ NamesGone ps first word word j). elim either [ inl is ↦ is | inr found ↦ absurd (omega (arith, found.1, found.2)) ]),
  );
}

module _ (ps : List ℕ) (first word rest t next : ℕ) (r : Bool) (old new : List Bool) (lowest : IsLowest rest t next) (marks : MarksGone ps first word rest r old new) where
  gone_still : (j : ℕ) → NamesGone ps first word rest j → NamesGone ps first word next j
  gone_still j found = elim (cases_eq found.0 t) [
    | inl same ↦ absurd (omega (arith, found.2, lowest.set, ap (bit_at rest) same))
    | inr other ↦ (found.0, found.1, lowest.others found.0 other ∙ found.2, found.3)
  ]

  gone_before : (j : ℕ) → (found : NamesGone ps first word next j) → (found.0 ≡ t → ⊥) → NamesGone ps first word rest j
  gone_before j found other = (found.0, found.1, sym (lowest.others found.0 other) ∙ found.2, found.3)

  here_gone : (j : ℕ) → slice_index ps (first + t) ≡ j → NamesGone ps first word next j
  here_gone j same = (t, marks.among t lowest.set, lowest.gone, same)

  pub MarksGone-next : slice_index ps (first + t) < length new → MarksGone ps first word next r old (slice_set new (slice_index ps (first + t)) r)
  MarksGone-next within = record {
    among = λ i on. elim (cases_eq i t) [
      | inl same ↦ absurd (omega (arith, on, lowest.gone, ap (bit_at next) same))
      | inr other ↦ marks.among i (sym (lowest.others i other) ∙ on)
    ];
    len = length-set new (slice_index ps (first + t)) r ∙ marks.len;
    each = λ j inside. elim (cases_eq j (slice_index ps (first + t))) [
      | inl here ↦ ((λ is. inr (here_gone j (sym here))), (λ either. get_or-set_at new (slice_index ps (first + t)) j r false here within))
      | inr other ↦
          let kept : bool_at (set new (slice_index ps (first + t)) r) j ≡ bool_at new j = get_or-set_other new (slice_index ps (first + t)) j r false other in (
            (λ is. elim ((marks.each j inside).0 (sym kept ∙ is)) [ inl was ↦ inl was | inr found ↦ inr (gone_still j found) ]),
            (λ (either : (bool_at old j ≡ r) ⊎ NamesGone ps first word next j). kept ∙ (marks.each j inside).1 (elim either [
              | inl was ↦ inl was
              | inr found ↦ inr (gone_before j found (λ same. other (sym found.3 ∙ ap (λ i. slice_index ps (first + i)) same)))
            ])),
          )
    ];
  }

pub MarksGone-all : (ps : List ℕ) (first word : ℕ) (r : Bool) (old new : List Bool) → MarksGone ps first word 0 r old new → MarksSet ps first word r old new
MarksGone-all ps first word r old new marks = record {
  len = marks.len;
  each = λ j inside. (
    (λ is. elim ((marks.each j inside).0 is) [ inl was ↦ inl was | inr found ↦ inr (found.0, found.1, found.3) ]),
    (λ (either : (bool_at old j ≡ r) ⊎ NamesSet ps first word j). (marks.each j inside).1 (elim either [ inl was ↦ inl was | inr found ↦ inr (found.0, found.1, bit_at-zero found.0, found.2) ])),
  );
}
