-- The table of sequences holds just the encodings of the characters.
use Rattle.std.proofs.Common.{◌≡◌, ℕ, zero, suc, ◌+◌, ◌/◌, ◌<◌, ◌≤◌, ◌↔◌, true, List, [], ◌∷◌, ◌++◌, get_or, map, ap, refl, subst, inl, inr, arith, ◌∙◌, lt-ltb, le-ltb}
use Rattle.std.specs.Prelude.{All}
use Rattle.std.specs.Int.{IsInRange}
use Rattle.std.specs.List.{concat}
use Rattle.std.specs.Str.{IsUtf8}
use Rattle.std.proofs.lemmas.Bool.{cases_lt, and_parts}
use Rattle.std.proofs.lemmas.Str.{encode_ascii, IsUtf8-nil, IsUtf8-append}
use Rattle.std.proofs.lemmas.List.Elements.{All-nil, All-cons, All-head, All-tail}
use lib.Utf8.{scalar, scalars, encode, encodes, next, scalar_cases}
use Rattle.simdutf8.specs.Steps.{least_after, most_after, first, second, later}
use Rattle.simdutf8.proofs.Chars.{StepsThen-IsUtf8, least_is, most_is}
use Rattle.vx_views.specs.Utf8.{sequences, LieIn, IsSequence, IsJoinedSequences}

-- ---- a sequence is UTF-8

one_byte : (a : ℕ) → a ≤ 0x7F → IsUtf8 (a ∷ [])
one_byte a low = (StepsThen-IsUtf8 (a ∷ [])).0 (first (omega arith) (inl (omega arith)), omega arith)

two_bytes : (a b : ℕ) → IsInRange 0xC2 0xDF a → IsInRange 0x80 0xBF b → IsUtf8 (a ∷ b ∷ [])
two_bytes a b lead next =
    let least = least_is a in
    let most = most_is a in
    (StepsThen-IsUtf8 (a ∷ b ∷ [])).0 (first (omega arith) (inr (omega arith)), (second (omega arith) (omega arith) (omega arith), omega arith))

three_bytes : (a b c : ℕ) → IsInRange 0xE0 0xEF a → IsInRange (least_after a) (most_after a) b → IsInRange 0x80 0xBF c → IsUtf8 (a ∷ b ∷ c ∷ [])
three_bytes a b c lead next last =
    let least = least_is a in
    let most = most_is a in
    (StepsThen-IsUtf8 (a ∷ b ∷ c ∷ [])).0 (
      first (omega arith) (inr (omega arith)),
      (second (omega arith) (omega arith) next, (later (inr (omega arith)) (omega arith) (omega arith), omega arith)),
    )

four_bytes : (a b c d : ℕ) → IsInRange 0xF0 0xF4 a → IsInRange (least_after a) (most_after a) b → IsInRange 0x80 0xBF c → IsInRange 0x80 0xBF d → IsUtf8 (a ∷ b ∷ c ∷ d ∷ [])
four_bytes a b c d lead next third last =
    let least = least_is a in
    let most = most_is a in
    (StepsThen-IsUtf8 (a ∷ b ∷ c ∷ d ∷ [])).0 (
      first (omega arith) (inr (omega arith)),
      (
        second (omega arith) (omega arith) next,
        (later (inr (omega arith)) (omega arith) (omega arith), (later (inl (omega arith)) (omega arith) (omega arith), omega arith)),
      ),
    )

-- first bytes from low to high are those of a row, and let a second byte lie from least to most
abbrev LeadsFrom : ℕ → ℕ → ℕ → ℕ → ℕ → ℕ → Type 0
LeadsFrom least_lead most_lead low high least most = (a : ℕ) → IsInRange low high a → IsInRange least_lead most_lead a × ((least_after a ≤ least) × (most ≤ most_after a))

row_of_one : (bytes : List ℕ) → LieIn ((0x00, 0x7F) ∷ []) bytes → IsUtf8 bytes
row_of_one [] lies = absurd lies
row_of_one (a ∷ []) lies = one_byte a lies.0.1
row_of_one (a ∷ b ∷ bytes) lies = absurd lies.1

row_of_two : (bytes : List ℕ) → LieIn ((0xC2, 0xDF) ∷ (0x80, 0xBF) ∷ []) bytes → IsUtf8 bytes
row_of_two [] lies = absurd lies
row_of_two (a ∷ []) lies = absurd lies.1
row_of_two (a ∷ b ∷ []) lies = two_bytes a b lies.0 lies.1.0
row_of_two (a ∷ b ∷ c ∷ bytes) lies = absurd lies.1.1

row_of_three : (low high least most : ℕ) → LeadsFrom 0xE0 0xEF low high least most → (bytes : List ℕ) → LieIn ((low, high) ∷ (least, most) ∷ (0x80, 0xBF) ∷ []) bytes → IsUtf8 bytes
row_of_three low high least most leads [] lies = absurd lies
row_of_three low high least most leads (a ∷ []) lies = absurd lies.1
row_of_three low high least most leads (a ∷ b ∷ []) lies = absurd lies.1.1
row_of_three low high least most leads (a ∷ b ∷ c ∷ []) lies = let lead = leads a lies.0 in three_bytes a b c lead.0 (omega arith) lies.1.1.0
row_of_three low high least most leads (a ∷ b ∷ c ∷ d ∷ bytes) lies = absurd lies.1.1.1

row_of_four : (low high least most : ℕ) → LeadsFrom 0xF0 0xF4 low high least most → (bytes : List ℕ) → LieIn ((low, high) ∷ (least, most) ∷ (0x80, 0xBF) ∷ (0x80, 0xBF) ∷ []) bytes → IsUtf8 bytes
row_of_four low high least most leads [] lies = absurd lies
row_of_four low high least most leads (a ∷ []) lies = absurd lies.1
row_of_four low high least most leads (a ∷ b ∷ []) lies = absurd lies.1.1
row_of_four low high least most leads (a ∷ b ∷ c ∷ []) lies = absurd lies.1.1.1
row_of_four low high least most leads (a ∷ b ∷ c ∷ d ∷ []) lies = let lead = leads a lies.0 in four_bytes a b c d lead.0 (omega arith) lies.1.1.0 lies.1.1.1.0
row_of_four low high least most leads (a ∷ b ∷ c ∷ d ∷ e ∷ bytes) lies = absurd lies.1.1.1.1

leads_e0 : LeadsFrom 0xE0 0xEF 0xE0 0xE0 0xA0 0xBF
leads_e0 a lead = let least = least_is a in let most = most_is a in omega arith

leads_e1_ec : LeadsFrom 0xE0 0xEF 0xE1 0xEC 0x80 0xBF
leads_e1_ec a lead = let least = least_is a in let most = most_is a in omega arith

leads_ed : LeadsFrom 0xE0 0xEF 0xED 0xED 0x80 0x9F
leads_ed a lead = let least = least_is a in let most = most_is a in omega arith

leads_ee_ef : LeadsFrom 0xE0 0xEF 0xEE 0xEF 0x80 0xBF
leads_ee_ef a lead = let least = least_is a in let most = most_is a in omega arith

leads_f0 : LeadsFrom 0xF0 0xF4 0xF0 0xF0 0x90 0xBF
leads_f0 a lead = let least = least_is a in let most = most_is a in omega arith

leads_f1_f3 : LeadsFrom 0xF0 0xF4 0xF1 0xF3 0x80 0xBF
leads_f1_f3 a lead = let least = least_is a in let most = most_is a in omega arith

leads_f4 : LeadsFrom 0xF0 0xF4 0xF4 0xF4 0x80 0x8F
leads_f4 a lead = let least = least_is a in let most = most_is a in omega arith

rows_are_utf8 : (bytes : List ℕ) (k : ℕ) (d : List (ℕ × ℕ)) → k < 9 → LieIn (get_or sequences k d) bytes → IsUtf8 bytes
rows_are_utf8 bytes zero d within = row_of_one bytes
rows_are_utf8 bytes (suc zero) d within = row_of_two bytes
rows_are_utf8 bytes (suc (suc zero)) d within = row_of_three _ _ _ _ leads_e0 bytes
rows_are_utf8 bytes (suc (suc (suc zero))) d within = row_of_three _ _ _ _ leads_e1_ec bytes
rows_are_utf8 bytes (suc (suc (suc (suc zero)))) d within = row_of_three _ _ _ _ leads_ed bytes
rows_are_utf8 bytes (suc (suc (suc (suc (suc zero))))) d within = row_of_three _ _ _ _ leads_ee_ef bytes
rows_are_utf8 bytes (suc (suc (suc (suc (suc (suc zero)))))) d within = row_of_four _ _ _ _ leads_f0 bytes
rows_are_utf8 bytes (suc (suc (suc (suc (suc (suc (suc zero))))))) d within = row_of_four _ _ _ _ leads_f1_f3 bytes
rows_are_utf8 bytes (suc (suc (suc (suc (suc (suc (suc (suc zero)))))))) d within = row_of_four _ _ _ _ leads_f4 bytes
rows_are_utf8 bytes (suc (suc (suc (suc (suc (suc (suc (suc (suc k))))))))) d within = absurd (omega arith)

IsSequence-IsUtf8 : (bytes : List ℕ) → IsSequence bytes → IsUtf8 bytes
IsSequence-IsUtf8 bytes (ranges, at, lies) =
    let P = λ (ranges : List (ℕ × ℕ)). LieIn ranges bytes → IsUtf8 bytes in
    subst P at.2 (rows_are_utf8 bytes at.0 ranges at.1) lies

joined_is_utf8 : (parts : List (List ℕ)) → All IsSequence parts → IsUtf8 (concat parts)
joined_is_utf8 [] all = IsUtf8-nil
joined_is_utf8 (part ∷ parts) all = IsUtf8-append part (concat parts) (IsSequence-IsUtf8 part (All-head IsSequence part parts all)) (joined_is_utf8 parts (All-tail IsSequence part parts all))

-- ---- a character's encoding is a sequence

two : (c : ℕ) → 0x80 ≤ c → c < 0x800 → encode c ≡ (192 + c / 64) ∷ next c ∷ []
unfolding encode
two c low high = rw (le-ltb c 0x80 low, lt-ltb c 0x800 high)

three : (c : ℕ) → 0x800 ≤ c → c < 0x1_0000 → encode c ≡ (224 + c / 4096) ∷ next (c / 64) ∷ next c ∷ []
unfolding encode
three c low high = rw (le-ltb c 0x80 (omega arith), le-ltb c 0x800 low, lt-ltb c 0x1_0000 high)

four : (c : ℕ) → 0x1_0000 ≤ c → encode c ≡ (240 + c / 262144) ∷ next (c / 4096) ∷ next (c / 64) ∷ next c ∷ []
unfolding encode
four c low = rw (le-ltb c 0x80 (omega arith), le-ltb c 0x800 (omega arith), le-ltb c 0x1_0000 low)

encode-IsSequence : (c : ℕ) → scalar c ≡ true → IsSequence (encode c)
encode-IsSequence c ok =
    let range = scalar_cases c ok in
    elim (cases_lt c 0x80) [
      | inl a ↦ rw (encode_ascii c a) (_, (0, omega arith, refl), (omega arith, tt))
      | inr a ↦ elim (cases_lt c 0x800) [
        | inl b ↦ rw (two c a b) (_, (1, omega arith, refl), (omega arith, (omega arith, tt)))
        | inr b ↦ elim (cases_lt c 0x1_0000) [
          | inl d ↦ rw (three c b d) (elim (cases_lt c 0x1000) [
            | inl e ↦ (_, (2, omega arith, refl), (omega arith, (omega arith, (omega arith, tt))))
            | inr e ↦ elim (cases_lt c 0xD000) [
              | inl f ↦ (_, (3, omega arith, refl), (omega arith, (omega arith, (omega arith, tt))))
              | inr f ↦ elim (cases_lt c 0xE000) [
                | inl g ↦ (_, (4, omega arith, refl), (omega arith, (omega arith, (omega arith, tt))))
                | inr g ↦ (_, (5, omega arith, refl), (omega arith, (omega arith, (omega arith, tt))))
              ]
            ]
          ])
          | inr d ↦ rw (four c d) (elim (cases_lt c 0x4_0000) [
            | inl e ↦ (_, (6, omega arith, refl), (omega arith, (omega arith, (omega arith, (omega arith, tt)))))
            | inr e ↦ elim (cases_lt c 0x10_0000) [
              | inl f ↦ (_, (7, omega arith, refl), (omega arith, (omega arith, (omega arith, (omega arith, tt)))))
              | inr f ↦ (_, (8, omega arith, refl), (omega arith, (omega arith, (omega arith, (omega arith, tt)))))
            ]
          ])
        ]
      ]
    ]

encodings_are_sequences : (cs : List ℕ) → scalars cs ≡ true → All IsSequence (map encode cs)
encodings_are_sequences [] ok = All-nil IsSequence
encodings_are_sequences (c ∷ cs) ok =
    let ok = and_parts (scalar c) (scalars cs) ok in
    All-cons IsSequence (encode c) (map encode cs) (encode-IsSequence c ok.0) (encodings_are_sequences cs ok.1)

concat-encodings : (cs : List ℕ) → concat (map encode cs) ≡ encodes cs
concat-encodings [] = refl
concat-encodings (c ∷ cs) = ap (λ (rest : List ℕ). encode c ++ rest) (concat-encodings cs)

pub joined_sequences_are_utf8 : (bytes : List ℕ) → IsJoinedSequences bytes ↔ IsUtf8 bytes
joined_sequences_are_utf8 bytes = (
  λ joined. subst IsUtf8 joined.2 (joined_is_utf8 joined.0 joined.1),
  λ text. (map encode text.0, encodings_are_sequences text.0 text.1.0, concat-encodings text.0 ∙ text.1.1),
)
