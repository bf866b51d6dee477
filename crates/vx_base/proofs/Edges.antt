-- Runs that are found by the edges of words.
use Rattle.std.proofs.Common.{ℕ, zero, suc, ◌+◌, ◌-◌, ◌*◌, ◌/◌, ◌%◌, ◌^◌, ◌<◌, ◌≤◌, ◌≡◌, ◌↔◌, Bool, true, false, eqb, List, [], ◌∷◌, ◌++◌, length, get_or, take, refl, sym, ◌∙◌, ap, inl, inr, arith}
use Rattle.std.specs.Prelude.{bit_and, bit_or, not, ◌&&◌, ◌||◌}
use Rattle.std.specs.Int.{bit_at}
use Rattle.std.specs.Int.Bits.{bit_xor}
use Rattle.std.specs.List.{All}
use Rattle.std.proofs.lemmas.Bool.{cases_lt, false≢true}
use Rattle.std.proofs.lemmas.Nat.{and_le_r}
use Rattle.std.proofs.lemmas.Nat.Bits.{bit_at_or, bit_at_and, bit_at_xor, bit_at_ones, bit_at_ones_above, bit_at-zero, bit_at-lt, bit_at_lowest}
use Rattle.std.proofs.lemmas.List.{take_more, get_or-take, length-take-le, ext_get_or}
use mir.Val.{bool_byte}
use Rattle.vx_base.specs.Bits.{bit_before, bool_at, both}
use Rattle.vx_base.specs.MaskRuns.{is_in_run, is_in_runs, marked, AreAdded, AreRuns, IsEdge}
use Rattle.vx_base.specs.Trues.{AreAll}
use Rattle.vx_base.proofs.PackedBytes.{bit_at-shr, bit_at-shl_low, bit_at-shl_high, bit_at-low}
use Rattle.vx_base.proofs.MaskRuns.{run_in, run_before, run_past, run_joined, or_assoc, or_false, is_in_runs-push, AreRuns-push, AreRuns-longer, length-marked, bool_at-marked}
use Rattle.vx_base.proofs.SharedRuns.{in_none, bool_at-both, length-both}

-- ---- the edges of a word

moved : (word i : ℕ) → suc i < 64 → bit_at (word * 2 % 2 ^ 64) (suc i) ≡ bit_at word i
moved word i h =
    let less : suc i - 1 ≡ i = omega arith in
    bit_at-low 64 (word * 2) (suc i) h ∙ bit_at-shl_high word 1 (suc i) (omega arith) ∙ ap (bit_at word) less

-- `word << 1 | before`
joined_bits : (word i : ℕ) (before : Bool) → i < 64 → eqb (bit_at (bit_or (word * 2 % 2 ^ 64) (bool_byte before)) i) 1 ≡ bit_before word before i
joined_bits word zero true h =
    let bit : bit_at (bit_or (word * 2 % 2 ^ 64) 1) 0 ≡ 1 =
    omega (arith, bit_at_or (word * 2 % 2 ^ 64) 1 0, bit_at-low 64 (word * 2) 0 h, bit_at-shl_low word 1 0 (omega arith), bit_at_lowest 1) in
    ap (λ (b : ℕ). eqb b 1) bit
joined_bits word zero false h =
    let bit : bit_at (bit_or (word * 2 % 2 ^ 64) 0) 0 ≡ 0 =
    omega (arith, bit_at_or (word * 2 % 2 ^ 64) 0 0, bit_at-low 64 (word * 2) 0 h, bit_at-shl_low word 1 0 (omega arith), bit_at-zero 0) in
    ap (λ (b : ℕ). eqb b 1) bit
joined_bits word (suc i) true h =
    let one : bit_at 1 (suc i) ≡ 0 = bit_at_ones_above 1 (suc i) (omega arith) in
    let bit : bit_at (bit_or (word * 2 % 2 ^ 64) 1) (suc i) ≡ bit_at word i = omega (arith, bit_at_or (word * 2 % 2 ^ 64) 1 (suc i), one, moved word i h) in
    ap (λ (b : ℕ). eqb b 1) bit
joined_bits word (suc i) false h =
    let bit : bit_at (bit_or (word * 2 % 2 ^ 64) 0) (suc i) ≡ bit_at word i = omega (arith, bit_at_or (word * 2 % 2 ^ 64) 0 (suc i), bit_at-zero (suc i), moved word i h) in
    ap (λ (b : ℕ). eqb b 1) bit

xor_zero : (a b : ℕ) → a < 2 → b < 2 → ((a + b) % 2 ≡ 0) ↔ (eqb a 1 ≡ eqb b 1)
xor_zero zero zero l m = (λ h. refl, λ h. refl)
xor_zero zero (suc zero) l m = (λ h. absurd (omega arith), λ h. absurd (cc))
xor_zero (suc zero) zero l m = (λ h. absurd (omega arith), λ h. absurd (cc))
xor_zero (suc zero) (suc zero) l m = (λ h. refl, λ h. refl)
xor_zero (suc (suc a)) b l m = absurd (omega arith)
xor_zero zero (suc (suc b)) l m = absurd (omega arith)
xor_zero (suc zero) (suc (suc b)) l m = absurd (omega arith)

-- `MAX >> (64 - count)`
mask_low : (count i : ℕ) → count ≤ 64 → i < count → bit_at ((2 ^ 64 - 1) / 2 ^ (64 - count)) i ≡ 1
mask_low count i h l = bit_at-shr (2 ^ 64 - 1) (64 - count) i ∙ bit_at_ones 64 (64 - count + i) (omega arith)

mask_high : (count i : ℕ) → count ≤ 64 → count ≤ i → bit_at ((2 ^ 64 - 1) / 2 ^ (64 - count)) i ≡ 0
mask_high count i h l = bit_at-shr (2 ^ 64 - 1) (64 - count) i ∙ bit_at_ones_above 64 (64 - count + i) (omega arith)

pub edges_told : (word count i : ℕ) (before : Bool) → count ≤ 64 → i < count
    → (bit_at (bit_and (bit_xor word (bit_or (word * 2 % 2 ^ 64) (bool_byte before))) ((2 ^ 64 - 1) / 2 ^ (64 - count))) i ≡ 0) ↔ (eqb (bit_at word i) 1 ≡ bit_before word before i)
edges_told word count i before most l =
    let joined = bit_or (word * 2 % 2 ^ 64) (bool_byte before) in
    let x = bit_xor word joined in
    let here : bit_at (bit_and x ((2 ^ 64 - 1) / 2 ^ (64 - count))) i ≡ (bit_at word i + bit_at joined i) % 2 =
    bit_at_and x ((2 ^ 64 - 1) / 2 ^ (64 - count)) i ∙ omega (arith, mask_low count i most l, bit_at-lt x i, bit_at_xor word joined i) in
    let zero_there = xor_zero (bit_at word i) (bit_at joined i) (bit_at-lt word i) (bit_at-lt joined i) in
    let same = joined_bits word i before (omega arith) in
    (λ h. zero_there.0 (sym here ∙ h) ∙ same, λ h. here ∙ zero_there.1 (h ∙ sym same))

pub edges_none : (x count i : ℕ) → count ≤ 64 → count ≤ i → bit_at (bit_and x ((2 ^ 64 - 1) / 2 ^ (64 - count))) i ≡ 0
edges_none x count i most l = omega (arith, bit_at_and x ((2 ^ 64 - 1) / 2 ^ (64 - count)) i, mask_high count i most l)

-- ---- `n & (n - 1)` lacks the lowest bit of n

bit_at-half : (n i : ℕ) → bit_at n (suc i) ≡ bit_at (n / 2) i
bit_at-half n i =
    let place : 1 + i ≡ suc i = omega arith in
    sym (bit_at-shr n 1 i ∙ ap (bit_at n) place)

less_one : (t n : ℕ) → bit_at n t ≡ 1 → ((i : ℕ) → i < t → bit_at n i ≡ 0) → (bit_at (n - 1) t ≡ 0) × ((i : ℕ) → t < i → bit_at (n - 1) i ≡ bit_at n i)
less_one zero n one none =
    let odd : n % 2 ≡ 1 = omega (arith, bit_at_lowest n, one) in (
      omega (arith, bit_at_lowest (n - 1), odd),
      λ i l. from_one i l odd,
    )
  where
    from_one : (i : ℕ) → 0 < i → n % 2 ≡ 1 → bit_at (n - 1) i ≡ bit_at n i
    from_one zero l odd = absurd (omega arith)
    from_one (suc i) l odd =
        let half : (n - 1) / 2 ≡ n / 2 = omega arith in
        bit_at-half (n - 1) i ∙ ap (λ (m : ℕ). bit_at m i) half ∙ sym (bit_at-half n i)
less_one (suc t) n one none =
    let even : n % 2 ≡ 0 = omega (arith, bit_at_lowest n, none 0 (omega arith)) in
    let some : 0 < n = elim (cases_lt 0 n) [
      | inl lt ↦ lt
      | inr ge ↦
          let nought : n ≡ 0 = omega arith in
          absurd (omega (arith, ap (λ (m : ℕ). bit_at m (suc t)) nought, bit_at-zero (suc t)))
    ] in
    let half : (n - 1) / 2 ≡ n / 2 - 1 = omega arith in
    let rest = less_one t (n / 2) (sym (bit_at-half n t) ∙ one) (λ i l. sym (bit_at-half n i) ∙ none (suc i) (omega arith)) in
    (bit_at-half (n - 1) t ∙ ap (λ (m : ℕ). bit_at m t) half ∙ rest.0, λ i l. above half rest.1 i l)
  where
    above : (n - 1) / 2 ≡ n / 2 - 1 → ((i : ℕ) → t < i → bit_at (n / 2 - 1) i ≡ bit_at (n / 2) i) → (i : ℕ) → suc t < i → bit_at (n - 1) i ≡ bit_at n i
    above half rest zero l = absurd (omega arith)
    above half rest (suc i) l = bit_at-half (n - 1) i ∙ ap (λ (m : ℕ). bit_at m i) half ∙ rest i (omega arith) ∙ sym (bit_at-half n i)

-- the bits up to the lowest are 0, and the others stay
pub lowest_gone : (t n : ℕ) → bit_at n t ≡ 1 → ((i : ℕ) → i < t → bit_at n i ≡ 0)
    → ((i : ℕ) → i < t + 1 → bit_at (bit_and n (n - 1)) i ≡ 0) × ((i : ℕ) → t < i → bit_at (bit_and n (n - 1)) i ≡ bit_at n i)
lowest_gone t n one none =
    let less = less_one t n one none in (
      λ i l. elim (cases_lt i t) [
        | inl lt ↦ omega (arith, bit_at_and n (n - 1) i, none i lt)
        | inr ge ↦
            let same : i ≡ t = omega arith in
            ap (bit_at (bit_and n (n - 1))) same ∙ omega (arith, bit_at_and n (n - 1) t, less.0)
      ],
      λ i l. omega (arith, bit_at_and n (n - 1) i, less.1 i l),
    )

pub fewer : (n : ℕ) → 0 < n → bit_and n (n - 1) < n
fewer n some = omega (arith, and_le_r n (n - 1))

-- ---- a run that ends at an edge

and_true : (a : Bool) → (a && true) ≡ a
and_true true = refl
and_true false = refl

and_false : (a : Bool) → (a && false) ≡ false
and_false true = refl
and_false false = refl

pub IsEdge-later : (edge place to : ℕ) (value : Bool) (runs : List (ℕ × ℕ)) → place ≤ to → IsEdge edge place value runs → IsEdge edge to value runs
IsEdge-later edge place to value runs le e = record {
  ordered = let o = e.ordered in omega arith;
  apart = e.apart;
  begun = λ h. let b = e.begun h in let l = b.0 in (omega arith, b.1);
  ended = λ h. λ k d l. let p = e.ended h k d l in omega arith;
}

pub ended_run : (edge to : ℕ) (value : Bool) (runs new : List (ℕ × ℕ)) → value ≡ true → new ≡ runs ++ (edge, to) ∷ [] → IsEdge edge to value runs → IsEdge to (to + 1) (not value) new
ended_run edge to false runs new was push e = absurd (false≢true was)
ended_run edge to true runs new was push e =
    let b = e.begun refl in
    let apart : AreRuns to new = rw push (AreRuns-push edge to runs (edge, to) e.apart b.1 b.0 (omega arith)) in
    record {
      ordered = omega arith;
      apart = apart;
      begun = λ h. absurd (false≢true h);
      ended = λ h. λ k d l. let w = apart.within k d l in omega arith;
    }

pub ended_rows : (edge to : ℕ) (value : Bool) (runs new : List (ℕ × ℕ)) → value ≡ true → new ≡ runs ++ (edge, to) ∷ [] → (k : ℕ) → is_in_runs new k ≡ (is_in_runs runs k || (is_in_run (edge, to) k && value))
ended_rows edge to value runs new was push k =
    ap (λ rs. is_in_runs rs k) push ∙ is_in_runs-push runs (edge, to) k
    ∙ ap (λ b. is_in_runs runs k || b) (sym (ap (λ b. is_in_run (edge, to) k && b) was ∙ and_true (is_in_run (edge, to) k)))

-- ---- places that come to the runs

-- where all are alike, they are as the first
pub run_alike : (bits : List Bool) (start end k : ℕ) (value : Bool) → AreAll bits start end value → (is_in_run (start, end) k && value) ≡ (is_in_run (start, end) k && bool_at bits k)
run_alike bits start end k value alike = elim (cases_lt k start) [
  | inl lt ↦ ap (λ b. b && value) (run_before (start, end) k lt) ∙ sym (ap (λ b. b && bool_at bits k) (run_before (start, end) k lt))
  | inr ge ↦ elim (cases_lt k end) [
    | inl lt ↦ ap (λ b. is_in_run (start, end) k && b) (sym (alike k ge lt))
    | inr past ↦ ap (λ b. b && value) (run_past (start, end) k past) ∙ sym (ap (λ b. b && bool_at bits k) (run_past (start, end) k past))
  ]
]

pub AreAdded-none : (bits : List Bool) (place : ℕ) (runs : List (ℕ × ℕ)) → AreAdded bits place place runs runs
AreAdded-none bits place runs = λ k.
    sym (ap (λ b. is_in_runs runs k || (b && bool_at bits k)) (in_none place place k (omega arith)) ∙ or_false (is_in_runs runs k))

or_and : (a b x : Bool) → ((a && x) || (b && x)) ≡ ((a || b) && x)
or_and true true true = refl
or_and true true false = refl
or_and true false true = refl
or_and true false false = refl
or_and false b x = refl

pub AreAdded-join : (bits : List Bool) (a b c : ℕ) (old mid new : List (ℕ × ℕ)) → a ≤ b → b ≤ c → AreAdded bits a b old mid → AreAdded bits b c mid new → AreAdded bits a c old new
AreAdded-join bits a b c old mid new low high first second = λ k.
    let x = bool_at bits k in
    second k ∙ ap (λ t. t || (is_in_run (b, c) k && x)) (first k)
    ∙ sym (or_assoc (is_in_runs old k) (is_in_run (a, b) k && x) (is_in_run (b, c) k && x))
    ∙ ap (λ t. is_in_runs old k || t) (or_and (is_in_run (a, b) k) (is_in_run (b, c) k) x ∙ ap (λ t. t && x) (sym (run_joined a b c k low high)))

-- the places up to another edge are alike
pub AreAdded-alike : (bits : List Bool) (a b c : ℕ) (value : Bool) (old mid new : List (ℕ × ℕ)) → a ≤ b → b ≤ c → AreAdded bits a b old mid → AreAll bits b c value
    → ((k : ℕ) → is_in_runs new k ≡ (is_in_runs mid k || (is_in_run (b, c) k && value))) → AreAdded bits a c old new
AreAdded-alike bits a b c value old mid new low high first alike more =
    AreAdded-join bits a b c old mid new low high first (λ k. more k ∙ ap (λ t. is_in_runs mid k || t) (run_alike bits b c k value alike))

-- all places
pub marked_added : (bits : List Bool) (old runs : List (ℕ × ℕ)) → old ≡ [] → AreAdded bits 0 (length bits) old runs → marked (length bits) runs ≡ bits
marked_added bits old runs none added = ext_get_or false (marked (length bits) runs) bits (length-marked (length bits) runs) (λ k l.
    let small : k < length bits = omega (arith, length-marked (length bits) runs) in
    bool_at-marked (length bits) runs k small ∙ added k ∙ ap (λ rs. is_in_runs rs k || (is_in_run (0, length bits) k && bool_at bits k)) none
    ∙ ap (λ b. b && bool_at bits k) (run_in (0, length bits) k (omega arith) small))

-- ---- the edges of a word that remain

-- the boolean before place i of those from a place on
abbrev pub value_before : List Bool → ℕ → Bool → ℕ → Bool
value_before bits place before zero = before
value_before bits place before (suc i) = bool_at bits (place + i)

pub record Remain (bits : List Bool) (place end edges from at : ℕ) (before value : Bool) (old runs : List (ℕ × ℕ)) : Type 0 where
  pub seen : ℕ
  pub high : place + seen ≤ end
  pub later : from ≤ at
  pub edge : IsEdge at (place + seen) value runs
  pub alike : AreAll bits at (place + seen) value
  pub rows : AreAdded bits from at old runs
  pub below : (i : ℕ) → i < seen → bit_at edges i ≡ 0
  pub above : (i : ℕ) → end ≤ place + i → bit_at edges i ≡ 0
  pub tells : (i : ℕ) → seen ≤ i → place + i < end → (bit_at edges i ≡ 0) ↔ (bool_at bits (place + i) ≡ value_before bits place before i)
  pub last : place + seen < end → value_before bits place before seen ≡ value

same_before : (bits : List Bool) (place n word i : ℕ) (before : Bool) → i < n → ((j : ℕ) → j < n → eqb (bit_at word j) 1 ≡ bool_at bits (place + j)) → bit_before word before i ≡ value_before bits place before i
same_before bits place n word zero before l told = refl
same_before bits place n word (suc i) before l told = told i (omega arith)

pub Remain-all : (bits : List Bool) (place end word edges from : ℕ) (before : Bool) (runs : List (ℕ × ℕ)) → place < end
    → ((i : ℕ) → i < end - place → eqb (bit_at word i) 1 ≡ bool_at bits (place + i))
    → ((i : ℕ) → i < end - place → (bit_at edges i ≡ 0) ↔ (eqb (bit_at word i) 1 ≡ bit_before word before i)) → ((i : ℕ) → end - place ≤ i → bit_at edges i ≡ 0)
    → IsEdge from place before runs → AreAll bits from place before → Remain bits place end edges from from before before runs runs
Remain-all bits place end word edges from before runs some told found none edge alike = record {
  seen = 0;
  high = omega arith;
  later = omega arith;
  edge = IsEdge-later from place (place + 0) before runs (omega arith) edge;
  alike = λ k l h. alike k l (omega arith);
  rows = AreAdded-none bits from runs;
  below = λ i l. absurd (omega arith);
  above = λ i l. none i (omega arith);
  tells = λ i l h.
      let small : i < end - place = omega arith in
      let f = found i small in
      let first = told i small in
      let second = same_before bits place (end - place) word i before small told in
      (λ z. sym first ∙ f.0 z ∙ second, λ z. f.1 (first ∙ z ∙ sym second));
  last = λ h. refl;
}

-- with no edge among the next places, all are alike
alike_on : (bits : List Bool) (place end edges from at : ℕ) (before value : Bool) (old runs : List (ℕ × ℕ)) (r : Remain bits place end edges from at before value old runs) (m : ℕ)
    → r.seen ≤ m → place + m ≤ end → ((i : ℕ) → i < m → bit_at edges i ≡ 0) → AreAll bits at (place + m) value × (place + m < end → value_before bits place before m ≡ value)
alike_on bits place end edges from at before value old runs r zero low high none =
    let same : zero ≡ r.seen = omega arith in
    (λ k l h. r.alike k l (omega arith), λ h. ap (value_before bits place before) same ∙ r.last (omega arith))
alike_on bits place end edges from at before value old runs r (suc m) low high none = elim (cases_lt m r.seen) [
  | inl lt ↦
      let same : suc m ≡ r.seen = omega arith in
      (λ k l h. r.alike k l (omega arith), λ h. ap (value_before bits place before) same ∙ r.last (omega arith))
  | inr ge ↦
      let rest = alike_on bits place end edges from at before value old runs r m ge (omega arith) (λ i l. none i (omega arith)) in
      let here : bool_at bits (place + m) ≡ value = (r.tells m ge (omega arith)).0 (none m (omega arith)) ∙ rest.1 (omega arith) in (
        λ k l h. elim (cases_lt k (place + m)) [
          | inl lt ↦ rest.0 k l lt
          | inr past ↦ let same : k ≡ place + m = omega arith in ap (bool_at bits) same ∙ here
        ],
        λ h. here,
      )
]

other : (x y : Bool) → (x ≡ y → ⊥) → x ≡ not y
other true true ne = absurd (ne refl)
other true false ne = refl
other false true ne = refl
other false false ne = absurd (ne refl)

-- the lowest edge
pub record IsNext (bits : List Bool) (place end t at : ℕ) (value : Bool) (runs : List (ℕ × ℕ)) : Type 0 where
  pub within : place + t < end
  pub edge : IsEdge at (place + t) value runs
  pub alike : AreAll bits at (place + t) value
  pub turned : bool_at bits (place + t) ≡ not value

pub Remain-next : (bits : List Bool) (place end edges from at t : ℕ) (before value : Bool) (old runs : List (ℕ × ℕ)) → bit_at edges t ≡ 1 → ((i : ℕ) → i < t → bit_at edges i ≡ 0)
    → Remain bits place end edges from at before value old runs → IsNext bits place end t at value runs
Remain-next bits place end edges from at t before value old runs one none r = record {
  within = inside;
  edge = IsEdge-later at (place + r.seen) (place + t) value runs (omega (arith, low)) r.edge;
  alike = on.0;
  turned = other (bool_at bits (place + t)) value (λ same. absurd (omega (arith, one, (r.tells t low inside).1 (same ∙ sym (on.1 inside)))));
}
  where
    low : r.seen ≤ t
    low = elim (cases_lt t r.seen) [
      | inl lt ↦ absurd (omega (arith, one, r.below t lt))
      | inr ge ↦ ge
    ]

    inside : place + t < end
    inside = elim (cases_lt (place + t) end) [
      | inl lt ↦ lt
      | inr ge ↦ absurd (omega (arith, one, r.above t ge))
    ]

    on : AreAll bits at (place + t) value × (place + t < end → value_before bits place before t ≡ value)
    on = alike_on bits place end edges from at before value old runs r t low (omega (arith, inside)) none

pub Remain-more : (bits : List Bool) (place end edges from at t : ℕ) (before value : Bool) (old runs new : List (ℕ × ℕ)) → bit_at edges t ≡ 1 → ((i : ℕ) → i < t → bit_at edges i ≡ 0)
    → Remain bits place end edges from at before value old runs → IsEdge (place + t) (place + t + 1) (not value) new
    → ((k : ℕ) → is_in_runs new k ≡ (is_in_runs runs k || (is_in_run (at, place + t) k && value)))
    → Remain bits place end (bit_and edges (edges - 1)) from (place + t) before (not value) old new
Remain-more bits place end edges from at t before value old runs new one none r edge more = record {
  seen = suc t;
  high = omega (arith, next.within);
  later = omega (arith, r.later, next.edge.ordered);
  edge = IsEdge-later (place + t) (place + t + 1) (place + suc t) (not value) new (omega arith) edge;
  alike = λ k l h. let same : k ≡ place + t = omega arith in ap (bool_at bits) same ∙ next.turned;
  rows = AreAdded-alike bits from at (place + t) value old runs new r.later next.edge.ordered r.rows next.alike more;
  below = λ i l. gone.0 i (omega arith);
  above = λ i l. gone.1 i (omega (arith, next.within)) ∙ r.above i l;
  tells = λ i l h.
      let same = gone.1 i (omega arith) in
      let was = r.tells i (omega (arith, low)) h in
      (λ z. was.0 (sym same ∙ z), λ z. same ∙ was.1 z);
  last = λ h. next.turned;
}
  where
    next : IsNext bits place end t at value runs
    next = Remain-next bits place end edges from at t before value old runs one none r

    gone : ((i : ℕ) → i < t + 1 → bit_at (bit_and edges (edges - 1)) i ≡ 0) × ((i : ℕ) → t < i → bit_at (bit_and edges (edges - 1)) i ≡ bit_at edges i)
    gone = lowest_gone t edges one none

    low : r.seen ≤ t
    low = elim (cases_lt t r.seen) [
      | inl lt ↦ absurd (omega (arith, one, r.below t lt))
      | inr ge ↦ ge
    ]

-- no edge remains
pub record IsSeen (bits : List Bool) (end from at : ℕ) (value : Bool) (old runs : List (ℕ × ℕ)) : Type 0 where
  pub later : from ≤ at
  pub edge : IsEdge at end value runs
  pub alike : AreAll bits at end value
  pub rows : AreAdded bits from at old runs

pub Remain-none : (bits : List Bool) (place end edges from at : ℕ) (before value : Bool) (old runs : List (ℕ × ℕ)) → place < end → edges ≡ 0 → Remain bits place end edges from at before value old runs
    → IsSeen bits end from at value old runs
Remain-none bits place end edges from at before value old runs some nought r =
    let whole : place + (end - place) ≡ end = omega arith in
    let high = r.high in
    let on = alike_on bits place end edges from at before value old runs r (end - place) (omega arith) (omega arith) (λ i l. ap (λ (n : ℕ). bit_at n i) nought ∙ bit_at-zero i) in
    record {
      later = r.later;
      edge = IsEdge-later at (place + r.seen) end value runs high r.edge;
      alike = λ k l h. on.0 k l (omega arith);
      rows = r.rows;
    }

-- ---- the runs within others

pub within_start : (start : ℕ) (taken runs : List (ℕ × ℕ)) → ((low : ℕ) → All (λ run. run.1 ≤ low) taken → AreRuns low runs) → All (λ run. run.1 < start) taken → All (λ run. run.1 < start) runs
within_start start taken runs apart before = λ k d l.
    let are = apart (start - 1) (λ m e n. let h = before m e n in omega arith) in
    let w = are.within k d l in
    let f = are.filled k d l in
    omega arith

pub within_more : (i : ℕ) (within new : List (ℕ × ℕ)) (d : ℕ × ℕ) → i < length within → AreRuns (get_or within i d).1 new
    → (low : ℕ) → All (λ run. run.1 ≤ low) (take (i + 1) within) → AreRuns low new
within_more i within new d l are low all =
    let small : i < i + 1 = omega arith in
    let last : (get_or within i d).1 ≤ low = rw get_or-take at (all i d (omega (arith, length-take-le (i + 1) within))) in
    AreRuns-longer (get_or within i d).1 low new last are

and_or : (x a r : Bool) → ((x && a) || (r && x)) ≡ (x && (a || r))
and_or true true r = refl
and_or true false true = refl
and_or true false false = refl
and_or false a true = refl
and_or false a false = refl

pub within_rows : (bits : List Bool) (i : ℕ) (within old new : List (ℕ × ℕ)) (d : ℕ × ℕ) → i < length within → ((k : ℕ) → is_in_runs old k ≡ (bool_at bits k && is_in_runs (take i within) k))
    → AreAdded bits (get_or within i d).0 (get_or within i d).1 old new → (k : ℕ) → is_in_runs new k ≡ (bool_at bits k && is_in_runs (take (i + 1) within) k)
within_rows bits i within old new d l before added k =
    let run = get_or within i d in
    let x = bool_at bits k in
    added k ∙ ap (λ b. b || (is_in_run run k && x)) (before k) ∙ and_or x (is_in_runs (take i within) k) (is_in_run run k)
    ∙ ap (λ b. x && b) (sym (ap (λ rs. is_in_runs rs k) (take_more within i d l) ∙ is_in_runs-push (take i within) run k))

pub both_within : (xs ys m : List Bool) (right runs : List (ℕ × ℕ)) → length xs ≡ length ys → marked (length ys) right ≡ ys
    → ((k : ℕ) → is_in_runs runs k ≡ (bool_at xs k && is_in_runs right k)) → m ≡ marked (length xs) runs → m ≡ both xs ys
both_within xs ys m right runs same theirs each made = made ∙ ext_get_or false (marked (length xs) runs) (both xs ys) (length-marked (length xs) runs ∙ sym (length-both xs ys same)) (λ k l.
    let small : k < length xs = omega (arith, length-marked (length xs) runs) in
    bool_at-marked (length xs) runs k small ∙ each k
    ∙ ap (λ b. bool_at xs k && b) (sym (bool_at-marked (length ys) right k (omega arith)) ∙ ap (λ bs. bool_at bs k) theirs)
    ∙ sym (bool_at-both xs ys k same small))
