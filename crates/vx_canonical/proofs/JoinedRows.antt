-- Rows of arrays that are joined: of the array that has the row, and the place there.
use Rattle.std.proofs.Common.{ℕ, suc, ◌-◌, ◌<◌, ◌≤◌, ◌≡◌, Bool, List, [], ◌∷◌, length, get_or, refl, sym, ◌∙◌, ap, inl, inr, arith}
use Rattle.std.specs.Prelude.{if◌then◌else◌}
use Rattle.std.specs.List.{All, flat_map}
use Rattle.std.proofs.lemmas.Bool.{cases_lt, lt-ltb, le-ltb}
use Rattle.std.proofs.lemmas.List.{length-append, get_or_append_left, get_or-append_right}
use Rattle.vx_base.specs.Rows.{Row, null, is_present}
use Rattle.vx_tree.specs.Tree.{Tree}
use Rattle.vx_tree.specs.Meaning.{tree_len, row_at}
use Rattle.vx_canonical.specs.Joined.{joined_len, joined_at, joined_row}

-- ---- the array that has a row

pub joined-here : {A : Type 0} (f : Tree → ℕ → A) (d : A) (t : Tree) (ts : List Tree) (i : ℕ) → i < tree_len t → joined_at f d (t ∷ ts) i ≡ f t i
joined-here f d t ts i l = rw (lt-ltb i (tree_len t) l) refl

pub joined-later : {A : Type 0} (f : Tree → ℕ → A) (d : A) (t : Tree) (ts : List Tree) (i : ℕ) → tree_len t ≤ i → joined_at f d (t ∷ ts) i ≡ joined_at f d ts (i - tree_len t)
joined-later f d t ts i l = rw (le-ltb i (tree_len t) l) refl

-- what holds of each row of each array holds of each row of all of them
pub joined_same : {A : Type 0} (f g : Tree → ℕ → A) (d e : A) (ts : List Tree) → All (λ t. (j : ℕ) → j < tree_len t → f t j ≡ g t j) ts → (i : ℕ) → i < joined_len ts
    → joined_at f d ts i ≡ joined_at g e ts i
joined_same f g d e [] h i l = absurd (omega arith)
joined_same f g d e (t ∷ ts) h i l = elim (cases_lt i (tree_len t)) [
  | inl here ↦ joined-here f d t ts i here ∙ h 0 t (omega arith) i here ∙ sym (joined-here g e t ts i here)
  | inr later ↦ joined-later f d t ts i later ∙ joined_same f g d e ts (λ k c m. h (suc k) c (omega arith)) (i - tree_len t) (omega arith) ∙ sym (joined-later g e t ts i later)
]

-- ---- lists of what the arrays hold, one item a row

abbrev pub HoldEach : {A : Type 0} → (Tree → List A) → List Tree → Type 0
HoldEach xs ts = All (λ t. length (xs t) ≡ tree_len t) ts

pub length-joined : {A : Type 0} (xs : Tree → List A) (ts : List Tree) → HoldEach xs ts → length (flat_map xs ts) ≡ joined_len ts
length-joined xs [] h = refl
length-joined xs (t ∷ ts) h =
    let here : length (xs t) ≡ tree_len t = h 0 t (omega arith) in
    omega (arith, length-append (xs t) (flat_map xs ts), here, length-joined xs ts (λ k c m. h (suc k) c (omega arith)))

pub joined_item : {A B : Type 0} (xs : Tree → List A) (g : A → B) (d : A) (e : B) (ts : List Tree) → HoldEach xs ts → (i : ℕ) → i < joined_len ts
    → g (get_or (flat_map xs ts) i d) ≡ joined_at (λ t j. g (get_or (xs t) j d)) e ts i
joined_item xs g d e [] h i l = absurd (omega arith)
joined_item xs g d e (t ∷ ts) h i l =
    let long : length (xs t) ≡ tree_len t = h 0 t (omega arith) in
    elim (cases_lt i (tree_len t)) [
      | inl here ↦ ap g (get_or_append_left (xs t) (flat_map xs ts) d i (omega (arith, long))) ∙ sym (joined-here (λ u j. g (get_or (xs u) j d)) e t ts i here)
      | inr later ↦
          ap g (get_or-append_right (xs t) (flat_map xs ts) (tree_len t) i d long later)
          ∙ joined_item xs g d e ts (λ k c m. h (suc k) c (omega arith)) (i - tree_len t) (omega arith)
          ∙ sym (joined-later (λ u j. g (get_or (xs u) j d)) e t ts i later)
    ]

-- ---- what stands where a row is not null

abbrev pub HasContent : (Tree → ℕ → Row) → Tree → Type 0
HasContent f t = (j : ℕ) → j < tree_len t → row_at t j ≡ (if is_present (row_at t j) then f t j else null)

pub joined_content : (f : Tree → ℕ → Row) (ts : List Tree) → All (HasContent f) ts → (i : ℕ) → i < joined_len ts
    → joined_row ts i ≡ (if is_present (joined_row ts i) then joined_at f null ts i else null)
joined_content f [] h i l = absurd (omega arith)
joined_content f (t ∷ ts) h i l = elim (cases_lt i (tree_len t)) [
  | inl here ↦ rw (joined-here row_at null t ts i here, joined-here f null t ts i here) (h 0 t (omega arith) i here)
  | inr later ↦ rw (joined-later row_at null t ts i later, joined-later f null t ts i later) (joined_content f ts (λ k c m. h (suc k) c (omega arith)) (i - tree_len t) (omega arith))
]

-- rows of an array that has the validity and the content
pub rows_of_content : (f : Tree → ℕ → Row) (r : Tree) (ts : List Tree) → All (HasContent f) ts → (i : ℕ) → i < joined_len ts → (b : Bool) (content : Row)
    → b ≡ is_present (joined_row ts i) → content ≡ joined_at f null ts i → row_at r i ≡ (if b then content else null) → row_at r i ≡ joined_row ts i
rows_of_content f r ts h i l b content valid same e =
    e ∙ ap (λ (c : Bool). if c then content else null) valid ∙ ap (λ (c : Row). if is_present (joined_row ts i) then c else null) same ∙ sym (joined_content f ts h i l)
