-- Rows of which all are there, or none.
use Rattle.std.proofs.Common.{◌≡◌, ◌<◌, ◌+◌, ◌≢◌, ℕ, Bool, true, false, List, [], ◌∷◌, length, map, take, get_or, replicate, refl, sym, ◌∙◌, ap, subst, arith, inl, inr}
use Rattle.std.specs.Prelude.{count_by, if◌then◌else◌, IfOk, IfSome, None, Option, Some, Result, Ok, Err}
use Rattle.std.specs.List.{All}
use Rattle.std.proofs.lemmas.Bool.{eq-eqb}
use Rattle.std.proofs.lemmas.Bool.Decides.{eqb_tells, nat_tests}
use Rattle.std.proofs.lemmas.List.{length-map}
use Rattle.std.proofs.lemmas.List.Elements.{All-append, All-head, All-tail}
use Rattle.vx_base.proofs.Refused.{memory_alone}
use Rattle.vx_base.specs.Booleans.{count_fault}
use Rattle.vx_base.specs.Refusals.{Gives, IsMemoryOr, Refuses}
use Rattle.vx_base.specs.declared.errors.VortexError.{VortexError}
use Rattle.vx_base.proofs.MaskCounts.{count-all_true, count-all_false}
use Rattle.vx_base.specs.Kinds.{Kind}
use Rattle.vx_base.specs.Rows.{Row, null, is_present}
use Rattle.vx_tree.specs.Faults.{position_fault}
use Rattle.vx_tree.specs.Meaning.{is_valid_at, row_at, value_row}
use Rattle.vx_tree.specs.Tree.{Tree, Valid, all_invalid, all_valid}
use Rattle.vx_tree.specs.Validities.{valid_from}
use Rattle.vx_pack.proofs.PieceRows.{All-range_with_len, pieces_rows_more}
use Rattle.vx_pack.specs.declared.pieces.Piece.{Piece}
use Rattle.vx_pack.specs.Pieces.{piece_len, piece_row, piece_rows, pieces_rows}

-- each row is there, or each is null
abbrev pub AllPresent : Bool → List Row → Type 0
AllPresent b rs = All (λ r. is_present r ≡ b) rs

-- ---- of arrays

pub valid_where_present : (b : Bool) (r : Row) → is_present r ≡ true → is_present (if b then r else null) ≡ b
valid_where_present true r there = there
valid_where_present false r there = refl

pub value_present : (b : Bool) (bs : List ℕ) → is_present (value_row b bs) ≡ true
value_present true bs = refl
value_present false bs = refl

-- what tells whether rows are valid tells whether they are there
pub presence_told : (t : Tree) (v : Valid) (o : Option Bool) → ((i : ℕ) → is_present (row_at t i) ≡ is_valid_at v i)
    → IfSome o (λ b. (i : ℕ) → is_valid_at v i ≡ b) → IfSome o (λ b. (i : ℕ) → is_present (row_at t i) ≡ b)
presence_told t v (Some b) same told = λ i. same i ∙ told i
presence_told t v None same told = tt

-- a test of a row within an array fails for want of memory alone
pub within_gives : {A : Type 0} (r : Result A VortexError) (len i : ℕ) (P : A → Type 0)
    → i < len → IfOk r P → Refuses r (position_fault len i) → Gives r P
within_gives (Ok x) len i P inside given refused = given
within_gives (Err e) len i P inside given refused =
    let none : position_fault len i ≡ count_fault 0 = grind (arith, nat_tests) in
    memory_alone 0 e (omega arith) (subst (λ fault. IsMemoryOr fault e) none refused)

-- ---- their validity

same_presence : (b : Bool) (rs : List Row) → AllPresent b rs → map is_present rs ≡ replicate (length rs) b
same_presence b [] all = refl
same_presence b (r ∷ rs) all =
    let first : is_present r ≡ b = All-head (λ r. is_present r ≡ b) r rs all in
    let rest : map is_present rs ≡ replicate (length rs) b = same_presence b rs (All-tail (λ r. is_present r ≡ b) r rs all) in
    λ j. first j ∷ rest j

pub valid_where_all : (rs : List Row) → AllPresent true rs → valid_from 0 (map is_present rs) all_valid ≡ all_valid
valid_where_all rs all =
    let bits : map is_present rs ≡ replicate (length rs) true = same_presence true rs all in
    let count : count_by (λ b. b) (map is_present rs) ≡ length (map is_present rs) =
    ap (count_by (λ b. b)) bits ∙ count-all_true (length rs) ∙ sym (length-map rs is_present) in
    rw (eq-eqb (count_by (λ b. b) (map is_present rs)) (length (map is_present rs)) count) refl

pub valid_where_none : (rs : List Row) → 0 < length rs → AllPresent false rs → valid_from 0 (map is_present rs) all_valid ≡ all_invalid
valid_where_none rs some all =
    let bits : map is_present rs ≡ replicate (length rs) false = same_presence false rs all in
    let count : count_by (λ b. b) (map is_present rs) ≡ 0 = ap (count_by (λ b. b)) bits ∙ count-all_false (length rs) in
    let few : count_by (λ b. b) (map is_present rs) ≢ length (map is_present rs) = omega (arith, count, length-map rs is_present) in
    elim (eqb_tells (count_by (λ b. b) (map is_present rs)) (length (map is_present rs))) [
      | inl alike ↦ absurd (few alike.1)
      | inr apart ↦ rw (apart.0, eq-eqb (count_by (λ b. b) (map is_present rs)) 0 count) refl
    ]

-- ---- pieces

pub pieces_present : (b : Bool) (k : Kind) (ps : List Piece) (i : ℕ) (p : Piece) → i < length ps → p ≡ get_or ps i p
    → AllPresent b (pieces_rows k (take i ps)) → ((i : ℕ) → is_present (piece_row k p i) ≡ b)
    → AllPresent b (pieces_rows k (take (i + 1) ps))
pieces_present b k ps i p inside at before each =
    let one : AllPresent b (piece_rows k p) = All-range_with_len (λ r. is_present r ≡ b) (piece_row k p) (piece_len p) (λ j l. each j) in
    let both = All-append (λ r. is_present r ≡ b) (pieces_rows k (take i ps)) (piece_rows k p) before one in
    rw (pieces_rows_more k ps i p inside at) both
