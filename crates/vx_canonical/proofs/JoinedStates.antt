-- The validity of arrays that are joined.
use Rattle.std.proofs.Common.{ℕ, suc, ◌+◌, ◌-◌, ◌<◌, ◌≡◌, Bool, true, false, List, [], ◌∷◌, ◌++◌, length, get_or, take, refl, sym, ◌∙◌, ap, inl, inr, ◌⊎◌, arith}
use Rattle.std.specs.Prelude.{◌^◌, Option, Some, None, ◌&&◌, if◌then◌else◌}
use Rattle.std.specs.List.{All}
use Rattle.std.proofs.lemmas.Bool.{cases_lt}
use Rattle.std.proofs.lemmas.List.{take_more, length-append, get_or_append_left, get_or-append_right}
use Rattle.vx_base.proofs.FirstFaults.{or_else-second}
use Rattle.vx_base.proofs.Joined.{counted}
use Rattle.vx_base.specs.Booleans.{count_fault}
use Rattle.vx_base.specs.Refusals.{Refusal, or_else}
use Rattle.vx_base.specs.Bits.{bool_at}
use Rattle.vx_base.specs.Rows.{null, is_present}
use Rattle.vx_base.specs.Kinds.{is_nullable_kind}
use Rattle.vx_tree.specs.declared.array.Validity.{Validity}
use Rattle.vx_tree.specs.Tree.{Tree, bools, Valid, non_nullable, all_valid, all_invalid, by_array}
use Rattle.vx_tree.specs.Meaning.{tree_len, kind_of, row_at, is_valid_at, nullable}
use Rattle.vx_tree.specs.Parts.{valid_of}
use Rattle.vx_tree.specs.Formed.{ValidFits}
use Rattle.vx_tree.specs.Faults.{valid_type_fault}
use Rattle.vx_tree.specs.Patches.{is_unchanged}
use Rattle.vx_tree.specs.Shapes.{State, never_null, none_null, every_null, told, state_of, tree_state}
use Rattle.vx_tree.specs.Plain.{IsPlainValid}
use Rattle.vx_tree.specs.Validities.{full_valid}
use Rattle.vx_tree.specs.Operations.{IsValidityOf}
use Rattle.vx_tree.specs.Joins.{AreLens, mask_of, joined_mask, are_all, joined_validity, types_fault, join_fault}
use Rattle.vx_canonical.specs.Joined.{joined_len, joined_row, joined_state, joined_states, IsValidJoined, ArePartsOf}
use Rattle.vx_tree.proofs.Patched.{len_of_fits}
use Rattle.vx_tree.proofs.RowLists.{length-valid_mask, get_or-valid_mask}
use Rattle.vx_canonical.proofs.JoinedRows.{joined-here, joined-later}

-- ---- one part for each array

pub parts-push : (ts : List Tree) (parts : List (Validity × ℕ)) (t : Tree) (part : Validity × ℕ) → ArePartsOf ts parts → IsValidityOf t (valid_of part.0) → part.1 ≡ tree_len t
    → ArePartsOf (ts ++ t ∷ []) (parts ++ part ∷ [])
parts-push [] [] t part h v e = (v, e, tt)
parts-push [] (p ∷ parts) t part h v e = absurd h
parts-push (u ∷ ts) [] t part h v e = absurd h
parts-push (u ∷ ts) (p ∷ parts) t part h v e = (h.0, h.1, parts-push ts parts t part h.2 v e)

pub parts-more : (ts : List Tree) (i : ℕ) (t : Tree) (olds news : List (Validity × ℕ)) (part : Validity × ℕ) → i < length ts → t ≡ get_or ts i t → ArePartsOf (take i ts) olds
    → IsValidityOf t (valid_of part.0) → part.1 ≡ tree_len t → news ≡ olds ++ part ∷ [] → ArePartsOf (take (i + 1) ts) news
parts-more ts i t olds news part inside same h v e pushed =
    let more : take (i + 1) ts ≡ take i ts ++ t ∷ [] = take_more ts i t inside ∙ ap (λ u. take i ts ++ u ∷ []) (sym same) in
    rw (pushed, more) (parts-push (take i ts) olds t part h v e)

pub parts-lens : (ts : List Tree) (parts : List (Validity × ℕ)) → ArePartsOf ts parts → AreLens parts
parts-lens [] [] h = tt
parts-lens [] (p ∷ parts) h = absurd h
parts-lens (t ∷ ts) [] h = absurd h
parts-lens (t ∷ ts) (p ∷ parts) h = (rw h.1 (len_of_fits (valid_of p.0) (tree_len t) h.0.fits), parts-lens ts parts h.2)

type_of_fits : (v : Valid) (n : ℕ) → ValidFits v n → valid_type_fault v ≡ None
type_of_fits non_nullable n h = refl
type_of_fits all_valid n h = refl
type_of_fits all_invalid n h = refl
type_of_fits (by_array t) n h = rw h.kind refl

pub parts-types : (ts : List Tree) (parts : List (Validity × ℕ)) → ArePartsOf ts parts → types_fault parts ≡ None
parts-types [] [] h = refl
parts-types [] (p ∷ parts) h = absurd h
parts-types (t ∷ ts) [] h = absurd h
parts-types (t ∷ ts) (p ∷ parts) h = or_else-second (valid_type_fault (valid_of p.0)) (types_fault parts) None (type_of_fits (valid_of p.0) (tree_len t) h.0.fits) (parts-types ts parts h.2)

-- ---- their booleans

pub length-joined_mask : (ts : List Tree) (parts : List (Validity × ℕ)) → ArePartsOf ts parts → length (joined_mask parts) ≡ joined_len ts
length-joined_mask [] [] h = refl
length-joined_mask [] (p ∷ parts) h = absurd h
length-joined_mask (t ∷ ts) [] h = absurd h
length-joined_mask (t ∷ ts) (p ∷ parts) h =
    omega (arith, length-append (mask_of p) (joined_mask parts), length-valid_mask (valid_of p.0) p.1, h.1, length-joined_mask ts parts h.2)

pub joined_mask-at : (ts : List Tree) (parts : List (Validity × ℕ)) → ArePartsOf ts parts → (i : ℕ) → i < joined_len ts → bool_at (joined_mask parts) i ≡ is_present (joined_row ts i)
joined_mask-at [] [] h i l = absurd (omega arith)
joined_mask-at [] (p ∷ parts) h i l = absurd h
joined_mask-at (t ∷ ts) [] h i l = absurd h
joined_mask-at (t ∷ ts) (p ∷ parts) h i l =
    let long : length (mask_of p) ≡ tree_len t = length-valid_mask (valid_of p.0) p.1 ∙ h.1 in
    elim (cases_lt i (tree_len t)) [
      | inl here ↦
          get_or_append_left (mask_of p) (joined_mask parts) false i (omega (arith, long)) ∙ get_or-valid_mask (valid_of p.0) p.1 i false (omega (arith, h.1))
          ∙ h.0.bits i here ∙ ap is_present (sym (joined-here row_at null t ts i here))
      | inr later ↦
          get_or-append_right (mask_of p) (joined_mask parts) (tree_len t) i false long later ∙ joined_mask-at ts parts h.2 (i - tree_len t) (omega arith)
          ∙ ap is_present (sym (joined-later row_at null t ts i later))
    ]

-- where they can be counted, nothing is refused
pub parts-fault : (ts : List Tree) (parts : List (Validity × ℕ)) → ArePartsOf ts parts → joined_len ts < 2 ^ 64 → join_fault parts ≡ None
parts-fault ts [] h short = refl
parts-fault ts (p ∷ parts) h short =
    let all : or_else (types_fault (p ∷ parts)) (count_fault (length (joined_mask (p ∷ parts)))) ≡ None =
    or_else-second (types_fault (p ∷ parts)) (count_fault (length (joined_mask (p ∷ parts)))) None (parts-types ts (p ∷ parts) h)
    (counted (length (joined_mask (p ∷ parts))) (rw (length-joined_mask ts (p ∷ parts) h) short)) in
    either (are_all (valid_of p.0) (p ∷ parts)) all
  where
    either : (b : Bool) → {r : Option Refusal} → r ≡ None → (if b then None else r) ≡ None
    either true e = refl
    either false e = e

-- what none is answered for
pub nothing_joined : (ts : List Tree) (parts : List (Validity × ℕ)) → ArePartsOf ts parts → joined_validity parts ≡ None → ts ≡ []
nothing_joined [] parts h e = refl
nothing_joined (t ∷ ts) [] h e = absurd h
nothing_joined (t ∷ ts) (p ∷ parts) h e = cc

-- ---- one state

both-first : (a b : Bool) → (a && b) ≡ true → a ≡ true
both-first true b h = refl
both-first false b h = cc

both-second : (a b : Bool) → (a && b) ≡ true → b ≡ true
both-second true b h = h
both-second false b h = cc

alike-valid : (v u : Valid) (i j : ℕ) → is_unchanged v u ≡ true → is_valid_at v i ≡ is_valid_at u j
alike-valid non_nullable non_nullable i j h = refl
alike-valid all_valid all_valid i j h = refl
alike-valid all_invalid all_invalid i j h = refl
alike-valid _ _ i j h = cc

alike-fits : (v u : Valid) (n : ℕ) → is_unchanged v u ≡ true → ValidFits v n
alike-fits non_nullable u n h = tt
alike-fits all_valid u n h = tt
alike-fits all_invalid u n h = tt
alike-fits (by_array t) u n h = cc

alike-plain : (v u : Valid) → is_unchanged v u ≡ true → IsPlainValid v
alike-plain non_nullable u h = tt
alike-plain all_valid u h = tt
alike-plain all_invalid u h = tt
alike-plain (by_array t) u h = cc

states-valid : (v : Valid) (ts : List Tree) (parts : List (Validity × ℕ)) → ArePartsOf ts parts → are_all v parts ≡ true → (i : ℕ) → i < joined_len ts → is_valid_at v i ≡ is_present (joined_row ts i)
states-valid v [] [] h all i l = absurd (omega arith)
states-valid v [] (p ∷ parts) h all i l = absurd h
states-valid v (t ∷ ts) [] h all i l = absurd h
states-valid v (t ∷ ts) (p ∷ parts) h all i l =
    let same = both-first (is_unchanged v (valid_of p.0)) (are_all v parts) all in
    elim (cases_lt i (tree_len t)) [
      | inl here ↦ alike-valid v (valid_of p.0) i i same ∙ h.0.bits i here ∙ ap is_present (sym (joined-here row_at null t ts i here))
      | inr later ↦
          alike-valid v v i (i - tree_len t) (itself v (valid_of p.0) same)
          ∙ states-valid v ts parts h.2 (both-second (is_unchanged v (valid_of p.0)) (are_all v parts) all) (i - tree_len t) (omega arith)
          ∙ ap is_present (sym (joined-later row_at null t ts i later))
    ]
  where
    itself : (a b : Valid) → is_unchanged a b ≡ true → is_unchanged a a ≡ true
    itself non_nullable b e = refl
    itself all_valid b e = refl
    itself all_invalid b e = refl
    itself (by_array u) b e = cc

plain_state : (v : Valid) → nullable v ≡ false → v ≡ non_nullable
plain_state non_nullable h = refl
plain_state all_valid h = cc
plain_state all_invalid h = cc
plain_state (by_array t) h = cc

-- where null may not stand, all are the one state
plain_states : (ts : List Tree) (parts : List (Validity × ℕ)) → ArePartsOf ts parts → All (λ t. is_nullable_kind (kind_of t) ≡ false) ts → are_all non_nullable parts ≡ true
plain_states [] [] h all = refl
plain_states [] (p ∷ parts) h all = absurd h
plain_states (t ∷ ts) [] h all = absurd h
plain_states (t ∷ ts) (p ∷ parts) h all =
    rw (plain_state (valid_of p.0) (h.0.kind ∙ all 0 t (omega arith))) (plain_states ts parts h.2 (λ k d l. all (suc k) d (omega arith)))

-- ---- the state of all of them

unchanged_state : (v u : Valid) → is_unchanged v u ≡ true → state_of u ≡ state_of v
unchanged_state non_nullable non_nullable h = refl
unchanged_state all_valid all_valid h = refl
unchanged_state all_invalid all_invalid h = refl
unchanged_state _ _ h = cc

state_unchanged : (v u : Valid) → is_unchanged v v ≡ true → state_of u ≡ state_of v → is_unchanged v u ≡ true
state_unchanged non_nullable non_nullable h e = refl
state_unchanged all_valid all_valid h e = refl
state_unchanged all_invalid all_invalid h e = refl
state_unchanged (by_array t) u h e = cc
state_unchanged _ _ h e = cc

unchanged_same : (v u : Valid) → is_unchanged v u ≡ true → u ≡ v
unchanged_same non_nullable non_nullable h = refl
unchanged_same all_valid all_valid h = refl
unchanged_same all_invalid all_invalid h = refl
unchanged_same _ _ h = cc

both_one : (v : Valid) → is_unchanged v v ≡ true → joined_states (state_of v) (state_of v) ≡ state_of v
both_one non_nullable h = refl
both_one all_valid h = refl
both_one all_invalid h = refl
both_one (by_array t) h = cc

either_state : (a b : State) → (joined_states a b ≡ told) ⊎ ((a ≡ joined_states a b) × (b ≡ joined_states a b))
either_state never_null never_null = inr (refl, refl)
either_state never_null none_null = inl refl
either_state never_null every_null = inl refl
either_state never_null told = inl refl
either_state none_null never_null = inl refl
either_state none_null none_null = inr (refl, refl)
either_state none_null every_null = inl refl
either_state none_null told = inl refl
either_state every_null never_null = inl refl
either_state every_null none_null = inl refl
either_state every_null every_null = inr (refl, refl)
either_state every_null told = inl refl
either_state told b = inl refl

not_told : (v : Valid) → is_unchanged v v ≡ true → told ≡ state_of v → ⊥
not_told non_nullable h e = cc
not_told all_valid h e = cc
not_told all_invalid h e = cc
not_told (by_array t) h e = cc

each_one : (v : Valid) (a b : State) → is_unchanged v v ≡ true → joined_states a b ≡ state_of v → (a ≡ state_of v) × (b ≡ state_of v)
each_one v a b h e = by_case (either_state a b)
  where
    by_case : (joined_states a b ≡ told) ⊎ ((a ≡ joined_states a b) × (b ≡ joined_states a b)) → (a ≡ state_of v) × (b ≡ state_of v)
    by_case (inl t) = absurd (not_told v h (sym t ∙ e))
    by_case (inr p) = (p.0 ∙ e, p.1 ∙ e)

-- where no array tells it
one_state : (v : Valid) (ts : List Tree) (parts : List (Validity × ℕ)) → ArePartsOf ts parts → is_unchanged v v ≡ true → are_all v parts ≡ true → 0 < length ts → joined_state ts ≡ state_of v
one_state v [] parts h same all some = absurd (omega arith)
one_state v (t ∷ ts) [] h same all some = absurd h
one_state v (t ∷ []) (p ∷ parts) h same all some = sym h.0.state ∙ unchanged_state v (valid_of p.0) (both-first (is_unchanged v (valid_of p.0)) (are_all v parts) all)
one_state v (t ∷ u ∷ ts) (p ∷ parts) h same all some =
    let here : tree_state t ≡ state_of v = sym h.0.state ∙ unchanged_state v (valid_of p.0) (both-first (is_unchanged v (valid_of p.0)) (are_all v parts) all) in
    let rest : joined_state (u ∷ ts) ≡ state_of v = one_state v (u ∷ ts) parts h.2 same (both-second (is_unchanged v (valid_of p.0)) (are_all v parts) all) (omega arith) in
    (λ i. joined_states (here i) (rest i)) ∙ both_one v same

all_of_state : (v : Valid) (ts : List Tree) (parts : List (Validity × ℕ)) → ArePartsOf ts parts → is_unchanged v v ≡ true → joined_state ts ≡ state_of v → are_all v parts ≡ true
all_of_state v [] [] h same e = refl
all_of_state v [] (p ∷ parts) h same e = absurd h
all_of_state v (t ∷ ts) [] h same e = absurd h
all_of_state v (t ∷ []) (p ∷ []) h same e = rw (state_unchanged v (valid_of p.0) same (h.0.state ∙ e)) refl
all_of_state v (t ∷ []) (p ∷ q ∷ parts) h same e = absurd h.2
all_of_state v (t ∷ u ∷ ts) (p ∷ parts) h same e =
    let each = each_one v (tree_state t) (joined_state (u ∷ ts)) same e in
    rw (state_unchanged v (valid_of p.0) same (h.0.state ∙ each.0)) (all_of_state v (u ∷ ts) parts h.2 same each.1)

-- an array tells it where they have not one
told_state : (t : Tree) (ts : List Tree) (p : Validity × ℕ) (parts : List (Validity × ℕ)) → ArePartsOf (t ∷ ts) (p ∷ parts) → are_all (valid_of p.0) (p ∷ parts) ≡ false → told ≡ joined_state (t ∷ ts)
told_state t ts p parts h none = by_state (joined_state (t ∷ ts)) refl
  where
    never : (v : Valid) → is_unchanged v v ≡ true → joined_state (t ∷ ts) ≡ state_of v → ⊥
    never v same e =
        let all : are_all v (p ∷ parts) ≡ true = all_of_state v (t ∷ ts) (p ∷ parts) h same e in
        let first : valid_of p.0 ≡ v = unchanged_same v (valid_of p.0) (both-first (is_unchanged v (valid_of p.0)) (are_all v parts) all) in
        let no : are_all v (p ∷ parts) ≡ false = ap (λ w. are_all w (p ∷ parts)) (sym first) ∙ none in
        cc

    by_state : (s : State) → joined_state (t ∷ ts) ≡ s → told ≡ joined_state (t ∷ ts)
    by_state told e = sym e
    by_state never_null e = absurd (never non_nullable refl e)
    by_state none_null e = absurd (never all_valid refl e)
    by_state every_null e = absurd (never all_invalid refl e)

-- ---- joined

some_same : {A : Type 0} (x y : A) → Some x ≡ Some y → x ≡ y
some_same x y e = cc

of_one_state : (n : Bool) (ts : List Tree) (parts : List (Validity × ℕ)) (v : Valid) → ArePartsOf ts parts → nullable v ≡ n → is_unchanged v v ≡ true → are_all v parts ≡ true → IsValidJoined n ts v
of_one_state n ts parts v h e same all =
    record {
      fits = alike-fits v v (joined_len ts) same;
      kind = e;
      plain = alike-plain v v same;
      state = λ some. sym (one_state v ts parts h same all some);
      bits = states-valid v ts parts h all;
    }

of_booleans : (ts : List Tree) (parts : List (Validity × ℕ)) → ArePartsOf ts parts → told ≡ joined_state ts → IsValidJoined true ts (by_array (bools 0 (joined_mask parts) non_nullable))
of_booleans ts parts h state =
    record {
      fits = record { len = length-joined_mask ts parts h; kind = refl };
      kind = refl;
      plain = tt;
      state = λ some. state;
      bits = joined_mask-at ts parts h;
    }

pub valid_joined : (n : Bool) (ts : List Tree) (parts : List (Validity × ℕ)) (w : Valid) → ArePartsOf ts parts → All (λ t. is_nullable_kind (kind_of t) ≡ n) ts → joined_validity parts ≡ Some w
    → IsValidJoined n ts w
valid_joined n [] [] w h nulls e = cc
valid_joined n [] (p ∷ parts) w h nulls e = absurd h
valid_joined n (t ∷ ts) [] w h nulls e = absurd h
valid_joined n (t ∷ ts) (p ∷ parts) w h nulls e = tested n (are_all (valid_of p.0) (p ∷ parts)) refl nulls
  where
    tested : (m b : Bool) → are_all (valid_of p.0) (p ∷ parts) ≡ b → All (λ u. is_nullable_kind (kind_of u) ≡ m) (t ∷ ts) → IsValidJoined m (t ∷ ts) w
    tested m true all nulls =
        let same : valid_of p.0 ≡ w = some_same (valid_of p.0) w (rw all at e) in
        rw (sym same) (of_one_state m (t ∷ ts) (p ∷ parts) (valid_of p.0) h (h.0.kind ∙ nulls 0 t (omega arith)) (both-first (is_unchanged (valid_of p.0) (valid_of p.0)) (are_all (valid_of p.0) parts) all) all)
    tested true false all nulls =
        let same : by_array (bools 0 (joined_mask (p ∷ parts)) non_nullable) ≡ w = some_same (by_array (bools 0 (joined_mask (p ∷ parts)) non_nullable)) w (rw all at e) in
        rw (sym same) (of_booleans (t ∷ ts) (p ∷ parts) h (told_state t ts p parts h all))
    tested false false all nulls =
        let plain : valid_of p.0 ≡ non_nullable = plain_state (valid_of p.0) (h.0.kind ∙ nulls 0 t (omega arith)) in
        let every = plain_states (t ∷ ts) (p ∷ parts) h nulls in
        let no : are_all non_nullable (p ∷ parts) ≡ false = sym (ap (λ v. are_all v (p ∷ parts)) plain) ∙ all in
        absurd (cc)

empty_fits : (b : Bool) → ValidFits (full_valid b) 0
empty_fits true = tt
empty_fits false = tt

empty_nullable : (b : Bool) → nullable (full_valid b) ≡ b
empty_nullable true = refl
empty_nullable false = refl

empty_plain : (b : Bool) → IsPlainValid (full_valid b)
empty_plain true = tt
empty_plain false = tt

-- of no arrays
pub none_joined : (n : Bool) (ts : List Tree) → ts ≡ [] → IsValidJoined n ts (full_valid n)
none_joined n ts e = rw e (record {
  fits = empty_fits n;
  kind = empty_nullable n;
  plain = empty_plain n;
  state = λ some. absurd (omega arith);
  bits = λ i l. absurd (omega arith);
})
