-- Values that are there, each once.
use Rattle.std.proofs.Common.{ℕ, suc, ◌+◌, ◌<◌, ◌≤◌, ◌≡◌, Bool, true, false, cond, eqb, List, [], ◌∷◌, ◌++◌, length, map, take, replicate, Option, Some, None, refl, sym, ◌∙◌, ap, subst, arith}
use Rattle.std.specs.Prelude.{count_by, is_some, slice_index, slice_index_or}
use Rattle.std.specs.List.{All, filter}
use Rattle.std.proofs.lemmas.Bool.{ne_eqb}
use Rattle.std.proofs.lemmas.List.{get_or_append_left, get_or-map, length-append, length-map, map-append}
use Rattle.std.proofs.lemmas.List.Elements.{All-append, All-cons, All-filter, All-nil, filter-append}
use Rattle.std.proofs.lemmas.List.Sums.{sum_by-cons}
use Rattle.vx_base.specs.declared.scalar_value.ScalarValue.{ScalarValue}
use Rattle.vx_base.specs.declared.scalar_value.ScalarValue.TheVariants as value
use Rattle.vx_base.proofs.Defaults.{take_push}
use Rattle.vx_base.proofs.Repeated.{map_repeated}
use Rattle.vx_base.specs.Kinds.{Kind, Fits, is_nullable_kind}
use Rattle.vx_base.specs.ValueRows.{value_row, option_row, row_under}
use Rattle.vx_tree.specs.Tree.{Tree, all_invalid}
use Rattle.vx_tree.specs.Shapes.{told, state_of}
use Rattle.vx_tree.specs.Faults.{take_overflow}
use Rattle.vx_tree.specs.Fitting.{AllFormed}
use Rattle.vx_tree.specs.Operations.{IsSelected}
use Rattle.vx_canonical.specs.PlainValues.{AreGathered, ArePlainValues, FitsIfThere, values_valid}
use Rattle.vx_tree.specs.CanonicalFaults.{kept_fault, rows_fault}
use Rattle.vx_tree.specs.Extents.{rows_extent}
use Rattle.vx_tree.specs.CanonicalFaults.{plain_overflow}
use Rattle.vx_tree.proofs.Dictionaries.{state_of_selected}
use Rattle.vx_canonical.proofs.Flags.{flag_of_selected}
use Rattle.vx_canonical.proofs.PlainKinds.{plain_overflow-fewer, take_overflow-plain}
use Rattle.vx_canonical.proofs.Kept.{there, kept_fault-nulls, kept_fault-there, rows_extent-there, values_counted}

-- ---- how they are found

kept_places : (ws xs : List (Option ScalarValue)) (ps : List ℕ) → All (λ p. p < length ws) ps → map (λ p. slice_index_or (ws ++ xs) p None) ps ≡ map (λ p. slice_index_or ws p None) ps
kept_places ws xs [] all = refl
kept_places ws xs (p ∷ ps) all =
    λ i. get_or_append_left ws xs None p (all 0 p (omega arith)) i ∷ kept_places ws xs ps (λ j d l. all (suc j) d (omega arith)) i

pub AreGathered-next : (vs : List (Option ScalarValue)) (i : ℕ) (v : Option ScalarValue) (ws us : List (Option ScalarValue)) (ps qs : List ℕ) (p : ℕ) → i < length vs → v ≡ slice_index_or vs i v → AreGathered (take i vs) ws ps
    → us ≡ ws ++ filter is_some (v ∷ []) → p < length us → slice_index_or us p None ≡ v → qs ≡ ps ++ p ∷ [] → AreGathered (take (i + 1) vs) us qs
AreGathered-next vs i v ws us ps qs p l here x added inside found placed =
    let more : take (i + 1) vs ≡ take i vs ++ v ∷ [] = take_push vs i v l here in
    let longer : length ws ≤ length us = omega (arith, ap length added, length-append ws (filter is_some (v ∷ []))) in
    record {
      few =
          added ∙ ap (λ xs. xs ++ filter is_some (v ∷ [])) x.few
          ∙ ap (λ xs. None ∷ xs) (sym (ap (filter is_some) more ∙ filter-append is_some (take i vs) (v ∷ [])));
      within = subst (All (λ q. q < length us)) (sym placed) (All-append (λ q. q < length us) ps (p ∷ []) (λ j d m. omega (arith, x.within j d m, longer)) (All-cons (λ q. q < length us) p [] inside (All-nil (λ q. q < length us))));
      values =
          ap (map (λ q. slice_index_or us q None)) placed ∙ map-append (λ q. slice_index_or us q None) ps (p ∷ [])
          ∙ (λ j. map (λ q. slice_index_or (added j) q None) ps ++ found j ∷ [])
          ∙ ap (λ xs. xs ++ v ∷ []) (kept_places ws (filter is_some (v ∷ [])) ps x.within ∙ x.values)
          ∙ sym more;
    }

-- ---- what they are

pub gathered_length : (vs ws : List (Option ScalarValue)) (ps : List ℕ) → AreGathered vs ws ps → length ps ≡ length vs
gathered_length vs ws ps x = sym (length-map ps (λ p. slice_index_or ws p None)) ∙ ap length x.values

pub gathered_value : (vs ws : List (Option ScalarValue)) (ps : List ℕ) (i : ℕ) → AreGathered vs ws ps → i < length vs → slice_index_or ws (slice_index ps i) None ≡ slice_index_or vs i None
gathered_value vs ws ps i x l =
    sym (get_or-map (λ p. slice_index_or ws p None) ps i 0 None (rw (gathered_length vs ws ps x) l)) ∙ ap (λ xs. slice_index_or xs i None) x.values

pub gathered_fit : (k : Kind) (vs ws : List (Option ScalarValue)) (ps : List ℕ) → AreGathered vs ws ps → All (FitsIfThere k) vs → All (FitsIfThere k) ws
gathered_fit k vs ws ps x all = subst (All (FitsIfThere k)) (sym x.few) (All-cons (FitsIfThere k) None (filter is_some vs) tt (All-filter is_some (FitsIfThere k) vs all))

there_values : (vs : List (Option ScalarValue)) → there (map option_row vs) ≡ map option_row (filter is_some vs)
there_values [] = refl
there_values (None ∷ vs) = there_values vs
there_values (Some (value.Bool b) ∷ vs) = ap (λ rs. value_row (value.Bool b) ∷ rs) (there_values vs)
there_values (Some (value.Int z) ∷ vs) = ap (λ rs. value_row (value.Int z) ∷ rs) (there_values vs)
there_values (Some (value.Bytes bs) ∷ vs) = ap (λ rs. value_row (value.Bytes bs) ∷ rs) (there_values vs)
there_values (Some (value.Text bs) ∷ vs) = ap (λ rs. value_row (value.Text bs) ∷ rs) (there_values vs)
there_values (Some (value.List qs) ∷ vs) = ap (λ rs. value_row (value.List qs) ∷ rs) (there_values vs)
there_values (Some (value.Record qs) ∷ vs) = ap (λ rs. value_row (value.Record qs) ∷ rs) (there_values vs)

filter_twice : (vs : List (Option ScalarValue)) → filter is_some (filter is_some vs) ≡ filter is_some vs
filter_twice [] = refl
filter_twice (None ∷ vs) = filter_twice vs
filter_twice (Some x ∷ vs) = ap (λ xs. Some x ∷ xs) (filter_twice vs)

gathered_there : (vs ws : List (Option ScalarValue)) (ps : List ℕ) → AreGathered vs ws ps → there (map option_row ws) ≡ there (map option_row vs)
gathered_there vs ws ps x = there_values ws ∙ ap (map option_row) (ap (filter is_some) x.few ∙ filter_twice vs) ∙ sym (there_values vs)

pub gathered_extent : (k : Kind) (vs ws : List (Option ScalarValue)) (ps : List ℕ) → AreGathered vs ws ps → rows_extent k (map option_row ws) ≡ rows_extent k (map option_row vs)
gathered_extent k vs ws ps x = rows_extent-there k (map option_row ws) ∙ ap (rows_extent k) (gathered_there vs ws ps x) ∙ sym (rows_extent-there k (map option_row vs))

-- ---- what they need

-- the values need what they need where each stands but once, and elements for all of them
pub gathered_fault : (k : Kind) (vs ws : List (Option ScalarValue)) (ps : List ℕ) → AreGathered vs ws ps → All (FitsIfThere k) vs → length (filter is_some vs) < length vs → plain_overflow k (length vs) ≡ None
    → rows_fault k (map option_row ws) ≡ rows_fault k (map option_row vs)
gathered_fault k vs ws ps x all some few =
    let fewer : length ws ≤ length vs = omega (arith, ap length x.few, some) in
    let kept : kept_fault k (map option_row ws) ≡ kept_fault k (map option_row vs) =
    kept_fault-there k (map option_row ws) ∙ ap (kept_fault k) (gathered_there vs ws ps x) ∙ sym (kept_fault-there k (map option_row vs)) in
    values_counted k ws (gathered_fit k vs ws ps x all) (plain_overflow-fewer k (length ws) (length vs) fewer few) ∙ kept ∙ sym (values_counted k vs all few)

-- ---- where none is there

pub all_none : (vs : List (Option ScalarValue)) → length (filter is_some vs) ≡ 0 → vs ≡ replicate (length vs) None
all_none [] e = refl
all_none (None ∷ vs) e = ap (λ xs. None ∷ xs) (all_none vs e)
all_none (Some x ∷ vs) e = absurd (omega (arith, e))

pub none_fault : (k : Kind) (vs : List (Option ScalarValue)) → All (FitsIfThere k) vs → plain_overflow k (length vs) ≡ None → length (filter is_some vs) ≡ 0 → rows_fault k (map option_row vs) ≡ None
none_fault k vs all few none =
    values_counted k vs all few ∙ ap (kept_fault k) (ap (map option_row) (all_none vs none) ∙ map_repeated option_row None (length vs)) ∙ kept_fault-nulls k (length vs)

-- ---- their state

count_kept : (vs : List (Option ScalarValue)) → count_by (λ b. b) (map is_some vs) ≡ length (filter is_some vs)
count_kept [] = refl
count_kept (None ∷ vs) = sum_by-cons (λ b. cond b 1 0) false (map is_some vs) ∙ omega (arith, count_kept vs)
count_kept (Some x ∷ vs) = sum_by-cons (λ b. cond b 1 0) true (map is_some vs) ∙ omega (arith, count_kept vs)

-- of values of which some are there and some are not
told_where : (vs : List (Option ScalarValue)) → 0 < length (filter is_some vs) → length (filter is_some vs) < length vs → state_of (values_valid true vs) ≡ told
told_where vs some few =
    let count = count_by (λ b. b) (map is_some vs) in
    let same : count ≡ length (filter is_some vs) = count_kept vs in
    let long : length (map is_some vs) ≡ length vs = length-map vs is_some in
    rw (ne_eqb count (length (map is_some vs)) (λ e. absurd (omega (arith, e, same, long, few))), ne_eqb count 0 (λ e. absurd (omega (arith, e, same, some)))) refl

pub none_where : (vs : List (Option ScalarValue)) → 0 < length vs → length (filter is_some vs) ≡ 0 → values_valid true vs ≡ all_invalid
none_where vs some none =
    let count = count_by (λ b. b) (map is_some vs) in
    let zero : count ≡ 0 = count_kept vs ∙ none in
    let long : length (map is_some vs) ≡ length vs = length-map vs is_some in
    let nothing : eqb count 0 ≡ true = ap (λ n. eqb n 0) zero in
    rw (ne_eqb count (length (map is_some vs)) (λ e. absurd (omega (arith, e, zero, long, some))), nothing) refl

gathered_state : (b : Bool) (vs ws : List (Option ScalarValue)) (ps : List ℕ) → AreGathered vs ws ps → 0 < length (filter is_some vs) → length (filter is_some vs) < length vs
    → state_of (values_valid b ws) ≡ state_of (values_valid b vs)
gathered_state false vs ws ps x some few = refl
gathered_state true vs ws ps x some few =
    let kept : length (filter is_some ws) ≡ length (filter is_some vs) = ap length (ap (filter is_some) x.few ∙ filter_twice vs) in
    let long : length ws ≡ suc (length (filter is_some vs)) = ap length x.few in
    told_where ws (omega (arith, kept, some)) (omega (arith, kept, long)) ∙ sym (told_where vs some few)

-- ---- taken at their places they are the values

pub gathered_made : (k : Kind) (vs ws : List (Option ScalarValue)) (ps : List ℕ) (t r : Tree) → AreGathered vs ws ps → 0 < length (filter is_some vs) → length (filter is_some vs) < length vs → ArePlainValues k ws t → IsSelected t ps r
    → ArePlainValues k vs r
gathered_made k vs ws ps t r x some few made taken =
    record {
      len = taken.len ∙ gathered_length vs ws ps x;
      kind = taken.kind ∙ made.kind;
      plain = taken.plain made.plain;
      state = state_of_selected t r ps taken ∙ made.state ∙ gathered_state (is_nullable_kind k) vs ws ps x some few;
      extent = taken.needs.extent ∙ made.extent ∙ gathered_extent k vs ws ps x;
      flag = flag_of_selected t r ps taken;
      rows = λ i l fits.
          let inside : i < length ps = rw (gathered_length vs ws ps x) l in
          let here = gathered_value vs ws ps i x l in
          let below : slice_index ps i < length ws = x.within i 0 inside in
          taken.rows i inside ∙ made.rows (slice_index ps i) below (subst (λ v. Fits k (row_under k v)) (sym here) fits) ∙ ap (row_under k) here;
    }

pub gathered_countable : (k : Kind) (vs ws : List (Option ScalarValue)) (ps : List ℕ) (t : Tree) → AreGathered vs ws ps → ArePlainValues k ws t → AllFormed t → plain_overflow k (length vs) ≡ None → take_overflow t (length ps) ≡ None
gathered_countable k vs ws ps t x made formed few =
    take_overflow-plain t formed made.plain (length ps) ∙ (λ i. plain_overflow (made.kind i) (gathered_length vs ws ps x i)) ∙ few
