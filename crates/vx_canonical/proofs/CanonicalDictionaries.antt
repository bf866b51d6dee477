-- Values in plain layout, taken by codes.
use Rattle.std.proofs.Common.{ℕ, ◌<◌, ◌≡◌, Bool, false, List, length, Option, Some, None, refl, sym, ◌∙◌, ap}
use Rattle.std.specs.Prelude.{pos, negsuc, is_some, IfSome, slice_index, if◌then◌else◌}
use Rattle.vx_base.specs.Rows.{Row, null, boolean, whole, bytes, text, items, record_of, position_in}
use Rattle.vx_base.specs.Kinds.{is_nullable_kind, or_nullable}
use Rattle.vx_tree.specs.Tree.{Tree, dictionary, Valid}
use Rattle.vx_tree.specs.Meaning.{tree_len, kind_of, row_at, is_valid_at, picked}
use Rattle.vx_tree.specs.Shapes.{tree_state, taken_state}
use Rattle.vx_tree.specs.Formed.{IsCode, IsDictionary}
use Rattle.vx_tree.specs.Plain.{IsPlain}
use Rattle.vx_tree.specs.Named.{AreIndices}
use Rattle.vx_tree.specs.Operations.{IsSelected, IsNulled, IsValidityOf}
use Rattle.vx_canonical.specs.Canonical.{IsCanonical, IsCanonicalAt, IsCanonicalValid}
use Rattle.vx_canonical.proofs.CanonicalArrays.{same_nullable}
use Rattle.vx_tree.proofs.Dictionaries.{state_of_nulled, state_of_selected}
use Rattle.vx_canonical.proofs.Flags.{flag_of_nulled, flag_of_selected}

picked_row : (f : ℕ → Row) (k : ℕ) (b : Bool) (p : Option ℕ) → b ≡ is_some p → IfSome p (λ n. k ≡ n) → (if b then f k else null) ≡ picked f p
picked_row f k b None e same = rw e refl
picked_row f k b (Some n) e same = rw (e, same) refl

-- the values at the positions that codes name, in plain layout, null where a code is null
pub named_at : (c v s r : Tree) (ps : List ℕ) (x w : Valid) → IsValidityOf c x → IsCanonicalValid x (tree_len c) w → AreIndices c (tree_len v) ps → IsCanonicalAt v ps s → IsNulled s w r → IsCanonical (dictionary c v false) r
named_at c v s r ps x w codes h are made nulled =
    record {
      same = record {
        len = nulled.len ∙ made.len ∙ are.len;
        kind = nulled.kind ∙ (λ i. or_nullable ((same_nullable x w h.state ∙ codes.kind) i) (made.kind i));
        rows = λ i l.
            let inside : i < length ps = rw are.len l in
            let p = are.each i l in
            nulled.rows i (rw made.len inside) ∙ ap (λ y. if is_valid_at w i then y else null) (made.rows i inside)
            ∙ picked_row (row_at v) (slice_index ps i) (is_valid_at w i) (position_in (row_at c i)) (h.bits i l ∙ codes.bits i l ∙ sym p.present) p.told;
      };
      plain = nulled.plain made.plain h.plain;
      state = state_of_nulled s r w nulled ∙ (λ i. taken_state (made.state i) ((h.state ∙ codes.state) i));
      extent = nulled.extent ∙ made.extent;
      flag = flag_of_nulled s r w nulled made.flag;
      kept = tt;
    }

-- the same of values that are plain
pub named_values : (c v s r : Tree) (ps : List ℕ) (x w : Valid) → IsPlain v → IsValidityOf c x → IsCanonicalValid x (tree_len c) w → AreIndices c (tree_len v) ps → IsSelected v ps s → IsNulled s w r → IsCanonical (dictionary c v false) r
named_values c v s r ps x w plain codes h are selected nulled =
    let made : IsCanonicalAt v ps s = record {
      len = selected.len;
      kind = selected.kind;
      plain = selected.plain plain;
      state = state_of_selected v s ps selected;
      extent = selected.needs.extent;
      flag = flag_of_selected v s ps selected;
      rows = selected.rows;
    } in
    named_at c v s r ps x w codes h are made nulled

same_pick : (f g : ℕ → Row) (n : ℕ) (r : Row) → ((i : ℕ) → i < n → f i ≡ g i) → IsCode n r → picked f (position_in r) ≡ picked g (position_in r)
same_pick f g n null same h = refl
same_pick f g n (whole (pos k)) same h = same k h
same_pick f g n (whole (negsuc k)) same h = absurd h
same_pick f g n (boolean b) same h = absurd h
same_pick f g n (bytes b) same h = absurd h
same_pick f g n (text b) same h = absurd h
same_pick f g n (items b) same h = absurd h
same_pick f g n (record_of b) same h = absurd h

-- and the values may be the canonical ones
pub dictionary_canonical : (t r c v w : Tree) (f : Bool) → t ≡ dictionary c v f → IsDictionary c v f → IsCanonical v w → IsCanonical (dictionary c w false) r → IsCanonical t r
dictionary_canonical t r c v w f a d x h =
    rw a (record {
      same = record {
        len = h.same.len;
        kind = h.same.kind ∙ ap (or_nullable (is_nullable_kind (kind_of c))) x.same.kind;
        rows = λ i l. h.same.rows i l ∙ same_pick (row_at w) (row_at v) (tree_len v) (row_at c i) x.same.rows (d.within i l);
      };
      plain = h.plain;
      state = h.state ∙ ap (λ s. taken_state s (tree_state c)) x.state;
      extent = h.extent ∙ x.extent;
      flag = h.flag;
      kept = tt;
    })

pub dictionary_renamed : (c v w : Tree) (f : Bool) → IsDictionary c v f → tree_len w ≡ tree_len v → IsDictionary c w false
dictionary_renamed c v w f d same = record { codes = d.codes; within = λ i l. rw same (d.within i l); referenced = λ on. absurd (cc) }

-- whatever the flag says
pub dictionary_unflagged : (t r c v : Tree) (f : Bool) → t ≡ dictionary c v f → IsCanonical (dictionary c v false) r → IsCanonical t r
dictionary_unflagged t r c v f a h =
    rw a (record {
      same = record { len = h.same.len; kind = h.same.kind; rows = h.same.rows };
      plain = h.plain;
      state = h.state;
      extent = h.extent;
      flag = h.flag;
      kept = tt;
    })
