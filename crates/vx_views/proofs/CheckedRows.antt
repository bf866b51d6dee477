-- What a check of views knows that goes row by row: no row so far is faulty, and how many views were checked alone.
use Rattle.std.proofs.Common.{◌≡◌, ℕ, ◌+◌, ◌<◌, ◌≤◌, ◌&&◌, Bool, true, false, cond, ◌∙◌, sym, ap, refl, List, [], length, take, arith, add-zero}
use Rattle.std.specs.Prelude.{None, count_by, slice_index_or}
use Rattle.std.specs.List.{range_with_len}
use Rattle.std.specs.Int.{from_bool}
use Rattle.std.proofs.lemmas.List.{get_or_default}
use Rattle.vx_base.specs.Bits.{bool_at}
use Rattle.vx_base.specs.Refusals.{first_fault}
use Rattle.vx_views.specs.Alone.{is_alone, is_row_alone, alone_of}
use Rattle.vx_views.specs.Faulty.{row_fault, view_fault, views_fault}
use Rattle.vx_views.proofs.AloneViews.{from_bool-le, counted_more, counted_all}
use Rattle.vx_views.proofs.FaultyViews.{IsValidAt, no_fault_at_valid, no_fault_at_null, no_fault_at_end}

module _ (text : Bool) (texts mask : List Bool) (buffers views : List (List ℕ)) where
  -- how many of the rows before one have a view that is checked alone
  abbrev alone_before : ℕ → ℕ
  alone_before row = cond text (count_by (is_row_alone texts mask views) (take row (range_with_len 0 (length views)))) 0

  pub record AreChecked (row alone : ℕ) : Type 0 where
    pub none : first_fault (row_fault text mask buffers views) row ≡ None
    pub counted : alone ≡ alone_before row
    pub few : alone ≤ row

  more : (row alone : ℕ) → row < length views → (t : Bool) → alone ≡ cond t (count_by (is_row_alone texts mask views) (take row (range_with_len 0 (length views)))) 0
      → (b : Bool) → is_row_alone texts mask views row ≡ b
      → alone + from_bool (t && b) ≡ cond t (count_by (is_row_alone texts mask views) (take (row + 1) (range_with_len 0 (length views)))) 0
  more row alone within true counted b here = counted_more texts mask views row alone within counted b here
  more row alone within false counted b here = rw counted refl

  pub checked-start : (alone : ℕ) → alone ≡ 0 → AreChecked 0 alone
  checked-start alone start = record { none = refl; counted = start ∙ nothing text; few = omega (arith, start) }
    where
      nothing : (t : Bool) → 0 ≡ cond t (count_by (is_row_alone texts mask views) (take 0 (range_with_len 0 (length views)))) 0
      nothing true = refl
      nothing false = refl

  pub checked-valid : (row alone alone' : ℕ) (view : List ℕ) (b : Bool) → AreChecked row alone → IsValidAt mask views row view → view_fault text buffers view row ≡ None
      → b ≡ (text && is_alone texts view) → alone' ≡ alone + from_bool b → AreChecked (row + 1) alone'
  checked-valid row alone alone' view b before at fault told added =
      let same : slice_index_or views row [] ≡ view = get_or_default views row [] view at.within ∙ sym at.same in
      let here : is_row_alone texts mask views row ≡ is_alone texts view = rw (at.valid, same) refl in
      record {
        none = no_fault_at_valid text mask buffers views row view before.none at fault;
        counted = added ∙ ap (λ (x : Bool). alone + from_bool x) told ∙ more row alone at.within text before.counted (is_alone texts view) here;
        few = omega (arith, added, from_bool-le b, before.few);
      }

  none_more : (t : Bool) → (t && false) ≡ false
  none_more true = refl
  none_more false = refl

  pub checked-null : (row alone alone' : ℕ) → AreChecked row alone → row < length views → bool_at mask row ≡ false → alone' ≡ alone → AreChecked (row + 1) alone'
  checked-null row alone alone' before within null same =
      let here : is_row_alone texts mask views row ≡ false = rw null refl in
      record {
        none = no_fault_at_null text mask buffers views row before.none null;
        counted = same ∙ sym (add-zero alone) ∙ ap (λ (x : Bool). alone + from_bool x) (sym (none_more text)) ∙ more row alone within text before.counted false here;
        few = omega (arith, same, before.few);
      }

  pub checked-fault : (row alone : ℕ) → AreChecked row alone → row ≡ length views → views_fault text mask buffers views ≡ None
  checked-fault row alone before end = no_fault_at_end text mask buffers views row before.none end

  pub checked-alone : (row alone : ℕ) → AreChecked row alone → row ≡ length views → alone ≡ alone_of text texts mask views
  checked-alone row alone before end = all text before.counted
    where
      all : (t : Bool) → alone ≡ cond t (count_by (is_row_alone texts mask views) (take row (range_with_len 0 (length views)))) 0 → alone ≡ alone_of t texts mask views
      all true counted = counted_all texts mask views row alone end counted
      all false counted = counted
