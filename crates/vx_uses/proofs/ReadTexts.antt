-- Texts of foreign parts, and what is read of them.
use Rattle.std.proofs.Common.{◌≡◌, ◌<◌, ◌≤◌, ◌+◌, ◌⊎◌, ℕ, Bool, true, false, cond, List, [], ◌∷◌, ◌++◌, length, get_or, Option, Some, None, IsUtf8, refl, sym, ◌∙◌, ap, subst, inl, inr, arith}
use Rattle.std.specs.Prelude.{Result, IfOk, String}
use Rattle.std.specs.Global.{Global}
use Rattle.std.proofs.lemmas.Bool.{cases_lt}
use Rattle.std.proofs.lemmas.List.{get_or_push, get_or_append_left}
use Rattle.std.proofs.lemmas.List.FromFn.{length-map-range_with_len}
use Rattle.std.proofs.lemmas.Result.{IfOk-weaker}
use Rattle.vx_base.specs.Kinds.{Kind, booleans, integers, texts, binaries, lists, fixed_lists, records, Fits}
use Rattle.vx_base.specs.Refusals.{Refuses}
use Rattle.vx_base.specs.Rows.{Row, null, boolean, whole, bytes, text, items, record_of}
use Rattle.vx_base.specs.declared.errors.VortexError.{VortexError}
use Rattle.vx_views.specs.Views.{view_value}
use Rattle.vx_tree.specs.Meaning.{tree_len, kind_of, row_at, is_valid_at, is_texts, valid_mask}
use Rattle.vx_tree.specs.Tree.{Tree, Valid}
use Rattle.vx_tree.specs.Values.{bytes_in}
use Rattle.vx_text.specs.TextFaults.{view_array_fault}
use Rattle.vx_views.specs.Emptied.{valid_view}
use Rattle.vx_text.specs.Texts.{HasValues, array_of_views}
use Rattle.vx_uses.specs.ForeignTexts.{text_bytes, AreForeignTexts}

-- ---- a row of texts

-- the bytes of a row that fits texts are a text
pub bytes_are_text : (k : Kind) (r : Row) (value : List ℕ) → is_texts k ≡ true → Fits k r → bytes_in r ≡ Some value → IsUtf8 value
bytes_are_text (texts n) (text bs) value is fits found = let same : bs ≡ value = cc in subst IsUtf8 same fits.0
bytes_are_text (texts n) (bytes bs) value is fits found = absurd fits
bytes_are_text (texts n) null value is fits found = cc
bytes_are_text (texts n) (boolean b) value is fits found = cc
bytes_are_text (texts n) (whole z) value is fits found = cc
bytes_are_text (texts n) (items rs) value is fits found = cc
bytes_are_text (texts n) (record_of fs) value is fits found = cc
bytes_are_text (booleans n) r value is fits found = cc
bytes_are_text (integers t n) r value is fits found = cc
bytes_are_text (binaries n) r value is fits found = cc
bytes_are_text (lists k n) r value is fits found = cc
bytes_are_text (fixed_lists k size n) r value is fits found = cc
bytes_are_text (records names ks n) r value is fits found = cc

bytes_of_text : (valid : Bool) (value : List ℕ) → bytes_in (cond valid (text value) null) ≡ cond valid (Some value) None
bytes_of_text true value = refl
bytes_of_text false value = refl

-- ---- the array of foreign parts

-- what is said of parts that are the same ones
module _ (r : Result Tree VortexError) (views buffers others shared : List (List ℕ)) (k l : Kind) (v w : Valid)
    (same_views : others ≡ views) (same_buffers : shared ≡ buffers) (same_kind : l ≡ k) (same_valid : w ≡ v) where
  pub values_of_same : IfOk r (HasValues others shared l w) → IfOk r (HasValues views buffers k v)
  values_of_same has =
      let in_views = subst (λ (xs : List (List ℕ)). IfOk r (HasValues xs shared l w)) same_views has in
      let in_buffers = subst (λ (xs : List (List ℕ)). IfOk r (HasValues views xs l w)) same_buffers in_views in
      subst (λ (x : Valid). IfOk r (HasValues views buffers k x)) same_valid (subst (λ (x : Kind). IfOk r (HasValues views buffers x w)) same_kind in_buffers)

  pub refuses_of_same : Refuses r (view_array_fault others shared l w) → Refuses r (view_array_fault views buffers k v)
  refuses_of_same told =
      let in_views = subst (λ (xs : List (List ℕ)). Refuses r (view_array_fault xs shared l w)) same_views told in
      let in_buffers = subst (λ (xs : List (List ℕ)). Refuses r (view_array_fault views xs l w)) same_buffers in_views in
      subst (λ (x : Valid). Refuses r (view_array_fault views buffers k x)) same_valid (subst (λ (x : Kind). Refuses r (view_array_fault views buffers x w)) same_kind in_buffers)

  pub len_of_same : IfOk r (λ a. a ≡ array_of_views others shared l w) → IfOk r (λ a. tree_len a ≡ length views)
  len_of_same made =
      let emptied = length-map-range_with_len (valid_view others (valid_mask w (length others))) 0 (length others) in
      IfOk-weaker r _ (λ a. tree_len a ≡ length views) (λ a is. ap tree_len is ∙ emptied ∙ ap length same_views) made

  pub kind_of_same : IfOk r (λ a. a ≡ array_of_views others shared l w) → IfOk r (λ a. kind_of a ≡ k)
  kind_of_same made = IfOk-weaker r _ (λ a. kind_of a ≡ k) (λ a is. ap kind_of is ∙ same_kind) made

-- ---- all texts

pub one_text_more : (t : Tree) (row : ℕ) (found next : List (Option (String Global))) (x : Option (String Global)) → next ≡ found ++ x ∷ [] → length found ≡ row
    → ((i : ℕ) → i < row → text_bytes (get_or found i None) ≡ bytes_in (row_at t i)) → text_bytes x ≡ bytes_in (row_at t row)
    → (i : ℕ) → i < row + 1 → text_bytes (get_or next i None) ≡ bytes_in (row_at t i)
one_text_more t row found next x same len each here i below = ap (λ (xs : List (Option (String Global))). text_bytes (get_or xs i None)) same ∙ by_case (cases_lt i row)
  where
    by_case : (i < row) ⊎ (row ≤ i) → text_bytes (get_or (found ++ x ∷ []) i None) ≡ bytes_in (row_at t i)
    by_case (inl before) = ap text_bytes (get_or_append_left found (x ∷ []) None i (omega (arith, len))) ∙ each i before
    by_case (inr last) =
        let at : i ≡ row = omega arith in
        ap text_bytes (get_or_push found x None i (len ∙ sym at)) ∙ here ∙ ap (λ j. bytes_in (row_at t j)) (sym at)

pub texts_are_read : (views buffers : List (List ℕ)) (v : Valid) (n : Bool) (t : Tree) (found : List (Option (String Global))) → HasValues views buffers (texts n) v t → length found ≡ length views
    → ((i : ℕ) → i < length views → text_bytes (get_or found i None) ≡ bytes_in (row_at t i)) → AreForeignTexts views buffers v found
texts_are_read views buffers v n t found has len each =
    record {
      len = len;
      each = λ row inside. each row inside ∙ ap bytes_in (has row inside) ∙ bytes_of_text (is_valid_at v row) (view_value buffers (get_or views row []));
    }
