-- The row of a code that is refused.
use Rattle.std.proofs.Common.{◌≡◌, ℕ, ◌<◌, Bool, true, false, cond, Some, None, sym, ◌∙◌, ap, subst, inl, inr, arith}
use Rattle.std.specs.Prelude.{◌≢◌, ℤ, pos, negsuc, nat_lt}
use Rattle.std.proofs.lemmas.Bool.{cases_lt}
use Rattle.vx_base.specs.Refusals.{out_of_bounds, FirstFaultIsLeast, IsLeastFault}
use Rattle.vx_base.specs.Rows.{Row, null, boolean, whole, bytes, text, items, record_of, number_in}
use Rattle.vx_tree.specs.Faults.{index_fault, indices_fault}
use Rattle.vx_tree.specs.Meaning.{tree_len, row_at}
use Rattle.vx_tree.specs.Tree.{Tree}
use Rattle.vx_uses.specs.FaultyRows.{IsFirstFaultyCode}

past : (b : Bool) (k code : ℕ) → cond b None (Some (out_of_bounds k)) ≡ Some (out_of_bounds code) → whole (pos k) ≡ whole (pos code)
past true k code is = cc
past false k code is = cc

-- a code that is refused is that of the row
refused_code : (count i code : ℕ) (r : Row) → index_fault count i r ≡ Some (out_of_bounds code) → r ≡ whole (pos code)
refused_code count i code (whole (pos k)) is = past (nat_lt k count) k code is
refused_code count i code (whole (negsuc k)) is = cc
refused_code count i code null is = cc
refused_code count i code (boolean b) is = cc
refused_code count i code (bytes bs) is = cc
refused_code count i code (text bs) is = cc
refused_code count i code (items rs) is = cc
refused_code count i code (record_of fs) is = cc

numbered : (r : Row) (z : ℤ) → number_in r ≡ Some z → r ≡ whole z
numbered (whole y) z is = cc
numbered null z is = cc
numbered (boolean b) z is = cc
numbered (bytes bs) z is = cc
numbered (text bs) z is = cc
numbered (items rs) z is = cc
numbered (record_of fs) z is = cc

module _ (law : FirstFaultIsLeast) (codes : Tree) (count code : ℕ) (refused : indices_fault count codes ≡ Some (out_of_bounds code)) where
  least : IsLeastFault (λ i. index_fault count i (row_at codes i)) (tree_len codes) (Some (out_of_bounds code))
  least = subst (IsLeastFault (λ i. index_fault count i (row_at codes i)) (tree_len codes)) refused (law (λ i. index_fault count i (row_at codes i)) (tree_len codes))

  is_least : row_at codes least.0 ≡ whole (pos code)
  is_least = refused_code count least.0 code (row_at codes least.0) least.2

  -- the first row that has the code is the first faulty one
  pub first_faulty_code : (row : ℕ) → row < tree_len codes → number_in (row_at codes row) ≡ Some (pos code) → ((i : ℕ) → i < row → number_in (row_at codes i) ≢ Some (pos code)) → IsFirstFaultyCode count codes code row
  first_faulty_code row inside has others =
      let is : row_at codes row ≡ whole (pos code) = numbered (row_at codes row) (pos code) has in
      record {
        in_bounds = inside;
        has = is;
        stands = ap (index_fault count row) is ∙ sym (ap (index_fault count least.0) is_least) ∙ least.2;
        first = λ i before. elim (cases_lt i least.0) [
          | inl earlier ↦ least.3 i earlier
          | inr later ↦ absurd (others least.0 (omega arith) (ap number_in is_least))
        ];
      }

  -- some row has it
  pub some_row_has : ((i : ℕ) → i < tree_len codes → number_in (row_at codes i) ≢ Some (pos code)) → ⊥
  some_row_has others = others least.0 least.1 (ap number_in is_least)
