-- Rows of rows, compared one by one.
use Rattle.std.proofs.Common.{◌≡◌, ◌+◌, ◌<◌, ℕ, zero, suc, refl, sym, ◌∙◌, ap, arith, zero-add}
use Rattle.vx_base.specs.Rows.{Row, items}
use Rattle.vx_tree.specs.Meaning.{rows_range}
use Rattle.vx_tree.proofs.FixedLists.{rows_range-same}

-- rows of rows that are the same have as many rows, and the same ones
pub range_each : (f g : ℕ → Row) (a b n m : ℕ) → rows_range f a n ≡ rows_range g b m → (n ≡ m) × ((j : ℕ) → j < n → f (a + j) ≡ g (b + j))
range_each f g a b zero zero e = (refl, λ j l. absurd (omega arith))
range_each f g a b zero (suc m) e = cc
range_each f g a b (suc n) zero e = cc
range_each f g a b (suc n) (suc m) e =
    let first : f a ≡ g b = cc in
    let rest : rows_range f (suc a) n ≡ rows_range g (suc b) m = cc in
    let more = range_each f g (suc a) (suc b) n m rest in
    (ap suc more.0, each first more.1)
  where
    each : f a ≡ g b → ((j : ℕ) → j < n → f (suc a + j) ≡ g (suc b + j)) → (j : ℕ) → j < suc n → f (a + j) ≡ g (b + j)
    each first more zero l =
        let p : a + 0 ≡ a = omega arith in
        let q : b + 0 ≡ b = omega arith in
        ap f p ∙ first ∙ sym (ap g q)
    each first more (suc j) l =
        let p : a + suc j ≡ suc a + j = omega arith in
        let q : b + suc j ≡ suc b + j = omega arith in
        ap f p ∙ more j (omega arith) ∙ sym (ap g q)

-- two lists are the same where they have as many rows, and the same ones
pub same_items : (f g : ℕ → Row) (n m : ℕ) (r s : Row) → r ≡ items (rows_range f 0 n) → s ≡ items (rows_range g 0 m) → r ≡ s → (n ≡ m) × ((j : ℕ) → j < n → f j ≡ g j)
same_items f g n m r s p q e =
    let inner : rows_range f 0 n ≡ rows_range g 0 m = cc in
    let each = range_each f g 0 0 n m inner in
    (each.0, λ j l. ap f (sym (zero-add j)) ∙ each.1 j l ∙ ap g (zero-add j))

pub are_same_items : (f g : ℕ → Row) (n m : ℕ) (r s : Row) → r ≡ items (rows_range f 0 n) → s ≡ items (rows_range g 0 m) → m ≡ n → ((j : ℕ) → j < n → f j ≡ g j) → r ≡ s
are_same_items f g n m r s p q e each =
    p ∙ ap items (rows_range-same f g 0 0 n (λ j l. ap f (zero-add j) ∙ each j l ∙ sym (ap g (zero-add j))) ∙ ap (rows_range g 0) (sym e)) ∙ sym q
