-- Rows under a mask.
use Rattle.std.proofs.Common.{ℕ, ◌<◌, ◌≡◌, Bool, true, false, cond, List, [], ◌∷◌, length, map, refl, sym, ◌∙◌, ap, zero-add, arith}
use Rattle.std.specs.Prelude.{if◌then◌else◌, count_by}
use Rattle.std.specs.List.{filter, range_with_len}
use Rattle.std.proofs.lemmas.List.{length-map, get_or-map}
use Rattle.std.proofs.lemmas.List.Elements.{All-filter}
use Rattle.std.proofs.lemmas.List.FromFn.{fill_by_all, length-range_with_len, get_or-range_with_len}
use Rattle.vx_base.proofs.ListParts.{map_range_same}
use Rattle.vx_base.proofs.TrueRuns.{length_trues}
use Rattle.vx_base.specs.Bits.{bool_at}
use Rattle.vx_base.specs.Kinds.{Kind}
use Rattle.vx_base.specs.Rows.{Row, null, truth_of}
use Rattle.vx_base.specs.Trues.{trues}
use Rattle.vx_tree.specs.Tree.{Tree, constant, by_array}
use Rattle.vx_tree.specs.Meaning.{row_at, rows, tree_len}
use Rattle.vx_tree.specs.Operations.{IsSelected, IsNulled, AreBelow, filtered, masked, truths}

-- ---- what a mask leaves

filtered_of : (g : ℕ → Bool) (f : ℕ → Row) (ks : List ℕ) → filtered (map g ks) (map f ks) ≡ map f (filter g ks)
filtered_of g f [] = refl
filtered_of g f (k ∷ ks) = elim (g k) as (λ b. filtered (b ∷ map g ks) (f k ∷ map f ks) ≡ map f (cond b (k ∷ filter g ks) (filter g ks))) [
  | true ↦ ap (λ rs. f k ∷ rs) (filtered_of g f ks)
  | false ↦ filtered_of g f ks
]

-- a mask, place by place
mask_by_place : (mask : List Bool) → mask ≡ map (bool_at mask) (range_with_len 0 (length mask))
mask_by_place mask = fill_by_all (bool_at mask) mask (length mask) false refl (λ i l. refl)

-- the rows that are selected
pub rows_selected : (t r : Tree) (ps : List ℕ) → IsSelected t ps r → rows r ≡ map (row_at t) ps
rows_selected t r ps s =
    rw s.len (sym (fill_by_all (row_at r) (map (row_at t) ps) (length ps) null (length-map ps (row_at t)) (λ i l. get_or-map (row_at t) ps i 0 null l ∙ sym (s.rows i l))))

pub rows_filtered : (t r : Tree) (mask : List Bool) → length mask ≡ tree_len t → IsSelected t (trues mask) r → rows r ≡ filtered mask (rows t)
rows_filtered t r mask long s =
    rows_selected t r (trues mask) s ∙ sym (filtered_of (bool_at mask) (row_at t) (range_with_len 0 (length mask)))
    ∙ ap (λ bits. filtered bits (map (row_at t) (range_with_len 0 (length mask)))) (sym (mask_by_place mask)) ∙ ap (λ n. filtered mask (map (row_at t) (range_with_len 0 n))) long

pub trues_below : (mask : List Bool) (n : ℕ) → length mask ≡ n → AreBelow n (trues mask)
trues_below mask n long =
    All-filter (bool_at mask) (λ k. k < n) (range_with_len 0 (length mask)) (λ i d l.
    let inside : i < length mask = omega (arith, length-range_with_len 0 (length mask)) in
    omega (arith, get_or-range_with_len 0 (length mask) i d inside))

-- of rows that are all one, as many as the mask has true
pub constant_filtered : (t r : Tree) (k : Kind) (x : Row) (n m : ℕ) (mask : List Bool) → t ≡ constant k x n → r ≡ constant k x m → m ≡ count_by (λ b. b) mask → IsSelected t (trues mask) r
constant_filtered t r k x n m mask a b count =
    rw (a, b) (record {
      len = count ∙ sym (length_trues mask);
      kind = refl;
      shape = refl;
      plain = λ h. h;
      needs = record { extent = refl; take = λ j. refl; canonical = λ j. refl };
      rows = λ i l. refl;
    })

-- ---- what a mask makes null

masked_rows : (m t : Tree) (ks : List ℕ) → masked (truths (map (row_at m) ks)) (map (row_at t) ks) ≡ map (λ k. if truth_of (row_at m k) then row_at t k else null) ks
masked_rows m t [] = refl
masked_rows m t (k ∷ ks) = ap (λ rs. (if truth_of (row_at m k) then row_at t k else null) ∷ rs) (masked_rows m t ks)

pub rows_masked : (t m r : Tree) → tree_len m ≡ tree_len t → IsNulled t (by_array m) r → rows r ≡ masked (truths (rows m)) (rows t)
rows_masked t m r long n =
    rw n.len (map_range_same (row_at r) (λ k. if truth_of (row_at m k) then row_at t k else null) 0 0 (tree_len t) (λ j l. rw zero-add (n.rows j l))
    ∙ sym (masked_rows m t (range_with_len 0 (tree_len t))) ∙ ap (λ k. masked (truths (map (row_at m) (range_with_len 0 k))) (map (row_at t) (range_with_len 0 (tree_len t)))) (sym long))
