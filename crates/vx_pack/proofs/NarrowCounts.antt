-- Offsets and sizes of the narrow type, which are put at the end of others a block at a time.
use Rattle.std.proofs.Common.{◌≡◌, ◌∙◌, ◌+◌, ◌-◌, ◌<◌, ◌≤◌, ◌^◌, ℕ, List, [], ◌∷◌, ◌++◌, length, map, take, drop, get_or, set}
use Rattle.std.proofs.Common.{sum, pos, refl, sym, ap, subst, arith}
use Rattle.std.specs.Prelude.{if◌then◌else◌}
use Rattle.std.specs.List.{flat_map}
use Rattle.std.proofs.lemmas.Bool.{le-leb}
use Rattle.std.proofs.lemmas.Grind.{flat_map-append}
use Rattle.std.proofs.lemmas.List.{append-nil, append_assoc, drop-take, take-append-drop, take-take, take_more_set}
use Rattle.std.proofs.lemmas.List.Sums.{sum_by-append, sum_by-take-le, sum_by_push}
use Rattle.vx_base.specs.Integers.{bytes_of}
use Rattle.vx_base.specs.declared.ptypes.PType.{PType}
use Rattle.vx_base.specs.declared.ptypes.PType.TheVariants.{I32, I64}
use Rattle.vx_pack.specs.declared.list_counts.ListCounts.{ListCounts}
use Rattle.vx_pack.specs.ListItems.{AreCountsUpTo, AreListCounts}
use Rattle.vx_pack.specs.Packed.{bytes_of_numbers, count_type, list_starts}
use Rattle.vx_pack.proofs.CountBytes.{bytes_of_counts_push}
use Rattle.vx_pack.proofs.ListItems.{list_starts_push}
use Rattle.vx_pack.proofs.ReadCounts.{counts_step}

-- ---- the type

count_type-narrow : (total : ℕ) → total < 2 ^ 31 → count_type total ≡ I32
count_type-narrow total small = ap (λ b. if b then I32 else I64) (le-leb total (2 ^ 31 - 1) (omega arith))

pub up_to_of : (total : ℕ) (ns : List ℕ) (c : ListCounts) → total < 2 ^ 31 → AreListCounts total ns c
    → AreCountsUpTo ns c.next c.offsets.items c.sizes.items
up_to_of total ns c small h = record {
  begins = h.next;
  offsets = h.offsets ∙ ap (λ t. bytes_of_numbers t (map pos (list_starts ns))) (count_type-narrow total small);
  sizes = h.sizes ∙ ap (λ t. bytes_of_numbers t (map pos ns)) (count_type-narrow total small);
}

pub of_up_to : (total next : ℕ) (ns os ss : List ℕ) (d : ListCounts) → total < 2 ^ 31 → d.total ≡ total → d.next ≡ next
    → d.offsets.items ≡ os
    → d.sizes.items ≡ ss → AreCountsUpTo ns next os ss → AreListCounts total ns d
of_up_to total next ns os ss d small is at offsets sizes h = record {
  all = is;
  next = at ∙ h.begins;
  offsets = offsets ∙ h.offsets ∙ ap (λ t. bytes_of_numbers t (map pos (list_starts ns))) (sym (count_type-narrow total small));
  sizes = sizes ∙ h.sizes ∙ ap (λ t. bytes_of_numbers t (map pos ns)) (sym (count_type-narrow total small));
}

-- ---- one list more

-- the bytes of a place of a block
bytes_put : (bs : List ℕ) (xs : List (List ℕ)) (i : ℕ) (x : List ℕ) → i < length xs
    → bs ++ flat_map (λ b. b) (take (i + 1) (set xs i x)) ≡ (bs ++ flat_map (λ b. b) (take i xs)) ++ x
bytes_put bs xs i x inside =
    let old = flat_map (λ b. b) (take i xs) in
    ap (λ ys. bs ++ flat_map (λ b. b) ys) (take_more_set xs i x inside)
    ∙ ap (λ ys. bs ++ ys) (flat_map-append (λ b. b) (take i xs) (x ∷ []) ∙ ap (λ ys. old ++ ys) (append-nil x))
    ∙ sym (append_assoc bs old x)

one_pushed : (now os ss x y : List ℕ) (at size : ℕ) → x ≡ bytes_of I32 (pos at) → y ≡ bytes_of I32 (pos size) → AreCountsUpTo now at os ss
    → AreCountsUpTo (now ++ size ∷ []) (at + size) (os ++ x) (ss ++ y)
one_pushed now os ss x y at size at_bytes size_bytes h = record {
  begins = ap (λ n. n + size) h.begins ∙ sym (sum_by_push (λ (n : ℕ). n) now size);
  offsets =
      (λ j. h.offsets j ++ (at_bytes ∙ ap (λ n. bytes_of I32 (pos n)) h.begins) j)
      ∙ sym (bytes_of_counts_push I32 (list_starts now) (sum now))
      ∙ ap (λ xs. bytes_of_numbers I32 (map pos xs)) (sym (list_starts_push now size));
  sizes = (λ j. h.sizes j ++ size_bytes j) ∙ sym (bytes_of_counts_push I32 now size);
}

pub counts_put : (ns ms os ss : List ℕ) (xs ys : List (List ℕ)) (i at size : ℕ) (x y : List ℕ) → i < length ms → i < length xs
    → i < length ys
    → size ≡ get_or ms i 0 → x ≡ bytes_of I32 (pos at) → y ≡ bytes_of I32 (pos size)
    → AreCountsUpTo (ns ++ take i ms) at (os ++ flat_map (λ b. b) (take i xs)) (ss ++ flat_map (λ b. b) (take i ys))
    → AreCountsUpTo (ns ++ take (i + 1) ms) (at + size) (os ++ flat_map (λ b. b) (take (i + 1) (set xs i x)))
    (ss ++ flat_map (λ b. b) (take (i + 1) (set ys i y)))
counts_put ns ms os ss xs ys i at size x y inside in_xs in_ys is at_bytes size_bytes h =
    let one = one_pushed (ns ++ take i ms) (os ++ flat_map (λ b. b) (take i xs)) (ss ++ flat_map (λ b. b)
    (take i ys)) x y at size at_bytes size_bytes h in
    let grown : (ns ++ take i ms) ++ size ∷ [] ≡ ns ++ take (i + 1) ms = counts_step ns ms i size inside is in
    subst (λ ks. AreCountsUpTo ks (at + size) (os ++ flat_map (λ b. b) (take (i + 1) (set xs i x))) (ss ++ flat_map (λ b. b) (take
    (i + 1) (set ys i y)))) grown
    (subst (λ bs. AreCountsUpTo ((ns ++ take i ms) ++ size ∷ []) (at + size) bs (ss ++ flat_map (λ b. b) (take (i + 1) (set ys i y))))
    (sym (bytes_put os xs i x in_xs))
    (subst (AreCountsUpTo ((ns ++ take i ms) ++ size ∷ []) (at + size) ((os ++ flat_map (λ b. b) (take i xs)) ++ x)) (sym
    (bytes_put ss ys i y in_ys)) one))

-- none yet
pub no_more_put : (ns os ss : List ℕ) (next : ℕ) → AreCountsUpTo ns next os ss → AreCountsUpTo (ns ++ []) next (os ++ []) (ss ++ [])
no_more_put ns os ss next h =
    subst (λ ks. AreCountsUpTo ks next (os ++ []) (ss ++ [])) (sym (append-nil ns))
    (subst (λ bs. AreCountsUpTo ns next bs (ss ++ [])) (sym (append-nil os)) (subst (AreCountsUpTo ns next os) (sym (append-nil ss)) h))

pub sum-take-le : (xs : List ℕ) (i n : ℕ) → i ≤ n → sum (take i xs) ≤ sum (take n xs)
sum-take-le xs i n le = omega (arith, ap sum (take-take i n xs le), sum_by-take-le (λ (k : ℕ). k) (take n xs) i)

-- ---- a block more

take_joined : (xs : List ℕ) (n m : ℕ) → take (n + m) xs ≡ take n xs ++ take m (drop n xs)
take_joined xs n m =
    sym (take-append-drop n (take (n + m) xs)) ∙ (λ j. take-take n (n + m) xs (omega arith) j ++ drop-take n m xs j)

pub block_joined : (ns xs : List ℕ) (n m : ℕ) → (ns ++ take n xs) ++ take m (drop n xs) ≡ ns ++ take (n + m) xs
block_joined ns xs n m = append_assoc ns (take n xs) (take m (drop n xs)) ∙ ap (λ ys. ns ++ ys) (sym (take_joined xs n m))

-- the lists before a block and those in it have no more items than all
pub block_room : (ns xs : List ℕ) (n m next : ℕ) → next ≡ sum (ns ++ take n xs) → next + sum (take m (drop n xs)) ≤ sum ns + sum xs
block_room ns xs n m next is =
    omega (
      arith,
      is,
      sum_by-append (λ (k : ℕ). k) ns (take n xs),
      sum_by-append (λ (k : ℕ). k) (take n xs) (take m (drop n xs)),
      ap sum (take_joined xs n m),
      sum_by-take-le (λ (k : ℕ). k) xs (n + m),
    )
