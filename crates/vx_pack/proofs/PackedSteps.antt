-- What is packed of packed parts: bits, numbers, elements and fields.
use Rattle.std.proofs.Common.{◌≡◌, ◌∙◌, ◌*◌, ◌^◌, ◌<◌, ◌≤◌, ℕ, Bool, true, List, length, map, sum, refl, sym, ap, subst, inl, inr, arith}
use Rattle.std.specs.List.{flat_map}
use Rattle.std.proofs.lemmas.List.{length-map}
use Rattle.vx_base.specs.Fields.{kind_count}
use Rattle.vx_base.specs.Kinds.{Kind, Kinds, booleans, integers, lists, fixed_lists, records, is_nullable_kind}
use Rattle.vx_base.specs.Rows.{Row, truth_of}
use Rattle.vx_base.specs.declared.errors.VortexError.{VortexError}
use Rattle.vx_base.specs.declared.ptypes.PType.{PType}
use Rattle.vx_tree.specs.Formed.{ValidFits, WellFormed}
use Rattle.vx_tree.specs.Tree.{Tree, Trees, Valid, bools, primitive, fixed_list, list_view, structure}
use Rattle.vx_pack.specs.Packed.{ArePacked, IsPackRefused, IsPacked, IsTooLarge, bytes_of_numbers, count_type, counts_array}
use Rattle.vx_pack.specs.Packed.{field_or_default}
use Rattle.vx_pack.specs.Packed.{items_or_blank, list_sizes, list_starts, number_or_zero, packed_lists, packed_valid}
use Rattle.vx_pack.specs.Lists.{IsItemOf}
use Rattle.vx_pack.specs.Pieces.{AreElements, AreFieldPieces, ArePieces, pieces_rows}
use Rattle.vx_pack.specs.Records.{kind_at}
use Rattle.vx_pack.specs.declared.pieces.Piece.{Piece}
use Rattle.vx_pack.specs.ListItems.{item_counts, list_items}
use Rattle.vx_pack.proofs.JoinedLists.{sum-list_sizes}
use Rattle.vx_pack.proofs.ListItems.{item_counts-lists, list_items-lists}
use Rattle.vx_pack.proofs.PackedColumns.{field_rows, one_too_large}
use Rattle.vx_pack.proofs.PackedLen.{packed_len}
use Rattle.vx_pack.proofs.PackedParts.{WellFormed-numbers, lists_formed}
use Rattle.vx_pack.proofs.PackedValid.{ValidFits-packed_valid}
use Rattle.vx_pack.proofs.PieceRows.{length-pieces_rows}

-- ---- pieces

pub rows_counted : (k : Kind) (ps : List Piece) (len : ℕ) → ArePieces k ps len → length (pieces_rows k ps) ≡ len
rows_counted k ps len are = length-pieces_rows k ps ∙ are.count

-- what is true of the rows that a field has, under its kind
pub field_told : (P : Kind → List Row → Type 0) (field k : Kind) (place : ℕ) (rs : List Row) (ps qs : List Piece) → field ≡ k
    → AreFieldPieces field place rs ps → qs ≡ ps → P k (pieces_rows k qs) → P field (map (field_or_default field place) rs)
field_told P field k place rs ps qs kind are same h =
    subst (P field) are.fields (subst (λ x. P x (pieces_rows x ps)) (sym kind) (subst (λ xs. P k (pieces_rows k xs)) same h))

-- ---- validity

-- that of rows of a kind
abbrev pub IsValidOf : Kind → List Row → Valid → Type 0
IsValidOf k rs v = v ≡ packed_valid (is_nullable_kind k) rs

pub valid_fits : (k : Kind) (rs : List Row) (v : Valid) (len : ℕ) → IsValidOf k rs v → length rs ≡ len → ValidFits v len
valid_fits k rs v len valid counted =
    subst (ValidFits v) counted (subst (λ x. ValidFits x (length rs)) (sym valid) (ValidFits-packed_valid (is_nullable_kind k) rs))

-- under a kind that is known
valid_under : (k l : Kind) (rs : List Row) (v : Valid) → k ≡ l → IsValidOf k rs v → v ≡ packed_valid (is_nullable_kind l) rs
valid_under k l rs v kind valid = valid ∙ ap (λ x. packed_valid (is_nullable_kind x) rs) kind

packed_under : (k l : Kind) (rs : List Row) (t : Tree) → k ≡ l → IsPacked l rs t → IsPacked k rs t
packed_under k l rs t kind is = subst (λ x. IsPacked x rs t) (sym kind) is

-- ---- bits and numbers

pub truths_packed : (k : Kind) (n : Bool) (rs : List Row) (first : ℕ) (bits : List Bool) (v : Valid) (t : Tree) → k ≡ booleans n → first ≡ 0
    → bits ≡ map truth_of rs → IsValidOf k rs v → t ≡ bools first bits v → IsPacked k rs t
truths_packed k n rs first bits v t kind begins are valid is =
    packed_under k (booleans n) rs t kind (is ∙ (λ i. bools (begins i) (are i) (valid_under k (booleans n) rs v kind valid i)))

pub truths_formed : (k : Kind) (rs : List Row) (bits : List Bool) (v : Valid) → bits ≡ map truth_of rs → IsValidOf k rs v
    → ValidFits v (length bits)
truths_formed k rs bits v are valid = valid_fits k rs v (length bits) valid (sym (ap length are ∙ length-map rs truth_of))

-- the numbers of rows that are read under the kind of integers
pub numbers_read : (k : Kind) (p : PType) (n : Bool) (ps : List Piece) (len : ℕ) (bytes : List ℕ) → k ≡ integers p n → ArePieces k ps len
    → ((m : Bool) → ArePieces (integers p m) ps len → bytes ≡ bytes_of_numbers p (map number_or_zero (pieces_rows (integers p m) ps)))
    → bytes ≡ bytes_of_numbers p (map number_or_zero (pieces_rows k ps))
numbers_read k p n ps len bytes kind are told =
    subst (λ x. bytes ≡ bytes_of_numbers p (map number_or_zero (pieces_rows x ps))) (sym kind)
    (told n (subst (λ x. ArePieces x ps len) kind are))

pub numbers_packed : (k : Kind) (p : PType) (n : Bool) (rs : List Row) (bytes : List ℕ) (v : Valid) (t : Tree) → k ≡ integers p n
    → bytes ≡ bytes_of_numbers p (map number_or_zero rs) → IsValidOf k rs v → t ≡ primitive p bytes v → IsPacked k rs t
numbers_packed k p n rs bytes v t kind are valid is =
    packed_under k (integers p n) rs t kind (is ∙ (λ i. primitive p (are i) (valid_under k (integers p n) rs v kind valid i)))

pub numbers_formed : (k : Kind) (p : PType) (rs : List Row) (bytes : List ℕ) (v : Valid)
    → bytes ≡ bytes_of_numbers p (map number_or_zero rs) → IsValidOf k rs v
    → WellFormed (primitive p bytes v)
numbers_formed k p rs bytes v are valid =
    let zs = map number_or_zero rs in
    subst (λ bs. WellFormed (primitive p bs v)) (sym are)
    (WellFormed-numbers p zs v (valid_fits k rs v (length zs) valid (sym (length-map rs number_or_zero))))

-- ---- lists

pub lists_items : (k item : Kind) (n : Bool) → k ≡ lists item n → IsItemOf item k
lists_items k item n kind = subst (IsItemOf item) (sym kind) refl

-- the elements, offsets and sizes of lists
pub record AreListParts (item : Kind) (rs : List Row) (total : ℕ) (e o s : Tree) : Type 0 where
  pub counted : total ≡ sum (list_sizes item rs)
  pub fits : total < 2 ^ 63
  pub elements : IsPacked item (flat_map (items_or_blank item 0) rs) e
  pub offsets : o ≡ counts_array (count_type total) (list_starts (list_sizes item rs))
  pub sizes : s ≡ counts_array (count_type total) (list_sizes item rs)

pub list_parts : (k item : Kind) (n : Bool) (rs : List Row) (total : ℕ) (e o s : Tree) → k ≡ lists item n
    → total ≡ length (list_items k rs) → total < 2 ^ 63 → IsPacked item (list_items k rs) e
    → o ≡ counts_array (count_type total) (list_starts (item_counts k rs)) → s ≡ counts_array (count_type total) (item_counts k rs)
    → AreListParts item rs total e o s
list_parts k item n rs total e o s kind counted fits elements offsets sizes =
    let items = list_items-lists k item n rs kind in
    let counts = item_counts-lists k item n rs kind in
    record {
      counted = counted ∙ ap length items ∙ sym (sum-list_sizes item rs);
      fits = fits;
      elements = subst (λ xs. IsPacked item xs e) items elements;
      offsets = offsets ∙ ap (λ ns. counts_array (count_type total) (list_starts ns)) counts;
      sizes = sizes ∙ ap (counts_array (count_type total)) counts;
    }

parts_of : (item : Kind) (rs : List Row) (total : ℕ) (e o s : Tree) (v : Valid) → AreListParts item rs total e o s
    → list_view e o s v true ≡ packed_lists e (list_sizes item rs) v
parts_of item rs total e o s v h =
    let sizes = list_sizes item rs in
    (λ i. list_view e (h.offsets i) (h.sizes i) v true)
    ∙ (λ i. let p = count_type (h.counted i) in list_view e (counts_array p (list_starts sizes)) (counts_array p sizes) v true)

pub parts_formed : (k item : Kind) (rs : List Row) (total : ℕ) (e o s : Tree) (v : Valid) → AreListParts item rs total e o s
    → IsValidOf k rs v → WellFormed (list_view e o s v true)
parts_formed k item rs total e o s v h valid =
    let fits : sum (list_sizes item rs) < 2 ^ 63 = omega (arith, h.fits, h.counted) in
    subst WellFormed (sym (parts_of item rs total e o s v h))
    (subst (λ w. WellFormed (packed_lists e (list_sizes item rs) w)) (sym valid)
    (lists_formed item (is_nullable_kind k) rs e fits h.elements))

pub lists_packed : (k item : Kind) (n : Bool) (rs : List Row) (total : ℕ) (e o s : Tree) (v : Valid) (t : Tree) → k ≡ lists item n
    → AreListParts item rs total e o s → IsValidOf k rs v → t ≡ list_view e o s v true → IsPacked k rs t
lists_packed k item n rs total e o s v t kind h valid is =
    packed_under k (lists item n) rs t kind (
      omega (arith, h.fits, h.counted),
      (
        e,
        h.elements,
        is ∙ parts_of item rs total e o s v h ∙ ap (packed_lists e (list_sizes item rs)) (valid_under k (lists item n) rs v kind valid),
      ),
    )

pub lists_too_many : (k item : Kind) (n : Bool) (rs : List Row) → k ≡ lists item n
    → 2 ^ 63 ≤ length (flat_map (items_or_blank item 0) rs) → IsTooLarge k rs
lists_too_many k item n rs kind many =
    subst (λ x. IsTooLarge x rs) (sym kind) (inl (omega (arith, many, sum-list_sizes item rs)))

-- why parts are not packed is why the whole is not
refused_too : (k l : Kind) (rs ss : List Row) (e : VortexError) → (IsTooLarge l ss → IsTooLarge k rs) → IsPackRefused l ss e
    → IsPackRefused k rs e
refused_too k l rs ss e large (inl memory) = inl memory
refused_too k l rs ss e large (inr over) = inr (over.0, large over.1)

pub lists_refused : (k item : Kind) (n : Bool) (rs : List Row) (e : VortexError) → k ≡ lists item n
    → IsPackRefused item (flat_map (items_or_blank item 0) rs) e → IsPackRefused k rs e
lists_refused k item n rs e kind =
    refused_too k item rs (flat_map (items_or_blank item 0) rs) e (λ large. subst (λ x. IsTooLarge x rs) (sym kind) (inr large))

-- ---- lists of one size

-- the rows of all lists, default rows where they are null
abbrev pub AreSizedElements : Kind → ℕ → ℕ → List Row → List Piece → Type 0
AreSizedElements item size len rs ps = AreElements item (len * size) (flat_map (items_or_blank item size) rs) ps

pub sized_formed : (k item : Kind) (size : ℕ) (rs : List Row) (ps : List Piece) (len : ℕ) (e : Tree) (v : Valid) → length rs ≡ len
    → AreSizedElements item size len rs ps → IsPacked item (pieces_rows item ps) e → IsValidOf k rs v → WellFormed (fixed_list e size v len)
sized_formed k item size rs ps len e v counted are elements valid = (
  valid_fits k rs v len valid counted,
  packed_len item (pieces_rows item ps) e elements ∙ length-pieces_rows item ps ∙ are.count,
)

pub sized_packed : (k item : Kind) (size : ℕ) (n : Bool) (rs : List Row) (ps : List Piece) (len : ℕ) (e : Tree) (v : Valid) (t : Tree)
    → k ≡ fixed_lists item size n
    → length rs ≡ len → len * size < 2 ^ 64 → AreSizedElements item size len rs ps → IsPacked item (pieces_rows item ps) e
    → IsValidOf k rs v
    → t ≡ fixed_list e size v len → IsPacked k rs t
sized_packed k item size n rs ps len e v t kind counted fits are elements valid is =
    let valid_is = valid_under k (fixed_lists item size n) rs v kind valid in
    packed_under k (fixed_lists item size n) rs t kind (
      subst (λ m. m * size < 2 ^ 64) (sym counted) fits,
      (e, subst (λ xs. IsPacked item xs e) are.rows elements, is ∙ (λ i. fixed_list e size (valid_is i) (sym counted i))),
    )

pub sized_too_many : (k item : Kind) (size : ℕ) (n : Bool) (rs : List Row) (len : ℕ) → k ≡ fixed_lists item size n → length rs ≡ len
    → 2 ^ 64 ≤ len * size → IsTooLarge k rs
sized_too_many k item size n rs len kind counted many =
    subst (λ x. IsTooLarge x rs) (sym kind) (inl (subst (λ m. 2 ^ 64 ≤ m * size) (sym counted) many))

pub sized_refused : (k item : Kind) (size len : ℕ) (n : Bool) (rs : List Row) (ps : List Piece) (e : VortexError)
    → k ≡ fixed_lists item size n
    → AreSizedElements item size len rs ps → IsPackRefused item (pieces_rows item ps) e → IsPackRefused k rs e
sized_refused k item size len n rs ps e kind are =
    refused_too k item rs (pieces_rows item ps) e
    (λ large. subst (λ x. IsTooLarge x rs) (sym kind) (inr (subst (IsTooLarge item) are.rows large)))

-- ---- records

pub records_packed : (k : Kind) (names : List (List ℕ)) (ks : Kinds) (n : Bool) (rs : List Row) (us : Trees) (v : Valid) (len : ℕ)
    (t : Tree) → k ≡ records names ks n
    → length rs ≡ len → ArePacked 0 ks rs us → IsValidOf k rs v → t ≡ structure names us v len → IsPacked k rs t
records_packed k names ks n rs us v len t kind counted are valid is =
    let valid_is = valid_under k (records names ks n) rs v kind valid in
    packed_under k (records names ks n) rs t kind (us, are, is ∙ (λ i. structure names us (valid_is i) (sym counted i)))

pub field_refused : (names : List (List ℕ)) (ks : Kinds) (n : Bool) (rs : List Row) (place : ℕ) (e : VortexError) → place < kind_count ks
    → IsPackRefused (kind_at place ks) (field_rows ks rs place) e → IsPackRefused (records names ks n) rs e
field_refused names ks n rs place e inside =
    refused_too (records names ks n) (kind_at place ks) rs (field_rows ks rs place) e (one_too_large ks rs place inside)
