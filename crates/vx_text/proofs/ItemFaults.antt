-- The fault of items, one item more.
use Rattle.std.proofs.Common.{ℕ, ◌+◌, ◌-◌, ◌≤◌, ◌^◌, ◌≡◌, ◌⊎◌, ◌↔◌, Bool, true, false, List, [], ◌∷◌, ◌++◌, length, map, get_or, Some, None, refl, sym, ◌∙◌, ap, subst, inl, inr, le-leb, arith}
use Rattle.std.specs.Iterator.{Drains}
use Rattle.std.specs.Borrow.{Bor}
use Rattle.std.specs.Option.{is_some}
use Rattle.std.specs.Prelude.{IsSome, IsTrue, IsUtf8, Option, if◌then◌else◌, nat_le, unwrap_or}
use Rattle.std.proofs.lemmas.Bool.{leb-true}
use Rattle.std.proofs.lemmas.List.{length-append, map-append, get_or_append_left, get_or-append_right}
use Rattle.vx_base.specs.Kinds.{Kind, is_nullable_kind}
use Rattle.vx_base.specs.Refusals.{Refusal, IsMemoryOr, refusal_of, first_fault, overflow, not_utf8, value_too_long}
use Rattle.vx_base.specs.declared.errors.VortexError.{VortexError}
use Rattle.vx_base.specs.declared.errors.VortexError.TheVariants.{Memory}
use Rattle.vx_base.proofs.FirstFaults.{first_fault-next, first_fault-same, or_else-second}
use Rattle.vx_views.specs.BuildFaults.{IsPieceCount, numbering_fault}
use Rattle.vx_views.specs.Faulty.{text_fault}
use Rattle.vx_views.specs.declared.view.TheConstants.{MAX_BUFFER_LEN}
use Rattle.vx_views.proofs.FaultyViews.{text_fault_found, text_fault_none}
use Rattle.vx_views.proofs.FirstFaults.{if-none}
use Rattle.vx_tree.specs.Meaning.{is_texts}
use Rattle.vx_tree.proofs.Dictionaries.{memory_only}
use Rattle.vx_text.specs.Collected.{maybe_value, IsFirstFaulty, AreTooMany}
use Rattle.vx_text.specs.Items.{Item, item_at, value_of, heap_lens, item_fault, items_fault, valid_items}

pub faultless_more : (u n : Bool) (items : List Item) (x : Item) (row : ℕ) → row ≡ length items → items_fault u n items ≡ None → item_fault u n row x ≡ None → items_fault u n (items ++ x ∷ []) ≡ None
faultless_more u n items x row at none here =
    let all = items ++ x ∷ [] in
    let fault = λ (i : ℕ). item_fault u n i (item_at all i) in
    let before : first_fault fault (length items) ≡ None =
    first_fault-same fault (λ i. item_fault u n i (item_at items i)) (length items) (λ i l. ap (item_fault u n i) (get_or_append_left items (x ∷ []) None i l)) ∙ none in
    let is : item_at all (length items) ≡ x =
    get_or-append_right items (x ∷ []) (length items) (length items) None refl (omega arith) ∙ ap (λ k. get_or (x ∷ []) k None) {x = length items - length items} {y = 0} (omega arith) in
    let last : fault (length items) ≡ None = ap (item_fault u n (length items)) is ∙ ap (λ i. item_fault u n i x) (sym at) ∙ here in
    rw (length-append items (x ∷ [])) (first_fault-next fault (length items) before last)

-- ---- an item

-- the fault of a value that is short enough is that of the text
pub fault_of_text : (u n : Bool) (row : ℕ) (item : Item) (value : List ℕ) (fault : Option Refusal) → item ≡ Some value → length value ≤ MAX_BUFFER_LEN → text_fault u value row ≡ fault → item_fault u n row item ≡ fault
fault_of_text u n row item value fault is short text =
    let none : (if nat_le (length value) MAX_BUFFER_LEN then None else Some (value_too_long row)) ≡ None = ap (λ (b : Bool). if b then None else Some (value_too_long row)) (le-leb (length value) MAX_BUFFER_LEN short) in
    ap (item_fault u n row) is ∙ or_else-second _ (text_fault u value row) fault none text

-- the same of a value that is no text where text is asked, and of one that is text
pub not_text_fault : (u n b : Bool) (row : ℕ) (item : Item) (value : List ℕ) → Some value ≡ item → length value ≤ MAX_BUFFER_LEN → u ≡ true → b ≡ false → IsTrue b ↔ IsUtf8 (value_of item) → item_fault u n row item ≡ Some (not_utf8 row)
not_text_fault u n b row item value is short on off tells =
    fault_of_text u n row item value (Some (not_utf8 row)) (sym is) short
    (text_fault_found u value row on (λ text. let yes : b ≡ true = tells.1 (subst (λ x. IsUtf8 (value_of x)) is text) in absurd (cc)))

pub text_no_fault : (u n b : Bool) (row : ℕ) (item : Item) (value : List ℕ) → Some value ≡ item → length value ≤ MAX_BUFFER_LEN → b ≡ true → IsTrue b ↔ IsUtf8 (value_of item) → item_fault u n row item ≡ None
text_no_fault u n b row item value is short on tells =
    fault_of_text u n row item value None (sym is) short (text_fault_none u value row (inr (subst (λ x. IsUtf8 (value_of x)) (sym is) (tells.0 on))))

-- ---- all of them

-- buffers that can be numbered
pub few_buffers : (count : ℕ) → numbering_fault 0 count ≡ None → count ≤ 2 ^ 32
few_buffers count none = omega (arith, leb-true (0 + count) (2 ^ 32) (if-none (nat_le (0 + count) (2 ^ 32)) overflow none))

-- the value of an item, no bytes where there is none
pub value_or : (o : Option (Bor (List ℕ))) (none value : Bor (List ℕ)) → value ≡ unwrap_or o none → none.now ≡ [] → value_of (maybe_value o) ≡ value.now
value_or None none value e empty = sym empty ∙ ap (λ b. b.now) (sym e)
value_or (Some some) none value e empty = ap (λ b. b.now) (sym e)

is_there : (o : Option (Bor (List ℕ))) → is_some o ≡ is_some (maybe_value o)
is_there None = refl
is_there (Some some) = refl

-- one mark more
pub marked_more : (items : List Item) (x : Item) (o : Option (Bor (List ℕ))) (there : Bool) (marks more : List Bool) → maybe_value o ≡ x → there ≡ is_some o → marks ≡ map is_some items → more ≡ marks ++ there ∷ [] → more ≡ map is_some (items ++ x ∷ [])
marked_more items x o there marks more is tells same pushed =
    pushed ∙ ap (λ bs. bs ++ there ∷ []) same ∙ ap (λ b. map is_some items ++ b ∷ []) (tells ∙ is_there o ∙ ap is_some is) ∙ sym (map-append is_some items (x ∷ []))

-- items are marked where null may stand
pub marked_items : (n m : Bool) (present marks : List Bool) → n ≡ m → (n ≡ true → present ≡ marks) → valid_items m present ≡ valid_items m marks
marked_items n true present marks same marked = ap (valid_items true) (marked same)
marked_items n false present marks same marked = refl

none_or_some : (o : Option Refusal) → (o ≡ None) ⊎ IsSome o
none_or_some None = inl refl
none_or_some (Some r) = inr refl

-- an error that is not want of memory says that there are too many buffers
pub stopped : {S A : Type 0} (steps : S → Option A → S → Type 0) (s : S) (item : A → Item) (k : Kind) (e : VortexError) (all : List A) → Drains steps s all
    → items_fault (is_texts k) (is_nullable_kind k) (map item all) ≡ None → (pieces : ℕ) → IsPieceCount MAX_BUFFER_LEN (heap_lens (map item all)) pieces → IsMemoryOr (numbering_fault 0 pieces) e
    → (e ≡ Memory) ⊎ IsFirstFaulty steps s item k e ⊎ AreTooMany steps s item k e
stopped steps s item k e all came none pieces counted (inl memory) = inl memory
stopped steps s item k e all came none pieces counted (inr same) = by_refusal (none_or_some (refusal_of e))
  where
    by_refusal : (refusal_of e ≡ None) ⊎ IsSome (refusal_of e) → (e ≡ Memory) ⊎ IsFirstFaulty steps s item k e ⊎ AreTooMany steps s item k e
    by_refusal (inl nothing) = inl (memory_only (refusal_of e) e nothing (inr refl))
    by_refusal (inr some) = inr (inr (record { all = all; came = came; faultless = none; pieces = pieces; counted = counted; many = (some, same) }))
