-- What iterators give, and the arrays of it.
use Rattle.std.specs.Prelude.{◌≡◌, ◌⊎◌, ℕ, List, length, map, Option, Some, None}
use Rattle.std.specs.Borrow.{Bor}
use Rattle.std.specs.Iterator.{YieldsThen, Drains}
use Rattle.std.specs.Option.{option_map}
use Rattle.vx_base.specs.Kinds.{Kind, is_nullable_kind}
use Rattle.vx_base.specs.Refusals.{Names}
use Rattle.vx_base.specs.declared.errors.VortexError.{VortexError}
use Rattle.vx_base.specs.declared.errors.VortexError.TheVariants.{Memory}
use Rattle.vx_views.specs.BuildFaults.{IsPieceCount, numbering_fault}
use Rattle.vx_views.specs.declared.view.TheConstants.{MAX_BUFFER_LEN}
use Rattle.vx_tree.specs.Tree.{Tree}
use Rattle.vx_tree.specs.Meaning.{is_texts}
use Rattle.vx_text.specs.Items.{Item, IsArrayOf, heap_lens, item_fault, items_fault}
use Rattle.vx_text.specs.TextFaults.{value_type_fault}
use Rattle.vx_text.specs.Texts.{ViewData, view_data_of}

-- ---- items of iterators over values, and over values that may be none

abbrev pub some_value : Bor (List ℕ) → Item
some_value value = Some value.now

abbrev pub maybe_value : Option (Bor (List ℕ)) → Item
maybe_value value = option_map (λ v. v.now) value

-- ---- what comes of an iterator, each of whose items `item` reads

-- all items, none of them faulty, and an array of them
pub record IsCollected {S A : Type 0} (steps : S → Option A → S → Type 0) (s : S) (item : A → Item) (k : Kind) (a : Tree) : Type 0 where
  pub all : List A
  pub came : Drains steps s all
  pub values : value_type_fault k ≡ None
  pub faultless : items_fault (is_texts k) (is_nullable_kind k) (map item all) ≡ None
  pub is : IsArrayOf k (map item all) a

-- all items, none of them faulty, and the views and buffers of an array of them
pub record IsCollectedData {S A : Type 0} (steps : S → Option A → S → Type 0) (s : S) (item : A → Item) (k : Kind) (d : ViewData)
    : Type 0 where
  pub array : Tree
  pub made : IsCollected steps s item k array
  pub parts : d ≡ view_data_of array

-- an error names the fault of the first faulty item
pub record IsFirstFaulty {S A : Type 0} (steps : S → Option A → S → Type 0) (s : S) (item : A → Item) (k : Kind) (e : VortexError)
    : Type 0 where
  pub before : List A
  pub first : A
  pub rest : S
  pub came : YieldsThen steps s before (Some first) rest
  pub faultless : items_fault (is_texts k) (is_nullable_kind k) (map item before) ≡ None
  pub here : Names (item_fault (is_texts k) (is_nullable_kind k) (length before) (item first)) e

-- an error names that no item is faulty, but there are more buffers than can be numbered
pub record AreTooMany {S A : Type 0} (steps : S → Option A → S → Type 0) (s : S) (item : A → Item) (k : Kind) (e : VortexError)
    : Type 0 where
  pub all : List A
  pub came : Drains steps s all
  pub faultless : items_fault (is_texts k) (is_nullable_kind k) (map item all) ≡ None
  pub pieces : ℕ
  pub counted : IsPieceCount MAX_BUFFER_LEN (heap_lens (map item all)) pieces
  pub many : Names (numbering_fault 0 pieces) e

-- why items make no array of a kind: want of memory; a kind of neither texts nor byte lists; of another kind a faulty item,
-- or too many buffers
abbrev pub AreRefused : {S A : Type 0} → (S → Option A → S → Type 0) → S → (A → Item) → Kind → VortexError → Type 0
AreRefused steps s item k e =
    (e ≡ Memory) ⊎ Names (value_type_fault k) e
    ⊎ ((value_type_fault k ≡ None) × (IsFirstFaulty steps s item k e ⊎ AreTooMany steps s item k e))
