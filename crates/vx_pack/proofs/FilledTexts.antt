-- Values that are put into buffers one after another, and the array that they make.
use Rattle.std.proofs.Common.{◌≡◌, ◌∙◌, ◌+◌, ◌<◌, ◌≤◌, ℕ, suc, Bool, true, false, List, [], ◌∷◌, ◌++◌, length, map, take, get_or, Some, None, sym, ap, subst, refl, inl, inr, arith}
use Rattle.std.specs.Option.{is_some}
use Rattle.std.specs.List.{All, range_with_len}
use Rattle.std.specs.Prelude.{IsSome, Option, ◌⊎◌}
use Rattle.std.proofs.lemmas.List.{append_assoc, append-nil, get_or-map, length-map, map-append, map_more, map_push, same_lists}
use Rattle.std.proofs.lemmas.Simd.{map-map}
use Rattle.vx_base.specs.Kinds.{Kind, texts, binaries, is_nullable_kind, Fits}
use Rattle.vx_base.specs.Refusals.{IsMemoryOr, Refusal, refusal_of}
use Rattle.vx_base.specs.declared.errors.VortexError.{VortexError}
use Rattle.vx_base.proofs.FirstFaults.{first_fault-of_none}
use Rattle.vx_base.specs.Rows.{Row, null, bytes, text, is_present}
use Rattle.vx_views.specs.BuildFaults.{numbering_fault}
use Rattle.vx_views.specs.Views.{view_of, view_value}
use Rattle.vx_views.specs.declared.view.TheConstants.{MAX_BUFFER_LEN, MAX_INLINED_SIZE}
use Rattle.vx_tree.specs.Meaning.{is_texts}
use Rattle.vx_tree.specs.Formed.{WellFormed}
use Rattle.vx_tree.specs.Tree.{Tree, Valid, all_valid, view_array}
use Rattle.vx_tree.specs.Validities.{valid_from}
use Rattle.vx_tree.proofs.Dictionaries.{memory_only}
use Rattle.vx_tree.specs.Values.{bytes_in}
use Rattle.vx_text.specs.Filling.{Filling, IsPut, filling, viewed, with_room, all_buffers}
use Rattle.vx_text.specs.Items.{Item, AreCut, item_at, item_fault, items_fault, valid_items, value_of}
use Rattle.vx_text.specs.TextFaults.{is_values}
use Rattle.vx_text.proofs.FilledItems.{AreFilled, filled_count, filled_cut, filled_none, filled_value}
use Rattle.vx_text.proofs.ItemArrays.{items_array, items_made}
use Rattle.vx_text.proofs.ItemFaults.{few_buffers}
use Rattle.vx_pack.specs.Packed.{IsPackRefused, IsPacked, has_bytes, packed_valid}
use Rattle.vx_pack.specs.StoredTexts.{ArePushed, IsPushed, bytes_or_empty}
use Rattle.vx_pack.proofs.PackedTexts.{packed_values, past_numbers, row_faultless, too_many_values}
use Rattle.vx_pack.proofs.PieceRows.{piece_rows_more, pieces_rows_more}
use Rattle.vx_pack.proofs.StoredTexts.{bytes_short}
use Rattle.vx_pack.specs.Pieces.{piece_row, piece_rows, pieces_rows}
use Rattle.vx_pack.specs.declared.pieces.Piece.{Piece}

-- ---- values, one after another

pub ArePushed-append : (f g h : Filling) (xs ys : List (List ℕ)) → ArePushed f xs g → ArePushed g ys h → ArePushed f (xs ++ ys) h
ArePushed-append f g h [] ys first next = subst (λ e. ArePushed e ys h) first next
ArePushed-append f g h (x ∷ xs) ys first next = (first.0, first.1, ArePushed-append first.0 g h xs ys first.2 next)

pub ArePushed-more : (f g h : Filling) (xs : List (List ℕ)) (x : List ℕ) → ArePushed f xs g → IsPushed g x h → ArePushed f (xs ++ x ∷ []) h
ArePushed-more f g h xs x first one = ArePushed-append f g h xs (x ∷ []) first (h, one, refl)

-- ---- the items that they are

all_filled : (items : List Item) (f g : Filling) (more : List Item) → AreFilled items f
    → ((i : ℕ) → i < length more → length (value_of (item_at more i)) ≤ MAX_BUFFER_LEN) → ArePushed f (map value_of more) g → AreFilled (items ++ more) g
all_filled items f g [] w short pushed = subst (λ xs. AreFilled xs g) (sym (append-nil items)) (subst (AreFilled items) (sym pushed) w)
all_filled items f g (x ∷ more) w short pushed =
    let one = filled_value items x (value_of x) f pushed.0 refl (short 0 (omega arith)) pushed.1.held pushed.1.put w in
    subst (λ xs. AreFilled xs g) (append_assoc items (x ∷ []) more)
    (all_filled (items ++ x ∷ []) pushed.0 g more one (λ i l. short (suc i) (omega (arith, l))) pushed.2)

pub rows_filled : (k : Kind) (rs : List Row) (g : Filling) → has_bytes k ≡ true → All (Fits k) rs
    → ArePushed (filling [] [] []) (map bytes_or_empty rs) g → AreFilled (map bytes_in rs) g
rows_filled k rs g values fit pushed =
    all_filled [] (filling [] [] []) g (map bytes_in rs) filled_none
    (λ i l.
    let inside : i < length rs = omega (arith, l, length-map rs bytes_in) in
    subst (λ x. length (value_of x) ≤ MAX_BUFFER_LEN) (sym (get_or-map bytes_in rs i null None inside))
    (bytes_short k (get_or rs i null) values (fit i null inside)))
    (subst (λ vs. ArePushed (filling [] [] []) vs g) (sym (map-map value_of bytes_in rs)) pushed)

-- ---- the array

pub rows_faultless : (k : Kind) (rs : List Row) → has_bytes k ≡ true → All (Fits k) rs
    → items_fault (is_texts k) (is_nullable_kind k) (map bytes_in rs) ≡ None
rows_faultless k rs values fit =
    first_fault-of_none (λ i. item_fault (is_texts k) (is_nullable_kind k) i (item_at (map bytes_in rs) i)) (length (map bytes_in rs)) (λ i l.
    let inside : i < length rs = omega (arith, l, length-map rs bytes_in) in
    ap (item_fault (is_texts k) (is_nullable_kind k) i) (get_or-map bytes_in rs i null None inside)
    ∙ row_faultless k (get_or rs i null) i values (fit i null inside))

pub values_are : (k : Kind) → has_bytes k ≡ true → is_values k ≡ true
values_are (texts n) values = refl
values_are (binaries n) values = refl
values_are _ values = absurd (cc)

present_bytes : (k : Kind) (r : Row) → has_bytes k ≡ true → Fits k r → is_some (bytes_in r) ≡ is_present r
present_bytes (texts n) null values fits = refl
present_bytes (texts n) (text bs) values fits = refl
present_bytes (texts n) _ values fits = absurd fits
present_bytes (binaries n) null values fits = refl
present_bytes (binaries n) (bytes bs) values fits = refl
present_bytes (binaries n) _ values fits = absurd fits
present_bytes _ r values fits = absurd (cc)

all_present : (k : Kind) (rs : List Row) → has_bytes k ≡ true → All (Fits k) rs → map is_present rs ≡ map is_some (map bytes_in rs)
all_present k rs values fit =
    let items = map bytes_in rs in
    same_lists (map is_present rs) (map is_some items) (length-map rs is_present ∙ sym (length-map items is_some ∙ length-map rs bytes_in)) (λ i d l.
    let inside : i < length rs = omega (arith, l, length-map rs is_present) in
    get_or-map is_present rs i null d inside ∙ sym (present_bytes k (get_or rs i null) values (fit i null inside))
    ∙ sym (get_or-map is_some items i None d (omega (arith, inside, length-map rs bytes_in)) ∙ ap is_some (get_or-map bytes_in rs i null None inside)))

valid_of_items : (n : Bool) (rs : List Row) (bits : List Bool) → map is_present rs ≡ bits → packed_valid n rs ≡ valid_items n bits
valid_of_items false rs bits same = refl
valid_of_items true rs bits same = ap (λ bs. valid_from 0 bs all_valid) same

-- buffers that are filled with the values of rows make their packed form
pub record AreTexts (k h : Kind) (rs : List Row) (views buffers : List (List ℕ)) (v : Valid) : Type 0 where
  pub formed : WellFormed (view_array views buffers h v)
  pub packed : (a : Tree) → a ≡ view_array views buffers h v → IsPacked k rs a

pub texts_made : (k h : Kind) (rs : List Row) (f : Filling) (views buffers : List (List ℕ)) (v : Valid) → h ≡ k → has_bytes k ≡ true
    → All (Fits k) rs → ArePushed (filling [] [] []) (map bytes_or_empty rs) f → buffers ≡ all_buffers f → views ≡ f.views
    → numbering_fault 0 (length (all_buffers f)) ≡ None → v ≡ packed_valid (is_nullable_kind k) rs → AreTexts k h rs views buffers v
texts_made k h rs f views buffers v kind values fit pushed all_of views_of few valid =
    let items = map bytes_in rs in
    let cut : AreCut items buffers views =
    subst (λ bs. AreCut items bs views) (sym all_of) (subst (λ vs. AreCut items (all_buffers f) vs) (sym views_of)
    (filled_cut items f (rows_filled k rs f values fit pushed) (few_buffers (length (all_buffers f)) few))) in
    let marks : v ≡ valid_items (is_nullable_kind k) (map is_some items) =
    valid ∙ valid_of_items (is_nullable_kind k) rs (map is_some items) (all_present k rs values fit) in
    let none = rows_faultless k rs values fit in
    record {
      formed = subst (λ x. WellFormed (view_array views buffers x v)) (sym kind) (items_made k items views buffers v (values_are k values) none cut marks);
      packed = λ a is.
          packed_values k rs a values
          (items_array k items views buffers a none cut (is ∙ (λ j. view_array views buffers (kind j) (marks j))));
    }

-- ---- too many buffers

none_or_some : (o : Option Refusal) → (o ≡ None) ⊎ IsSome o
none_or_some None = inl refl
none_or_some (Some r) = inr refl

pub texts_refused : (k : Kind) (rs : List Row) (f : Filling) (e : VortexError) → has_bytes k ≡ true → All (Fits k) rs
    → ArePushed (filling [] [] []) (map bytes_or_empty rs) f → IsMemoryOr (numbering_fault 0 (length (all_buffers f))) e → IsPackRefused k rs e
texts_refused k rs f e values fit pushed (inl memory) = inl memory
texts_refused k rs f e values fit pushed (inr same) = elim (none_or_some (refusal_of e)) [
  | inl nothing ↦ inl (memory_only (refusal_of e) e nothing (inr refl))
  | inr some ↦
      let count = length (all_buffers f) in
      let past = past_numbers count e (some, same) in
      inr (past.0, too_many_values k rs values (count, filled_count (map bytes_in rs) f (rows_filled k rs f values fit pushed), past.1))
]

-- ---- in loops

pub pushed_piece : (k : Kind) (ps : List Piece) (i : ℕ) (p : Piece) (f g h : Filling) → i < length ps → p ≡ get_or ps i p
    → ArePushed f (map bytes_or_empty (pieces_rows k (take i ps))) g → ArePushed g (map bytes_or_empty (piece_rows k p)) h
    → ArePushed f (map bytes_or_empty (pieces_rows k (take (i + 1) ps))) h
pushed_piece k ps i p f g h inside at before more =
    let first = pieces_rows k (take i ps) in
    subst (λ vs. ArePushed f vs h)
    (sym (ap (map bytes_or_empty) (pieces_rows_more k ps i p inside at) ∙ map-append bytes_or_empty first (piece_rows k p)))
    (ArePushed-append f g h (map bytes_or_empty first) (map bytes_or_empty (piece_rows k p)) before more)

pub pushed_row : (k : Kind) (p : Piece) (i : ℕ) (value : List ℕ) (f g h : Filling) → bytes_or_empty (piece_row k p i) ≡ value
    → ArePushed f (map bytes_or_empty (map (piece_row k p) (range_with_len 0 i))) g
    → (length value ≤ MAX_INLINED_SIZE → h ≡ viewed g (view_of value 0 0))
    → (MAX_INLINED_SIZE < length value → IsPut (with_room g (length value)) value h)
    → ArePushed f (map bytes_or_empty (map (piece_row k p) (range_with_len 0 (i + 1)))) h
pushed_row k p i value f g h here before held put =
    let rows = map (piece_row k p) (range_with_len 0 i) in
    subst (λ vs. ArePushed f vs h)
    (sym (ap (map bytes_or_empty) (piece_rows_more k p i) ∙ map_push bytes_or_empty rows (piece_row k p i) ∙ ap (λ v. map bytes_or_empty rows ++ v ∷ []) here))
    (ArePushed-more f g h (map bytes_or_empty rows) value before (record { held = held; put = put }))

pub pushed_view : (views buffers : List (List ℕ)) (i : ℕ) (view value : List ℕ) (f g h : Filling) → i < length views
    → view ≡ get_or views i view → value ≡ view_value buffers view
    → ArePushed f (map (view_value buffers) (take i views)) g
    → (length value ≤ MAX_INLINED_SIZE → h ≡ viewed g (view_of value 0 0))
    → (MAX_INLINED_SIZE < length value → IsPut (with_room g (length value)) value h)
    → ArePushed f (map (view_value buffers) (take (i + 1) views)) h
pushed_view views buffers i view value f g h inside at is before held put =
    let read = view_value buffers in
    let first = map read (take i views) in
    subst (λ vs. ArePushed f vs h)
    (sym (map_more read views i view inside ∙ ap (λ v. first ++ read v ∷ []) (sym at) ∙ ap (λ v. first ++ v ∷ []) (sym is)))
    (ArePushed-more f g h first value before (record { held = held; put = put }))
