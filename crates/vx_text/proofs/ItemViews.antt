-- The views of items: those that hold their values, and those of the values in buffers.
use Rattle.std.proofs.Common.{ℕ, ◌+◌, ◌<◌, ◌≤◌, ◌≡◌, Bool, true, false, List, [], ◌∷◌, ◌++◌, length, map, None, refl, sym, ◌∙◌, ap, subst, inl, inr, ⊎_elim, zero-add, eq-eqb, arith}
use Rattle.std.specs.Prelude.{slice_index_or, if◌then◌else◌, ◌==◌}
use Rattle.std.proofs.lemmas.Bool.{cases_Bool, cases_lt, leb-true, leb-false}
use Rattle.std.proofs.lemmas.Bool.Decides.{eqb_tells}
use Rattle.std.proofs.lemmas.List.{length-map, length_push, get_or-map, get_or_append_left, get_or_push}
use Rattle.vx_views.specs.Places.{AreBuilt, ReadBack, value_at, place_of, piece_of, offset_of}
use Rattle.vx_views.specs.Views.{view_of}
use Rattle.vx_views.specs.declared.view.TheConstants.{MAX_INLINED_SIZE, MAX_BUFFER_LEN}
use Rattle.vx_views.proofs.Places.{ReadsAs, view_of-reads, view_of_short}
use Rattle.vx_text.specs.Items.{Item, item_at, value_of, is_short, heap_part, heap_of, heap_lens, item_view, AreCut}
use Rattle.vx_text.proofs.ItemHeaps.{part_at}

-- ---- one item

-- the bytes that the view of an item holds
abbrev pub held_part : Item → List ℕ
held_part item = if is_short item then value_of item else []

-- the view that holds them, for each item
abbrev pub held_views : List Item → List (List ℕ)
held_views items = map (λ item. view_of (held_part item) 0 0) items

-- where a view holds the value: its bytes are those, and none stand in a buffer
pub record IsHeld (item : Item) : Type 0 where
  pub short : length (value_of item) ≤ MAX_INLINED_SIZE
  pub held : held_part item ≡ value_of item
  pub rest : heap_part item ≡ []

-- where it stands in a buffer
pub record IsLong (item : Item) : Type 0 where
  pub long : MAX_INLINED_SIZE < length (value_of item)
  pub held : held_part item ≡ []
  pub rest : heap_part item ≡ value_of item

pub is_held : (item : Item) → is_short item ≡ true → IsHeld item
is_held item e = record {
  short = leb-true (length (value_of item)) MAX_INLINED_SIZE e;
  held = ap (λ (b : Bool). if b then value_of item else []) e;
  rest = ap (λ (b : Bool). if b then [] else value_of item) e;
}

pub is_long : (item : Item) → is_short item ≡ false → IsLong item
is_long item e = record {
  long = leb-false (length (value_of item)) MAX_INLINED_SIZE e;
  held = ap (λ (b : Bool). if b then value_of item else []) e;
  rest = ap (λ (b : Bool). if b then [] else value_of item) e;
}

-- ---- views that are put in their places

not_zero : (n : ℕ) → 0 < n → (n == 0) ≡ false
not_zero n h = elim (eqb_tells n 0) [
  | inl zero ↦ absurd (omega (arith, zero.1))
  | inr some ↦ some.0
]

-- a view for each: that of a value in a buffer where its length there is not 0, else the one that holds the value
abbrev pub ArePut : List ℕ → List (List ℕ) → List (List ℕ) → List (List ℕ) → Type 0
ArePut lens held placed views =
    (i : ℕ) → i < length held → slice_index_or views i [] ≡ (if slice_index_or lens i 0 == 0 then slice_index_or held i [] else slice_index_or placed i [])

-- one more
pub put_more : (lens : List ℕ) (held placed views : List (List ℕ)) (n : ℕ) (one_held one_placed view : List ℕ) → length lens ≡ length held → length placed ≡ length held → length views ≡ length held
    → view ≡ (if n == 0 then one_held else one_placed) → ArePut lens held placed views → ArePut (lens ++ n ∷ []) (held ++ one_held ∷ []) (placed ++ one_placed ∷ []) (views ++ view ∷ [])
put_more lens held placed views n one_held one_placed view a b c is put i l = ⊎_elim
    (λ (less : i < length held).
    get_or_append_left views (view ∷ []) [] i (omega (arith, c)) ∙ put i less
    ∙ sym ((λ j. if get_or_append_left lens (n ∷ []) 0 i (omega (arith, a)) j == 0 then get_or_append_left held (one_held ∷ []) [] i less j else get_or_append_left placed (one_placed ∷ []) [] i (omega (arith, b)) j)))
    (λ (ge : length held ≤ i).
    let here : length held ≡ i = omega (arith, length_push held one_held) in
    get_or_push views view [] i (c ∙ here) ∙ is
    ∙ sym ((λ j. if get_or_push lens n 0 i (a ∙ here) j == 0 then get_or_push held one_held [] i here j else get_or_push placed one_placed [] i (b ∙ here) j)))
    (cases_lt i (length held))

pub held_of_short : (n : ℕ) (one_held one_placed : List ℕ) → n ≡ 0 → one_held ≡ (if n == 0 then one_held else one_placed)
held_of_short n one_held one_placed e = sym (ap (λ (b : Bool). if b then one_held else one_placed) (eq-eqb n 0 e))

pub placed_of_long : (n : ℕ) (one_held one_placed : List ℕ) → 0 < n → one_placed ≡ (if n == 0 then one_held else one_placed)
placed_of_long n one_held one_placed h = sym (ap (λ (b : Bool). if b then one_held else one_placed) (not_zero n h))

module _ (items : List Item) (placed views buffers : List (List ℕ)) (built : AreBuilt 0 MAX_BUFFER_LEN (heap_of items) (heap_lens items) buffers placed)
    (back : ReadBack 0 (value_at (heap_of items) (heap_lens items)) buffers placed) (put : ArePut (heap_lens items) (held_views items) placed views) (i : ℕ) (l : i < length items) where
  held_in : i < length (held_views items)
  held_in = omega (arith, length-map items (λ x. view_of (held_part x) 0 0))

  lens_in : i < length (heap_lens items)
  lens_in = omega (arith, length-map items (λ x. length (heap_part x)))

  placed_in : i < length placed
  placed_in = omega (arith, built.one_each, lens_in)

  held_is : slice_index_or (held_views items) i [] ≡ view_of (held_part (item_at items i)) 0 0
  held_is = get_or-map (λ x. view_of (held_part x) 0 0) items i None [] l

  len_is : slice_index_or (heap_lens items) i 0 ≡ length (heap_part (item_at items i))
  len_is = get_or-map (λ x. length (heap_part x)) items i None 0 l

  value_is : value_at (heap_of items) (heap_lens items) i ≡ heap_part (item_at items i)
  value_is = part_at heap_part items i None l

  view_held : IsHeld (item_at items i) → slice_index_or views i [] ≡ view_of (value_of (item_at items i)) 0 0
  view_held h =
      put i held_in ∙ sym (held_of_short (slice_index_or (heap_lens items) i 0) (slice_index_or (held_views items) i []) (slice_index_or placed i []) (len_is ∙ ap length h.rest))
      ∙ held_is ∙ ap (λ v. view_of v 0 0) h.held

  view_long : IsLong (item_at items i) → slice_index_or views i [] ≡ slice_index_or placed i []
  view_long h =
      put i held_in ∙ sym (placed_of_long (slice_index_or (heap_lens items) i 0) (slice_index_or (held_views items) i []) (slice_index_or placed i []) (omega (arith, len_is ∙ ap length h.rest, h.long)))

  placed_is : IsLong (item_at items i) → slice_index_or placed i [] ≡ item_view items built.ends i
  placed_is h =
      let value = value_of (item_at items i) in
      let ends = built.ends in
      built.each i lens_in
      ∙ ap (λ v. view_of v (0 + piece_of ends (place_of (heap_lens items) i)) (offset_of ends (place_of (heap_lens items) i))) (value_is ∙ h.rest)
      ∙ ap (λ p. view_of value p (offset_of ends (place_of (heap_lens items) i))) (zero-add (piece_of ends (place_of (heap_lens items) i)))

  pub view_each : slice_index_or views i [] ≡ item_view items built.ends i
  view_each =
      let value = value_of (item_at items i) in
      elim (cases_Bool (is_short (item_at items i))) [
        | inl short ↦ let h = is_held (item_at items i) short in view_held h ∙ view_of_short value 0 0 h.short ∙ sym (view_of_short value _ _ h.short)
        | inr long ↦ let h = is_long (item_at items i) long in view_long h ∙ placed_is h
      ]

  pub view_reads : ReadsAs buffers (slice_index_or views i []) (value_of (item_at items i))
  view_reads =
      let value = value_of (item_at items i) in
      elim (cases_Bool (is_short (item_at items i))) [
        | inl short ↦ let h = is_held (item_at items i) short in subst (λ w. ReadsAs buffers w value) (sym (view_held h)) (view_of-reads buffers value 0 0 (λ long. absurd (omega (arith, h.short, long))))
        | inr long ↦ let h = is_long (item_at items i) long in subst (λ w. ReadsAs buffers w value) (sym (view_long h)) (record {
          resolves = back.resolve [] i refl placed_in;
          reads = back.read [] i refl placed_in ∙ value_is ∙ h.rest;
        })
      ]

-- ---- all of them

pub are_cut : (items : List Item) (placed views buffers : List (List ℕ)) → AreBuilt 0 MAX_BUFFER_LEN (heap_of items) (heap_lens items) buffers placed → ReadBack 0 (value_at (heap_of items) (heap_lens items)) buffers placed
    → ArePut (heap_lens items) (held_views items) placed views → length views ≡ length items → AreCut items buffers views
are_cut items placed views buffers built back put count =
    record {
      ends = built.ends;
      cut = built.cut;
      pieces = built.pieces;
      numbered = omega (arith, built.numbered);
      one_each = count;
      each = λ i l. view_each items placed views buffers built back put i l;
      resolve = λ i l. (view_reads items placed views buffers built back put i l).resolves;
      read = λ i l. (view_reads items placed views buffers built back put i l).reads;
    }
