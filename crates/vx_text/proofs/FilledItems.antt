-- Items put into buffers one after another, and the array parts that they are in the end.
use Rattle.std.proofs.Common.{ℕ, ◌+◌, ◌<◌, ◌≤◌, ◌^◌, ◌≡◌, Bool, List, [], ◌∷◌, ◌++◌, length, refl, sym, ◌∙◌, ap, subst, inl, inr, append-nil, le-ltb, lt-ltb, ◌⊎◌, arith}
use Rattle.std.specs.Prelude.{if◌then◌else◌, ◌==◌, nat_le}
use Rattle.std.proofs.lemmas.Bool.{cases_Bool, leb-true, leb-false}
use Rattle.std.proofs.lemmas.List.{length-map, length_push, map-append}
use Rattle.std.proofs.lemmas.Grind.{flat_map-append}
use Rattle.vx_views.specs.BuildFaults.{IsPieceCount}
use Rattle.vx_views.specs.Views.{view_of}
use Rattle.vx_views.specs.declared.view.TheConstants.{MAX_INLINED_SIZE, MAX_BUFFER_LEN}
use Rattle.vx_text.specs.Filling.{Filling, filling, viewed, with_room, all_buffers, IsPut}
use Rattle.vx_text.specs.Items.{Item, value_of, is_short, heap_part, heap_of, heap_lens, AreCut}
use Rattle.vx_text.proofs.Fills.{Fills, fills_none, fills_next, fills_closed, last_short, placed_count, count_of_some, count_of_none, done_of_some, done_of_none}
use Rattle.vx_text.proofs.ItemViews.{held_part, held_views, IsHeld, IsLong, is_held, is_long, ArePut, put_more, held_of_short, placed_of_long, are_cut}

-- the items are in the buffers, and each has its view, while the buffers can be numbered
pub record AreFilled (items : List Item) (f : Filling) : Type 0 where
  pub placed : List (List ℕ)
  pub fills : Fills (heap_of items) (heap_lens items) f.full f.last placed
  pub put : length f.full < 2 ^ 32 → ArePut (heap_lens items) (held_views items) placed f.views
  pub count : length f.views ≡ length items

pub filled_none : AreFilled [] (filling [] [] [])
filled_none = record { placed = []; fills = fills_none; put = λ _ i l. absurd (omega arith); count = refl }

heap_more : (items : List Item) (item : Item) → heap_of items ++ heap_part item ≡ heap_of (items ++ item ∷ [])
heap_more items item = sym (flat_map-append heap_part items (item ∷ []) ∙ ap (λ bytes. heap_of items ++ bytes) (append-nil (heap_part item)))

lens_more : (items : List Item) (item : Item) → heap_lens items ++ length (heap_part item) ∷ [] ≡ heap_lens (items ++ item ∷ [])
lens_more items item = sym (map-append (λ x. length (heap_part x)) items (item ∷ []))

held_more : (items : List Item) (item : Item) → held_views items ++ view_of (held_part item) 0 0 ∷ [] ≡ held_views (items ++ item ∷ [])
held_more items item = sym (map-append (λ x. view_of (held_part x) 0 0) items (item ∷ []))

-- one more, where its bytes, its view and its place are known
filled_more : (items : List Item) (item : Item) (f g : Filling) (w : AreFilled items f) (last : List ℕ) (one_placed view : List ℕ)
    → Fills (heap_of items ++ heap_part item) (heap_lens items ++ length (heap_part item) ∷ []) g.full last (w.placed ++ one_placed ∷ []) → last ≡ g.last → length f.full ≤ length g.full → g.views ≡ f.views ++ view ∷ []
    → (length g.full < 2 ^ 32 → view ≡ (if length (heap_part item) == 0 then view_of (held_part item) 0 0 else one_placed)) → AreFilled (items ++ item ∷ []) g
filled_more items item f g w last one_placed view fills same longer views is = record {
  placed = w.placed ++ one_placed ∷ [];
  fills =
      subst (λ heap. Fills heap (heap_lens (items ++ item ∷ [])) g.full g.last (w.placed ++ one_placed ∷ [])) (heap_more items item)
      (subst (λ lens. Fills (heap_of items ++ heap_part item) lens g.full g.last (w.placed ++ one_placed ∷ [])) (lens_more items item)
      (subst (λ bytes. Fills (heap_of items ++ heap_part item) (heap_lens items ++ length (heap_part item) ∷ []) g.full bytes (w.placed ++ one_placed ∷ [])) same fills));
  put = λ few.
      let lens = heap_lens items in
      let held = held_views items in
      let n = length (heap_part item) in
      let lens_long : length lens ≡ length held = length-map items (λ x. length (heap_part x)) ∙ sym (length-map items (λ x. view_of (held_part x) 0 0)) in
      let placed_long : length w.placed ≡ length held = placed_count (heap_of items) lens f.full f.last w.placed w.fills ∙ lens_long in
      let views_long : length f.views ≡ length held = w.count ∙ sym (length-map items (λ x. view_of (held_part x) 0 0)) in
      subst (λ vs. ArePut (heap_lens (items ++ item ∷ [])) (held_views (items ++ item ∷ [])) (w.placed ++ one_placed ∷ []) vs) (sym views)
      (subst (λ hs. ArePut (heap_lens (items ++ item ∷ [])) hs (w.placed ++ one_placed ∷ []) (f.views ++ view ∷ [])) (held_more items item)
      (subst (λ ns. ArePut ns (held ++ view_of (held_part item) 0 0 ∷ []) (w.placed ++ one_placed ∷ []) (f.views ++ view ∷ [])) (lens_more items item)
      (put_more lens held w.placed f.views n (view_of (held_part item) 0 0) one_placed view lens_long placed_long views_long (is few) (w.put (omega (arith, few, longer))))));
  count = ap length views ∙ length_push f.views view ∙ ap (λ n. n + 1) w.count ∙ sym (length_push items item);
}

-- a value that its view holds
filled_held : (items : List Item) (item : Item) (f : Filling) → IsHeld item → AreFilled items f → AreFilled (items ++ item ∷ []) (viewed f (view_of (value_of item) 0 0))
filled_held items item f h w =
    let none : length (heap_part item) ≡ 0 = ap length h.rest in
    let short = last_short (heap_of items) (heap_lens items) f.full f.last w.placed w.fills in
    let one_placed = view_of (heap_part item) (length f.full) (length f.last) in
    filled_more items item f (viewed f (view_of (value_of item) 0 0)) w (f.last ++ heap_part item) one_placed (view_of (value_of item) 0 0)
    (fills_next (heap_of items) (heap_lens items) f.full f.last w.placed (heap_part item) w.fills (omega (arith, none, short)))
    (ap (λ bytes. f.last ++ bytes) h.rest ∙ append-nil f.last) (omega arith) refl
    (λ few. ap (λ v. view_of v 0 0) (sym h.held) ∙ held_of_short (length (heap_part item)) (view_of (held_part item) 0 0) one_placed none)

-- a value that is put into the last buffer, which has room
filled_room : (items : List Item) (item : Item) (f g : Filling) → IsLong item → length f.last + length (value_of item) ≤ MAX_BUFFER_LEN → IsPut f (value_of item) g → AreFilled items f → AreFilled (items ++ item ∷ []) g
filled_room items item f g h fits p w =
    let value = value_of item in
    let full : g.full ≡ f.full = ap (λ (x : Filling). x.full) p.is in
    let last : g.last ≡ f.last ++ value = ap (λ (x : Filling). x.last) p.is in
    let one_placed = view_of (heap_part item) (length f.full) (length f.last) in
    let view = view_of value p.number (length f.last) in
    filled_more items item f g w (f.last ++ heap_part item) one_placed view
    (subst (λ bs. Fills (heap_of items ++ heap_part item) (heap_lens items ++ length (heap_part item) ∷ []) bs (f.last ++ heap_part item) (w.placed ++ one_placed ∷ [])) (sym full)
    (fills_next (heap_of items) (heap_lens items) f.full f.last w.placed (heap_part item) w.fills (omega (arith, ap length h.rest, fits))))
    (ap (λ bytes. f.last ++ bytes) h.rest ∙ sym last) (omega (arith, ap length full)) (ap (λ (x : Filling). x.views) p.is)
    (λ few. ap (λ n. view_of value n (length f.last)) (p.numbered (omega (arith, few, ap length full)))
    ∙ ap (λ v. view_of v (length f.full) (length f.last)) (sym h.rest)
    ∙ placed_of_long (length (heap_part item)) (view_of (held_part item) 0 0) one_placed (omega (arith, ap length h.rest, h.long)))

-- or one more is begun with it
filled_begun : (items : List Item) (item : Item) (f g : Filling) → IsLong item → length (value_of item) ≤ MAX_BUFFER_LEN → MAX_BUFFER_LEN < length f.last + length (value_of item) → IsPut (filling (f.full ++ f.last ∷ []) [] f.views) (value_of item) g
    → AreFilled items f → AreFilled (items ++ item ∷ []) g
filled_begun items item f g h short over p w =
    let value = value_of item in
    let more_full = f.full ++ f.last ∷ [] in
    let full : g.full ≡ more_full = ap (λ (x : Filling). x.full) p.is in
    let last : g.last ≡ value = ap (λ (x : Filling). x.last) p.is in
    let one_placed = view_of (heap_part item) (length more_full) 0 in
    let view = view_of value p.number 0 in
    filled_more items item f g w (heap_part item) one_placed view
    (subst (λ bs. Fills (heap_of items ++ heap_part item) (heap_lens items ++ length (heap_part item) ∷ []) bs (heap_part item) (w.placed ++ one_placed ∷ [])) (sym full)
    (fills_closed (heap_of items) (heap_lens items) f.full f.last w.placed (heap_part item) w.fills (omega (arith, ap length h.rest, short)) (omega (arith, ap length h.rest, over))))
    (h.rest ∙ sym last) (omega (arith, ap length full, length_push f.full f.last)) (ap (λ (x : Filling). x.views) p.is)
    (λ few. ap (λ n. view_of value n 0) (p.numbered (omega (arith, few, ap length full)))
    ∙ ap (λ v. view_of v (length more_full) 0) (sym h.rest)
    ∙ placed_of_long (length (heap_part item)) (view_of (held_part item) 0 0) one_placed (omega (arith, ap length h.rest, h.long)))

-- one item more
filled_next : (items : List Item) (item : Item) (f g : Filling) → length (value_of item) ≤ MAX_BUFFER_LEN
    → (length (value_of item) ≤ MAX_INLINED_SIZE → g ≡ viewed f (view_of (value_of item) 0 0))
    → (MAX_INLINED_SIZE < length (value_of item) → IsPut (with_room f (length (value_of item))) (value_of item) g)
    → AreFilled items f → AreFilled (items ++ item ∷ []) g
filled_next items item f g short held put w =
    let n = length (value_of item) in
    elim (cases_Bool (is_short item)) [
      | inl e ↦ let h = is_held item e in subst (AreFilled (items ++ item ∷ [])) (sym (held h.short)) (filled_held items item f h w)
      | inr e ↦ let h = is_long item e in elim (cases_Bool (nat_le (length f.last + n) MAX_BUFFER_LEN)) [
        | inl fits ↦ filled_room items item f g h (leb-true (length f.last + n) MAX_BUFFER_LEN fits)
            (subst (λ x. IsPut x (value_of item) g) (ap (λ (b : Bool). if b then f else filling (f.full ++ f.last ∷ []) [] f.views) fits) (put h.long)) w
        | inr over ↦ filled_begun items item f g h short (leb-false (length f.last + n) MAX_BUFFER_LEN over)
            (subst (λ x. IsPut x (value_of item) g) (ap (λ (b : Bool). if b then f else filling (f.full ++ f.last ∷ []) [] f.views) over) (put h.long)) w
      ]
    ]

-- the same, where its value has another name
pub filled_value : (items : List Item) (item : Item) (value : List ℕ) (f g : Filling) → value_of item ≡ value → length (value_of item) ≤ MAX_BUFFER_LEN
    → (length value ≤ MAX_INLINED_SIZE → g ≡ viewed f (view_of value 0 0))
    → (MAX_INLINED_SIZE < length value → IsPut (with_room f (length value)) value g)
    → AreFilled items f → AreFilled (items ++ item ∷ []) g
filled_value items item value f g same short held put w =
    filled_next items item f g short
    (subst (λ v. length v ≤ MAX_INLINED_SIZE → g ≡ viewed f (view_of v 0 0)) (sym same) held)
    (subst (λ v. MAX_INLINED_SIZE < length v → IsPut (with_room f (length v)) v g) (sym same) put) w

-- ---- all of them

cases_last : (last : List ℕ) → (0 < length last) ⊎ (length last ≡ 0)
cases_last [] = inr refl
cases_last (x ∷ xs) = inl (omega arith)

some_last : (f : Filling) → 0 < length f.last → f.full ++ f.last ∷ [] ≡ all_buffers f
some_last f some = sym (ap (λ (b : Bool). if b then f.full ++ f.last ∷ [] else f.full) (lt-ltb 0 (length f.last) some))

no_last : (f : Filling) → length f.last ≡ 0 → f.full ≡ all_buffers f
no_last f none = sym (ap (λ (b : Bool). if b then f.full ++ f.last ∷ [] else f.full) (le-ltb 0 (length f.last) (omega (arith, none))))

pub filled_count : (items : List Item) (f : Filling) → AreFilled items f → IsPieceCount MAX_BUFFER_LEN (heap_lens items) (length (all_buffers f))
filled_count items f w = elim (cases_last f.last) [
  | inl some ↦ subst (IsPieceCount MAX_BUFFER_LEN (heap_lens items)) (sym (length_push f.full f.last) ∙ ap length (some_last f some)) (count_of_some (heap_of items) (heap_lens items) f.full f.last w.placed w.fills some)
  | inr none ↦ subst (IsPieceCount MAX_BUFFER_LEN (heap_lens items)) (ap length (no_last f none)) (count_of_none (heap_of items) (heap_lens items) f.full f.last w.placed w.fills none)
]

pub filled_cut : (items : List Item) (f : Filling) → AreFilled items f → length (all_buffers f) ≤ 2 ^ 32 → AreCut items (all_buffers f) f.views
filled_cut items f w few = elim (cases_last f.last) [
  | inl some ↦ let below : length f.full < 2 ^ 32 = omega (arith, few, ap length (some_last f some), length_push f.full f.last) in
      let done = done_of_some (heap_of items) (heap_lens items) f.full f.last w.placed w.fills some below in
      subst (λ bs. AreCut items bs f.views) (some_last f some) (are_cut items w.placed f.views (f.full ++ f.last ∷ []) done.built done.read_back (w.put below) w.count)
  | inr none ↦ let done = done_of_none (heap_of items) (heap_lens items) f.full f.last w.placed w.fills none in
      let below : length f.full < 2 ^ 32 = omega (arith, w.fills.filled none) in
      subst (λ bs. AreCut items bs f.views) (no_last f none) (are_cut items w.placed f.views f.full done.built done.read_back (w.put below) w.count)
]
