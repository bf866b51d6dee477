-- Views of values while the cut is made, and what they read once it is done.
use Rattle.std.proofs.Common.{◌≡◌, ℕ, zero, suc, ◌+◌, ◌-◌, ◌^◌, ◌<◌, ◌≤◌, Bool, true, false, cond, List, [], ◌∷◌, ◌++◌, length, take, drop, get_or, sum, nat_le, slice_range, length-take, length-drop, length-append, refl, sym, ◌∙◌, ap, subst, ⊎_elim, arith}
use Rattle.std.proofs.lemmas.Bool.{cases_lt, le-leb, lt-leb}
use Rattle.std.proofs.lemmas.List.{get_or-append-add, take_all, drop-take, take-take, drop-drop, get_or_append_left, get_or_push, length_push}
use Rattle.vx_views.specs.Cut.{ArePieces, IsMaximalCut}
use Rattle.vx_views.specs.Views.{view_of, buffer_at}
use Rattle.vx_views.specs.Places.{pieces_of, place_of, value_at, piece_of, offset_of, view_at, AreBuilt, ReadBack}
use Rattle.vx_views.specs.declared.view.TheConstants.{MAX_INLINED_SIZE, MAX_BUFFER_LEN}
use Rattle.vx_views.proofs.CutPieces.{ArePieces-le}
use Rattle.vx_views.proofs.CutOpen.{IsOpen, sum_more, IsOpen-keep, IsOpen-close, IsMaximalCut-from_open, IsMaximalCut-from_open_push}
use Rattle.std.proofs.lemmas.List.Sums.{sum_by-take-le, sum_by-cons}
use Rattle.vx_views.proofs.Places.{ReadsAs, IsThere, view_of_short, view_of-reads}

-- the view of the k-th value names where it stands: in one of the closed pieces, or in the open one, which is filled up to `at`
pub record IsPlaced (start : ℕ) (heap lens ends : List ℕ) (at k : ℕ) (view : List ℕ) : Type 0 where
  pub piece : ℕ
  pub offset : ℕ
  pub piece_in : piece ≤ length ends
  pub view_is : view ≡ view_of (value_at heap lens k) (start + piece) offset
  pub begins : get_or (0 ∷ ends) piece 0 + offset ≡ sum (take k lens)
  pub within : sum (take (k + 1) lens) ≤ get_or (ends ++ at ∷ []) piece 0

pub record ArePlaced (start : ℕ) (heap lens ends : List ℕ) (at n : ℕ) (views : List (List ℕ)) : Type 0 where
  pub count : length views ≡ n
  pub each : (k : ℕ) → k < n → IsPlaced start heap lens ends at k (get_or views k [])

get_or_grow : (ends : List ℕ) (at more j : ℕ) → at ≤ more → get_or (ends ++ at ∷ []) j 0 ≤ get_or (ends ++ more ∷ []) j 0
get_or_grow [] at more zero h = omega arith
get_or_grow [] at more (suc j) h = omega arith
get_or_grow (e ∷ es) at more zero h = omega arith
get_or_grow (e ∷ es) at more (suc j) h = omega (arith, get_or_grow es at more j h)

-- the open piece grows
IsPlaced-grow : (start : ℕ) (heap lens ends : List ℕ) (at more k : ℕ) (view : List ℕ) → at ≤ more → IsPlaced start heap lens ends at k view → IsPlaced start heap lens ends more k view
IsPlaced-grow start heap lens ends at more k view h w = record {
  piece = w.piece;
  offset = w.offset;
  piece_in = w.piece_in;
  view_is = w.view_is;
  begins = w.begins;
  within = omega (arith, w.within, get_or_grow ends at more w.piece h);
}

-- the open piece is closed, and the next one is open
IsPlaced-close : (start : ℕ) (heap lens ends : List ℕ) (at more k : ℕ) (view : List ℕ) → IsPlaced start heap lens ends at k view → IsPlaced start heap lens (ends ++ at ∷ []) more k view
IsPlaced-close start heap lens ends at more k view w =
    let long : length (ends ++ at ∷ []) ≡ length ends + 1 = length_push ends at in
    record {
      piece = w.piece;
      offset = w.offset;
      piece_in = omega (arith, w.piece_in);
      view_is = w.view_is;
      begins = omega (arith, w.begins, get_or_append_left (0 ∷ ends) (at ∷ []) 0 w.piece (omega (arith, w.piece_in)));
      within = omega (arith, w.within, get_or_append_left (ends ++ at ∷ []) (more ∷ []) 0 w.piece (omega (arith, w.piece_in)));
    }

ArePlaced-push : (start : ℕ) (heap lens ends : List ℕ) (at n : ℕ) (views : List (List ℕ)) (view : List ℕ) → ArePlaced start heap lens ends at n views → IsPlaced start heap lens ends at n view → ArePlaced start heap lens ends at (n + 1) (views ++ view ∷ [])
ArePlaced-push start heap lens ends at n views view w here = record {
  count = omega (arith, length_push views view, w.count);
  each = λ k h. ⊎_elim
      (λ (less : k < n). subst (IsPlaced start heap lens ends at k) (sym (get_or_append_left views (view ∷ []) [] k (omega (arith, w.count)))) (w.each k less))
      (λ (ge : n ≤ k). let same : n ≡ k = omega arith in
      subst (λ j. IsPlaced start heap lens ends at j (get_or (views ++ view ∷ []) j [])) same
      (subst (IsPlaced start heap lens ends at n) (sym (get_or_push views view [] n w.count)) here))
      (cases_lt k n);
}

ArePlaced-grow : (start : ℕ) (heap lens ends : List ℕ) (at more n : ℕ) (views : List (List ℕ)) → at ≤ more → ArePlaced start heap lens ends at n views → ArePlaced start heap lens ends more n views
ArePlaced-grow start heap lens ends at more n views h w = record { count = w.count; each = λ k k_in. IsPlaced-grow start heap lens ends at more k (get_or views k []) h (w.each k k_in) }

ArePlaced-close : (start : ℕ) (heap lens ends : List ℕ) (at more n : ℕ) (views : List (List ℕ)) → ArePlaced start heap lens ends at n views → ArePlaced start heap lens (ends ++ at ∷ []) more n views
ArePlaced-close start heap lens ends at more n views w = record { count = w.count; each = λ k k_in. IsPlaced-close start heap lens ends at more k (get_or views k []) (w.each k k_in) }

-- where the open piece begins
last_end : (limit : ℕ) (lens : List ℕ) (from : ℕ) (ends : List ℕ) (to : ℕ) → ArePieces limit lens from ends to → get_or (from ∷ ends) (length ends) 0 ≡ to
last_end limit lens from [] to pieces = pieces
last_end limit lens from (e ∷ es) to pieces = last_end limit lens e es to pieces.3

-- one more piece
pieces_of-push : (heap : List ℕ) (limit : ℕ) (lens : List ℕ) (from : ℕ) (ends : List ℕ) (mid e : ℕ) → ArePieces limit lens from ends mid → pieces_of heap from (ends ++ e ∷ []) ≡ pieces_of heap from ends ++ slice_range heap mid e ∷ []
pieces_of-push heap limit lens from [] mid e pieces = ap (λ a. slice_range heap a e ∷ []) pieces
pieces_of-push heap limit lens from (x ∷ xs) mid e pieces = ap (λ rest. slice_range heap from x ∷ rest) (pieces_of-push heap limit lens x xs mid e pieces.3)

pub length-pieces_of : (heap : List ℕ) (from : ℕ) (ends : List ℕ) → length (pieces_of heap from ends) ≡ length ends
length-pieces_of heap from [] = refl
length-pieces_of heap from (e ∷ es) = ap suc (length-pieces_of heap e es)

pieces_of-at : (heap : List ℕ) (from : ℕ) (ends : List ℕ) (j : ℕ) → j < length ends → get_or (pieces_of heap from ends) j [] ≡ slice_range heap (get_or (from ∷ ends) j 0) (get_or ends j 0)
pieces_of-at heap from [] j h = absurd (omega arith)
pieces_of-at heap from (e ∷ es) zero h = refl
pieces_of-at heap from (e ∷ es) (suc j) h = pieces_of-at heap e es j (omega arith)

-- ---- the cut in the making

-- the first k values are in: their views, the closed pieces, and the open one, which has a number and begins at `begin`
pub record IsCutting (start limit : ℕ) (heap lens : List ℕ) (k : ℕ) (buffers views : List (List ℕ)) (number begin at : ℕ) : Type 0 where
  pub ends : List ℕ
  pub opened : IsOpen limit lens k ends begin
  pub buffers_are : buffers ≡ pieces_of heap 0 ends
  pub number_is : number ≡ start + length ends
  pub at_is : at ≡ sum (take k lens)
  pub placed : ArePlaced start heap lens ends at k views

-- the same with room in the open piece for the next value, the k-th
pub record HasRoom (start limit : ℕ) (heap lens : List ℕ) (k : ℕ) (buffers views : List (List ℕ)) (number begin : ℕ) : Type 0 where
  pub ends : List ℕ
  pub opened : IsOpen limit lens (k + 1) ends begin
  pub low : begin ≤ sum (take k lens)
  pub buffers_are : buffers ≡ pieces_of heap 0 ends
  pub number_is : number ≡ start + length ends
  pub placed : ArePlaced start heap lens ends (sum (take (k + 1) lens)) k views

pub HasRoom-keep : (start limit : ℕ) (heap lens : List ℕ) (k : ℕ) (buffers views : List (List ℕ)) (number begin at : ℕ) → IsCutting start limit heap lens k buffers views number begin at → k < length lens → at - begin + get_or lens k 0 ≤ limit → HasRoom start limit heap lens k buffers views number begin
HasRoom-keep start limit heap lens k buffers views number begin at w k_in fits =
    let more = sum_more lens k k_in in
    let low = w.opened.low in
    let at_is = w.at_is in
    record {
      ends = w.ends;
      opened = IsOpen-keep limit lens k w.ends begin w.opened k_in (omega arith);
      low = low;
      buffers_are = w.buffers_are;
      number_is = w.number_is;
      placed = ArePlaced-grow start heap lens w.ends at (sum (take (k + 1) lens)) k views (omega arith) w.placed;
    }

pub HasRoom-close : (start limit : ℕ) (heap lens : List ℕ) (k : ℕ) (buffers views : List (List ℕ)) (number begin at : ℕ) → IsCutting start limit heap lens k buffers views number begin at → k < length lens → get_or lens k 0 ≤ limit → limit < at - begin + get_or lens k 0 → HasRoom start limit heap lens k (buffers ++ slice_range heap begin at ∷ []) views (number + 1) at
HasRoom-close start limit heap lens k buffers views number begin at w k_in small over =
    let more = sum_more lens k k_in in
    let low = w.opened.low in
    let at_is = w.at_is in
    record {
      ends = w.ends ++ at ∷ [];
      opened = subst (λ a. IsOpen limit lens (k + 1) (w.ends ++ a ∷ []) a) (sym at_is) (IsOpen-close limit lens k w.ends begin w.opened k_in small (omega arith));
      low = omega arith;
      buffers_are = ap (λ bs. bs ++ slice_range heap begin at ∷ []) w.buffers_are ∙ sym (pieces_of-push heap limit lens 0 w.ends begin at w.opened.pieces);
      number_is = omega (arith, length_push w.ends at, w.number_is);
      placed = ArePlaced-close start heap lens w.ends at (sum (take (k + 1) lens)) k views w.placed;
    }

-- the next value is put there
pub IsCutting-next : (start limit : ℕ) (heap lens : List ℕ) (k : ℕ) (buffers views : List (List ℕ)) (number begin at : ℕ) → HasRoom start limit heap lens k buffers views number begin → at ≡ sum (take k lens) → k < length lens → IsCutting start limit heap lens (k + 1) buffers (views ++ view_of (slice_range heap at (at + get_or lens k 0)) number (at - begin) ∷ []) number begin (at + get_or lens k 0)
IsCutting-next start limit heap lens k buffers views number begin at w at_is k_in =
    let more : at + get_or lens k 0 ≡ sum (take (k + 1) lens) = omega (arith, sum_more lens k k_in) in
    let here : IsPlaced start heap lens w.ends (sum (take (k + 1) lens)) k (view_of (slice_range heap at (at + get_or lens k 0)) number (at - begin)) = record {
      piece = length w.ends;
      offset = at - begin;
      piece_in = omega arith;
      view_is = ap (λ a. view_of (slice_range heap a (at + get_or lens k 0)) number (at - begin)) at_is ∙ ap (λ a. view_of (slice_range heap (sum (take k lens)) a) number (at - begin)) more ∙ ap (λ n. view_of (value_at heap lens k) n (at - begin)) w.number_is;
      begins = omega (arith, last_end limit lens 0 w.ends begin w.opened.pieces, w.low);
      within = omega (arith, get_or_push w.ends (sum (take (k + 1) lens)) 0 (length w.ends) refl);
    } in
    record {
      ends = w.ends;
      opened = w.opened;
      buffers_are = w.buffers_are;
      number_is = w.number_is;
      at_is = more;
      placed = subst (λ a. ArePlaced start heap lens w.ends a (k + 1) (views ++ view_of (slice_range heap at (at + get_or lens k 0)) number (at - begin) ∷ [])) (sym more) (ArePlaced-push start heap lens w.ends (sum (take (k + 1) lens)) k views (view_of (slice_range heap at (at + get_or lens k 0)) number (at - begin)) w.placed here);
    }

-- the same three steps, as the variables change
pub HasRoom-kept : (start limit : ℕ) (heap lens : List ℕ) (k n : ℕ) (buffers new_buffers views : List (List ℕ)) (number new_number begin new_begin at : ℕ) → new_buffers ≡ buffers → new_number ≡ number → new_begin ≡ begin → get_or lens k 0 ≡ n → k < length lens → at - begin + n ≤ limit → IsCutting start limit heap lens k buffers views number begin at → HasRoom start limit heap lens k new_buffers views new_number new_begin
HasRoom-kept start limit heap lens k n buffers new_buffers views number new_number begin new_begin at e1 e2 e3 len k_in fits w =
    rw (e1, e2, e3) (HasRoom-keep start limit heap lens k buffers views number begin at w k_in (omega arith))

pub HasRoom-closed : (start limit : ℕ) (heap lens : List ℕ) (k n : ℕ) (buffers new_buffers views : List (List ℕ)) (number new_number begin new_begin at : ℕ) → new_buffers ≡ buffers ++ slice_range heap begin at ∷ [] → new_number ≡ number + 1 → new_begin ≡ at → get_or lens k 0 ≡ n → k < length lens → n ≤ limit → limit < at - begin + n → IsCutting start limit heap lens k buffers views number begin at → HasRoom start limit heap lens k new_buffers views new_number new_begin
HasRoom-closed start limit heap lens k n buffers new_buffers views number new_number begin new_begin at e1 e2 e3 len k_in small over w =
    rw (e1, e2, e3) (HasRoom-close start limit heap lens k buffers views number begin at w k_in (omega arith) (omega arith))

pub IsCutting-pushed : (start limit : ℕ) (heap lens : List ℕ) (k n : ℕ) (buffers views new_views : List (List ℕ)) (number begin at : ℕ) (view : List ℕ) → view ≡ view_of (slice_range heap at (at + n)) number (at - begin) → new_views ≡ views ++ view ∷ [] → get_or lens k 0 ≡ n → k < length lens → at ≡ sum (take k lens) → HasRoom start limit heap lens k buffers views number begin → IsCutting start limit heap lens (k + 1) buffers new_views number begin (at + n)
IsCutting-pushed start limit heap lens k n buffers views new_views number begin at view e1 e2 len k_in at_is w =
    let next = IsCutting-next start limit heap lens k buffers views number begin at w at_is k_in in
    let same = subst (λ m. IsCutting start limit heap lens (k + 1) buffers (views ++ view_of (slice_range heap at (at + m)) number (at - begin) ∷ []) number begin (at + m)) len next in
    rw (e2, e1) same

-- ---- the cut that is made

first_end : (limit : ℕ) (lens : List ℕ) (from : ℕ) (ends : List ℕ) (to j : ℕ) → ArePieces limit lens from ends to → j ≤ length ends → from ≤ get_or (from ∷ ends) j 0
first_end limit lens from ends to zero pieces h = omega arith
first_end limit lens from [] to (suc j) pieces h = absurd (omega arith)
first_end limit lens from (e ∷ es) to (suc j) pieces h = omega (arith, pieces.0, first_end limit lens e es to j pieces.3 (omega arith))

-- what a test adds to a count
abbrev tick : Bool → ℕ
tick test = cond test 1 0

piece_of-cons : (e : ℕ) (es : List ℕ) (place : ℕ) → piece_of (e ∷ es) place ≡ tick (nat_le e place) + piece_of es place
piece_of-cons e es place = sum_by-cons (λ end. tick (nat_le end place)) e es

piece_of-before : (limit : ℕ) (lens : List ℕ) (from : ℕ) (ends : List ℕ) (to place : ℕ) → ArePieces limit lens from ends to → place ≤ from → piece_of ends place ≡ 0
piece_of-before limit lens from [] to place pieces h = refl
piece_of-before limit lens from (e ∷ es) to place pieces h =
    let later : nat_le e place ≡ false = lt-leb e place (omega (arith, pieces.0)) in
    let rest : piece_of es place ≡ 0 = piece_of-before limit lens e es to place pieces.3 (omega (arith, pieces.0)) in
    let none : tick (nat_le e place) ≡ 0 = ap tick later in
    omega (arith, piece_of-cons e es place)

-- a place is in the piece that begins there or earlier and ends later
piece_of-is : (limit : ℕ) (lens : List ℕ) (from : ℕ) (ends : List ℕ) (to place j : ℕ) → ArePieces limit lens from ends to → j < length ends → get_or (from ∷ ends) j 0 ≤ place → place < get_or ends j 0 → piece_of ends place ≡ j
piece_of-is limit lens from [] to place j pieces h low high = absurd (omega arith)
piece_of-is limit lens from (e ∷ es) to place zero pieces h low high =
    let later : nat_le e place ≡ false = lt-leb e place (omega arith) in
    let rest : piece_of es place ≡ 0 = piece_of-before limit lens e es to place pieces.3 (omega arith) in
    let none : tick (nat_le e place) ≡ 0 = ap tick later in
    omega (arith, piece_of-cons e es place)
piece_of-is limit lens from (e ∷ es) to place (suc j) pieces h low high =
    let earlier : nat_le e place ≡ true = le-leb e place (omega (arith, first_end limit lens e es to j pieces.3 (omega arith))) in
    let rest : piece_of es place ≡ j = piece_of-is limit lens e es to place j pieces.3 (omega arith) low high in
    let one : tick (nat_le e place) ≡ 1 = ap tick earlier in
    omega (arith, piece_of-cons e es place)

pub slice_slice : (xs : List ℕ) (a b o n : ℕ) → a + o + n ≤ b → slice_range (slice_range xs a b) o (o + n) ≡ slice_range xs (a + o) (a + o + n)
slice_slice xs a b o n h =
    let wide : b - a ≡ o + (b - a - o) = omega arith in
    let inner : drop o (take (b - a) (drop a xs)) ≡ take (b - a - o) (drop o (drop a xs)) = ap (λ k. drop o (take k (drop a xs))) wide ∙ drop-take o (b - a - o) (drop a xs) in
    let outer : take n (take (b - a - o) (drop o (drop a xs))) ≡ take n (drop o (drop a xs)) = take-take n (b - a - o) (drop o (drop a xs)) (omega arith) in
    let two : drop o (drop a xs) ≡ drop (a + o) xs = drop-drop o a xs in
    let left : o + n - o ≡ n = omega arith in
    let right : a + o + n - (a + o) ≡ n = omega arith in
    cc

-- the k-th value stands in the j-th of the pieces, so far from its beginning
pub record StandsIn (lens ends : List ℕ) (k j offset : ℕ) : Type 0 where
  pub piece_in : j < length ends
  pub begins : get_or (0 ∷ ends) j 0 + offset ≡ sum (take k lens)
  pub within : sum (take (k + 1) lens) ≤ get_or ends j 0

-- a view that is placed, of a value in a piece or of a value without bytes
pub record IsSettled (start : ℕ) (heap lens ends : List ℕ) (k : ℕ) (view : List ℕ) : Type 0 where
  pub piece : ℕ
  pub offset : ℕ
  pub view_is : view ≡ view_of (value_at heap lens k) (start + piece) offset
  pub stands : 0 < get_or lens k 0 → StandsIn lens ends k piece offset

pub length-value_at : (heap lens : List ℕ) (k : ℕ) → length heap ≡ sum lens → k < length lens → length (value_at heap lens k) ≡ get_or lens k 0
length-value_at heap lens k whole k_in =
    let more = sum_more lens k k_in in
    let all = sum_by-take-le (λ (x : ℕ). x) lens (k + 1) in
    omega (arith, length-take (sum (take (k + 1) lens) - sum (take k lens)) (drop (sum (take k lens)) heap), length-drop (sum (take k lens)) heap)

-- such a view names the piece that its value begins in
IsSettled-at : (start limit : ℕ) (heap lens ends : List ℕ) (k : ℕ) (view : List ℕ) → length heap ≡ sum lens → ArePieces limit lens 0 ends (sum lens) → k < length lens → IsSettled start heap lens ends k view → view ≡ view_at start heap lens ends k
IsSettled-at start limit heap lens ends k view whole pieces k_in w =
    let len = length-value_at heap lens k whole k_in in
    w.view_is
    ∙ ⊎_elim
    (λ (long : MAX_INLINED_SIZE < length (value_at heap lens k)).
    let s = w.stands (omega arith) in
    let piece : piece_of ends (place_of lens k) ≡ w.piece = piece_of-is limit lens 0 ends (sum lens) (sum (take k lens)) w.piece pieces s.piece_in (omega (arith, s.begins)) (omega (arith, s.within, sum_more lens k k_in)) in
    let offset : offset_of ends (place_of lens k) ≡ w.offset = omega (arith, s.begins, ap (λ j. get_or (0 ∷ ends) j 0) piece) in
    ap (λ j. view_of (value_at heap lens k) (start + j) w.offset) (sym piece) ∙ ap (view_of (value_at heap lens k) (start + piece_of ends (place_of lens k))) (sym offset))
    (λ (short : length (value_at heap lens k) ≤ MAX_INLINED_SIZE).
    view_of_short (value_at heap lens k) (start + w.piece) w.offset short
    ∙ sym (view_of_short (value_at heap lens k) (start + piece_of ends (place_of lens k)) (offset_of ends (place_of lens k)) short))
    (cases_lt MAX_INLINED_SIZE (length (value_at heap lens k)))

piece_le : (limit : ℕ) (lens : List ℕ) (from : ℕ) (ends : List ℕ) (to j : ℕ) → ArePieces limit lens from ends to → j < length ends → (get_or ends j 0 ≤ get_or (from ∷ ends) j 0 + limit) × (get_or ends j 0 ≤ to)
piece_le limit lens from [] to j pieces h = absurd (omega arith)
piece_le limit lens from (e ∷ es) to zero pieces h = (pieces.1, ArePieces-le limit lens e es to pieces.3)
piece_le limit lens from (e ∷ es) to (suc j) pieces h = piece_le limit lens e es to j pieces.3 (omega arith)

-- a value that stands in a piece is there for its view
there_in : (start limit : ℕ) (heap lens ends : List ℕ) (k j offset : ℕ) → length heap ≡ sum lens → ArePieces limit lens 0 ends (sum lens) → limit ≤ MAX_BUFFER_LEN → start + length ends ≤ 2 ^ 32 → k < length lens → StandsIn lens ends k j offset
    → (before : List (List ℕ)) → length before ≡ start → IsThere (before ++ pieces_of heap 0 ends) (value_at heap lens k) (start + j) offset
there_in start limit heap lens ends k j offset whole pieces small numbered k_in s before there =
    let len = length-value_at heap lens k whole k_in in
    let more = sum_more lens k k_in in
    let piece_in = s.piece_in in
    let begins = s.begins in
    let within = s.within in
    let bounds = piece_le limit lens 0 ends (sum lens) j pieces piece_in in
    let number : start + j ≡ length before + j = omega arith in
    let buffer : buffer_at (before ++ pieces_of heap 0 ends) (start + j) ≡ slice_range heap (get_or (0 ∷ ends) j 0) (get_or ends j 0) =
    ap (buffer_at (before ++ pieces_of heap 0 ends)) number ∙ get_or-append-add before (pieces_of heap 0 ends) j [] ∙ pieces_of-at heap 0 ends j piece_in in
    let long : length (slice_range heap (get_or (0 ∷ ends) j 0) (get_or ends j 0)) ≡ get_or ends j 0 - get_or (0 ∷ ends) j 0 =
    omega (arith, length-take (get_or ends j 0 - get_or (0 ∷ ends) j 0) (drop (get_or (0 ∷ ends) j 0) heap), length-drop (get_or (0 ∷ ends) j 0) heap, bounds.1) in
    let count : length (before ++ pieces_of heap 0 ends) ≡ start + length ends = omega (arith, length-append before (pieces_of heap 0 ends), length-pieces_of heap 0 ends) in
    let fits : get_or (0 ∷ ends) j 0 + offset + get_or lens k 0 ≤ get_or ends j 0 = omega arith in
    let upto : get_or (0 ∷ ends) j 0 + offset + get_or lens k 0 ≡ sum (take (k + 1) lens) = omega arith in
    record {
      named = omega arith;
      near = omega (arith, bounds.0);
      small = omega (arith, bounds.0);
      buffer_in = omega arith;
      within = omega (arith, ap length buffer);
      same =
          ap (λ n. slice_range (buffer_at (before ++ pieces_of heap 0 ends) (start + j)) offset (offset + n)) len
          ∙ ap (λ b. slice_range b offset (offset + get_or lens k 0)) buffer
          ∙ slice_slice heap (get_or (0 ∷ ends) j 0) (get_or ends j 0) offset (get_or lens k 0) fits
          ∙ ap (λ a. slice_range heap a (get_or (0 ∷ ends) j 0 + offset + get_or lens k 0)) begins
          ∙ ap (λ b. slice_range heap (sum (take k lens)) b) upto;
    }

-- and its value is read
IsSettled-reads : (start limit : ℕ) (heap lens ends : List ℕ) (k : ℕ) (view : List ℕ) → length heap ≡ sum lens → ArePieces limit lens 0 ends (sum lens) → limit ≤ MAX_BUFFER_LEN → start + length ends ≤ 2 ^ 32 → k < length lens → IsSettled start heap lens ends k view
    → (before : List (List ℕ)) → length before ≡ start → ReadsAs (before ++ pieces_of heap 0 ends) view (value_at heap lens k)
IsSettled-reads start limit heap lens ends k view whole pieces small numbered k_in w before there =
    let len = length-value_at heap lens k whole k_in in
    subst (λ v. ReadsAs (before ++ pieces_of heap 0 ends) v (value_at heap lens k)) (sym w.view_is)
    (view_of-reads (before ++ pieces_of heap 0 ends) (value_at heap lens k) (start + w.piece) w.offset
    (λ long. there_in start limit heap lens ends k w.piece w.offset whole pieces small numbered k_in (w.stands (omega arith)) before there))

IsSettled-close : (start : ℕ) (heap lens ends : List ℕ) (at k : ℕ) (view : List ℕ) → IsPlaced start heap lens ends at k view → IsSettled start heap lens (ends ++ at ∷ []) k view
IsSettled-close start heap lens ends at k view w = record {
  piece = w.piece;
  offset = w.offset;
  view_is = w.view_is;
  stands = λ _. record {
    piece_in = omega (arith, length_push ends at, w.piece_in);
    begins = omega (arith, w.begins, get_or_append_left (0 ∷ ends) (at ∷ []) 0 w.piece (omega (arith, w.piece_in)));
    within = w.within;
  };
}

IsSettled-empty : (start limit : ℕ) (heap lens ends : List ℕ) (begin at k : ℕ) (view : List ℕ) → ArePieces limit lens 0 ends begin → at ≤ begin → k < length lens → IsPlaced start heap lens ends at k view → IsSettled start heap lens ends k view
IsSettled-empty start limit heap lens ends begin at k view pieces empty k_in w = record {
  piece = w.piece;
  offset = w.offset;
  view_is = w.view_is;
  stands = λ some. ⊎_elim
      (λ (piece_in : w.piece < length ends). let stands : StandsIn lens ends k w.piece w.offset = record {
        piece_in = piece_in;
        begins = w.begins;
        within = omega (arith, w.within, get_or_append_left ends (at ∷ []) 0 w.piece piece_in);
      } in stands)
      (λ (past : length ends ≤ w.piece).
      let same : w.piece ≡ length ends = omega (arith, w.piece_in) in
      let last : get_or (0 ∷ ends) w.piece 0 ≡ begin = ap (λ j. get_or (0 ∷ ends) j 0) same ∙ last_end limit lens 0 ends begin pieces in
      let full : get_or (ends ++ at ∷ []) w.piece 0 ≡ at = get_or_push ends at 0 w.piece (sym same) in
      absurd (omega (arith, w.begins, w.within, sum_more lens k k_in)))
      (cases_lt w.piece (length ends));
}

-- what is promised of buffers and views
pub record AreDone (start limit : ℕ) (heap lens : List ℕ) (buffers views : List (List ℕ)) : Type 0 where
  pub built : AreBuilt start limit heap lens buffers views
  pub read_back : ReadBack start (value_at heap lens) buffers views

AreDone-settled : (start limit : ℕ) (heap lens ends : List ℕ) (buffers views : List (List ℕ)) → IsMaximalCut limit lens ends → buffers ≡ pieces_of heap 0 ends → start + length ends ≤ 2 ^ 32 → length views ≡ length lens → ((k : ℕ) → k < length lens → IsSettled start heap lens ends k (get_or views k []))
    → length heap ≡ sum lens → limit ≤ MAX_BUFFER_LEN → AreDone start limit heap lens buffers views
AreDone-settled start limit heap lens ends buffers views maximal buffers_are numbered count settled whole small =
    let reads : (before : List (List ℕ)) (row : ℕ) → length before ≡ start → row < length lens → ReadsAs (before ++ buffers) (get_or views row []) (value_at heap lens row) =
    λ before row there row_in. subst (λ bs. ReadsAs (before ++ bs) (get_or views row []) (value_at heap lens row)) (sym buffers_are)
    (IsSettled-reads start limit heap lens ends row (get_or views row []) whole maximal.cut.pieces small numbered row_in (settled row row_in) before there) in
    record {
      built = record {
        ends = ends;
        cut = maximal;
        pieces = buffers_are;
        numbered = numbered;
        one_each = count;
        each = λ row row_in. IsSettled-at start limit heap lens ends row (get_or views row []) whole maximal.cut.pieces row_in (settled row row_in);
      };
      read_back = record {
        resolve = λ before row there row_in. (reads before row there (omega arith)).resolves;
        read = λ before row there row_in. (reads before row there (omega arith)).reads;
      };
    }

-- at the end the open piece is closed
pub AreDone-close : (start limit : ℕ) (heap lens : List ℕ) (k : ℕ) (buffers views : List (List ℕ)) (number begin at : ℕ) → IsCutting start limit heap lens k buffers views number begin at → length lens ≡ k → length heap ≡ at → begin < at → number < 2 ^ 32 → limit ≤ MAX_BUFFER_LEN → AreDone start limit heap lens (buffers ++ slice_range heap begin at ∷ []) views
AreDone-close start limit heap lens k buffers views number begin at w all whole rest numbered small =
    let at_is : at ≡ sum lens = w.at_is ∙ ap sum (take_all k lens (omega arith)) in
    let opened : IsOpen limit lens (length lens) w.ends begin = subst (λ n. IsOpen limit lens n w.ends begin) (sym all) w.opened in
    AreDone-settled start limit heap lens (w.ends ++ at ∷ []) (buffers ++ slice_range heap begin at ∷ []) views
    (subst (λ a. IsMaximalCut limit lens (w.ends ++ a ∷ [])) (sym at_is) (IsMaximalCut-from_open_push limit lens w.ends begin opened (omega arith)))
    (ap (λ bs. bs ++ slice_range heap begin at ∷ []) w.buffers_are ∙ sym (pieces_of-push heap limit lens 0 w.ends begin at w.opened.pieces))
    (omega (arith, length_push w.ends at, w.number_is))
    (omega (arith, w.placed.count))
    (λ row row_in. IsSettled-close start heap lens w.ends at row (get_or views row []) (w.placed.each row (omega arith)))
    (omega arith) small

-- or it is empty
pub AreDone-empty : (start limit : ℕ) (heap lens : List ℕ) (k : ℕ) (buffers views : List (List ℕ)) (number begin at : ℕ) → IsCutting start limit heap lens k buffers views number begin at → length lens ≡ k → length heap ≡ at → at ≤ begin → number < 2 ^ 32 → limit ≤ MAX_BUFFER_LEN → AreDone start limit heap lens buffers views
AreDone-empty start limit heap lens k buffers views number begin at w all whole empty numbered small =
    let at_is : at ≡ sum lens = w.at_is ∙ ap sum (take_all k lens (omega arith)) in
    let opened : IsOpen limit lens (length lens) w.ends begin = subst (λ n. IsOpen limit lens n w.ends begin) (sym all) w.opened in
    AreDone-settled start limit heap lens w.ends buffers views
    (IsMaximalCut-from_open limit lens w.ends begin opened (omega arith))
    w.buffers_are
    (omega (arith, w.number_is))
    (omega (arith, w.placed.count))
    (λ row row_in. IsSettled-empty start limit heap lens w.ends begin at row (get_or views row []) w.opened.pieces empty row_in (w.placed.each row (omega arith)))
    (omega arith) small
