-- Values put into buffers one after another, whatever values come after them: the maximal cut in the making.
use Rattle.std.proofs.Common.{◌≡◌, ℕ, ◌+◌, ◌-◌, ◌<◌, ◌≤◌, ◌^◌, List, [], ◌∷◌, ◌++◌, length, take, drop, get_or, sum, slice_range, append_assoc, append-nil, refl, sym, ◌∙◌, ap, subst, length-append, length-drop, arith}
use Rattle.std.proofs.Math.Seq.{drop-append_seam, take-append_seam}
use Rattle.std.proofs.lemmas.List.{drop-append-le, length_push, take_all}
use Rattle.vx_views.specs.Views.{view_of}
use Rattle.vx_views.specs.Cut.{IsMaximalCut}
use Rattle.vx_views.specs.BuildFaults.{IsPieceCount}
use Rattle.vx_views.specs.declared.view.TheConstants.{MAX_BUFFER_LEN}
use Rattle.vx_views.proofs.CutPieces.{longest_same}
use Rattle.vx_views.proofs.CutOpen.{IsMaximalCut-from_open, IsMaximalCut-from_open_push}
use Rattle.vx_views.proofs.CutPlaces.{IsCutting, HasRoom-kept, HasRoom-closed, IsCutting-pushed, AreDone, AreDone-close, AreDone-empty}

-- values of these lengths, one after another in a heap, are in full buffers and a last one, whatever comes after them
pub record Fills (heap lens : List ℕ) (full : List (List ℕ)) (last : List ℕ) (placed : List (List ℕ)) : Type 0 where
  pub begin : ℕ
  pub low : begin ≤ length heap
  pub last_is : last ≡ drop begin heap
  pub filled : length last ≡ 0 → length full ≡ 0
  pub cutting : (rest more : List ℕ) → IsCutting 0 MAX_BUFFER_LEN (heap ++ rest) (lens ++ more) (length lens) full placed (length full) begin (length heap)

pub fills_none : Fills [] [] [] [] []
fills_none = record {
  begin = 0;
  low = omega arith;
  last_is = refl;
  filled = λ none. refl;
  cutting = λ rest more. record {
    ends = [];
    opened = record { pieces = refl; longest = tt; low = omega arith; high = omega arith };
    buffers_are = refl;
    number_is = refl;
    at_is = refl;
    placed = record { count = refl; each = λ k l. absurd (omega arith) };
  };
}

-- the last buffer is no longer than a buffer may be
pub last_short : (heap lens : List ℕ) (full : List (List ℕ)) (last : List ℕ) (placed : List (List ℕ)) → Fills heap lens full last placed → length last ≤ MAX_BUFFER_LEN
last_short heap lens full last placed w =
    let c = w.cutting [] [] in
    omega (arith, ap length w.last_is, length-drop w.begin heap, c.opened.high, c.at_is)

pub placed_count : (heap lens : List ℕ) (full : List (List ℕ)) (last : List ℕ) (placed : List (List ℕ)) → Fills heap lens full last placed → length placed ≡ length lens
placed_count heap lens full last placed w = (w.cutting [] []).placed.count

-- ---- a value more

after : (heap value rest : List ℕ) → slice_range (heap ++ (value ++ rest)) (length heap) (length heap + length value) ≡ value
after heap value rest =
    ap (λ bytes. take (length heap + length value - length heap) bytes) (drop-append_seam heap (value ++ rest))
    ∙ ap (λ n. take n (value ++ rest)) {x = length heap + length value - length heap} {y = length value} (omega arith)
    ∙ take-append_seam value rest

-- the same by other names
moved : (heap other_heap lens other_lens : List ℕ) (k j : ℕ) (full placed : List (List ℕ)) (number begin at to : ℕ) → heap ≡ other_heap → lens ≡ other_lens → k ≡ j → at ≡ to
    → IsCutting 0 MAX_BUFFER_LEN heap lens k full placed number begin at → IsCutting 0 MAX_BUFFER_LEN other_heap other_lens j full placed number begin to
moved heap other_heap lens other_lens k j full placed number begin at to a b c d w =
    subst (λ x. IsCutting 0 MAX_BUFFER_LEN x other_lens j full placed number begin to) a
    (subst (λ x. IsCutting 0 MAX_BUFFER_LEN heap x j full placed number begin to) b
    (subst (λ x. IsCutting 0 MAX_BUFFER_LEN heap lens x full placed number begin to) c
    (subst (λ x. IsCutting 0 MAX_BUFFER_LEN heap lens k full placed number begin x) d w)))

next_at : (lens more : List ℕ) (n : ℕ) → get_or (lens ++ n ∷ more) (length lens) 0 ≡ n
next_at [] more n = refl
next_at (m ∷ lens) more n = next_at lens more n

pub fills_next : (heap lens : List ℕ) (full : List (List ℕ)) (last : List ℕ) (placed : List (List ℕ)) (value : List ℕ) → Fills heap lens full last placed → length last + length value ≤ MAX_BUFFER_LEN
    → Fills (heap ++ value) (lens ++ length value ∷ []) full (last ++ value) (placed ++ view_of value (length full) (length last) ∷ [])
fills_next heap lens full last placed value w fits =
    let n = length value in
    let k = length lens in
    let at = length heap in
    let long : length last ≡ at - w.begin = ap length w.last_is ∙ length-drop w.begin heap in
    record {
      begin = w.begin;
      low = omega (arith, length-append heap value, w.low);
      last_is = ap (λ bytes. bytes ++ value) w.last_is ∙ sym (drop-append-le w.begin heap value w.low);
      filled = λ none. w.filled (omega (arith, length-append last value));
      cutting = λ rest more.
          let c = w.cutting (value ++ rest) (n ∷ more) in
          let inside : k < length (lens ++ n ∷ more) = omega (arith, length-append lens (n ∷ more)) in
          let room = HasRoom-kept 0 MAX_BUFFER_LEN (heap ++ (value ++ rest)) (lens ++ n ∷ more) k n full full placed (length full) (length full) w.begin w.begin at refl refl refl (next_at lens more n) inside (omega (arith, long)) c in
          let view = view_of value (length full) (length last) in
          let is : view ≡ view_of (slice_range (heap ++ (value ++ rest)) at (at + n)) (length full) (at - w.begin) =
          ap (λ bytes. view_of bytes (length full) (length last)) (sym (after heap value rest)) ∙ ap (λ o. view_of (slice_range (heap ++ (value ++ rest)) at (at + n)) (length full) o) long in
          let pushed = IsCutting-pushed 0 MAX_BUFFER_LEN (heap ++ (value ++ rest)) (lens ++ n ∷ more) k n full placed (placed ++ view ∷ []) (length full) w.begin at view is refl (next_at lens more n) inside c.at_is room in
          moved (heap ++ (value ++ rest)) ((heap ++ value) ++ rest) (lens ++ n ∷ more) ((lens ++ n ∷ []) ++ more) (k + 1) (length (lens ++ n ∷ [])) full (placed ++ view ∷ []) (length full) w.begin (at + n) (length (heap ++ value))
          (sym (append_assoc heap value rest)) (sym (append_assoc lens (n ∷ []) more)) (sym (length_push lens n)) (sym (length-append heap value)) pushed;
    }

pub fills_closed : (heap lens : List ℕ) (full : List (List ℕ)) (last : List ℕ) (placed : List (List ℕ)) (value : List ℕ) → Fills heap lens full last placed → length value ≤ MAX_BUFFER_LEN → MAX_BUFFER_LEN < length last + length value
    → Fills (heap ++ value) (lens ++ length value ∷ []) (full ++ last ∷ []) value (placed ++ view_of value (length (full ++ last ∷ [])) 0 ∷ [])
fills_closed heap lens full last placed value w short over =
    let n = length value in
    let k = length lens in
    let at = length heap in
    let long : length last ≡ at - w.begin = ap length w.last_is ∙ length-drop w.begin heap in
    let more_full = full ++ last ∷ [] in
    record {
      begin = at;
      low = omega (arith, length-append heap value);
      last_is = sym (drop-append_seam heap value);
      filled = λ none. absurd (omega (arith, last_short heap lens full last placed w));
      cutting = λ rest more.
          let c = w.cutting (value ++ rest) (n ∷ more) in
          let inside : k < length (lens ++ n ∷ more) = omega (arith, length-append lens (n ∷ more)) in
          let bytes : last ≡ slice_range (heap ++ (value ++ rest)) w.begin at =
          w.last_is ∙ sym (ap (λ b. take (at - w.begin) b) (drop-append-le w.begin heap (value ++ rest) w.low)
          ∙ ap (λ m. take m (drop w.begin heap ++ (value ++ rest))) {x = at - w.begin} {y = length (drop w.begin heap)} (sym (length-drop w.begin heap))
          ∙ take-append_seam (drop w.begin heap) (value ++ rest)) in
          let room = HasRoom-closed 0 MAX_BUFFER_LEN (heap ++ (value ++ rest)) (lens ++ n ∷ more) k n full more_full placed (length full) (length more_full) w.begin at at (ap (λ b. full ++ b ∷ []) bytes) (length_push full last) refl (next_at lens more n) inside short (omega (arith, long)) c in
          let view = view_of value (length more_full) 0 in
          let is : view ≡ view_of (slice_range (heap ++ (value ++ rest)) at (at + n)) (length more_full) (at - at) =
          ap (λ b. view_of b (length more_full) 0) (sym (after heap value rest)) ∙ ap (λ o. view_of (slice_range (heap ++ (value ++ rest)) at (at + n)) (length more_full) o) {x = 0} {y = at - at} (omega arith) in
          let pushed = IsCutting-pushed 0 MAX_BUFFER_LEN (heap ++ (value ++ rest)) (lens ++ n ∷ more) k n more_full placed (placed ++ view ∷ []) (length more_full) at at view is refl (next_at lens more n) inside c.at_is room in
          moved (heap ++ (value ++ rest)) ((heap ++ value) ++ rest) (lens ++ n ∷ more) ((lens ++ n ∷ []) ++ more) (k + 1) (length (lens ++ n ∷ [])) more_full (placed ++ view ∷ []) (length more_full) at (at + n) (length (heap ++ value))
          (sym (append_assoc heap value rest)) (sym (append_assoc lens (n ∷ []) more)) (sym (length_push lens n)) (sym (length-append heap value)) pushed;
    }

-- ---- all of them

-- the last buffer is full too, where it has bytes
pub record AreFull (full : List (List ℕ)) (last : List ℕ) (all : List (List ℕ)) : Type 0 where
  pub some : 0 < length last → all ≡ full ++ last ∷ []
  pub none : length last ≡ 0 → all ≡ full

maximal_count : (limit : ℕ) (lens ends : List ℕ) → IsMaximalCut limit lens ends → IsPieceCount limit lens (length ends)
maximal_count limit lens ends m others other = ap length (longest_same limit lens others ends 0 0 refl other.cut.pieces other.longest m.cut.pieces m.longest)

whole : (heap lens : List ℕ) (full : List (List ℕ)) (last : List ℕ) (placed : List (List ℕ)) (w : Fills heap lens full last placed) → IsCutting 0 MAX_BUFFER_LEN heap lens (length lens) full placed (length full) w.begin (length heap)
whole heap lens full last placed w =
    moved (heap ++ []) heap (lens ++ []) lens (length lens) (length lens) full placed (length full) w.begin (length heap) (length heap) (append-nil heap) (append-nil lens) refl refl (w.cutting [] [])

-- there are as many buffers as the maximal cut has pieces
pub count_of_some : (heap lens : List ℕ) (full : List (List ℕ)) (last : List ℕ) (placed : List (List ℕ)) → Fills heap lens full last placed → 0 < length last → IsPieceCount MAX_BUFFER_LEN lens (length full + 1)
count_of_some heap lens full last placed w some =
    let c = whole heap lens full last placed w in
    let all : length heap ≡ sum lens = c.at_is ∙ ap sum (take_all (length lens) lens (omega arith)) in
    let long : length last ≡ length heap - w.begin = ap length w.last_is ∙ length-drop w.begin heap in
    subst (IsPieceCount MAX_BUFFER_LEN lens) {x = length (c.ends ++ sum lens ∷ [])} {y = length full + 1} (omega (arith, length_push c.ends (sum lens), c.number_is))
    (maximal_count MAX_BUFFER_LEN lens (c.ends ++ sum lens ∷ []) (IsMaximalCut-from_open_push MAX_BUFFER_LEN lens c.ends w.begin c.opened (omega (arith, all, long))))

pub count_of_none : (heap lens : List ℕ) (full : List (List ℕ)) (last : List ℕ) (placed : List (List ℕ)) → Fills heap lens full last placed → length last ≡ 0 → IsPieceCount MAX_BUFFER_LEN lens (length full)
count_of_none heap lens full last placed w none =
    let c = whole heap lens full last placed w in
    let all : length heap ≡ sum lens = c.at_is ∙ ap sum (take_all (length lens) lens (omega arith)) in
    let long : length last ≡ length heap - w.begin = ap length w.last_is ∙ length-drop w.begin heap in
    subst (IsPieceCount MAX_BUFFER_LEN lens) {x = length c.ends} {y = length full} (omega (arith, c.number_is))
    (maximal_count MAX_BUFFER_LEN lens c.ends (IsMaximalCut-from_open MAX_BUFFER_LEN lens c.ends w.begin c.opened (omega (arith, all, long, w.low))))

pub done_of_some : (heap lens : List ℕ) (full : List (List ℕ)) (last : List ℕ) (placed : List (List ℕ)) → Fills heap lens full last placed → 0 < length last → length full < 2 ^ 32 → AreDone 0 MAX_BUFFER_LEN heap lens (full ++ last ∷ []) placed
done_of_some heap lens full last placed w some few =
    let c = whole heap lens full last placed w in
    let at = length heap in
    let long : length last ≡ at - w.begin = ap length w.last_is ∙ length-drop w.begin heap in
    let bytes : slice_range heap w.begin at ≡ last = take_all (at - w.begin) (drop w.begin heap) (omega (arith, length-drop w.begin heap)) ∙ sym w.last_is in
    subst (λ b. AreDone 0 MAX_BUFFER_LEN heap lens (full ++ b ∷ []) placed) bytes
    (AreDone-close 0 MAX_BUFFER_LEN heap lens (length lens) full placed (length full) w.begin at c refl refl (omega (arith, long)) few (omega arith))

pub done_of_none : (heap lens : List ℕ) (full : List (List ℕ)) (last : List ℕ) (placed : List (List ℕ)) → Fills heap lens full last placed → length last ≡ 0 → AreDone 0 MAX_BUFFER_LEN heap lens full placed
done_of_none heap lens full last placed w none =
    let c = whole heap lens full last placed w in
    let at = length heap in
    let long : length last ≡ at - w.begin = ap length w.last_is ∙ length-drop w.begin heap in
    AreDone-empty 0 MAX_BUFFER_LEN heap lens (length lens) full placed (length full) w.begin at c refl refl (omega (arith, long)) (omega (arith, w.filled none)) (omega arith)
