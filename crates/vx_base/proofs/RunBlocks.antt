-- Runs of numbers that are written by way of a block.
use Rattle.std.proofs.Common.{ℕ, zero, suc, ◌+◌, ◌-◌, ◌*◌, ◌/◌, ◌<◌, ◌≤◌, ◌≡◌, List, ◌++◌, [], length, take, drop, get_or, refl, sym, ◌∙◌, ap, arith}
use Rattle.std.specs.Prelude.{slice_range}
use Rattle.std.specs.List.{All, flat_map, range_with_len}
use Rattle.std.specs.Simd.{first_chunks}
use Rattle.std.proofs.lemmas.Grind.{flat_map-append}
use Rattle.std.proofs.lemmas.List.{append_assoc, drop_at, drop_more, length-take-le, take-append-le, take-take}
use Rattle.std.proofs.lemmas.List.Elements.{All-tail}
use Rattle.std.proofs.lemmas.Slice.{take-put_mid_below}
use borrow.Rule.Slice.PartMut.{put_mid, post_of}
use Rattle.vx_base.proofs.Blocks.{take_next}
use Rattle.vx_base.proofs.ListParts.{length_part}
use Rattle.vx_base.proofs.Chunks.{chunk_within, whole_chunk}
use Rattle.vx_base.specs.Selections.{bytes_of_position, held}

-- the first few of what was put behind the first of a block
pub put_few : {X : Type 0} (old ys numbers : List X) (filled size k count start : ℕ) → count ≤ size → filled ≤ length old → start + size ≤ length numbers
    → ys ≡ slice_range numbers start (start + size) → take (filled + count) (put_mid filled k old ys) ≡ take filled old ++ slice_range numbers start (start + count)
put_few {X} old ys numbers filled size k count start few room within put = sym (take_next new filled count) ∙ ap (λ xs. xs ++ take count (drop filled new)) front ∙ ap (λ xs. take filled old ++ xs) back
  where
    new : List X
    new = put_mid filled k old ys

    front : take filled new ≡ take filled old
    front = take-put_mid_below filled k old ys filled (omega arith) room

    back : take count (drop filled new) ≡ slice_range numbers start (start + count)
    back =
        let all : start + size - start ≡ size = omega arith in
        let long = ap length put ∙ length_part numbers start (start + size) (omega arith) within in
        let some : start + count - start ≡ count = omega arith in
        ap (take count) (drop_at (take filled old) (ys ++ post_of filled k old) filled (length-take-le filled old room))
        ∙ take-append-le count ys (post_of filled k old) (omega (arith, long, all, few)) ∙ ap (take count) (put ∙ ap (λ n. take n (drop start numbers)) all)
        ∙ take-take count size (drop start numbers) few ∙ ap (λ n. take n (drop start numbers)) (sym some)

-- what is held is held in two parts
pub held_more : (bytes : List ℕ) (xs ys : List (List ℕ)) → held bytes (xs ++ ys) ≡ held (held bytes xs) ys
held_more bytes xs ys = ap (λ zs. bytes ++ zs) (flat_map-append (λ number. number) xs ys) ∙ sym (append_assoc bytes (flat_map (λ number. number) xs) (flat_map (λ number. number) ys))

-- the chunks of a run are its numbers
pub chunks_of_run : (width : ℕ) (bs : List ℕ) (chunks : List (List ℕ)) (n start : ℕ) → 0 < width → chunks ≡ first_chunks width (length bs / width) bs → length chunks ≡ length bs / width
    → All (λ k. k * width + width ≤ length bs) (range_with_len start n) → flat_map (λ number. number) (take n (drop start chunks)) ≡ flat_map (bytes_of_position width bs) (range_with_len start n)
chunks_of_run width bs chunks zero start some all count within = refl
chunks_of_run width bs chunks (suc n) start some all count within =
    let room : start * width + width ≤ length bs = within 0 0 (omega arith) in
    let inside : start < length chunks = omega (arith, count, chunk_within width start bs some room) in
    let here : get_or chunks start [] ≡ bytes_of_position width bs start = whole_chunk width start bs chunks (get_or chunks start []) [] some room all refl in
    ap (λ xs. flat_map (λ number. number) (take (suc n) xs)) (drop_more chunks start [] inside)
    ∙ ap (λ x. x ++ flat_map (λ number. number) (take n (drop (start + 1) chunks))) here
    ∙ ap (λ xs. bytes_of_position width bs start ++ xs) (chunks_of_run width bs chunks n (start + 1) some all count (All-tail (λ k. k * width + width ≤ length bs) start (range_with_len (start + 1) n) within))

-- each position of a run is a place among the chunks
pub run_within : (width : ℕ) (bs : List ℕ) (chunks : List (List ℕ)) (ks : List ℕ) → 0 < width → length chunks ≡ length bs / width → All (λ k. k * width + width ≤ length bs) ks → All (λ k. k < length chunks) ks
run_within width bs chunks ks some count within = λ k d l. omega (arith, count, chunk_within width (get_or ks k d) bs some (within k d l))
