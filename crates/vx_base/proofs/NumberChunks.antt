-- The numbers of bytes that are read a chunk of one number's width at a time.
use Rattle.std.proofs.Common.{ℕ, zero, suc, ◌+◌, ◌*◌, ◌/◌, ◌<◌, ◌≤◌, ◌≡◌, List, ◌++◌, length, take, drop, map, sym, ◌∙◌, ap, subst, arith}
use Rattle.std.specs.Iterator.{AlwaysYields}
use Rattle.std.specs.List.{range_with_len}
use Rattle.std.specs.Slice.Iter.{chunks_exact_rest, chunks_exact_size, chunks_exact_steps}
use Rattle.std.proofs.Math.Nat.{div-mul-le_self, lt-div-mul-add}
use Rattle.std.proofs.lemmas.Iterator.{YieldsList}
use Rattle.std.proofs.lemmas.List.{length-append, drop_at, drop-drop, take-append-le, take_all}
use Rattle.vx_base.proofs.ListParts.{map_range_same}
use Rattle.vx_base.proofs.NumberLists.{width_pos}
use Rattle.vx_base.specs.Integers.{byte_width, number_of, number_at, numbers}
use Rattle.vx_base.specs.declared.ptypes.PType.{PType}

-- a number past the first is one of the bytes that follow
number_past : (t : PType) (first rest : List ℕ) (j : ℕ) → length first ≡ byte_width t → number_at t (first ++ rest) (0 + 1 + j) ≡ number_at t rest (0 + j)
number_past t first rest j e =
    let place : byte_width t + (0 + j) * byte_width t ≡ (0 + 1 + j) * byte_width t = omega arith in
    ap (λ (m : ℕ). number_of t (take (byte_width t) (drop m (first ++ rest)))) (sym place)
    ∙ ap (λ (ys : List ℕ). number_of t (take (byte_width t) ys)) (sym (drop-drop ((0 + j) * byte_width t) (byte_width t) (first ++ rest)) ∙ ap (drop ((0 + j) * byte_width t)) (drop_at first rest (byte_width t) e))

-- the first is that of the chunk
number_first : (t : PType) (first rest : List ℕ) → length first ≡ byte_width t → number_at t (first ++ rest) 0 ≡ number_of t first
number_first t first rest e =
    let none : 0 * byte_width t ≡ 0 = omega arith in
    ap (λ (m : ℕ). number_of t (take (byte_width t) (drop m (first ++ rest)))) none
    ∙ ap (number_of t) (take-append-le (byte_width t) first rest (omega arith) ∙ take_all (byte_width t) first (omega arith))

chunk_by_chunk : (t : PType) (n : ℕ) (s : _) → chunks_exact_size s ≡ byte_width t
    → n * byte_width t ≤ length (chunks_exact_rest s) → length (chunks_exact_rest s) < n * byte_width t + byte_width t
    → AlwaysYields chunks_exact_steps (λ x. number_of t x.now) s (map (number_at t (chunks_exact_rest s)) (range_with_len 0 n))
chunk_by_chunk t zero s wide low high = λ x j p.
    let long = ap length p.1.0 ∙ length-append x.now (chunks_exact_rest j) in
    omega (arith, long, p.1.1, wide, high)
chunk_by_chunk t (suc n) s wide low high = (
  (λ j p. omega (arith, p.1.0, wide, low)),
  λ x j p.
      let size : length x.now ≡ byte_width t = p.1.1 ∙ wide in
      let long : length (chunks_exact_rest s) ≡ length x.now + length (chunks_exact_rest j) = ap length p.1.0 ∙ length-append x.now (chunks_exact_rest j) in
      let rest = chunk_by_chunk t n j (p.0 ∙ wide) (omega (arith, long, size, low)) (omega (arith, long, size, high)) in
      let same : map (number_at t (x.now ++ chunks_exact_rest j)) (range_with_len (0 + 1) n) ≡ map (number_at t (chunks_exact_rest j)) (range_with_len 0 n) =
      map_range_same (number_at t (x.now ++ chunks_exact_rest j)) (number_at t (chunks_exact_rest j)) (0 + 1) 0 n (λ i l. number_past t x.now (chunks_exact_rest j) i size) in (
        sym (ap (λ (ys : List ℕ). number_at t ys 0) p.1.0 ∙ number_first t x.now (chunks_exact_rest j) size),
        subst (AlwaysYields chunks_exact_steps (λ y. number_of t y.now) j) (sym (ap (λ (ys : List ℕ). map (number_at t ys) (range_with_len (0 + 1) n)) p.1.0 ∙ same)) rest,
      ),
)

-- the chunks of bytes give their numbers, one after another
pub numbers_from_chunks : (t : PType) (bs : List ℕ) {s : _} → chunks_exact_rest s ≡ bs → chunks_exact_size s ≡ byte_width t
    → YieldsList chunks_exact_steps (λ x. number_of t x.now) s (numbers t bs)
unfolding numbers
numbers_from_chunks t bs {s} same wide =
    let n : ℕ = length (chunks_exact_rest s) / byte_width t in
    subst (λ (ys : List ℕ). YieldsList chunks_exact_steps (λ x. number_of t x.now) s (map (number_at t ys) (range_with_len 0 (length ys / byte_width t)))) same
    (record { runs = chunk_by_chunk t n s wide (div-mul-le_self (length (chunks_exact_rest s)) (byte_width t)) (lt-div-mul-add (width_pos t)) })
