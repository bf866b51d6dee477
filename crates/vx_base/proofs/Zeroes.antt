-- Bytes that are all 0 are numbers that are all 0.
use Rattle.std.proofs.Common.{ℕ, zero, suc, ◌+◌, ◌*◌, ◌≡◌, List, [], ◌∷◌, ◌++◌, length, map, replicate, refl, sym, ◌∙◌, ap, arith}
use Rattle.std.specs.Prelude.{ℤ, pos}
use Rattle.std.proofs.lemmas.Int.{ints}
use Rattle.std.proofs.lemmas.List.{length-replicate, replicate-append-replicate}
use Rattle.vx_base.specs.declared.ptypes.PType.{PType}
use Rattle.vx_base.specs.declared.ptypes.PType.TheVariants.{U8, U16, U32, U64, I8, I16, I32, I64}
use Rattle.vx_base.specs.Integers.{byte_width, bytes_of, numbers, number_nth, Holds}
use Rattle.vx_base.proofs.NumberLists.{numbers_none, numbers_push}
use Rattle.vx_base.proofs.Repeated.{map_repeated}

pub holds-zero : (t : PType) → Holds t (pos 0)
holds-zero U8 = (omega (arith, ints), omega (arith, ints))
holds-zero U16 = (omega (arith, ints), omega (arith, ints))
holds-zero U32 = (omega (arith, ints), omega (arith, ints))
holds-zero U64 = (omega (arith, ints), omega (arith, ints))
holds-zero I8 = (omega (arith, ints), omega (arith, ints))
holds-zero I16 = (omega (arith, ints), omega (arith, ints))
holds-zero I32 = (omega (arith, ints), omega (arith, ints))
holds-zero I64 = (omega (arith, ints), omega (arith, ints))

bytes_of-zero : (t : PType) → bytes_of t (pos 0) ≡ replicate (byte_width t) 0
bytes_of-zero U8 = refl
bytes_of-zero U16 = refl
bytes_of-zero U32 = refl
bytes_of-zero U64 = refl
bytes_of-zero I8 = refl
bytes_of-zero I16 = refl
bytes_of-zero I32 = refl
bytes_of-zero I64 = refl

pub numbers-zeroes : (t : PType) (n : ℕ) → numbers t (replicate {A = ℕ} (n * byte_width t) 0) ≡ map pos (replicate {A = ℕ} n 0)
numbers-zeroes t zero =
    let none : 0 * byte_width t ≡ 0 = omega arith in
    ap (λ k. numbers t (replicate {A = ℕ} k 0)) none ∙ numbers_none t
numbers-zeroes t (suc n) =
    let more : suc n * byte_width t ≡ n * byte_width t + byte_width t = omega arith in
    let one : n + 1 ≡ suc n = omega arith in
    let bytes : replicate {A = ℕ} (suc n * byte_width t) 0 ≡ replicate {A = ℕ} (n * byte_width t) 0 ++ bytes_of t (pos 0) =
    ap (λ k. replicate {A = ℕ} k 0) more ∙ sym (replicate-append-replicate {A = ℕ} (n * byte_width t) (byte_width t) 0)
    ∙ ap (λ bs. replicate {A = ℕ} (n * byte_width t) 0 ++ bs) (sym (bytes_of-zero t)) in
    let values : map pos (replicate {A = ℕ} n 0) ++ pos 0 ∷ [] ≡ map pos (replicate {A = ℕ} (suc n) 0) =
    ap (λ zs. zs ++ pos 0 ∷ []) (map_repeated {X = ℕ} pos 0 n) ∙ replicate-append-replicate n 1 (pos 0) ∙ ap (λ k. replicate k (pos 0)) one ∙ sym (map_repeated {X = ℕ} pos 0 (suc n)) in
    ap (numbers t) bytes ∙ numbers_push t (replicate {A = ℕ} (n * byte_width t) 0) n (pos 0) (length-replicate {A = ℕ} (n * byte_width t) 0) (holds-zero t)
    ∙ ap (λ zs. zs ++ pos 0 ∷ []) (numbers-zeroes t n) ∙ values

-- bytes that are all 0, as many as the numbers take
pub zeroes-of_bytes : (t : PType) (n k : ℕ) (bs : List ℕ) → bs ≡ replicate {A = ℕ} k 0 → k ≡ n * byte_width t → numbers t bs ≡ map pos (replicate {A = ℕ} n 0)
zeroes-of_bytes t n k bs e size = ap (numbers t) (e ∙ ap (λ m. replicate {A = ℕ} m 0) size) ∙ numbers-zeroes t n

-- one 0 of a list, again and again
pub zeroes_repeated : (zs : List ℤ) (k n : ℕ) (ps : List ℕ) → ps ≡ replicate n k → number_nth zs k ≡ pos 0 → map (number_nth zs) ps ≡ map pos (replicate {A = ℕ} (length ps) 0)
zeroes_repeated zs k n ps e zero_at =
    ap (map (number_nth zs)) e ∙ map_repeated (number_nth zs) k n ∙ ap (replicate n) zero_at ∙ sym (map_repeated {X = ℕ} pos 0 n)
    ∙ ap (λ m. map pos (replicate {A = ℕ} m 0)) (sym (ap length e ∙ length-replicate n k))
