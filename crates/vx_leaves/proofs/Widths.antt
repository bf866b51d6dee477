-- How many numbers bytes hold.
use Rattle.std.proofs.Common.{ℕ, ◌*◌, ◌/◌, ◌%◌, ◌≡◌, List, length, sym, ◌∙◌, ap, arith}
use Rattle.vx_base.specs.Integers.{byte_width, numbers}
use Rattle.vx_base.specs.declared.ptypes.PType.{PType}
use Rattle.vx_base.specs.declared.ptypes.PType.TheVariants.{U8, U16, U32, U64, I8, I16, I32, I64}
use Rattle.vx_base.proofs.NumberLists.{length_numbers}

-- bytes that leave no rest are those of whole numbers
divided : (t : PType) (n : ℕ) → n % byte_width t ≡ 0 → n ≡ n / byte_width t * byte_width t
divided U8 n h = omega arith
divided U16 n h = omega arith
divided U32 n h = omega arith
divided U64 n h = omega arith
divided I8 n h = omega arith
divided I16 n h = omega arith
divided I32 n h = omega arith
divided I64 n h = omega arith

pub whole_bytes : (t : PType) (bs : List ℕ) → length bs % byte_width t ≡ 0 → length bs ≡ length (numbers t bs) * byte_width t
whole_bytes t bs h = divided t (length bs) h ∙ ap (λ n. n * byte_width t) (sym (length_numbers t bs))

-- types of one width have as many numbers in the same bytes
pub same_count : (t u : PType) (bs : List ℕ) → byte_width t ≡ byte_width u → length (numbers t bs) ≡ length (numbers u bs)
same_count t u bs e = length_numbers t bs ∙ ap (λ w. length bs / w) e ∙ sym (length_numbers u bs)
