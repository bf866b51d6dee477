-- What the views of values say: their parts, their words, and the values that they read back.
use Rattle.std.proofs.Common.{◌≡◌, ℕ, zero, suc, ◌+◌, ◌-◌, ◌^◌, ◌<◌, ◌≤◌, cond, min, List, ◌++◌, length, take, drop, refl, sym, ◌∙◌, ap, subst, arith, length-drop, replicate, inl, inr, ◌⊎◌}
use Rattle.std.specs.Prelude.{slice_range}
use Rattle.std.specs.Int.{w32, w64, from_le_bytes, to_le_bytes, from_be_bytes}
use Rattle.std.proofs.lemmas.Nat.{le_bytes_4, from_le_bytes-to_le_bytes_4}
use Rattle.std.proofs.lemmas.List.{length-take-le, take-take, take_all, take-append-drop, take-append-le}
use Rattle.std.proofs.lemmas.Bool.{le-leb, lt-leb, cases_lt}
use Rattle.vx_views.specs.Views.{number_le, view_size, view_prefix, view_block, view_offset, buffer_at, view_value, Resolves, AreBytes, IsView, padded, ref_view, inlined_view, view_of, held_value, IsZeroPadded, StandsAt, view_head, view_order_prefix, view_order_tail, prefix_of, head_of, order_prefix_of, order_tail_of}
use Rattle.vx_views.specs.declared.view.TheConstants.{MAX_INLINED_SIZE}
use Rattle.vx_views.proofs.FourBytes.{four_is, bytes-append}
use Rattle.vx_views.proofs.Padding.{length_padded, take_padded, drop_padded, padded_value, bytes-take, bytes-drop, bytes-padded}

-- ---- a view that holds its value

pub size_of_inlined : (value : List ℕ) → length value < 2 ^ 32 → view_size (inlined_view value) ≡ length value
unfolding number_le inlined_view
size_of_inlined value h = from_le_bytes-to_le_bytes_4 (length value) h

pub rest_of_inlined : (value : List ℕ) → slice_range (inlined_view value) 4 16 ≡ padded MAX_INLINED_SIZE value
unfolding inlined_view
rest_of_inlined value = take_all 12 (padded MAX_INLINED_SIZE value) (omega (arith, length_padded MAX_INLINED_SIZE value))

pub held_by_inlined : (value : List ℕ) → length value ≤ MAX_INLINED_SIZE → held_value (inlined_view value) ≡ value
unfolding inlined_view
held_by_inlined value h =
    let all : 4 + length value - 4 ≡ length value = omega arith in
    ap (λ (n : ℕ). take (4 + n - 4) (padded MAX_INLINED_SIZE value)) (size_of_inlined value (omega arith)) ∙ ap (λ (n : ℕ). take n (padded MAX_INLINED_SIZE value)) all ∙ padded_value MAX_INLINED_SIZE value h

-- the value within what stands after the length
pub held_of_rest : (view rest : List ℕ) (n : ℕ) → rest ≡ slice_range view 4 16 → n ≡ view_size view → n ≤ MAX_INLINED_SIZE → take n rest ≡ held_value view
held_of_rest view rest n e f h =
    ap (take n) e ∙ take-take n 12 (drop 4 view) h ∙ ap (λ (k : ℕ). take k (drop 4 view)) (omega arith)

pub size_of_held : (view : List ℕ) → IsZeroPadded view → length (held_value view) ≡ view_size view
size_of_held view z =
    length-take-le (4 + view_size view - 4) (drop 4 view) (omega (arith, length-drop 4 view, z.formed.sixteen, z.inlined)) ∙ omega arith

pub bytes_of_held : (view : List ℕ) → IsView view → AreBytes (held_value view)
bytes_of_held view formed = bytes-take (4 + view_size view - 4) (drop 4 view) (bytes-drop 4 view formed.bytes)

-- a view with zeroes after its value is the view of the value that it holds
pub inlined_again : (view : List ℕ) → IsZeroPadded view → inlined_view (held_value view) ≡ view
unfolding number_le inlined_view
inlined_again view z =
    let front : to_le_bytes w32 (view_size view) ≡ take 4 view =
    le_bytes_4 (take 4 view) (view_size view) (length-take-le 4 view (omega (arith, z.formed.sixteen))) (bytes-take 4 view z.formed.bytes) refl in
    let rest : drop 4 view ≡ padded MAX_INLINED_SIZE (held_value view) = sym (take_all 12 (drop 4 view) (omega (arith, length-drop 4 view, z.formed.sixteen))) ∙ z.zeroes in
    ap (λ (n : ℕ). to_le_bytes w32 n ++ padded MAX_INLINED_SIZE (held_value view)) (size_of_held view z)
    ∙ ap (λ (bytes : List ℕ). bytes ++ padded MAX_INLINED_SIZE (held_value view)) front
    ∙ ap (λ (bytes : List ℕ). take 4 view ++ bytes) (sym rest)
    ∙ take-append-drop 4 view

pub prefix_of_inlined : (value : List ℕ) → view_prefix (inlined_view value) ≡ prefix_of value
unfolding inlined_view
prefix_of_inlined value = take_padded 4 MAX_INLINED_SIZE value (omega arith)

pub order_prefix_of_inlined : (value : List ℕ) → view_order_prefix (inlined_view value) ≡ order_prefix_of value
unfolding view_order_prefix order_prefix_of
order_prefix_of_inlined value = ap (from_be_bytes w32) (prefix_of_inlined value)

pub order_tail_of_inlined : (value : List ℕ) → view_order_tail (inlined_view value) ≡ order_tail_of value
unfolding view_order_tail order_tail_of inlined_view
order_tail_of_inlined value =
    let rest : drop 4 (padded MAX_INLINED_SIZE value) ≡ padded 8 (drop 4 value) = drop_padded 4 8 MAX_INLINED_SIZE value refl in
    let whole : take 8 (drop 4 (padded MAX_INLINED_SIZE value)) ≡ padded 8 (drop 4 value) = ap (take 8) rest ∙ take_all 8 (padded 8 (drop 4 value)) (omega (arith, length_padded 8 (drop 4 value))) in
    ap (from_be_bytes w64) whole

within : (n : ℕ) → n ≤ 2 ^ 32 - 1 → n ≡ min n (2 ^ 32 - 1)
within n small = omega arith

pub head_of_inlined : (value : List ℕ) → length value < 2 ^ 32 → view_head (inlined_view value) ≡ head_of value
unfolding view_head head_of inlined_view
head_of_inlined value h =
    ap (λ (bytes : List ℕ). from_le_bytes w64 (to_le_bytes w32 (length value) ++ bytes)) (take_padded 4 MAX_INLINED_SIZE value (omega arith))
    ∙ ap (λ (n : ℕ). from_le_bytes w64 (to_le_bytes w32 n ++ prefix_of value)) (within (length value) (omega arith))

-- ---- a view that refers to its value

pub size_of_ref : (size block offset : ℕ) (prefix : List ℕ) → length prefix ≡ 4 → size < 2 ^ 32 → view_size (ref_view size prefix block offset) ≡ size
unfolding number_le ref_view
size_of_ref size block offset prefix e h = ap (λ (p : List ℕ). number_le (ref_view size p block offset) 0) (sym (four_is prefix e)) ∙ from_le_bytes-to_le_bytes_4 size h

pub prefix_of_ref : (size block offset : ℕ) (prefix : List ℕ) → length prefix ≡ 4 → view_prefix (ref_view size prefix block offset) ≡ prefix
unfolding ref_view
prefix_of_ref size block offset prefix e = ap (λ (p : List ℕ). view_prefix (ref_view size p block offset)) (sym (four_is prefix e)) ∙ four_is prefix e

pub block_of_ref : (size block offset : ℕ) (prefix : List ℕ) → length prefix ≡ 4 → block < 2 ^ 32 → view_block (ref_view size prefix block offset) ≡ block
unfolding number_le ref_view
block_of_ref size block offset prefix e h = ap (λ (p : List ℕ). number_le (ref_view size p block offset) 8) (sym (four_is prefix e)) ∙ from_le_bytes-to_le_bytes_4 block h

pub offset_of_ref : (size block offset : ℕ) (prefix : List ℕ) → length prefix ≡ 4 → offset < 2 ^ 32 → view_offset (ref_view size prefix block offset) ≡ offset
unfolding number_le ref_view
offset_of_ref size block offset prefix e h = ap (λ (p : List ℕ). number_le (ref_view size p block offset) 12) (sym (four_is prefix e)) ∙ from_le_bytes-to_le_bytes_4 offset h

pub head_of_ref : (size block offset : ℕ) (prefix : List ℕ) → length prefix ≡ 4 → view_head (ref_view size prefix block offset) ≡ from_le_bytes w64 (to_le_bytes w32 size ++ prefix)
unfolding view_head ref_view
head_of_ref size block offset prefix e =
    ap (λ (p : List ℕ). view_head (ref_view size p block offset)) (sym (four_is prefix e)) ∙ ap (λ (p : List ℕ). from_le_bytes w64 (to_le_bytes w32 size ++ p)) (four_is prefix e)

-- ---- the view of a value

pub view_of_short : (value : List ℕ) (block offset : ℕ) → length value ≤ MAX_INLINED_SIZE → view_of value block offset ≡ inlined_view value
view_of_short value block offset h = ap (λ b. cond b (inlined_view value) (ref_view (length value) (take 4 value) block offset)) (le-leb (length value) MAX_INLINED_SIZE h)

pub view_of_long : (value : List ℕ) (block offset : ℕ) → MAX_INLINED_SIZE < length value → view_of value block offset ≡ ref_view (length value) (take 4 value) block offset
view_of_long value block offset h = ap (λ b. cond b (inlined_view value) (ref_view (length value) (take 4 value) block offset)) (lt-leb (length value) MAX_INLINED_SIZE h)

long_prefix : (value : List ℕ) → MAX_INLINED_SIZE < length value → take 4 value ≡ prefix_of value
unfolding padded
long_prefix value h = sym (take-append-le 4 value (replicate 4 0) (omega arith))

four_long : (value : List ℕ) → MAX_INLINED_SIZE < length value → length (take 4 value) ≡ 4
four_long value h = length-take-le 4 value (omega arith)

head_of_long : (value : List ℕ) → MAX_INLINED_SIZE < length value → length value < 2 ^ 32 → from_le_bytes w64 (to_le_bytes w32 (length value) ++ take 4 value) ≡ head_of value
unfolding head_of
head_of_long value long h =
    ap (λ (bytes : List ℕ). from_le_bytes w64 (to_le_bytes w32 (length value) ++ bytes)) (long_prefix value long)
    ∙ ap (λ (n : ℕ). from_le_bytes w64 (to_le_bytes w32 n ++ prefix_of value)) (within (length value) (omega arith))

pub head_of_view : (value : List ℕ) (block offset : ℕ) → length value < 2 ^ 32 → view_head (view_of value block offset) ≡ head_of value
head_of_view value block offset h = by_length (cases_lt MAX_INLINED_SIZE (length value))
  where
    by_length : (MAX_INLINED_SIZE < length value) ⊎ (length value ≤ MAX_INLINED_SIZE) → view_head (view_of value block offset) ≡ head_of value
    by_length (inl long) = ap view_head (view_of_long value block offset long) ∙ head_of_ref (length value) block offset (take 4 value) (four_long value long) ∙ head_of_long value long h
    by_length (inr short) = ap view_head (view_of_short value block offset short) ∙ head_of_inlined value h

-- ---- reading back

pub value_of_inlined : (buffers : List (List ℕ)) (view : List ℕ) → view_size view ≤ MAX_INLINED_SIZE → view_value buffers view ≡ held_value view
value_of_inlined buffers view h = ap (λ b. cond b (held_value view) (slice_range (buffer_at buffers (view_block view)) (view_offset view) (view_offset view + view_size view))) (le-leb (view_size view) MAX_INLINED_SIZE h)

pub value_of_ref : (buffers : List (List ℕ)) (view : List ℕ) → MAX_INLINED_SIZE < view_size view → view_value buffers view ≡ slice_range (buffer_at buffers (view_block view)) (view_offset view) (view_offset view + view_size view)
value_of_ref buffers view h = ap (λ b. cond b (held_value view) (slice_range (buffer_at buffers (view_block view)) (view_offset view) (view_offset view + view_size view))) (lt-leb (view_size view) MAX_INLINED_SIZE h)

-- the parts of the view of a long value
pub record RefParts (view : List ℕ) (size block offset : ℕ) : Type 0 where
  pub its_size : view_size view ≡ size
  pub its_block : view_block view ≡ block
  pub its_offset : view_offset view ≡ offset

pub parts_of_long : (value : List ℕ) (block offset : ℕ) → MAX_INLINED_SIZE < length value → length value < 2 ^ 32 → block < 2 ^ 32 → offset < 2 ^ 32
    → RefParts (view_of value block offset) (length value) block offset
parts_of_long value block offset long h k l =
    subst {A = List ℕ} (λ view. RefParts view (length value) block offset) (sym (view_of_long value block offset long))
    (record {
      its_size = size_of_ref (length value) block offset (take 4 value) (four_long value long) h;
      its_block = block_of_ref (length value) block offset (take 4 value) (four_long value long) k;
      its_offset = offset_of_ref (length value) block offset (take 4 value) (four_long value long) l;
    })

range_of_parts : (buffers : List (List ℕ)) (view : List ℕ) (size block offset : ℕ) → RefParts view size block offset
    → slice_range (buffer_at buffers (view_block view)) (view_offset view) (view_offset view + view_size view) ≡ slice_range (buffer_at buffers block) offset (offset + size)
range_of_parts buffers view size block offset parts i =
    slice_range (buffer_at buffers (parts.its_block i)) (parts.its_offset i) (parts.its_offset i + parts.its_size i)

-- the bytes of a longer value, where the view that names this place finds them
pub record IsThere (buffers : List (List ℕ)) (value : List ℕ) (block offset : ℕ) : Type 0 where
  pub small : length value < 2 ^ 32
  pub named : block < 2 ^ 32
  pub near : offset < 2 ^ 32
  pub buffer_in : block < length buffers
  pub within : offset + length value ≤ length (buffer_at buffers block)
  pub same : slice_range (buffer_at buffers block) offset (offset + length value) ≡ value

-- a view resolves, and this is its value
pub record ReadsAs (buffers : List (List ℕ)) (view value : List ℕ) : Type 0 where
  pub resolves : Resolves buffers view
  pub reads : view_value buffers view ≡ value

-- a value of at most 12 bytes is read from its view, a longer one from the place that the view names
pub view_of-reads : (buffers : List (List ℕ)) (value : List ℕ) (block offset : ℕ) → (MAX_INLINED_SIZE < length value → IsThere buffers value block offset) → ReadsAs buffers (view_of value block offset) value
view_of-reads buffers value block offset there = by_length (cases_lt MAX_INLINED_SIZE (length value))
  where
    by_length : (MAX_INLINED_SIZE < length value) ⊎ (length value ≤ MAX_INLINED_SIZE) → ReadsAs buffers (view_of value block offset) value
    by_length (inl long) =
        let here = there long in
        let parts : RefParts (view_of value block offset) (length value) block offset = parts_of_long value block offset long here.small here.named here.near in
        record {
          resolves = λ size. (rw parts.its_block here.buffer_in, rw (parts.its_block, parts.its_offset, parts.its_size) here.within);
          reads =
              value_of_ref buffers (view_of value block offset) (omega (arith, parts.its_size))
              ∙ range_of_parts buffers (view_of value block offset) (length value) block offset parts
              ∙ here.same;
        }
    by_length (inr short) =
        let size : view_size (view_of value block offset) ≡ length value = ap view_size (view_of_short value block offset short) ∙ size_of_inlined value (omega arith) in
        record {
          resolves = λ long. absurd (omega arith);
          reads =
              value_of_inlined buffers (view_of value block offset) (omega arith)
              ∙ ap held_value (view_of_short value block offset short)
              ∙ held_by_inlined value short;
        }

pub view_reads_back : (buffers : List (List ℕ)) (value : List ℕ) (block offset : ℕ) → length value < 2 ^ 32 → block < 2 ^ 32 → offset < 2 ^ 32
    → StandsAt buffers value block offset → ReadsAs buffers (view_of value block offset) value
view_reads_back buffers value block offset h k l stands =
    view_of-reads buffers value block offset
    (λ long. record { small = h; named = k; near = l; buffer_in = (stands long).0; within = (stands long).1; same = (stands long).2 })

-- ---- words of the view of a value

pub prefix_of_view : (value : List ℕ) (block offset : ℕ) → view_prefix (view_of value block offset) ≡ prefix_of value
prefix_of_view value block offset = by_length (cases_lt MAX_INLINED_SIZE (length value))
  where
    by_length : (MAX_INLINED_SIZE < length value) ⊎ (length value ≤ MAX_INLINED_SIZE) → view_prefix (view_of value block offset) ≡ prefix_of value
    by_length (inl long) =
        ap view_prefix (view_of_long value block offset long) ∙ prefix_of_ref (length value) block offset (take 4 value) (four_long value long) ∙ long_prefix value long
    by_length (inr short) = ap view_prefix (view_of_short value block offset short) ∙ prefix_of_inlined value

pub order_prefix_of_view : (value : List ℕ) (block offset : ℕ) → view_order_prefix (view_of value block offset) ≡ order_prefix_of value
unfolding view_order_prefix order_prefix_of
order_prefix_of_view value block offset = ap (from_be_bytes w32) (prefix_of_view value block offset)

pub order_tail_of_view : (value : List ℕ) (block offset : ℕ) → length value ≤ MAX_INLINED_SIZE → view_order_tail (view_of value block offset) ≡ order_tail_of value
order_tail_of_view value block offset short = ap view_order_tail (view_of_short value block offset short) ∙ order_tail_of_inlined value

-- ---- zeroes after the value

bytes_of_size : (n : ℕ) → AreBytes (to_le_bytes w32 n)
bytes_of_size n zero = omega arith
bytes_of_size n (suc zero) = omega arith
bytes_of_size n (suc (suc zero)) = omega arith
bytes_of_size n (suc (suc (suc zero))) = omega arith
bytes_of_size n (suc (suc (suc (suc i)))) = omega arith

formed_inlined : (value : List ℕ) → AreBytes value → IsView (inlined_view value)
unfolding inlined_view
formed_inlined value h = record {
  sixteen = omega (arith, length_padded MAX_INLINED_SIZE value);
  bytes = bytes-append (to_le_bytes w32 (length value)) (padded MAX_INLINED_SIZE value) (bytes_of_size (length value)) (bytes-padded MAX_INLINED_SIZE value h);
}

pub padded_view : (value : List ℕ) (block offset : ℕ) → AreBytes value → length value ≤ MAX_INLINED_SIZE → IsZeroPadded (view_of value block offset)
padded_view value block offset h short =
    subst {A = List ℕ} IsZeroPadded (sym (view_of_short value block offset short))
    (record {
      formed = formed_inlined value h;
      inlined = omega (arith, size_of_inlined value (omega arith));
      zeroes = rest_of_inlined value ∙ ap (padded MAX_INLINED_SIZE) (sym (held_by_inlined value short));
    })
