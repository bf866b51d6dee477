-- Views as numbers of 16 bytes, whose buffer is numbered further.
use Rattle.std.proofs.Common.{ℕ, ◌+◌, ◌*◌, ◌/◌, ◌%◌, ◌^◌, ◌<◌, ◌≡◌, List, [], ◌∷◌, ◌++◌, take, drop, refl, sym, ◌∙◌, ap, arith}
use Rattle.std.specs.Int.{w32, w64, w128, from_le_bytes, to_le_bytes}
use Rattle.std.proofs.lemmas.Nat.{le_bytes_4, le_bytes_8}
use Rattle.vx_views.proofs.Padding.{bytes-take, bytes-drop}
use Rattle.vx_views.specs.Views.{IsView, number_le, view_size, view_prefix, view_block, view_offset, ref_view}

-- the bytes of a number of which 64 bits, 32 and 32 more are told apart
module _ (l m h : ℕ) (low : l < 2 ^ 64) (mid : m < 2 ^ 32) (high : h < 2 ^ 32) where
  abbrev all : ℕ
  all = l + m * 2 ^ 64 + h * 2 ^ 96

  byte_0 : all % 256 ≡ l % 256
  byte_0 = omega (arith, low, mid, high)

  byte_1 : all / 256 % 256 ≡ l / 256 % 256
  byte_1 = omega (arith, low, mid, high)

  byte_2 : all / 65536 % 256 ≡ l / 65536 % 256
  byte_2 = omega (arith, low, mid, high)

  byte_3 : all / 16777216 % 256 ≡ l / 16777216 % 256
  byte_3 = omega (arith, low, mid, high)

  byte_4 : all / 4294967296 % 256 ≡ l / 4294967296 % 256
  byte_4 = omega (arith, low, mid, high)

  byte_5 : all / 1099511627776 % 256 ≡ l / 1099511627776 % 256
  byte_5 = omega (arith, low, mid, high)

  byte_6 : all / 281474976710656 % 256 ≡ l / 281474976710656 % 256
  byte_6 = omega (arith, low, mid, high)

  byte_7 : all / 72057594037927936 % 256 ≡ l / 72057594037927936 % 256
  byte_7 = omega (arith, low, mid, high)

  byte_8 : all / 18446744073709551616 % 256 ≡ m % 256
  byte_8 = omega (arith, low, mid, high)

  byte_9 : all / 4722366482869645213696 % 256 ≡ m / 256 % 256
  byte_9 = omega (arith, low, mid, high)

  byte_10 : all / 1208925819614629174706176 % 256 ≡ m / 65536 % 256
  byte_10 = omega (arith, low, mid, high)

  byte_11 : all / 309485009821345068724781056 % 256 ≡ m / 16777216 % 256
  byte_11 = omega (arith, low, mid, high)

  byte_12 : all / 79228162514264337593543950336 % 256 ≡ h % 256
  byte_12 = omega (arith, low, mid, high)

  byte_13 : all / 20282409603651670423947251286016 % 256 ≡ h / 256 % 256
  byte_13 = omega (arith, low, mid, high)

  byte_14 : all / 5192296858534827628530496329220096 % 256 ≡ h / 65536 % 256
  byte_14 = omega (arith, low, mid, high)

  byte_15 : all / 1329227995784915872903807060280344576 % 256 ≡ h / 16777216 % 256
  byte_15 = omega (arith, low, mid, high)

  wide_bytes : to_le_bytes w128 all ≡ to_le_bytes w64 l ++ to_le_bytes w32 m ++ to_le_bytes w32 h
  wide_bytes i = byte_0 i ∷ byte_1 i ∷ byte_2 i ∷ byte_3 i ∷ byte_4 i ∷ byte_5 i ∷ byte_6 i ∷ byte_7 i ∷ byte_8 i ∷ byte_9 i ∷ byte_10 i ∷ byte_11 i ∷ byte_12 i ∷ byte_13 i ∷ byte_14 i ∷ byte_15 i ∷ []

-- the number of the buffer is bits 64 to 95
numbered_further : (n : ℕ) (view : List ℕ) → IsView view → n + view_block view < 2 ^ 32
    → to_le_bytes w128 (from_le_bytes w128 view + n * 2 ^ 64) ≡ take 8 view ++ to_le_bytes w32 (n + view_block view) ++ drop 12 view
unfolding number_le
numbered_further n (a ∷ b ∷ c ∷ d ∷ e ∷ f ∷ g ∷ h ∷ i ∷ j ∷ k ∷ l ∷ m ∷ o ∷ p ∷ q ∷ []) view small =
    let whole = a ∷ b ∷ c ∷ d ∷ e ∷ f ∷ g ∷ h ∷ i ∷ j ∷ k ∷ l ∷ m ∷ o ∷ p ∷ q ∷ [] in
    let first = a ∷ b ∷ c ∷ d ∷ e ∷ f ∷ g ∷ h ∷ [] in
    let last = m ∷ o ∷ p ∷ q ∷ [] in
    let low : from_le_bytes w64 first < 2 ^ 64 = omega (arith, view.bytes 0, view.bytes 1, view.bytes 2, view.bytes 3, view.bytes 4, view.bytes 5, view.bytes 6, view.bytes 7) in
    let high : from_le_bytes w32 last < 2 ^ 32 = omega (arith, view.bytes 12, view.bytes 13, view.bytes 14, view.bytes 15) in
    let parts : from_le_bytes w128 (a ∷ b ∷ c ∷ d ∷ e ∷ f ∷ g ∷ h ∷ i ∷ j ∷ k ∷ l ∷ m ∷ o ∷ p ∷ q ∷ []) + n * 2 ^ 64
    ≡ from_le_bytes w64 first + (n + from_le_bytes w32 (i ∷ j ∷ k ∷ l ∷ [])) * 2 ^ 64 + from_le_bytes w32 last * 2 ^ 96 = omega arith in
    ap (to_le_bytes w128) parts ∙ wide_bytes (from_le_bytes w64 first) (n + from_le_bytes w32 (i ∷ j ∷ k ∷ l ∷ [])) (from_le_bytes w32 last) low small high
    ∙ ap (λ bs. bs ++ to_le_bytes w32 (n + from_le_bytes w32 (i ∷ j ∷ k ∷ l ∷ [])) ++ to_le_bytes w32 (from_le_bytes w32 last)) (le_bytes_8 first (from_le_bytes w64 first) refl (bytes-take 8 whole view.bytes) refl)
    ∙ ap (λ bs. first ++ to_le_bytes w32 (n + from_le_bytes w32 (i ∷ j ∷ k ∷ l ∷ [])) ++ bs) (le_bytes_4 last (from_le_bytes w32 last) refl (bytes-drop 12 whole view.bytes) refl)
numbered_further n view v small = absurd (omega (arith, v.sixteen))

-- a view that refers to its value
pub view_further : (n : ℕ) (view : List ℕ) → IsView view → n + view_block view < 2 ^ 32
    → to_le_bytes w128 (from_le_bytes w128 view + n * 2 ^ 64) ≡ ref_view (view_size view) (view_prefix view) (n + view_block view) (view_offset view)
unfolding number_le ref_view
view_further n (a ∷ b ∷ c ∷ d ∷ e ∷ f ∷ g ∷ h ∷ i ∷ j ∷ k ∷ l ∷ m ∷ o ∷ p ∷ q ∷ []) view small =
    let whole = a ∷ b ∷ c ∷ d ∷ e ∷ f ∷ g ∷ h ∷ i ∷ j ∷ k ∷ l ∷ m ∷ o ∷ p ∷ q ∷ [] in
    let size = le_bytes_4 (a ∷ b ∷ c ∷ d ∷ []) (from_le_bytes w32 (a ∷ b ∷ c ∷ d ∷ [])) refl (bytes-take 4 whole view.bytes) refl in
    let offset = le_bytes_4 (m ∷ o ∷ p ∷ q ∷ []) (from_le_bytes w32 (m ∷ o ∷ p ∷ q ∷ [])) refl (bytes-drop 12 whole view.bytes) refl in
    numbered_further n whole view small
    ∙ ap (λ bs. bs ++ (e ∷ f ∷ g ∷ h ∷ []) ++ to_le_bytes w32 (n + from_le_bytes w32 (i ∷ j ∷ k ∷ l ∷ [])) ++ (m ∷ o ∷ p ∷ q ∷ [])) (sym size)
    ∙ ap (λ bs. to_le_bytes w32 (from_le_bytes w32 (a ∷ b ∷ c ∷ d ∷ [])) ++ (e ∷ f ∷ g ∷ h ∷ []) ++ to_le_bytes w32 (n + from_le_bytes w32 (i ∷ j ∷ k ∷ l ∷ [])) ++ bs) (sym offset)
view_further n view v small = absurd (omega (arith, v.sixteen))

-- and one whose number stays
pub view_as_it_is : (view : List ℕ) → IsView view → to_le_bytes w128 (from_le_bytes w128 view + 0 * 2 ^ 64) ≡ view
unfolding number_le
view_as_it_is (a ∷ b ∷ c ∷ d ∷ e ∷ f ∷ g ∷ h ∷ i ∷ j ∷ k ∷ l ∷ m ∷ o ∷ p ∷ q ∷ []) view =
    let whole = a ∷ b ∷ c ∷ d ∷ e ∷ f ∷ g ∷ h ∷ i ∷ j ∷ k ∷ l ∷ m ∷ o ∷ p ∷ q ∷ [] in
    let block : 0 + from_le_bytes w32 (i ∷ j ∷ k ∷ l ∷ []) < 2 ^ 32 = omega (arith, view.bytes 8, view.bytes 9, view.bytes 10, view.bytes 11) in
    numbered_further 0 whole view block
    ∙ ap (λ bs. (a ∷ b ∷ c ∷ d ∷ e ∷ f ∷ g ∷ h ∷ []) ++ bs ++ (m ∷ o ∷ p ∷ q ∷ [])) (le_bytes_4 (i ∷ j ∷ k ∷ l ∷ []) (0 + from_le_bytes w32 (i ∷ j ∷ k ∷ l ∷ [])) refl (bytes-take 4 (i ∷ j ∷ k ∷ l ∷ m ∷ o ∷ p ∷ q ∷ []) (bytes-drop 8 whole view.bytes)) (omega arith))
view_as_it_is view v = absurd (omega (arith, v.sixteen))

-- the number fits 128 bits
pub view_further_fits : (n : ℕ) (view : List ℕ) → IsView view → n + view_block view < 2 ^ 32 → from_le_bytes w128 view + n * 2 ^ 64 < 2 ^ 128
unfolding number_le
view_further_fits n (a ∷ b ∷ c ∷ d ∷ e ∷ f ∷ g ∷ h ∷ i ∷ j ∷ k ∷ l ∷ m ∷ o ∷ p ∷ q ∷ []) view small =
    omega (arith, small, view.bytes 0, view.bytes 1, view.bytes 2, view.bytes 3, view.bytes 4, view.bytes 5, view.bytes 6, view.bytes 7, view.bytes 12, view.bytes 13, view.bytes 14, view.bytes 15)
view_further_fits n view v small = absurd (omega (arith, v.sixteen))
