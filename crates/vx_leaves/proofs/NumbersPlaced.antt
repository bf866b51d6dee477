-- Numbers that are written over others, at their places.
use Rattle.std.proofs.Common.{ℕ, ◌+◌, ◌-◌, ◌*◌, ◌/◌, ◌<◌, ◌≤◌, ◌≡◌, cond, List, [], ◌∷◌, ◌++◌, length, take, drop, map, min, replicate, inl, inr, refl, sym, ◌∙◌, ap, length-take, length-drop, arith}
use Rattle.std.specs.Prelude.{ℤ, pos, slice_range, ◌&&◌, nat_lt}
use Rattle.std.proofs.Math.Nat.{mul-le-mul_right}
use Rattle.std.proofs.lemmas.Bool.{cases_lt, lt-ltb, le-ltb}
use Rattle.std.proofs.lemmas.Nat.{le-div}
use Rattle.std.proofs.lemmas.List.{get_or-take, get_or-drop, get_or_past, take_all, length-map, get_or-map, get_or-replicate, drop-take, length-replicate}
use Rattle.std.proofs.lemmas.Slice.{take-put_mid_below, between-put_mid, drop-put_mid}
use borrow.Rule.Slice.PartMut.{put_mid, same_len_mid}
use Rattle.vx_base.specs.Integers.{byte_width, bytes_of, number_nth, numbers, Holds}
use Rattle.vx_base.specs.MaskRuns.{is_in_run}
use Rattle.vx_base.specs.declared.ptypes.PType.{PType}
use Rattle.vx_base.proofs.MaskRuns.{run_in, run_before, run_past}
use Rattle.vx_base.proofs.NumberLists.{width_pos, length-bytes_of, length_numbers, numbers_between, numbers_long, numbers_none, numbers_push, numbers_room}
use Rattle.vx_base.proofs.Zeroes.{zeroes-of_bytes}

part_at : (zs : List ℤ) (a b q : ℕ) → q < b - a → number_nth (slice_range zs a b) q ≡ number_nth zs (a + q)
part_at zs a b q l = get_or-take (b - a) (drop a zs) q (pos 0) l ∙ get_or-drop a zs q (pos 0)

-- parts of bytes that are the same hold the same numbers
pub same_part : (t : PType) (xs ys : List ℕ) (a b c e : ℕ) → a ≤ b → b * byte_width t ≤ length xs → c ≤ e → e * byte_width t ≤ length ys
    → slice_range xs (a * byte_width t) (b * byte_width t) ≡ slice_range ys (c * byte_width t) (e * byte_width t)
    → (q : ℕ) → q < b - a → q < e - c → number_nth (numbers t xs) (a + q) ≡ number_nth (numbers t ys) (c + q)
same_part t xs ys a b c e le within le' within' same q l l' =
    sym (part_at (numbers t xs) a b q l)
    ∙ ap (λ zs. number_nth zs q) (sym (numbers_between t xs a b le within) ∙ ap (numbers t) same ∙ numbers_between t ys c e le' within')
    ∙ part_at (numbers t ys) c e q l'

part_of_front : (xs : List ℕ) (a b : ℕ) → a ≤ b → slice_range xs a b ≡ drop a (take b xs)
part_of_front xs a b le = let size : a + (b - a) ≡ b = omega arith in sym (ap (λ n. drop a (take n xs)) (sym size) ∙ drop-take a (b - a) xs)

-- m numbers in the place of those from place i on
module _ (t : PType) (xs ys : List ℕ) (i m : ℕ) (size : length ys ≡ m * byte_width t) (within : i + m ≤ length (numbers t xs)) where
  abbrev new : List ℕ
  new = put_mid (i * byte_width t) (m * byte_width t) xs ys

  room : (i + m) * byte_width t ≤ length xs
  room = numbers_room t xs (i + m) within

  room_split : i * byte_width t + m * byte_width t ≤ length xs
  room_split = omega (arith, room)

  new_long : length new ≡ length xs
  new_long = same_len_mid (i * byte_width t) (m * byte_width t) xs ys (omega (arith, size, room_split, length-take (m * byte_width t) (drop (i * byte_width t) xs), length-drop (i * byte_width t) xs))

  count_long : length (numbers t new) ≡ length (numbers t xs)
  count_long = length_numbers t new ∙ ap (λ n. n / byte_width t) new_long ∙ sym (length_numbers t xs)

  put_before : (j : ℕ) → j < i → number_nth (numbers t new) j ≡ number_nth (numbers t xs) j
  put_before j l =
      let le : j * byte_width t ≤ i * byte_width t = mul-le-mul_right (byte_width t) (omega arith) in
      let front : take (i * byte_width t) new ≡ take (i * byte_width t) xs = take-put_mid_below (i * byte_width t) (m * byte_width t) xs ys (i * byte_width t) (omega arith) (omega (arith, room_split)) in
      let here : j + 0 ≡ j = omega arith in
      let told = same_part t new xs j i j i (omega arith) (omega (arith, room_split, new_long)) (omega arith) (omega (arith, room_split))
      (part_of_front new (j * byte_width t) (i * byte_width t) le ∙ ap (drop (j * byte_width t)) front ∙ sym (part_of_front xs (j * byte_width t) (i * byte_width t) le)) 0 (omega arith) (omega arith) in
      rw here at told

  put_after : (j : ℕ) → i + m ≤ j → number_nth (numbers t new) j ≡ number_nth (numbers t xs) j
  put_after j ge = elim (cases_lt j (length (numbers t xs))) [
    | inl there ↦
        let n = length (numbers t xs) in
        let all : n * byte_width t ≤ length xs = numbers_room t xs n (omega arith) in
        let past : (i + m) * byte_width t ≤ j * byte_width t = mul-le-mul_right (byte_width t) ge in
        let rest : drop (j * byte_width t) new ≡ drop (j * byte_width t) xs = drop-put_mid (i * byte_width t) (m * byte_width t) xs ys (j * byte_width t) (omega (arith, past)) (omega (arith, room_split)) size in
        let here : j + 0 ≡ j = omega arith in
        let told = same_part t new xs j n j n (omega arith) (omega (arith, all, new_long)) (omega arith) all (ap (take (n * byte_width t - j * byte_width t)) rest) 0 (omega arith) (omega arith) in
        rw here at told
    | inr past ↦ get_or_past (numbers t new) j (pos 0) (omega (arith, count_long)) ∙ sym (get_or_past (numbers t xs) j (pos 0) past)
  ]

  put_there : (vs : List ℕ) (c : ℕ) → c + m ≤ length (numbers t vs) → ys ≡ slice_range vs (c * byte_width t) ((c + m) * byte_width t) → (q : ℕ) → q < m → number_nth (numbers t new) (i + q) ≡ number_nth (numbers t vs) (c + q)
  put_there vs c fits is q l =
      let part : slice_range new (i * byte_width t) ((i + m) * byte_width t) ≡ ys = between-put_mid (i * byte_width t) (m * byte_width t) xs ys ((i + m) * byte_width t) (omega (arith, room_split)) (omega (arith, size)) in
      same_part t new vs i (i + m) c (c + m) (omega arith) (omega (arith, room, new_long)) (omega arith) (numbers_room t vs (c + m) fits) (part ∙ is) q (omega arith) (omega arith)

-- values from place c on, over those of a run from its start on, as far as there are values
pub values_put : (t : PType) (xs vs ys : List ℕ) (run : ℕ × ℕ) (a k next c m : ℕ) → run.0 ≤ run.1 → run.1 * byte_width t ≤ length xs → c ≡ min next (length (numbers t vs))
    → m ≡ min (run.1 - run.0) (length (numbers t vs) - c) → a ≡ run.0 * byte_width t → k ≡ m * byte_width t → ys ≡ slice_range vs (c * byte_width t) ((c + m) * byte_width t)
    → (j : ℕ) → number_nth (numbers t (put_mid a k xs ys)) j
    ≡ cond (is_in_run run j && nat_lt (next + (j - run.0)) (length (numbers t vs))) (number_nth (numbers t vs) (next + (j - run.0))) (number_nth (numbers t xs) j)
values_put t xs vs ys run a k next c m order room c_is m_is a_is k_is is j = rw (a_is, k_is) (elim (cases_lt j run.0) [
  | inl low ↦ put_before t xs ys run.0 m size within j low ∙ sym (ap (λ b. cond (b && nat_lt (next + (j - run.0)) count) value old) (run_before run j low))
  | inr ge ↦ elim (cases_lt j (run.0 + m)) [
    | inl here ↦
        let place : run.0 + (j - run.0) ≡ j = omega arith in
        let from : c + (j - run.0) ≡ next + (j - run.0) = omega arith in
        let told = put_there t xs ys run.0 m size within vs c fits is (j - run.0) (omega arith) in
        (rw (place, from) at told)
        ∙ sym (ap (λ b. cond (b && nat_lt (next + (j - run.0)) count) value old) (run_in run j ge (omega arith)) ∙ ap (λ b. cond b value old) (lt-ltb (next + (j - run.0)) count (omega arith)))
    | inr past ↦ put_after t xs ys run.0 m size within j past ∙ sym (ap (λ b. cond b value old) (elim (cases_lt j run.1) [
      | inl inside ↦ ap (λ b. b && nat_lt (next + (j - run.0)) count) (run_in run j ge inside) ∙ le-ltb (next + (j - run.0)) count (omega arith)
      | inr out ↦ ap (λ b. b && nat_lt (next + (j - run.0)) count) (run_past run j out)
    ]))
  ]
])
  where
    count : ℕ
    count = length (numbers t vs)

    value : ℤ
    value = number_nth (numbers t vs) (next + (j - run.0))

    old : ℤ
    old = number_nth (numbers t xs) j

    fits : c + m ≤ length (numbers t vs)
    fits = omega arith

    size : length ys ≡ m * byte_width t
    size = ap length is ∙ numbers_long t vs c (c + m) (omega arith) (numbers_room t vs (c + m) fits) ∙ ap (λ n. n * byte_width t) (omega arith)

    within : run.0 + m ≤ length (numbers t xs)
    within = let all : run.1 ≤ length xs / byte_width t = le-div run.1 (length xs) (byte_width t) (width_pos t) room in omega (arith, all, length_numbers t xs)

-- one number in its place
pub number_put : (t : PType) (xs ys : List ℕ) (zs : List ℤ) (a k i : ℕ) (z : ℤ) → a ≡ i * byte_width t → k ≡ byte_width t → ys ≡ bytes_of t z → Holds t z → z ≡ number_nth zs i → i < length (numbers t xs)
    → (j : ℕ) → number_nth (numbers t (put_mid a k xs ys)) j ≡ cond (is_in_run (i, i + 1) j) (number_nth zs j) (number_nth (numbers t xs) j)
number_put t xs ys zs a k i z a_is k_is bytes held z_is inside j = rw (a_is, one) (elim (cases_lt j i) [
  | inl low ↦ put_before t xs ys i 1 size within j low ∙ sym (ap (λ b. cond b (number_nth zs j) old) (run_before (i, i + 1) j low))
  | inr ge ↦ elim (cases_lt j (i + 1)) [
    | inl here ↦
        let place : i + 0 ≡ j = omega arith in
        let here_is : i ≡ j = omega arith in
        let told = put_there t xs ys i 1 size within ys 0 (omega (arith, ap length numbers_one)) whole 0 (omega arith) in
        (rw place at told) ∙ ap (λ us. number_nth us 0) numbers_one ∙ z_is ∙ ap (number_nth zs) here_is ∙ sym (ap (λ b. cond b (number_nth zs j) old) (run_in (i, i + 1) j ge here))
    | inr past ↦ put_after t xs ys i 1 size within j past ∙ sym (ap (λ b. cond b (number_nth zs j) old) (run_past (i, i + 1) j past))
  ]
])
  where
    old : ℤ
    old = number_nth (numbers t xs) j

    one : k ≡ 1 * byte_width t
    one = omega (arith, k_is)

    size : length ys ≡ 1 * byte_width t
    size = omega (arith, ap length bytes, length-bytes_of t z)

    within : i + 1 ≤ length (numbers t xs)
    within = omega arith

    none : 0 * byte_width t ≡ 0
    none = omega arith

    whole : ys ≡ slice_range ys (0 * byte_width t) ((0 + 1) * byte_width t)
    whole = rw none (sym (take_all ((0 + 1) * byte_width t - 0) ys (omega (arith, size))))

    numbers_one : numbers t ys ≡ z ∷ []
    numbers_one = ap (numbers t) bytes ∙ numbers_push t [] 0 z (sym none) held ∙ ap (λ us. us ++ z ∷ []) (numbers_none t)

-- a place before the end of whole numbers is that of one
pub room_at : (t : PType) (xs : List ℕ) (i n : ℕ) → i < n → n * byte_width t ≤ length xs → i < length (numbers t xs)
room_at t xs i n inside room = let all : n ≤ length xs / byte_width t = le-div n (length xs) (byte_width t) (width_pos t) room in omega (arith, all, length_numbers t xs)

-- the values that are taken are there
pub taken_room : (t : PType) (vs : List ℕ) (next room count c m width : ℕ) → width ≡ byte_width t → count ≡ length (numbers t vs) → c ≡ min next count → m ≡ min room (count - c)
    → (c * width ≤ length vs) × ((c + m) * width ≤ length vs)
taken_room t vs next room count c m width wide count_is c_is m_is =
    rw wide (numbers_room t vs c (omega arith), numbers_room t vs (c + m) (omega arith))

-- bytes that are 0 hold numbers that are 0
pub zero_nth : (t : PType) (n : ℕ) (bs : List ℕ) (j : ℕ) → bs ≡ replicate (n * byte_width t) 0 → number_nth (numbers t bs) j ≡ pos 0
zero_nth t n bs j made =
    let zeroes : List ℕ = replicate n 0 in
    let long : length zeroes ≡ n = length-replicate {A = ℕ} n 0 in
    ap (λ zs. number_nth zs j) (zeroes-of_bytes t n (n * byte_width t) bs made refl) ∙ elim (cases_lt j n) [
      | inl inside ↦ get_or-map pos zeroes j 0 (pos 0) (omega (arith, long)) ∙ ap pos (get_or-replicate {A = ℕ} n j 0 0 inside)
      | inr past ↦ get_or_past (map pos zeroes) j (pos 0) (omega (arith, length-map zeroes pos, long))
    ]
