-- Values of rows that are put into a column: one piece more, and the column that they make.
use Rattle.std.proofs.Common.{◌≡◌, ◌∙◌, ◌+◌, ◌<◌, ◌^◌, ℕ, Bool, true, List, [], ◌∷◌, ◌++◌, length, map}
use Rattle.std.proofs.Common.{replicate, refl, sym, ap, subst, arith}
use Rattle.std.specs.List.{All}
use Rattle.std.proofs.lemmas.List.Elements.{All-head, All-tail}
use Rattle.std.proofs.lemmas.List.{length-map, map-append}
use Rattle.vx_base.specs.Kinds.{Kind, integer_type, integers}
use Rattle.vx_base.specs.Rows.{Row, is_present}
use Rattle.vx_base.specs.declared.ptypes.PType.{PType}
use Rattle.vx_text.specs.Filling.{Filling, filling}
use Rattle.vx_pack.specs.Packed.{bytes_of_numbers, number_or_zero}
use Rattle.vx_pack.specs.Pieces.{IsPiece, piece_rows}
use Rattle.vx_pack.specs.StoredTexts.{ArePushed, bytes_or_empty}
use Rattle.vx_pack.specs.declared.pieces.Piece.{Piece}
use Rattle.vx_pack.proofs.FilledTexts.{ArePushed-append}
use Rattle.vx_pack.proofs.WrittenBack.{bytes_of_numbers-append}

-- ---- values

pub told_more : {A : Type 0} (f : Row → A) (rs ss : List Row) (xs ys : List A) → xs ≡ map f rs → ys ≡ xs ++ map f ss → ys ≡ map f (rs ++ ss)
told_more f rs ss xs ys before more = more ∙ ap (λ zs. zs ++ map f ss) before ∙ sym (map-append f rs ss)

pub numbers_more : (t : PType) (rs ss : List Row) (xs ys : List ℕ) → xs ≡ bytes_of_numbers t (map number_or_zero rs)
    → ys ≡ xs ++ bytes_of_numbers t (map number_or_zero ss) → ys ≡ bytes_of_numbers t (map number_or_zero (rs ++ ss))
numbers_more t rs ss xs ys before more =
    more ∙ ap (λ zs. zs ++ bytes_of_numbers t (map number_or_zero ss)) before
    ∙ sym (ap (bytes_of_numbers t) (map-append number_or_zero rs ss)
    ∙ bytes_of_numbers-append t (map number_or_zero rs) (map number_or_zero ss))

pub texts_more : (rs ss : List Row) (f g : Filling) → ArePushed (filling [] [] []) (map bytes_or_empty rs) f
    → ArePushed f (map bytes_or_empty ss) g → ArePushed (filling [] [] []) (map bytes_or_empty (rs ++ ss)) g
texts_more rs ss f g before more =
    subst (λ vs. ArePushed (filling [] [] []) vs g) (sym (map-append bytes_or_empty rs ss))
    (ArePushed-append (filling [] [] []) f g (map bytes_or_empty rs) (map bytes_or_empty ss) before more)

-- what is told of rows is as long as they are
pub told_fits : {A : Type 0} (f : Row → A) (rs : List Row) (xs : List A) (n : ℕ) → xs ≡ map f rs → length rs + n < 2 ^ 64
    → length xs + n < 2 ^ 64
told_fits f rs xs n are fits = omega (arith, ap length are, length-map rs f, fits)

-- numbers of a type, read under the kind of integers
pub numbers_under : (t : PType) (k : Kind) (n : Bool) (rs : List Row) (p : Piece) (xs ys : List ℕ) → k ≡ integers t n
    → xs ≡ bytes_of_numbers t (map number_or_zero rs) → IsPiece k p
    → ((m : Bool) → IsPiece (integers t m) p → ys ≡ xs ++ bytes_of_numbers t (map number_or_zero (piece_rows (integers t m) p)))
    → ys ≡ bytes_of_numbers t (map number_or_zero (rs ++ piece_rows k p))
numbers_under t k n rs p xs ys kind before piece more =
    numbers_more t rs (piece_rows k p) xs ys before
    (subst (λ x. ys ≡ xs ++ bytes_of_numbers t (map number_or_zero (piece_rows x p))) (sym kind)
    (more n (subst (λ x. IsPiece x p) kind piece)))

-- ---- rows that are there

-- bytes of numbers of the same type, at the end of others
pub list_numbers_more : (t u : PType) (k : Kind) (n m : Bool) (rs more : List Row) (old new made : List ℕ)
    → k ≡ integers t n → k ≡ integers u m
    → old ≡ bytes_of_numbers u (map number_or_zero rs) → new ≡ old ++ made → made ≡ bytes_of_numbers t (map number_or_zero more)
    → new ≡ bytes_of_numbers u (map number_or_zero (rs ++ more))
list_numbers_more t u k n m rs more old new made kind held before after is =
    let types : t ≡ u = ap integer_type (sym kind ∙ held) in
    numbers_more u rs more old new before
    (after ∙ ap (λ bs. old ++ bs) (is ∙ ap (λ x. bytes_of_numbers x (map number_or_zero more)) types))

pub told_there : (rs : List Row) (n : ℕ) → length rs ≡ n → All (λ r. is_present r ≡ true) rs → replicate n true ≡ map is_present rs
told_there rs n count all = ap (λ m. replicate m true) (sym count) ∙ each rs all
  where
    each : (rs : List Row) → All (λ r. is_present r ≡ true) rs → replicate (length rs) true ≡ map is_present rs
    each [] all = refl
    each (r ∷ rs) all =
        let first : is_present r ≡ true = All-head (λ x. is_present x ≡ true) r rs all in
        let rest = each rs (All-tail (λ x. is_present x ≡ true) r rs all) in
        (λ j. sym first j ∷ rest j)
