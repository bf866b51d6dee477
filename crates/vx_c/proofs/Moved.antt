-- Items that are moved from the end of one list to another, which is turned round at last.
use Rattle.std.proofs.Common.{◌≡◌, ℕ, zero, suc, ◌+◌, ◌<◌, List, [], ◌∷◌, ◌++◌, length, map, reverse, take, get_or, refl, sym, ◌∙◌, ap, append_assoc, arith}
use Rattle.std.specs.Prelude.{Some, None, slice_get, unwrap_or}
use Rattle.std.specs.Global.{Vec}
use Rattle.std.specs.Str.{IsUtf8}
use Rattle.std.proofs.lemmas.List.{reverse-append, map-append, take_more, get_or_default}
use Rattle.std.proofs.lemmas.Option.{slice_get_read}
use Rattle.vx_c.specs.declared.table.CodraskView.{CodraskView}
use Rattle.vx_c.specs.Tables.{view_bytes, utf8_fault, name_fault}
use Rattle.vx_c.specs.TablesOf.{view_with}
use Rattle.vx_c.proofs.Names.{utf8_good}
use Rattle.vx_tree.specs.Meaning.{trees_from}
use Rattle.vx_tree.specs.Plain.{IsPlain, ArePlain}
use Rattle.vx_tree.specs.Tree.{Tree}

pub moved : {A B C : Type 0} (f : A → C) (g : B → C) (all : List C) (from left : List A) (a : A) (to made : List B) (b : B) → all ≡ map f from ++ map g (reverse to)
    → from ≡ left ++ a ∷ [] → made ≡ to ++ b ∷ [] → f a ≡ g b → all ≡ map f left ++ map g (reverse made)
moved f g all from left a to made b before taken put same =
    let rest : map f from ≡ map f left ++ f a ∷ [] = ap (map f) taken ∙ map-append f left (a ∷ []) in
    let turned : map g (reverse made) ≡ g b ∷ map g (reverse to) = ap (λ x. map g (reverse x)) put ∙ ap (map g) (reverse-append to (b ∷ [])) in
    before ∙ ap (λ x. x ++ map g (reverse to)) rest ∙ append_assoc (map f left) (f a ∷ []) (map g (reverse to))
    ∙ ap (λ x. map f left ++ x) (ap (λ y. y ∷ map g (reverse to)) same ∙ sym turned)

none_left : {A : Type 0} (xs : List A) → length xs ≡ 0 → xs ≡ []
none_left [] none = refl
none_left (x ∷ xs) none = absurd (omega (arith, none))

pub all_moved : {A B C : Type 0} (f : A → C) (g : B → C) (all : List C) (from : List A) (to made : List B) → all ≡ map f from ++ map g (reverse to)
    → length from ≡ 0 → made ≡ reverse to → map g made ≡ all
all_moved f g all from to made before none turned =
    ap (map g) turned ∙ sym (before ∙ ap (λ xs. map f xs ++ map g (reverse to)) (none_left from none))

pub views_more : (copies made : List CodraskView) (c : CodraskView) (views : List (List ℕ)) (i : ℕ) (other : List ℕ) → i < length views
    → map view_bytes copies ≡ take i views → view_bytes c ≡ get_or views i other → made ≡ copies ++ c ∷ [] → map view_bytes made ≡ take (i + 1) views
views_more copies made c views i other inside before here pushed =
    ap (map view_bytes) pushed ∙ map-append view_bytes copies (c ∷ []) ∙ (λ j. before j ++ here j ∷ []) ∙ sym (take_more views i other inside)

pub copies_more : (copies made : List CodraskView) (c : CodraskView) (views : List (List ℕ)) (i : ℕ) (other : List ℕ) → i < length views
    → copies ≡ map view_with (take i views) → c ≡ view_with (get_or views i other) → made ≡ copies ++ c ∷ [] → made ≡ map view_with (take (i + 1) views)
copies_more copies made c views i other inside before here pushed =
    pushed ∙ (λ j. before j ++ here j ∷ []) ∙ sym (map-append view_with (take i views) (get_or views i other ∷ []))
    ∙ ap (map view_with) (sym (take_more views i other inside))

-- ---- columns in order

pub plain_column : (cs : List Tree) (i : ℕ) (other : Tree) → ArePlain (trees_from cs) → i < length cs → IsPlain (get_or cs i other)
plain_column [] i other plain inside = absurd (omega (arith, inside))
plain_column (c ∷ cs) zero other plain inside = plain.0
plain_column (c ∷ cs) (suc i) other plain inside = plain_column cs i other plain.1 (omega (arith, inside))

-- ---- names in order

read_found : {A : Type 0} (xs : List A) (i : ℕ) (x : A) → slice_get xs i ≡ Some x → i < length xs → get_or xs i x ≡ x
read_found xs i x read inside =
    let there : slice_get xs i ≡ Some (get_or xs i x) =
    slice_get_read xs (length xs) i (get_or xs i x) refl inside (get_or_default xs i x (get_or xs i x) inside) in
    ap (λ o. unwrap_or o x) (sym there ∙ read)

pub copied_more : (names : List (List ℕ)) (i : ℕ) (copies made : List (Vec ℕ)) (b : Vec ℕ) (name : List ℕ) → i < length names
    → map (λ (x : Vec ℕ). x.items) copies ≡ take i names → slice_get names i ≡ Some name → b.items ≡ name → made ≡ copies ++ b ∷ []
    → map (λ (x : Vec ℕ). x.items) made ≡ take (i + 1) names
copied_more names i copies made b name inside before read same pushed =
    ap (map (λ (x : Vec ℕ). x.items)) pushed ∙ map-append (λ (x : Vec ℕ). x.items) copies (b ∷ []) ∙ ap (λ x. x ++ b.items ∷ []) before
    ∙ ap (λ x. take i names ++ x ∷ []) (same ∙ sym (read_found names i name read inside)) ∙ sym (take_more names i name inside)

pub name_sound : (names : List (List ℕ)) (i : ℕ) (name bytes : List ℕ) → i < length names → slice_get names i ≡ Some name → bytes ≡ name → IsUtf8 bytes
    → name_fault names i ≡ None
name_sound names i name bytes inside read same is =
    ap (λ x. utf8_fault x i) (get_or_default names i [] name inside ∙ read_found names i name read inside ∙ sym same) ∙ utf8_good bytes i is
