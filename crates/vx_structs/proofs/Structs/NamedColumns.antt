-- Columns that come with their names.
use Rattle.std.proofs.Common.{◌≡◌, ℕ, List, [], ◌∷◌, map, ap, ◌∙◌, refl}
use Rattle.std.specs.Borrow.{Bor}
use Rattle.vx_tree.specs.Tree.{Tree, Valid}
use Rattle.vx_structs.specs.Structs.{first_len, named_columns, records_by}

texts_of : (fields : List (Bor (List ℕ) × Tree)) → map (λ name. name.now) (map (λ field. field.0) fields) ≡ map (λ field. field.0.now) fields
texts_of [] = refl
texts_of (field ∷ fields) = ap (λ rest. field.0.now ∷ rest) (texts_of fields)

pub records_of_fields : (fields : List (Bor (List ℕ) × Tree)) (names : List (Bor (List ℕ))) (columns : List Tree) (v : Valid)
    → names ≡ map (λ field. field.0) fields → columns ≡ map (λ field. field.1) fields
    → records_by (map (λ name. name.now) names) columns v (first_len columns) ≡ named_columns fields v
records_of_fields fields names columns v first second =
    (λ i. records_by (map (λ name. name.now) (first i)) (second i) v (first_len (second i)))
    ∙ ap (λ texts. records_by texts (map (λ field. field.1) fields) v (first_len (map (λ field. field.1) fields))) (texts_of fields)
