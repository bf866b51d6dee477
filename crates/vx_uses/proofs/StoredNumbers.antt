-- Numbers in plain layout.
use Rattle.std.proofs.Common.{◌≡◌, Bool, true, false, refl, sym, ◌∙◌, ap}
use Rattle.vx_base.specs.Kinds.{Kind, is_integers}
use Rattle.vx_tree.specs.Formed.{WellFormed, value_kind}
use Rattle.vx_tree.specs.Layouts.{is_primitive}
use Rattle.vx_tree.specs.Meaning.{kind_of, is_texts, nullable}
use Rattle.vx_tree.specs.Plain.{IsPlain}
use Rattle.vx_tree.specs.Tree.{Tree, bools, primitive, constant, dictionary, fixed_list, list_view, structure, view_array}

values_are_no_numbers : (u n : Bool) (k : Kind) → k ≡ value_kind u n → is_integers k ≡ true → ⊥
values_are_no_numbers true n k values numbers = let no : false ≡ true = sym (ap is_integers values) ∙ numbers in cc
values_are_no_numbers false n k values numbers = let no : false ≡ true = sym (ap is_integers values) ∙ numbers in cc

pub plain_numbers : (t : Tree) → WellFormed t → IsPlain t → is_integers (kind_of t) ≡ true → is_primitive t ≡ true
plain_numbers (primitive t bs v) formed plain numbers = refl
plain_numbers (constant k r n) formed plain numbers = absurd plain
plain_numbers (dictionary c v f) formed plain numbers = absurd plain
plain_numbers (view_array vs bs k v) formed plain numbers = absurd (values_are_no_numbers (is_texts k) (nullable v) k formed.1.kind numbers)
plain_numbers (bools b bits v) formed plain numbers = cc
plain_numbers (fixed_list e k v n) formed plain numbers = cc
plain_numbers (list_view e o s v f) formed plain numbers = cc
plain_numbers (structure ns ts v n) formed plain numbers = cc
