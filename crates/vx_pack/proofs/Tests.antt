-- What tests of options say.
use Rattle.std.proofs.Common.{◌≡◌, ap, refl, Bool, true, false, not, Option, Some, None}
use Rattle.std.specs.Bool.{beq}
use Rattle.std.specs.Cmp.{booleans_Decides, signed_Decides}
use Rattle.std.specs.Option.{option_eq}
use Rattle.std.specs.Ordering.{int_eq}
use Rattle.std.specs.Prelude.{ℤ}

opposite : (b r : Bool) → r ≡ not b → r ≡ false → b ≡ true
opposite true r e f = refl
opposite false r e f = cc

same_truths : (x y : Option Bool) → option_eq beq x y ≡ true → x ≡ y
same_truths None None e = refl
same_truths None (Some b) e = cc
same_truths (Some a) None e = cc
same_truths (Some a) (Some b) e = ap Some ((booleans_Decides a b).0 e)

pub same_truth_options : (x y : Option Bool) (r : Bool) → r ≡ not (option_eq beq x y) → r ≡ false → x ≡ y
same_truth_options x y r e f = same_truths x y (opposite (option_eq beq x y) r e f)

same_numbers : (x y : Option ℤ) → option_eq int_eq x y ≡ true → x ≡ y
same_numbers None None e = refl
same_numbers None (Some b) e = cc
same_numbers (Some a) None e = cc
same_numbers (Some a) (Some b) e = ap Some ((signed_Decides a b).0 e)

pub same_number_options : (x y : Option ℤ) (r : Bool) → r ≡ not (option_eq int_eq x y) → r ≡ false → x ≡ y
same_number_options x y r e f = same_numbers x y (opposite (option_eq int_eq x y) r e f)
