-- Columns that are found by their names, added last, or removed at a place: the fields and the kinds of the records.
use Rattle.std.proofs.Common.{◌≡◌, ℕ, zero, suc, ◌+◌, ◌<◌, Bool, true, false, cond, List, [], ◌∷◌, ◌++◌, length, map, take, get_or, Option, Some, None, refl, sym, ◌∙◌, ap, subst, arith}
use Rattle.std.specs.Prelude.{bytes_eq, slice_get, nat_lt, not}
use Rattle.std.specs.List.{remove, position_or_len}
use Rattle.std.specs.Option.{option_map}
use Rattle.std.proofs.lemmas.Bool.Decides.{nat_tests}
use Rattle.std.proofs.lemmas.List.{map_push}
use Rattle.std.proofs.lemmas.Slice.Eq.{bytes_eq-Decides}
use Rattle.vx_base.proofs.FirstFaults.{or_else-none}
use Rattle.vx_base.specs.Fields.{place_of_name, kinds_without}
use Rattle.vx_base.specs.Kinds.{kind}
use Rattle.vx_base.specs.Refusals.{unknown_field, or_else}
use Rattle.vx_base.specs.Rows.{field}
use Rattle.vx_tree.specs.Tree.{Tree}
use Rattle.vx_tree.specs.Meaning.{tree_len, kind_of, kinds_of, row_at, fields_at, trees_from}
use Rattle.vx_tree.specs.Formed.{AllLen}
use Rattle.vx_structs.specs.Structs.Records.{field_named, fields_named, with_field, without_field, kind_named, kinds_named, kinds_and}
use Rattle.vx_structs.specs.Structs.Faults.{unknown_fault, names_fault}
use Rattle.vx_structs.specs.Structs.{column_at_place}

-- ---- the place of a name

is_later : (k n : ℕ) (b : Bool) → nat_lt k n ≡ b → nat_lt (1 + k) (suc n) ≡ b
is_later k n true is = grind (arith, nat_tests)
is_later k n false is = grind (arith, nat_tests)

next_place : (k n : ℕ) → cond (nat_lt (1 + k) (suc n)) (Some (1 + k)) None ≡ option_map suc (cond (nat_lt k n) (Some k) None)
next_place k n = by_test (nat_lt k n) refl
  where
    by_test : (b : Bool) → nat_lt k n ≡ b → cond (nat_lt (1 + k) (suc n)) (Some (1 + k)) None ≡ option_map suc (cond (nat_lt k n) (Some k) None)
    by_test true is = rw (is_later k n true is, is) (ap Some (omega arith))
    by_test false is = rw (is_later k n false is, is) refl

is_some : (n : ℕ) → nat_lt 0 (suc n) ≡ true
is_some n = grind (arith, nat_tests)

place_by : (b : Bool) (k n : ℕ) → cond (nat_lt (cond (not b) (1 + k) 0) (suc n)) (Some (cond (not b) (1 + k) 0)) None ≡ cond b (Some 0) (option_map suc (cond (nat_lt k n) (Some k) None))
place_by true k n = rw (is_some n) refl
place_by false k n = next_place k n

-- the first name is it, or the place is looked for among the others
pub place_of_name-cons : (n : List ℕ) (ns : List (List ℕ)) (name : List ℕ) → place_of_name (n ∷ ns) name ≡ cond (bytes_eq n name) (Some 0) (option_map suc (place_of_name ns name))
place_of_name-cons n ns name = place_by (bytes_eq n name) (position_or_len (λ other. bytes_eq other name) ns) (length ns)

pub column_at_place-cons : (c : Tree) (cs : List Tree) (b : Bool) (place : Option ℕ) → column_at_place (c ∷ cs) (cond b (Some 0) (option_map suc place)) ≡ cond b (Some c) (column_at_place cs place)
column_at_place-cons c cs true place = refl
column_at_place-cons c cs false None = refl
column_at_place-cons c cs false (Some i) = refl

no_column : (place : Option ℕ) → column_at_place [] place ≡ None
no_column None = refl
no_column (Some i) = refl

-- what holds where the first column is the one of a name, and, where it is not, holds with one column more, holds
pub at_name : (P : List (List ℕ) → List Tree → Type 0) (name : List ℕ) (c : Tree)
    → ((n : List ℕ) (ns : List (List ℕ)) (cs : List Tree) → bytes_eq n name ≡ true → P (n ∷ ns) (c ∷ cs))
    → ((n : List ℕ) (ns : List (List ℕ)) (d : Tree) (cs : List Tree) → bytes_eq n name ≡ false → P ns cs → P (n ∷ ns) (d ∷ cs))
    → (ns : List (List ℕ)) (cs : List Tree) → column_at_place cs (place_of_name ns name) ≡ Some c → P ns cs
at_name P name c first later [] cs found = cc
at_name P name c first later (n ∷ ns) [] found = let none = no_column (place_of_name (n ∷ ns) name) in cc
at_name P name c first later (n ∷ ns) (d ∷ cs) found = by_test (bytes_eq n name) refl (at_name P name c first later ns cs)
  where
    found_by : cond (bytes_eq n name) (Some d) (column_at_place cs (place_of_name ns name)) ≡ Some c
    found_by = sym (column_at_place-cons d cs (bytes_eq n name) (place_of_name ns name)) ∙ ap (column_at_place (d ∷ cs)) (sym (place_of_name-cons n ns name)) ∙ found

    found_at : (b : Bool) → bytes_eq n name ≡ b → cond b (Some d) (column_at_place cs (place_of_name ns name)) ≡ Some c
    found_at b is = ap (λ (x : Bool). cond x (Some d) (column_at_place cs (place_of_name ns name))) (sym is) ∙ found_by

    by_test : (b : Bool) → bytes_eq n name ≡ b → (column_at_place cs (place_of_name ns name) ≡ Some c → P ns cs) → P (n ∷ ns) (d ∷ cs)
    by_test true is rest = let same : c ≡ d = let e = found_at true is in cc in subst (λ e. P (n ∷ ns) (e ∷ cs)) same (first n ns cs is)
    by_test false is rest = later n ns d cs is (rest (found_at false is))

-- ---- fields and kinds that are found by their names

pub field_named-found : (ns : List (List ℕ)) (cs : List Tree) (name : List ℕ) (c : Tree) (i : ℕ) → column_at_place cs (place_of_name ns name) ≡ Some c → field_named name (fields_at (trees_from cs) ns i) ≡ row_at c i
field_named-found ns cs name c i found =
    at_name (λ ns cs. field_named name (fields_at (trees_from cs) ns i) ≡ row_at c i) name c
    (λ n ns cs is. ap (λ (b : Bool). cond b (row_at c i) (field_named name (fields_at (trees_from cs) ns i))) is)
    (λ n ns d cs is rest. ap (λ (b : Bool). cond b (row_at d i) (field_named name (fields_at (trees_from cs) ns i))) is ∙ rest)
    ns cs found

pub kind_named-found : (ns : List (List ℕ)) (cs : List Tree) (name : List ℕ) (c : Tree) → column_at_place cs (place_of_name ns name) ≡ Some c → kind_named name ns (kinds_of (trees_from cs)) ≡ kind_of c
kind_named-found ns cs name c found =
    at_name (λ ns cs. kind_named name ns (kinds_of (trees_from cs)) ≡ kind_of c) name c
    (λ n ns cs is. ap (λ (b : Bool). cond b (kind_of c) (kind_named name ns (kinds_of (trees_from cs)))) is)
    (λ n ns d cs is rest. ap (λ (b : Bool). cond b (kind_of d) (kind_named name ns (kinds_of (trees_from cs)))) is ∙ rest)
    ns cs found

pub len_named-found : (ns : List (List ℕ)) (cs : List Tree) (name : List ℕ) (c : Tree) (len : ℕ) → column_at_place cs (place_of_name ns name) ≡ Some c → AllLen len (trees_from cs) → tree_len c ≡ len
len_named-found ns cs name c len found =
    at_name (λ ns cs. AllLen len (trees_from cs) → tree_len c ≡ len) name c
    (λ n ns cs is lens. lens.0)
    (λ n ns d cs is rest lens. rest lens.1)
    ns cs found

-- the first column of each of these names
abbrev pub AreFound : List (List ℕ) → List Tree → List (List ℕ) → List Tree → Type 0
AreFound ns cs names columns = map Some columns ≡ map (λ name. column_at_place cs (place_of_name ns name)) names

pub AreFound-more : (ns : List (List ℕ)) (cs : List Tree) (names : List (List ℕ)) (columns : List Tree) (name : List ℕ) (c : Tree) → AreFound ns cs names columns
    → column_at_place cs (place_of_name ns name) ≡ Some c → AreFound ns cs (names ++ name ∷ []) (columns ++ c ∷ [])
AreFound-more ns cs names columns name c found here =
    map_push Some columns c ∙ (λ i. found i ++ sym here i ∷ []) ∙ sym (map_push (λ name. column_at_place cs (place_of_name ns name)) names name)

module _ (ns : List (List ℕ)) (cs : List Tree) where
  pub fields_named-found : (names : List (List ℕ)) (columns : List Tree) (i : ℕ) → AreFound ns cs names columns
      → fields_at (trees_from columns) names i ≡ fields_named names (fields_at (trees_from cs) ns i)
  fields_named-found [] [] i found = refl
  fields_named-found [] (c ∷ columns) i found = cc
  fields_named-found (name ∷ names) [] i found = cc
  fields_named-found (name ∷ names) (c ∷ columns) i found =
      let here : column_at_place cs (place_of_name ns name) ≡ Some c = cc in
      let more : AreFound ns cs names columns = cc in
      ap (λ r. field name r (fields_at (trees_from columns) names i)) (sym (field_named-found ns cs name c i here)) ∙ ap (field name (field_named name (fields_at (trees_from cs) ns i))) (fields_named-found names columns i more)

  pub kinds_named-found : (names : List (List ℕ)) (columns : List Tree) → AreFound ns cs names columns
      → kinds_of (trees_from columns) ≡ kinds_named names ns (kinds_of (trees_from cs))
  kinds_named-found [] [] found = refl
  kinds_named-found [] (c ∷ columns) found = cc
  kinds_named-found (name ∷ names) [] found = cc
  kinds_named-found (name ∷ names) (c ∷ columns) found =
      let here : column_at_place cs (place_of_name ns name) ≡ Some c = cc in
      let more : AreFound ns cs names columns = cc in
      ap (λ k. kind k (kinds_of (trees_from columns))) (sym (kind_named-found ns cs name c here)) ∙ ap (kind (kind_named name ns (kinds_of (trees_from cs)))) (kinds_named-found names columns more)

  pub lens_named-found : (names : List (List ℕ)) (columns : List Tree) (len : ℕ) → AreFound ns cs names columns
      → AllLen len (trees_from cs) → AllLen len (trees_from columns)
  lens_named-found [] [] len found lens = tt
  lens_named-found [] (c ∷ columns) len found lens = cc
  lens_named-found (name ∷ names) [] len found lens = cc
  lens_named-found (name ∷ names) (c ∷ columns) len found lens =
      let here : column_at_place cs (place_of_name ns name) ≡ Some c = cc in
      let more : AreFound ns cs names columns = cc in
      (len_named-found ns cs name c len here lens, lens_named-found names columns len more lens)

-- ---- names that no column has

-- the first of them is the fault
pub names_fault-at : (ns names : List (List ℕ)) (i : ℕ) (d : List ℕ) → i < length names → names_fault ns (take i names) ≡ None → place_of_name ns (get_or names i d) ≡ None → names_fault ns names ≡ Some unknown_field
names_fault-at ns [] i d inside known missing = absurd (omega arith)
names_fault-at ns (name ∷ names) zero d inside known missing = ap (λ place. or_else (unknown_fault place) (names_fault ns names)) missing
names_fault-at ns (name ∷ names) (suc i) d inside known missing =
    let (here, more) = or_else-none (unknown_fault (place_of_name ns name)) (names_fault ns (take i names)) known in
    ap (λ fault. or_else fault (names_fault ns names)) here ∙ names_fault-at ns names i d (omega arith) more missing

pub names_fault-more : (ns names : List (List ℕ)) (name : List ℕ) (k : ℕ) → names_fault ns names ≡ None → place_of_name ns name ≡ Some k → names_fault ns (names ++ name ∷ []) ≡ None
names_fault-more ns [] name k known found = ap (λ place. or_else (unknown_fault place) None) found
names_fault-more ns (n ∷ names) name k known found =
    let (here, more) = or_else-none (unknown_fault (place_of_name ns n)) (names_fault ns names) known in
    ap (λ fault. or_else fault (names_fault ns (names ++ name ∷ []))) here ∙ names_fault-more ns names name k more found

-- ---- one more, the last

pub fields_at-added : (ns : List (List ℕ)) (cs : List Tree) (name : List ℕ) (c : Tree) (i : ℕ) → length ns ≡ length cs
    → fields_at (trees_from (cs ++ c ∷ [])) (ns ++ name ∷ []) i ≡ with_field name (row_at c i) (fields_at (trees_from cs) ns i)
fields_at-added [] [] name c i same = refl
fields_at-added [] (d ∷ cs) name c i same = absurd (omega arith)
fields_at-added (n ∷ ns) [] name c i same = absurd (omega arith)
fields_at-added (n ∷ ns) (d ∷ cs) name c i same = ap (field n (row_at d i)) (fields_at-added ns cs name c i (omega arith))

pub kinds_of-added : (cs : List Tree) (c : Tree) → kinds_of (trees_from (cs ++ c ∷ [])) ≡ kinds_and (kinds_of (trees_from cs)) (kind_of c)
kinds_of-added [] c = refl
kinds_of-added (d ∷ cs) c = ap (kind (kind_of d)) (kinds_of-added cs c)

pub AllLen-added : (len : ℕ) (cs : List Tree) (c : Tree) → AllLen len (trees_from cs) → tree_len c ≡ len → AllLen len (trees_from (cs ++ c ∷ []))
AllLen-added len [] c lens same = (same, tt)
AllLen-added len (d ∷ cs) c lens same = (lens.0, AllLen-added len cs c lens.1 same)

-- ---- without the one at a place

-- the fields without the one at a place are those without the first of a name
abbrev IsWithout : List ℕ → ℕ → List (List ℕ) → List Tree → ℕ → Type 0
IsWithout name i ns cs k = fields_at (trees_from (remove cs k)) (remove ns k) i ≡ without_field name (fields_at (trees_from cs) ns i)

later_place : (place : Option ℕ) (k : ℕ) → option_map suc place ≡ Some k → (j : ℕ) × (place ≡ Some j) × (suc j ≡ k)
later_place None k found = cc
later_place (Some j) k found = (j, refl, cc)

pub fields_at-removed : (name : List ℕ) (i : ℕ) (ns : List (List ℕ)) (cs : List Tree) (k : ℕ) → length ns ≡ length cs → place_of_name ns name ≡ Some k → IsWithout name i ns cs k
fields_at-removed name i [] cs k same found = cc
fields_at-removed name i (n ∷ ns) [] k same found = absurd (omega arith)
fields_at-removed name i (n ∷ ns) (c ∷ cs) k same found =
    by_test (bytes_eq n name) refl (sym (place_of_name-cons n ns name) ∙ found) (λ j. fields_at-removed name i ns cs j (omega arith))
  where
    by_test : (b : Bool) → bytes_eq n name ≡ b → cond (bytes_eq n name) (Some 0) (option_map suc (place_of_name ns name)) ≡ Some k
        → ((j : ℕ) → place_of_name ns name ≡ Some j → IsWithout name i ns cs j) → IsWithout name i (n ∷ ns) (c ∷ cs) k
    by_test true is found rest =
        let first : 0 ≡ k = let e = rw is at found in cc in
        subst (IsWithout name i (n ∷ ns) (c ∷ cs)) first (rw is refl)
    by_test false is found rest =
        let (j, at, next) = later_place (place_of_name ns name) k (rw is at found) in
        subst (IsWithout name i (n ∷ ns) (c ∷ cs)) next (rw is (ap (field n (row_at c i)) (rest j at)))

pub kinds_of-removed : (cs : List Tree) (k : ℕ) → kinds_of (trees_from (remove cs k)) ≡ kinds_without k (kinds_of (trees_from cs))
kinds_of-removed [] zero = refl
kinds_of-removed [] (suc k) = refl
kinds_of-removed (c ∷ cs) zero = refl
kinds_of-removed (c ∷ cs) (suc k) = ap (kind (kind_of c)) (kinds_of-removed cs k)

pub AllLen-removed : (len : ℕ) (cs : List Tree) (k : ℕ) → AllLen len (trees_from cs) → AllLen len (trees_from (remove cs k))
AllLen-removed len [] zero lens = tt
AllLen-removed len [] (suc k) lens = tt
AllLen-removed len (c ∷ cs) zero lens = lens.1
AllLen-removed len (c ∷ cs) (suc k) lens = (lens.0, AllLen-removed len cs k lens.1)

-- ---- one is added, and removed again

bytes_eq-same : (bs : List ℕ) → bytes_eq bs bs ≡ true
bytes_eq-same bs = (bytes_eq-Decides bs bs).1 refl

not_later : (place : Option ℕ) → option_map suc place ≡ None → place ≡ None
not_later None none = refl
not_later (Some j) none = cc

-- a new name that is added is the first of its kind
pub place_of_name-added : (ns : List (List ℕ)) (name : List ℕ) → place_of_name ns name ≡ None → place_of_name (ns ++ name ∷ []) name ≡ Some (length ns)
place_of_name-added [] name none = place_of_name-cons name [] name ∙ ap (λ (b : Bool). cond b (Some 0) (option_map suc (place_of_name [] name))) (bytes_eq-same name)
place_of_name-added (n ∷ ns) name none = place_of_name-cons n (ns ++ name ∷ []) name ∙ by_test (bytes_eq n name) refl (sym (place_of_name-cons n ns name) ∙ none) (place_of_name-added ns name)
  where
    by_test : (b : Bool) → bytes_eq n name ≡ b → cond (bytes_eq n name) (Some 0) (option_map suc (place_of_name ns name)) ≡ None
        → (place_of_name ns name ≡ None → place_of_name (ns ++ name ∷ []) name ≡ Some (length ns))
        → cond (bytes_eq n name) (Some 0) (option_map suc (place_of_name (ns ++ name ∷ []) name)) ≡ Some (length (n ∷ ns))
    by_test true is none rest = let e = rw is at none in cc
    by_test false is none rest = rw is (ap (option_map suc) (rest (not_later (place_of_name ns name) (rw is at none))))

pub remove-last : {X : Type 0} (xs : List X) (y : X) (n : ℕ) → length xs ≡ n → remove (xs ++ y ∷ []) n ≡ xs
remove-last [] y zero same = refl
remove-last [] y (suc n) same = absurd (omega arith)
remove-last (x ∷ xs) y zero same = absurd (omega arith)
remove-last (x ∷ xs) y (suc n) same = ap (λ rest. x ∷ rest) (remove-last xs y n (omega arith))

pub slice_get-last : {X : Type 0} (xs : List X) (y : X) (n : ℕ) → length xs ≡ n → slice_get (xs ++ y ∷ []) n ≡ Some y
slice_get-last [] y zero same = refl
slice_get-last [] y (suc n) same = absurd (omega arith)
slice_get-last (x ∷ xs) y zero same = absurd (omega arith)
slice_get-last (x ∷ xs) y (suc n) same = slice_get-last xs y n (omega arith)
