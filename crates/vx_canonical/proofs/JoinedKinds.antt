-- The layout of a plain array, by its kind.
use Rattle.std.proofs.Common.{ℕ, ◌*◌, ◌≡◌, Bool, true, false, List, refl, sym, ◌∙◌, ap}
use Rattle.vx_base.specs.Rows.{items, record_of, count_in}
use Rattle.vx_base.specs.Kinds.{Kind, Kinds, lists, fixed_lists, records, is_plain_integers}
use Rattle.vx_tree.specs.Tree.{Tree, bools, primitive, constant, dictionary, fixed_list, list_view, structure, view_array, Trees, Valid}
use Rattle.vx_tree.specs.Layouts.{is_primitive}
use Rattle.vx_tree.specs.Meaning.{tree_len, kind_of, row_at, rows_range, fields_at, is_valid_at, nullable, is_texts}
use Rattle.vx_tree.specs.Formed.{WellFormed, value_kind}
use Rattle.vx_tree.specs.Fitting.{AllFormed}
use Rattle.vx_tree.specs.Plain.{IsPlain}
use Rattle.vx_canonical.specs.Joined.{AreFixedLists, AreLists, AreRecords}
use Rattle.vx_canonical.proofs.JoinedLeaves.{shown}

-- plain counts are numbers
plain_values : (b m : Bool) → is_plain_integers (value_kind b m) ≡ true → ⊥
plain_values true m e = cc
plain_values false m e = cc

pub plain_integers : (t : Tree) → IsPlain t → AllFormed t → is_plain_integers (kind_of t) ≡ true → is_primitive t ≡ true
plain_integers (bools b bits v) p f k = cc
plain_integers (primitive q bs v) p f k = refl
plain_integers (constant q r m) p f k = absurd p
plain_integers (dictionary c v g) p f k = absurd p
plain_integers (fixed_list e s v m) p f k = cc
plain_integers (list_view e o s v g) p f k = cc
plain_integers (structure ns ts v m) p f k = cc
plain_integers (view_array vs bs q v) p f k = absurd (plain_values (is_texts q) (nullable v) (rw (← f.0.1.kind) k))

size_in : Kind → ℕ → ℕ
size_in (fixed_lists e s n) d = s
size_in _ d = d

fixed_of_size : (e : Tree) (s k m : ℕ) (v : Valid) → s ≡ k → tree_len e ≡ m * s → AreFixedLists k (fixed_list e s v m)
fixed_of_size e s k m v same long =
    rw (sym same) (record {
      layout = refl;
      elements = long;
      content = λ j l. shown (is_valid_at v j) (items (rows_range (row_at e) (j * s) s)) refl;
    })

pub fixed_lists_of_kind : (t : Tree) (kd : Kind) (k : ℕ) (n : Bool) → IsPlain t → AllFormed t → kind_of t ≡ fixed_lists kd k n → AreFixedLists k t
unfolding size_in
fixed_lists_of_kind (bools b bits v) kd k n p f e = cc
fixed_lists_of_kind (primitive q bs v) kd k n p f e = cc
fixed_lists_of_kind (constant q r m) kd k n p f e = absurd p
fixed_lists_of_kind (dictionary c v g) kd k n p f e = absurd p
fixed_lists_of_kind (fixed_list x s v m) kd k n p f e = fixed_of_size x s k m v (ap (λ q. size_in q s) e) f.0.1
fixed_lists_of_kind (list_view x o s v g) kd k n p f e = cc
fixed_lists_of_kind (structure ns ts v m) kd k n p f e = cc
fixed_lists_of_kind (view_array vs bs q v) kd k n p f e = absurd (no_values (is_texts q) (nullable v) (sym f.0.1.kind ∙ e))
  where
    no_values : (b m : Bool) → value_kind b m ≡ fixed_lists kd k n → ⊥
    no_values true m e = cc
    no_values false m e = cc

pub lists_of_kind : (t : Tree) (kd : Kind) (n : Bool) → IsPlain t → AllFormed t → kind_of t ≡ lists kd n → AreLists t
lists_of_kind (bools b bits v) kd n p f e = cc
lists_of_kind (primitive q bs v) kd n p f e = cc
lists_of_kind (constant q r m) kd n p f e = absurd p
lists_of_kind (dictionary c v g) kd n p f e = absurd p
lists_of_kind (fixed_list x s v m) kd n p f e = cc
lists_of_kind (list_view x o s v g) kd n p f e =
    let view = f.0.1 in
    record {
      layout = refl;
      offsets = (view.offsets, plain_integers o p.1 f.2 view.offsets.kind, refl);
      sizes = (view.sizes, plain_integers s p.2 f.3 view.sizes.kind, view.same_len);
      within = view.within;
      content = λ j l. shown (is_valid_at v j) (items (rows_range (row_at x) (count_in (row_at o j)) (count_in (row_at s j)))) refl;
    }
lists_of_kind (structure ns ts v m) kd n p f e = cc
lists_of_kind (view_array vs bs q v) kd n p f e = absurd (no_values (is_texts q) (nullable v) (sym f.0.1.kind ∙ e))
  where
    no_values : (b m : Bool) → value_kind b m ≡ lists kd n → ⊥
    no_values true m e = cc
    no_values false m e = cc

names_in : Kind → List (List ℕ) → List (List ℕ)
names_in (records ns ks n) d = ns
names_in _ d = d

records_of_names : (ms ns : List (List ℕ)) (ts : Trees) (v : Valid) (m : ℕ) → ms ≡ ns → WellFormed (structure ms ts v m) → AreRecords ns (structure ms ts v m)
records_of_names ms ns ts v m same f =
    rw (sym same) (record {
      layout = refl;
      count = sym f.1.named;
      lens = f.1.lens;
      content = λ j l. shown (is_valid_at v j) (record_of (fields_at ts ms j)) refl;
    })

pub records_of_kind : (t : Tree) (ns : List (List ℕ)) (ks : Kinds) (n : Bool) → IsPlain t → AllFormed t → kind_of t ≡ records ns ks n → AreRecords ns t
unfolding names_in
records_of_kind (bools b bits v) ns ks n p f e = cc
records_of_kind (primitive q bs v) ns ks n p f e = cc
records_of_kind (constant q r m) ns ks n p f e = absurd p
records_of_kind (dictionary c v g) ns ks n p f e = absurd p
records_of_kind (fixed_list x s v m) ns ks n p f e = cc
records_of_kind (list_view x o s v g) ns ks n p f e = cc
records_of_kind (structure ms ts v m) ns ks n p f e = records_of_names ms ns ts v m (ap (λ q. names_in q ms) e) f.0
records_of_kind (view_array vs bs q v) ns ks n p f e = absurd (no_values (is_texts q) (nullable v) (sym f.0.1.kind ∙ e))
  where
    no_values : (b m : Bool) → value_kind b m ≡ records ns ks n → ⊥
    no_values true m e = cc
    no_values false m e = cc
