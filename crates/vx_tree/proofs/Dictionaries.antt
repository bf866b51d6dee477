-- Dictionaries: what becomes of them by what becomes of their codes.
use Rattle.std.proofs.Common.{ℕ, zero, suc, ◌+◌, ◌<◌, ◌≤◌, ◌≡◌, Bool, true, false, List, length, Option, Some, None, Result, Ok, Err, refl, sym, ◌∙◌, ap, subst, inl, inr, arith}
use Rattle.std.specs.Prelude.{pos, negsuc, ◌||◌, ◌&&◌, ◌==◌, IfOk, IsSome, IfSome, slice_index, if◌then◌else◌}
use Rattle.std.proofs.lemmas.Int.{ints}
use Rattle.std.proofs.lemmas.Bool.{lt-ltb}
use Rattle.vx_base.specs.Rows.{Row, null, boolean, whole, bytes, text, items, record_of, is_present, position_in, truth_of}
use Rattle.vx_base.specs.Kinds.{Kind, booleans, integers, texts, binaries, lists, fixed_lists, records, is_nullable_kind, or_nullable, is_integers, is_integers-or_nullable}
use Rattle.vx_base.specs.Refusals.{Refusal, refusal_of, IsMemoryOr, Gives, Refuses, Tests}
use Rattle.vx_base.specs.declared.errors.VortexError.{VortexError}
use Rattle.vx_base.specs.declared.errors.VortexError.TheVariants.{Memory}
use Rattle.vx_base.proofs.FirstFaults.{first_fault-of_none}
use Rattle.vx_tree.specs.Tree.{Tree, bools, primitive, constant, dictionary, fixed_list, list_view, structure, view_array, Valid, non_nullable, all_valid, all_invalid, by_array}
use Rattle.vx_tree.specs.Meaning.{row_at, tree_len, kind_of, is_valid_at, nullable, picked}
use Rattle.vx_tree.specs.Shapes.{State, never_null, none_null, every_null, told, Shape, bool_shape, primitive_shape, constant_shape, dictionary_shape, fixed_list_shape, list_view_shape, struct_shape, view_shape, state_of, taken_state, row_state, tree_state, shape_of, sliced_shape, selected_shape, nulled_constant, nulled_shape}
use Rattle.vx_tree.specs.Formed.{IsCode, IsDictionary, ValidFits}
use Rattle.vx_tree.specs.Named.{IsRepeated, IsValidNamed, AreIndices}
use Rattle.vx_tree.specs.Faults.{index_fault, indices_fault, take_overflow}
use Rattle.vx_tree.specs.Operations.{IsSlice, IsSelected, IsNulled, IsNulls, IsZeroCodes, IsValidityOf, IsValidSelected, IsValidNulled, AreBelow}
use Rattle.vx_tree.proofs.Needs.{dictionaries_need}
use Rattle.vx_tree.proofs.Nulled.{nullable_nulled}

-- ---- kinds

either : (a b c : Bool) → ((a || b) || c) ≡ (a || (b || c))
either true b c = refl
either false b c = refl

nullable_twice : (a b : Bool) (k : Kind) → or_nullable (a || b) k ≡ or_nullable a (or_nullable b k)
nullable_twice a b (booleans n) = ap booleans (either a b n)
nullable_twice a b (integers t n) = ap (integers t) (either a b n)
nullable_twice a b (texts n) = ap texts (either a b n)
nullable_twice a b (binaries n) = ap binaries (either a b n)
nullable_twice a b (lists k n) = ap (lists k) (either a b n)
nullable_twice a b (fixed_lists k size n) = ap (fixed_lists k size) (either a b n)
nullable_twice a b (records names ks n) = ap (records names ks) (either a b n)

pub nullable_either : (c : Bool) (k : Kind) → is_nullable_kind (or_nullable c k) ≡ (c || is_nullable_kind k)
nullable_either c (booleans n) = refl
nullable_either c (integers t n) = refl
nullable_either c (texts n) = refl
nullable_either c (binaries n) = refl
nullable_either c (lists k n) = refl
nullable_either c (fixed_lists k size n) = refl
nullable_either c (records names ks n) = refl

pub same_kind : (k : Kind) → or_nullable false k ≡ k
same_kind (booleans n) = refl
same_kind (integers t n) = refl
same_kind (texts n) = refl
same_kind (binaries n) = refl
same_kind (lists k n) = refl
same_kind (fixed_lists k size n) = refl
same_kind (records names ks n) = refl

-- ---- states

-- what is taken by what was taken
taken_twice : (a b c : State) → taken_state a (taken_state b c) ≡ taken_state (taken_state a b) c
taken_twice never_null b c = refl
taken_twice every_null b c = refl
taken_twice told b c = refl
taken_twice none_null never_null c = refl
taken_twice none_null every_null c = refl
taken_twice none_null told c = refl
taken_twice none_null none_null never_null = refl
taken_twice none_null none_null none_null = refl
taken_twice none_null none_null every_null = refl
taken_twice none_null none_null told = refl

taken_never : (s : State) → s ≡ taken_state s never_null
taken_never never_null = refl
taken_never none_null = refl
taken_never every_null = refl
taken_never told = refl

-- the state that a shape tells
shape_state : Shape → State
shape_state (bool_shape s) = s
shape_state (primitive_shape s) = s
shape_state (constant_shape k r) = row_state k r
shape_state (dictionary_shape v s f) = s
shape_state (fixed_list_shape s) = s
shape_state (list_view_shape e o z s f) = s
shape_state (struct_shape s) = s
shape_state (view_shape bs s) = s

state_told : (t : Tree) → tree_state t ≡ shape_state (shape_of t)
unfolding shape_state
state_told (bools b bits v) = refl
state_told (primitive t bs v) = refl
state_told (constant k r n) = refl
state_told (dictionary c v f) = refl
state_told (fixed_list e k v n) = refl
state_told (list_view e o s v f) = refl
state_told (structure ns ts v n) = refl
state_told (view_array vs bs u v) = refl

sliced_state : (x : Shape) → shape_state (sliced_shape x) ≡ shape_state x
unfolding shape_state
sliced_state (bool_shape s) = refl
sliced_state (primitive_shape s) = refl
sliced_state (constant_shape k r) = refl
sliced_state (dictionary_shape v s f) = refl
sliced_state (fixed_list_shape s) = refl
sliced_state (list_view_shape e o z s f) = refl
sliced_state (struct_shape s) = refl
sliced_state (view_shape bs s) = refl

selected_state : (x : Shape) → shape_state (selected_shape x) ≡ shape_state x
unfolding shape_state
selected_state (bool_shape s) = refl
selected_state (primitive_shape s) = refl
selected_state (constant_shape k r) = refl
selected_state (dictionary_shape v s f) = refl
selected_state (fixed_list_shape s) = refl
selected_state (list_view_shape e o z s f) = refl
selected_state (struct_shape s) = refl
selected_state (view_shape bs s) = refl

nulled_constant_state : (k : Kind) (r : Row) (index : State) → shape_state (nulled_constant k r index) ≡ taken_state (row_state k r) index
unfolding shape_state
nulled_constant_state k r never_null = taken_never (row_state k r)
nulled_constant_state k r none_null = refl
nulled_constant_state k r every_null = refl
nulled_constant_state k r told = refl

nulled_state : (x : Shape) (index : State) → shape_state (nulled_shape x index) ≡ taken_state (shape_state x) index
unfolding shape_state
nulled_state (bool_shape s) index = refl
nulled_state (primitive_shape s) index = refl
nulled_state (constant_shape k r) index = nulled_constant_state k r index
nulled_state (dictionary_shape v s f) index = refl
nulled_state (fixed_list_shape s) index = refl
nulled_state (list_view_shape e o z s f) index = refl
nulled_state (struct_shape s) index = refl
nulled_state (view_shape bs s) index = refl

-- the state of an array of some shape
state_by_shape : (c d : Tree) (x : Shape) (s : State) → shape_of d ≡ x → shape_state x ≡ s → tree_state d ≡ s
state_by_shape c d x s e h = state_told d ∙ ap shape_state e ∙ h

state_nulled : (c d : Tree) (x : Shape) (index : State) → shape_of d ≡ nulled_shape x index → shape_state x ≡ tree_state c → tree_state d ≡ taken_state (tree_state c) index
state_nulled c d x index e h = state_by_shape c d (nulled_shape x index) (taken_state (tree_state c) index) e (nulled_state x index ∙ ap (λ s. taken_state s index) h)

pub state_of_nulled : (s r : Tree) (u : Valid) → IsNulled s u r → tree_state r ≡ taken_state (tree_state s) (state_of u)
state_of_nulled s r u h = state_nulled s r (shape_of s) (state_of u) h.shape (sym (state_told s))

pub state_of_selected : (t s : Tree) (ps : List ℕ) → IsSelected t ps s → tree_state s ≡ tree_state t
state_of_selected t s ps h = state_by_shape t s (selected_shape (shape_of t)) (tree_state t) h.shape (selected_state (shape_of t) ∙ sym (state_told t))

-- ---- codes

-- other codes into the same values
other_codes : (c v d : Tree) (f : Bool) → is_integers (kind_of d) ≡ true → ((i : ℕ) → i < tree_len d → IsCode (tree_len v) (row_at d i)) → IsDictionary d v false
other_codes c v d f ints within = record { codes = ints; within = within; referenced = λ h. absurd (cc) }

code_same : (n : ℕ) (r s : Row) → r ≡ s → IsCode n s → IsCode n r
code_same n r s e h = subst (IsCode n) (sym e) h

code_or_null : (n : ℕ) (b : Bool) (r : Row) → IsCode n r → IsCode n (if b then r else null)
code_or_null n true r h = h
code_or_null n false r h = tt

picked_or_null : (f : ℕ → Row) (b : Bool) (r : Row) → picked f (position_in (if b then r else null)) ≡ (if b then picked f (position_in r) else null)
picked_or_null f true r = refl
picked_or_null f false r = refl

-- ---- slicing

pub codes_sliced : (c v d : Tree) (f : Bool) (start n : ℕ) → IsDictionary c v f → IsSlice c start n d → start + n ≤ tree_len c → IsDictionary d v false
codes_sliced c v d f start n h s l =
    other_codes c v d f (ap is_integers s.kind ∙ h.codes) (λ i k.
    let small : i < n = rw s.len at k in
    code_same (tree_len v) (row_at d i) (row_at c (start + i)) (s.rows i small) (h.within (start + i) (omega arith)))

pub dictionary_sliced : (t r c v d : Tree) (f : Bool) (start n : ℕ) → t ≡ dictionary c v f → r ≡ dictionary d v false → IsSlice c start n d → IsSlice t start n r
dictionary_sliced t r c v d f start n a b h =
    rw (a, b) (record {
      len = h.len;
      kind = ap (λ k. or_nullable (is_nullable_kind k) (kind_of v)) h.kind;
      shape = ap (λ s. dictionary_shape v (taken_state (tree_state v) s) false) (state_by_shape c d (sliced_shape (shape_of c)) (tree_state c) h.shape (sliced_state (shape_of c) ∙ sym (state_told c)));
      plain = λ p. absurd p;
      needs = dictionaries_need c d v f false;
      rows = λ i l. ap (λ x. picked (row_at v) (position_in x)) (h.rows i l);
    })

-- ---- selecting

pub codes_can_be_selected : (t : Tree) (n : ℕ) → is_integers (kind_of t) ≡ true → take_overflow t n ≡ None
codes_can_be_selected (bools b bits v) n e = refl
codes_can_be_selected (primitive t bs v) n e = refl
codes_can_be_selected (constant k r m) n e = refl
codes_can_be_selected (dictionary c v f) n e = refl
codes_can_be_selected (fixed_list x k v m) n e = cc
codes_can_be_selected (list_view x o s v f) n e = refl
codes_can_be_selected (structure ns ts v m) n e = cc
codes_can_be_selected (view_array vs bs u v) n e = refl

pub codes_selected : (c v d : Tree) (f : Bool) (ps : List ℕ) → IsDictionary c v f → IsSelected c ps d → AreBelow (tree_len c) ps → IsDictionary d v false
codes_selected c v d f ps h s below =
    other_codes c v d f (ap is_integers s.kind ∙ h.codes) (λ i k.
    let small : i < length ps = rw s.len at k in
    code_same (tree_len v) (row_at d i) (row_at c (slice_index ps i)) (s.rows i small) (h.within (slice_index ps i) (below i 0 small)))

pub dictionary_selected : (t r c v d : Tree) (f : Bool) (ps : List ℕ) → t ≡ dictionary c v f → r ≡ dictionary d v false → IsSelected c ps d → IsSelected t ps r
dictionary_selected t r c v d f ps a b h =
    rw (a, b) (record {
      len = h.len;
      kind = ap (λ k. or_nullable (is_nullable_kind k) (kind_of v)) h.kind;
      shape = ap (λ s. dictionary_shape v (taken_state (tree_state v) s) false) (state_by_shape c d (selected_shape (shape_of c)) (tree_state c) h.shape (selected_state (shape_of c) ∙ sym (state_told c)));
      plain = λ p. absurd p;
      needs = dictionaries_need c d v f false;
      rows = λ i l. ap (λ x. picked (row_at v) (position_in x)) (h.rows i l);
    })

-- ---- nulls

nulled_kind : (c d k : Kind) (b : Bool) → d ≡ or_nullable b c → or_nullable (is_nullable_kind d) k ≡ or_nullable b (or_nullable (is_nullable_kind c) k)
nulled_kind c d k b e = ap (λ x. or_nullable (is_nullable_kind x) k) e ∙ ap (λ n. or_nullable n k) (nullable_either b c) ∙ nullable_twice b (is_nullable_kind c) k

pub codes_nulled : (c v d : Tree) (f : Bool) (u : Valid) → IsDictionary c v f → IsNulled c u d → IsDictionary d v false
codes_nulled c v d f u h s =
    other_codes c v d f (ap is_integers s.kind ∙ is_integers-or_nullable (nullable u) (kind_of c) ∙ h.codes) (λ i k.
    let small : i < tree_len c = rw s.len at k in
    code_same (tree_len v) (row_at d i) (if is_valid_at u i then row_at c i else null) (s.rows i small) (code_or_null (tree_len v) (is_valid_at u i) (row_at c i) (h.within i small)))

pub dictionary_nulled : (t r c v d : Tree) (f : Bool) (u : Valid) → t ≡ dictionary c v f → r ≡ dictionary d v false → IsNulled c u d → IsNulled t u r
dictionary_nulled t r c v d f u a b h =
    rw (a, b) (record {
      len = h.len;
      kind = nulled_kind (kind_of c) (kind_of d) (kind_of v) (nullable u) h.kind;
      shape = ap (λ s. dictionary_shape v s false) (ap (taken_state (tree_state v)) (state_nulled c d (shape_of c) (state_of u) h.shape (sym (state_told c))) ∙ taken_twice (tree_state v) (tree_state c) (state_of u));
      plain = λ p q. absurd p;
      extent = refl;
      needs = λ p. dictionaries_need c d v f false;
      rows = λ i l. ap (λ x. picked (row_at v) (position_in x)) (h.rows i l) ∙ picked_or_null (row_at v) (is_valid_at u i) (row_at c i);
    })

pub codes_null : (c v d : Tree) (f : Bool) (n : ℕ) (u : Valid) → IsDictionary c v f → IsNulls c n u d → IsDictionary d v false
codes_null c v d f n u h s =
    other_codes c v d f (ap is_integers s.kind ∙ is_integers-or_nullable (nullable u) (kind_of c) ∙ h.codes) (λ i k.
    let small : i < n = rw s.len at k in
    code_same (tree_len v) (row_at d i) null (s.rows i small) tt)

pub dictionary_nulls : (t r c v d : Tree) (f : Bool) (n : ℕ) (u : Valid) → t ≡ dictionary c v f → r ≡ dictionary d v false → IsNulls c n u d → IsNulls t n u r
dictionary_nulls t r c v d f n u a b h =
    rw (a, b) (record {
      len = h.len;
      kind = nulled_kind (kind_of c) (kind_of d) (kind_of v) (nullable u) h.kind;
      shape = ap (λ s. dictionary_shape v s false) (ap (taken_state (tree_state v)) (state_nulled c d (selected_shape (shape_of c)) (state_of u) h.shape (selected_state (shape_of c) ∙ sym (state_told c))) ∙ taken_twice (tree_state v) (tree_state c) (state_of u));
      rows = λ i l. ap (λ x. picked (row_at v) (position_in x)) (h.rows i l);
    })

-- ---- constants

nulled_constant-dictionary : (k : Kind) (r : Row) (u : Valid) → nullable u ≡ true → dictionary_shape (constant k r 1) (taken_state (row_state k r) (state_of u)) false ≡ nulled_constant k r (state_of u)
nulled_constant-dictionary k r non_nullable e = absurd (cc)
nulled_constant-dictionary k r all_valid e = refl
nulled_constant-dictionary k r all_invalid e = refl
nulled_constant-dictionary k r (by_array m) e = refl

-- codes of one value
pub zero_codes : (c v : Tree) (n : ℕ) (u : Valid) → IsZeroCodes n u c → tree_len v ≡ 1 → IsDictionary c v false
zero_codes c v n u h one =
    other_codes c v c false (ap is_integers h.kind) (λ i k.
    let small : i < n = rw h.len at k in
    code_same (tree_len v) (row_at c i) (if is_valid_at u i then whole (pos 0) else null) (h.rows i small) (code_or_null (tree_len v) (is_valid_at u i) (whole (pos 0)) (rw one (omega arith))))

pub constant_with_nulls : (t c v : Tree) (k : Kind) (r : Row) (n : ℕ) (u : Valid) → nullable u ≡ true → v ≡ constant k r 1 → t ≡ dictionary c v false → IsZeroCodes n u c → IsNulled (constant k r n) u t
constant_with_nulls t c v k r n u e a b h =
    rw (b, a) (record {
      len = h.len;
      kind = ap (λ x. or_nullable (is_nullable_kind x) k) h.kind;
      shape = ap (λ s. dictionary_shape (constant k r 1) (taken_state (row_state k r) s) false) h.state ∙ nulled_constant-dictionary k r u e;
      plain = λ p q. absurd p;
      extent = refl;
      needs = λ p. absurd (cc);
      rows = λ i l. ap (λ x. picked (λ j. r) (position_in x)) (h.rows i l) ∙ picked_or_null (λ j. r) (is_valid_at u i) (whole (pos 0));
    })

pub constant_without_nulls : (t : Tree) (k : Kind) (r : Row) (n : ℕ) (u : Valid) → nullable u ≡ false → t ≡ constant k r n → IsNulled (constant k r n) u t
constant_without_nulls t k r n non_nullable e a = rw a (record { len = refl; kind = sym (same_kind k); shape = refl; plain = λ p q. absurd p; extent = refl; needs = λ p. absurd (cc); rows = λ i l. refl })
constant_without_nulls t k r n all_valid e a = absurd (cc)
constant_without_nulls t k r n all_invalid e a = absurd (cc)
constant_without_nulls t k r n (by_array m) e a = absurd (cc)

-- ---- reading

code_faultless : (n i : ℕ) (r : Row) → IsCode n r → index_fault n i r ≡ None
code_faultless n i null h = refl
code_faultless n i (whole (pos k)) h = rw (lt-ltb k n h) refl
code_faultless n i (whole (negsuc k)) h = absurd h
code_faultless n i (boolean b) h = absurd h
code_faultless n i (bytes b) h = absurd h
code_faultless n i (text b) h = absurd h
code_faultless n i (items b) h = absurd h
code_faultless n i (record_of b) h = absurd h

-- codes are positions without a fault
pub all_faultless : (c : Tree) (n : ℕ) → ((i : ℕ) → i < tree_len c → IsCode n (row_at c i)) → indices_fault n c ≡ None
all_faultless c n within = first_fault-of_none (λ i. index_fault n i (row_at c i)) (tree_len c) (λ i l. code_faultless n i (row_at c i) (within i l))

pub codes_faultless : (c v : Tree) (f : Bool) → IsDictionary c v f → indices_fault (tree_len v) c ≡ None
codes_faultless c v f h = all_faultless c (tree_len v) h.within

-- a call that finds no fault fails for want of memory alone
only_memory : (e : VortexError) → None ≡ refusal_of e → e ≡ Memory
only_memory Memory h = refl
only_memory _ h = absurd (cc)

pub memory_only : (fault : Option Refusal) (e : VortexError) → fault ≡ None → IsMemoryOr fault e → e ≡ Memory
memory_only fault e none (inl memory) = memory
memory_only fault e none (inr same) = only_memory e (sym none ∙ same)

-- a test that finds no fault gives what it says
pub test_passed : {A : Type 0} (r : Result A VortexError) (P : A → Type 0) (fault : Option Refusal) → fault ≡ None → IfOk r P → Tests r fault → Gives r P
test_passed (Ok x) P fault none ok tests = ok
test_passed (Err e) P fault none ok tests = let some = subst IsSome (sym tests.1 ∙ none) tests.0 in cc

pub call_passed : {A : Type 0} (r : Result A VortexError) (P : A → Type 0) (fault : Option Refusal) → fault ≡ None → IfOk r P → Refuses r fault → Gives r P
call_passed (Ok x) P fault none ok refuses = ok
call_passed (Err e) P fault none ok refuses = memory_only fault e none refuses

pub not_empty : (b : Bool) (n : ℕ) → b ≡ (n == 0) → b ≡ false → 0 < n
not_empty b zero e f = absurd (cc)
not_empty b (suc n) e f = omega arith

-- ---- validities

after_true : (x : Bool) → (x && true) ≡ x
after_true true = refl
after_true false = refl

after_false : (x : Bool) → (x && false) ≡ false
after_false true = refl
after_false false = refl

-- a value is present where it is one of n, and its code is not null
present_named : (f : ℕ → Row) (r : Row) (a : Bool) (n : ℕ) → IsCode n r → ((k : ℕ) → position_in r ≡ Some k → k < n → a ≡ is_present (f k)) → (a && is_present r) ≡ is_present (picked f (position_in r))
present_named f null a n h same = after_false a
present_named f (whole (pos k)) a n h same = after_true a ∙ same k refl h
present_named f (whole (negsuc k)) a n h same = absurd h
present_named f (boolean b) a n h same = absurd h
present_named f (bytes b) a n h same = absurd h
present_named f (text b) a n h same = absurd h
present_named f (items b) a n h same = absurd h
present_named f (record_of b) a n h same = absurd h

-- a state is that of the values that codes name
pub state_named : (v : Valid) (c : Tree) (w : Valid) → w ≡ v → ((n : ℕ) → ValidFits v n) → ((i j : ℕ) → is_valid_at v i ≡ is_valid_at v j) → IsValidNamed v c w
state_named v c w e fits alike = rw e (record { fits = fits (tree_len c); kind = refl; state = refl; bits = λ i k l named. alike i k })

-- and so is an array that is taken at their positions
pub taken_named : (v : Valid) (c : Tree) (len : ℕ) (ps : List ℕ) (w : Valid) → AreIndices c len ps → IsValidSelected v ps w → IsValidNamed v c w
taken_named v c len ps w h s =
    record {
      fits = rw (sym h.len) s.fits;
      kind = s.kind;
      state = s.state;
      bits = λ i k l named. s.bits i (rw h.len l) ∙ ap (is_valid_at v) (subst (λ o. IfSome o (λ p. slice_index ps i ≡ p)) named (h.each i l).told);
    }

-- and one truth value of rows that are all one
pub one_named : (m : Tree) (c : Tree) (b : Bool) (w : Valid) → IsRepeated c → w ≡ by_array (constant (booleans false) (boolean b) (tree_len c)) → ((k : ℕ) → position_in (row_at c 0) ≡ Some k → b ≡ truth_of (row_at m k)) → IsValidNamed (by_array m) c w
one_named m c b w h e same =
    rw e (record {
      fits = record { len = refl; kind = refl };
      kind = refl;
      state = refl;
      bits = λ i k l named. same k (ap position_in (sym (h.alike i)) ∙ named);
    })

-- the validity of the values, taken by the codes
pub validity_taken : (t c v : Tree) (f : Bool) (x y z w : Valid) → t ≡ dictionary c v f → IsDictionary c v f → IsValidityOf c x → IsValidityOf v y → IsValidNamed y c z → IsValidNulled z x (tree_len c) w → IsValidityOf t w
validity_taken t c v f x y z w a formed codes values s n =
    rw a (record {
      fits = n.fits;
      state = n.state ∙ ap (λ q. taken_state q (state_of x)) (s.state ∙ values.state) ∙ ap (taken_state (tree_state v)) codes.state;
      kind = nullable_nulled z x w n.state ∙ ap (λ b. b || nullable z) codes.kind ∙ ap (λ b. is_nullable_kind (kind_of c) || b) (s.kind ∙ values.kind) ∙ sym (nullable_either (is_nullable_kind (kind_of c)) (kind_of v));
      bits = λ i l.
          n.bits i l ∙ ap (λ b. is_valid_at z i && b) (codes.bits i l)
          ∙ present_named (row_at v) (row_at c i) (is_valid_at z i) (tree_len v) (formed.within i l) (λ k named within. s.bits i k l named ∙ values.bits k within);
    })

-- of no values each code is null
absent : (f : ℕ → Row) (r : Row) → IsCode 0 r → false ≡ is_present (picked f (position_in r))
absent f null h = refl
absent f (whole (pos k)) h = absurd (omega (arith, h))
absent f (whole (negsuc k)) h = absurd h
absent f (boolean b) h = absurd h
absent f (bytes b) h = absurd h
absent f (text b) h = absurd h
absent f (items b) h = absurd h
absent f (record_of b) h = absurd h

pub ruleset sliced = (codes_sliced, dictionary_sliced)

pub ruleset selected = (codes_can_be_selected, codes_selected, dictionary_selected)

pub ruleset nulled = (codes_nulled, dictionary_nulled)

pub ruleset null_rows = (codes_null, dictionary_nulls)

pub ruleset constants = (zero_codes, constant_with_nulls, constant_without_nulls)

pub ruleset named = (state_named, taken_named, one_named)
