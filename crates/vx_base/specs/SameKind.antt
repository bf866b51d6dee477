-- Whether two kinds are the same.
use Rattle.std.specs.Prelude.{◌≡◌, ◌&&◌, ℕ, nat_eq, Bool, true, false, List, bytes_eq, refl}
use Rattle.std.specs.Bool.{beq, Decides}
use Rattle.std.specs.Cmp.{IsEquivalence, equiv, booleans_Decides, unsigned_Decides}
use Rattle.std.specs.Cmp.Lexicographic.{pointwise, pointwise_decides}
use Rattle.std.proofs.Common.{ap, sym, ◌∙◌}
use Rattle.std.proofs.lemmas.Bool.Decides.{same_from_decides}
use Rattle.std.proofs.lemmas.Slice.Eq.{bytes_eq-Decides}
use Rattle.vx_base.specs.declared.ptypes.PType.{PType}
use Rattle.vx_base.specs.declared.ptypes.PType.TheVariants.{U8, U16, U32, U64, I8, I16, I32, I64}
use Rattle.vx_base.specs.Kinds.{Kind, booleans, integers, texts, binaries, lists, fixed_lists, records, Kinds, no_kinds, kind}

abbrev pub type_eq : PType → PType → Bool
type_eq U8 U8 = true
type_eq U16 U16 = true
type_eq U32 U32 = true
type_eq U64 U64 = true
type_eq I8 I8 = true
type_eq I16 I16 = true
type_eq I32 I32 = true
type_eq I64 I64 = true
type_eq _ _ = false

abbrev pub names_eq : List (List ℕ) → List (List ℕ) → Bool
names_eq ns ms = pointwise bytes_eq ns ms

abbrev mutual
  pub kind_eq : Kind → Kind → Bool
  kind_eq (booleans n) (booleans m) = beq n m
  kind_eq (integers t n) (integers u m) = beq n m && type_eq t u
  kind_eq (texts n) (texts m) = beq n m
  kind_eq (binaries n) (binaries m) = beq n m
  kind_eq (lists k n) (lists h m) = beq n m && kind_eq k h
  kind_eq (fixed_lists k size n) (fixed_lists h size2 m) = beq n m && (nat_eq size size2 && kind_eq k h)
  kind_eq (records names ks n) (records names2 hs m) = beq n m && (names_eq names names2 && kinds_eq ks hs)
  kind_eq _ _ = false

  pub kinds_eq : Kinds → Kinds → Bool
  kinds_eq no_kinds no_kinds = true
  kinds_eq (kind k ks) (kind h hs) = kind_eq k h && kinds_eq ks hs
  kinds_eq _ _ = false

-- ---- that it is so

pub type_eq-same : (t u : PType) → type_eq t u ≡ true → t ≡ u
type_eq-same U8 U8 p = refl
type_eq-same U16 U16 p = refl
type_eq-same U32 U32 p = refl
type_eq-same U64 U64 p = refl
type_eq-same I8 I8 p = refl
type_eq-same I16 I16 p = refl
type_eq-same I32 I32 p = refl
type_eq-same I64 I64 p = refl
type_eq-same _ _ p = cc

type_eq-refl : (t : PType) → type_eq t t ≡ true
type_eq-refl U8 = refl
type_eq-refl U16 = refl
type_eq-refl U32 = refl
type_eq-refl U64 = refl
type_eq-refl I8 = refl
type_eq-refl I16 = refl
type_eq-refl I32 = refl
type_eq-refl I64 = refl

both : (a b : Bool) → (a && b) ≡ true → (a ≡ true) × (b ≡ true)
both true true p = (refl, refl)
both true false p = cc
both false true p = cc
both false false p = cc

are_both : (a b : Bool) → a ≡ true → b ≡ true → (a && b) ≡ true
are_both a b p q = ap (λ x. x && b) p ∙ ap (λ x. true && x) q

names_eq-Decides : (ns ms : List (List ℕ)) → Decides (names_eq ns ms) (ns ≡ ms)
names_eq-Decides ns ms = pointwise_decides bytes_eq-Decides ns ms

mutual
  kind_eq-same : (x y : Kind) → kind_eq x y ≡ true → x ≡ y
  kind_eq-same (booleans n) (booleans m) p = ap booleans ((booleans_Decides n m).0 p)
  kind_eq-same (integers t n) (integers u m) p =
      let b = both (beq n m) (type_eq t u) p in
      λ i. integers (type_eq-same t u b.1 i) ((booleans_Decides n m).0 b.0 i)
  kind_eq-same (texts n) (texts m) p = ap texts ((booleans_Decides n m).0 p)
  kind_eq-same (binaries n) (binaries m) p = ap binaries ((booleans_Decides n m).0 p)
  kind_eq-same (lists k n) (lists h m) p =
      let b = both (beq n m) (kind_eq k h) p in
      λ i. lists (kind_eq-same k h b.1 i) ((booleans_Decides n m).0 b.0 i)
  kind_eq-same (fixed_lists k size n) (fixed_lists h size2 m) p =
      let b = both (beq n m) (nat_eq size size2 && kind_eq k h) p in
      let c = both (nat_eq size size2) (kind_eq k h) b.1 in
      λ i. fixed_lists (kind_eq-same k h c.1 i) ((unsigned_Decides size size2).0 c.0 i) ((booleans_Decides n m).0 b.0 i)
  kind_eq-same (records names ks n) (records names2 hs m) p =
      let b = both (beq n m) (names_eq names names2 && kinds_eq ks hs) p in
      let c = both (names_eq names names2) (kinds_eq ks hs) b.1 in
      λ i. records ((names_eq-Decides names names2).0 c.0 i) (kinds_eq-same ks hs c.1 i) ((booleans_Decides n m).0 b.0 i)
  kind_eq-same _ _ p = cc

  kinds_eq-same : (x y : Kinds) → kinds_eq x y ≡ true → x ≡ y
  kinds_eq-same no_kinds no_kinds p = refl
  kinds_eq-same (kind k ks) (kind h hs) p =
      let b = both (kind_eq k h) (kinds_eq ks hs) p in
      λ i. kind (kind_eq-same k h b.0 i) (kinds_eq-same ks hs b.1 i)
  kinds_eq-same _ _ p = cc

mutual
  kind_eq-refl : (x : Kind) → kind_eq x x ≡ true
  kind_eq-refl (booleans n) = (booleans_Decides n n).1 refl
  kind_eq-refl (integers t n) = are_both (beq n n) (type_eq t t) ((booleans_Decides n n).1 refl) (type_eq-refl t)
  kind_eq-refl (texts n) = (booleans_Decides n n).1 refl
  kind_eq-refl (binaries n) = (booleans_Decides n n).1 refl
  kind_eq-refl (lists k n) = are_both (beq n n) (kind_eq k k) ((booleans_Decides n n).1 refl) (kind_eq-refl k)
  kind_eq-refl (fixed_lists k size n) =
      are_both (beq n n) (nat_eq size size && kind_eq k k) ((booleans_Decides n n).1 refl)
      (are_both (nat_eq size size) (kind_eq k k) ((unsigned_Decides size size).1 refl) (kind_eq-refl k))
  kind_eq-refl (records names ks n) =
      are_both (beq n n) (names_eq names names && kinds_eq ks ks) ((booleans_Decides n n).1 refl)
      (are_both (names_eq names names) (kinds_eq ks ks) ((names_eq-Decides names names).1 refl) (kinds_eq-refl ks))

  kinds_eq-refl : (x : Kinds) → kinds_eq x x ≡ true
  kinds_eq-refl no_kinds = refl
  kinds_eq-refl (kind k ks) = are_both (kind_eq k k) (kinds_eq ks ks) (kind_eq-refl k) (kinds_eq-refl ks)

-- it is true exactly where they are
pub kind_eq-Decides : (x y : Kind) → Decides (kind_eq x y) (x ≡ y)
kind_eq-Decides x y = (kind_eq-same x y, λ e. ap (kind_eq x) (sym e) ∙ kind_eq-refl x)

-- a test that decides sameness is an equivalence
decided_equiv : {K : Type 0} (E : K → K → Bool) → ((x y : K) → Decides (E x y) (x ≡ y)) → IsEquivalence E
decided_equiv E d =
    equiv (record {
      symm = λ x y. same_from_decides {P = x ≡ y} (E x y) (E y x) (d x y) ((λ p. sym ((d y x).0 p)), (λ p. (d y x).1 (sym p)));
      trans = λ x y z p q. (d x z).1 ((d x y).0 p ∙ (d y z).0 q);
    }) (λ x. (d x x).1 refl)

pub kind_equiv : IsEquivalence kind_eq
kind_equiv = decided_equiv kind_eq kind_eq-Decides

pub name_equiv : IsEquivalence bytes_eq
name_equiv = decided_equiv bytes_eq bytes_eq-Decides
