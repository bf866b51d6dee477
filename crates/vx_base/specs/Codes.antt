-- How the logic stores integer types, rows and kinds.
use Rattle.std.specs.Prelude.{◌≡◌, ◌+◌, ℕ, ℤ, pos, negsuc, max, refl}
use Rattle.std.proofs.Common.{ap, arith}
use base.Stored.{Gv, gnil, gnum, gcons, num, Coded, coded_ℕ, coded_bool, coded_list}
use Rattle.vx_base.specs.declared.ptypes.PType.{PType}
use Rattle.vx_base.specs.declared.ptypes.PType.TheVariants.{U8, U16, U32, U64, I8, I16, I32, I64}
use Rattle.vx_base.specs.Rows.{Row, null, boolean, whole, bytes, text, items, record_of, Rows, no_rows, row, Fields, no_fields, field}
use Rattle.vx_base.specs.Kinds.{Kind, booleans, integers, texts, binaries, lists, fixed_lists, records, Kinds, no_kinds, kind}

-- the two parts of a pair of codes
abbrev pub first : Gv → Gv
first gnil = gnil
first (gnum n) = gnil
first (gcons a b) = a

abbrev pub rest : Gv → Gv
rest gnil = gnil
rest (gnum n) = gnil
rest (gcons a b) = b

-- the second part of several, and what is left after it
abbrev pub second : Gv → Gv
second g = first (rest g)

abbrev pub after_second : Gv → Gv
after_second g = rest (rest g)

abbrev pub number : Gv → ℕ
number g = num g

-- the number that a code begins with
abbrev pub tag : Gv → ℕ
tag g = num (first g)

-- ---- integer types

abbrev pub code_type : PType → Gv
code_type U8 = gnum 0
code_type U16 = gnum 1
code_type U32 = gnum 2
code_type U64 = gnum 3
code_type I8 = gnum 4
code_type I16 = gnum 5
code_type I32 = gnum 6
code_type I64 = gnum 7

pub code_type-inj : (t u : PType) → code_type t ≡ code_type u → t ≡ u
code_type-inj U8 U8 p = refl
code_type-inj U16 U16 p = refl
code_type-inj U32 U32 p = refl
code_type-inj U64 U64 p = refl
code_type-inj I8 I8 p = refl
code_type-inj I16 I16 p = refl
code_type-inj I32 I32 p = refl
code_type-inj I64 I64 p = refl
code_type-inj _ _ p = let e = ap num p in absurd (omega (arith, e))

-- ---- whole numbers

abbrev code_int : ℤ → Gv
code_int (pos n) = gcons (gnum 0) (gnum n)
code_int (negsuc n) = gcons (gnum 1) (gnum n)

code_int-inj : (x y : ℤ) → code_int x ≡ code_int y → x ≡ y
code_int-inj (pos n) (pos m) p = ap pos (ap (λ g. num (rest g)) p)
code_int-inj (negsuc n) (negsuc m) p = ap negsuc (ap (λ g. num (rest g)) p)
code_int-inj _ _ p = let e = ap tag p in absurd (omega (arith, e))

-- ---- rows

abbrev mutual
  pub code_row : Row → Gv
  code_row null = gcons (gnum 0) gnil
  code_row (boolean b) = gcons (gnum 1) (coded_bool.code b)
  code_row (whole z) = gcons (gnum 2) (code_int z)
  code_row (bytes bs) = gcons (gnum 3) ((coded_list coded_ℕ).code bs)
  code_row (text bs) = gcons (gnum 4) ((coded_list coded_ℕ).code bs)
  code_row (items rs) = gcons (gnum 5) (code_rows rs)
  code_row (record_of fs) = gcons (gnum 6) (code_fields fs)

  pub code_rows : Rows → Gv
  code_rows no_rows = gnil
  code_rows (row r rs) = gcons (code_row r) (code_rows rs)

  pub code_fields : Fields → Gv
  code_fields no_fields = gnil
  code_fields (field n r fs) = gcons ((coded_list coded_ℕ).code n) (gcons (code_row r) (code_fields fs))

mutual
  pub code_row-inj : (x y : Row) → code_row x ≡ code_row y → x ≡ y
  code_row-inj null null p = refl
  code_row-inj (boolean b) (boolean c) p = ap boolean (coded_bool.inj b c (ap rest p))
  code_row-inj (whole z) (whole y) p = ap whole (code_int-inj z y (ap rest p))
  code_row-inj (bytes bs) (bytes cs) p = ap bytes ((coded_list coded_ℕ).inj bs cs (ap rest p))
  code_row-inj (text bs) (text cs) p = ap text ((coded_list coded_ℕ).inj bs cs (ap rest p))
  code_row-inj (items rs) (items qs) p = ap items (code_rows-inj rs qs (ap rest p))
  code_row-inj (record_of fs) (record_of gs) p = ap record_of (code_fields-inj fs gs (ap rest p))
  code_row-inj _ _ p = let e = ap tag p in absurd (omega (arith, e))

  pub code_rows-inj : (x y : Rows) → code_rows x ≡ code_rows y → x ≡ y
  code_rows-inj no_rows no_rows p = refl
  code_rows-inj (row r rs) (row q qs) p = λ i. row (code_row-inj r q (ap first p) i) (code_rows-inj rs qs (ap rest p) i)
  code_rows-inj _ _ p = cc

  pub code_fields-inj : (x y : Fields) → code_fields x ≡ code_fields y → x ≡ y
  code_fields-inj no_fields no_fields p = refl
  code_fields-inj (field n r fs) (field m q gs) p =
      λ i. field ((coded_list coded_ℕ).inj n m (ap first p) i) (code_row-inj r q (ap second p) i)
      (code_fields-inj fs gs (ap after_second p) i)
  code_fields-inj _ _ p = cc

-- ---- kinds

abbrev mutual
  pub code_kind : Kind → Gv
  code_kind (booleans n) = gcons (gnum 0) (coded_bool.code n)
  code_kind (integers t n) = gcons (gnum 1) (gcons (code_type t) (coded_bool.code n))
  code_kind (texts n) = gcons (gnum 2) (coded_bool.code n)
  code_kind (binaries n) = gcons (gnum 3) (coded_bool.code n)
  code_kind (lists k n) = gcons (gnum 4) (gcons (code_kind k) (coded_bool.code n))
  code_kind (fixed_lists k size n) = gcons (gnum 5) (gcons (code_kind k) (gcons (gnum size) (coded_bool.code n)))
  code_kind (records names ks n) =
      gcons (gnum 6) (gcons ((coded_list (coded_list coded_ℕ)).code names) (gcons (code_kinds ks) (coded_bool.code n)))

  pub code_kinds : Kinds → Gv
  code_kinds no_kinds = gnil
  code_kinds (kind k ks) = gcons (code_kind k) (code_kinds ks)

mutual
  pub code_kind-inj : (x y : Kind) → code_kind x ≡ code_kind y → x ≡ y
  code_kind-inj (booleans n) (booleans m) p = ap booleans (coded_bool.inj n m (ap rest p))
  code_kind-inj (integers t n) (integers u m) p =
      λ i. integers (code_type-inj t u (ap second p) i) (coded_bool.inj n m (ap after_second p) i)
  code_kind-inj (texts n) (texts m) p = ap texts (coded_bool.inj n m (ap rest p))
  code_kind-inj (binaries n) (binaries m) p = ap binaries (coded_bool.inj n m (ap rest p))
  code_kind-inj (lists k n) (lists h m) p = λ i. lists (code_kind-inj k h (ap second p) i) (coded_bool.inj n m (ap after_second p) i)
  code_kind-inj (fixed_lists k size n) (fixed_lists h size2 m) p =
      λ i. fixed_lists (code_kind-inj k h (ap second p) i) (ap (λ g. num (second (rest g))) p i)
      (coded_bool.inj n m (ap (λ g. after_second (rest g)) p) i)
  code_kind-inj (records names ks n) (records names2 hs m) p =
      λ i. records ((coded_list (coded_list coded_ℕ)).inj names names2 (ap second p) i)
      (code_kinds-inj ks hs (ap (λ g. second (rest g)) p) i) (coded_bool.inj n m (ap (λ g. after_second (rest g)) p) i)
  code_kind-inj _ _ p = let e = ap tag p in absurd (omega (arith, e))

  pub code_kinds-inj : (x y : Kinds) → code_kinds x ≡ code_kinds y → x ≡ y
  code_kinds-inj no_kinds no_kinds p = refl
  code_kinds-inj (kind k ks) (kind h hs) p = λ i. kind (code_kind-inj k h (ap first p) i) (code_kinds-inj ks hs (ap rest p) i)
  code_kinds-inj _ _ p = cc

-- ---- as codes

abbrev pub coded_row : Coded Row
coded_row = record { code = code_row; inj = code_row-inj }

abbrev pub coded_kind : Coded Kind
coded_kind = record { code = code_kind; inj = code_kind-inj }

abbrev pub coded_rows : Coded Rows
coded_rows = record { code = code_rows; inj = code_rows-inj }

-- ---- how deep they go

abbrev mutual
  pub row_depth : Row → ℕ
  row_depth (items rs) = rows_depth rs + 1
  row_depth (record_of fs) = fields_depth fs + 1
  row_depth _ = 0

  pub rows_depth : Rows → ℕ
  rows_depth no_rows = 0
  rows_depth (row r rs) = max (row_depth r) (rows_depth rs)

  pub fields_depth : Fields → ℕ
  fields_depth no_fields = 0
  fields_depth (field n r fs) = max (row_depth r) (fields_depth fs)

abbrev mutual
  pub kind_depth : Kind → ℕ
  kind_depth (lists k n) = kind_depth k + 1
  kind_depth (fixed_lists k size n) = kind_depth k + 1
  kind_depth (records names ks n) = kinds_depth ks + 1
  kind_depth _ = 0

  pub kinds_depth : Kinds → ℕ
  kinds_depth no_kinds = 0
  kinds_depth (kind k ks) = max (kind_depth k) (kinds_depth ks)
