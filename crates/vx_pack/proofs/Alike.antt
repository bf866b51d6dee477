-- Kinds that are the same but for null.
use Rattle.std.proofs.Common.{◌≡◌, ℕ, List, Bool, true, refl}
use Rattle.vx_base.specs.Kinds.{Kind, booleans, integers, texts, binaries, lists, fixed_lists, records, Kinds, or_nullable}
use Rattle.vx_pack.specs.Lists.{IsItemOf}

-- the kind of a dictionary's values
pub dictionary_alike : (c : Bool) (k : Kind) → or_nullable true (or_nullable c k) ≡ or_nullable true k
dictionary_alike c (booleans n) = refl
dictionary_alike c (integers t n) = refl
dictionary_alike c (texts n) = refl
dictionary_alike c (binaries n) = refl
dictionary_alike c (lists k n) = refl
dictionary_alike c (fixed_lists k size n) = refl
dictionary_alike c (records names ks n) = refl

-- lists of the same items
pub item_alike : (item k h : Kind) → or_nullable true k ≡ or_nullable true h → IsItemOf item k → IsItemOf item h
item_alike item (lists k n) (lists h m) e i = cc
item_alike item (fixed_lists k size n) (fixed_lists h other m) e i = cc
item_alike item (lists k n) _ e i = cc
item_alike item (fixed_lists k size n) _ e i = cc
item_alike item _ h e i = absurd i

-- records of the same fields
pub records_alike : (names : List (List ℕ)) (ks : Kinds) (n : Bool) (h : Kind) → or_nullable true (records names ks n) ≡ or_nullable true h → (m : Bool) × (h ≡ records names ks m)
records_alike names ks n (records ns hs m) e =
    let same_names : names ≡ ns = cc in
    let same_kinds : ks ≡ hs = cc in
    (m, cc)
records_alike names ks n _ e = cc
