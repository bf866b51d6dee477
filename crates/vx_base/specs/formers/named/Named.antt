-- `Named` as a type that may hold the type that holds it, by its values.
use Rattle.std.specs.Prelude.{◌≡◌, ℕ, List, [], ◌∷◌, map, length}
use mathlib.Core.Path.{refl, sym, ap, ◌∙◌}
use mathlib.Core.Former.{Former, one_more, this, const, pair, list, via, children}
use native.Mathlib.Nat.{ℕ_set}
use native.Mathlib.Omega.{arith}
use lib.ListN.{length-map}
use base.Stored.{gcons, gnil, coded_ℕ, coded×, coded_list, code_map}
use base.Fml.{ftrue}
use denote.RattleType.{RattleType}
use denote.Memory.{part_of}
use denote.RawPtr.{Ptr}
use denote.Sharing.{nothing}
use denote.HoleLaws.{Alike}
use denote.HolePlaces.{Recodes, struct_places, laid, one_value}
use denote.Hole.Fix.{over}
use denote.Hole.Carrier.{listed}
use denote.Param.Weighed.{Weighed, w_list, w_pair, w_const}
use denote.Model.Placed.{held, view_places_where}
use Rattle.std.specs.List.{zip}
use Rattle.std.specs.formers.vec.Vec as vec
use Rattle.std.specs.contracts.vec.Vec as vec_contracts
use Rattle.std.specs.declared.rc.Rc.{Rc}
use Rattle.std.specs.contracts.rc.Rc as rc
use Rattle.std.specs.declared.alloc.Global.{Global}
use Rattle.std.specs.contracts.alloc.Global as heap
use Rattle.std.specs.contracts.impls.GlobalAllocator.TheImpl.{ghosts}
use Rattle.vx_base.specs.NamedItems.{items_in}
use Rattle.vx_base.specs.declared.named.Named.TheInside.{Inside}
use Rattle.vx_base.specs.declared.named.Named.TheView.{view, invariant}
use Rattle.vx_base.specs.contracts.named.Named as C
use Rattle.vx_base.specs.contracts.named.Named.TheInside as I

abbrev pub entry : Former {0} → Former {0}
entry g = pair (const (List ℕ)) g

abbrev pub the_former : Former {0} → Former {0}
the_former g = list (entry g)

abbrev pub the_weighed : {g : Former {0}} → Weighed g → Weighed (the_former g)
the_weighed w = w_list (w_pair (w_const (List ℕ)) w)

pub the_empty : List (List ℕ × ⊥)
the_empty = []

-- the entry, with h applied to its item
abbrev on_item : {X Y : Type 0} → (X → Y) → List ℕ × X → List ℕ × Y
on_item h p = (p.0, h p.1)

abbrev pub the_items : (X : Type 0) → List (List ℕ × X) → List X
the_items X d = items_in d

pub the_items_listed : (X : Type 0) (d : List (List ℕ × X)) → listed _ (children (the_former this) X d) ≡ the_items X d
the_items_listed X [] = refl
the_items_listed X (n ∷ ns) = ap (λ l. n.1 ∷ l) (the_items_listed X ns)

abbrev fields : Former {0}
fields =
    via (pair (const (List (List ℕ))) (pair (const Ptr) (vec.the_former this Global))) Inside
    (λ X a. (a.names, (a.items.ptr, a.items.value)))
    (λ X v. record { names = v.0; items = record { ptr = v.1.0; value = v.1.1 } }) (λ X a. refl) (λ X v. refl)

zip-map : {X Y : Type 0} (h : X → Y) (ns : List (List ℕ)) (xs : List X) → zip ns (map h xs) ≡ map (on_item h) (zip ns xs)
zip-map h [] xs = refl
zip-map h (n ∷ ns) [] = refl
zip-map h (n ∷ ns) (x ∷ xs) = ap (λ l. (n, h x) ∷ l) (zip-map h ns xs)

zip-held : (X : Type 0) (ns : List (List ℕ)) (xs : List X) → length xs ≡ length ns
    → held (list (entry this)) X (zip ns xs) ≡ held (list this) X xs
zip-held X [] [] e = refl
zip-held X [] (x ∷ xs) e = absurd (omega arith)
zip-held X (n ∷ ns) [] e = absurd (omega arith)
zip-held X (n ∷ ns) (x ∷ xs) e = λ i. (one_more (zip-held X ns xs (omega arith) i).0, (x, (zip-held X ns xs (omega arith) i).1))

abbrev with_value : {X Y : Type 0} → Rc X Global → Y → Rc Y Global
with_value r y = record { ptr = r.ptr; value = y }

abbrev rc_of : RattleType → RattleType
rc_of R = rc.the_row R heap.the_row ghosts

abbrev vec_of : RattleType → RattleType
vec_of R = vec_contracts.the_row R heap.the_row ghosts

rc_places : (R S : RattleType) (h : R.Denot → S.Denot) → Alike R S h → Alike (rc_of R) (rc_of S) (λ r. with_value r (h r.value))
unfolding part_of
rc_places R S h a = record {
  mir_same = λ i. (rc_of (one_value R (a.mir_same i) (λ _. ftrue) (λ _ _. nothing) gnil)).mir;
  own_same = λ r i. (rc_of (one_value R (a.mir_same i) (a.own_same r.value i) (a.shr_same r.value i) gnil)).own_val (with_value r tt);
  shr_same = λ r i. (rc_of (one_value R (a.mir_same i) (a.own_same r.value i) (a.shr_same r.value i) gnil)).shr_at (with_value r tt);
}

module _ (R S : RattleType) (h : R.Denot → S.Denot) where
  the_items_places : Alike R S h → Alike (rc_of (vec_of R)) (rc_of (vec_of S)) (λ r. with_value r (vec.mapped h r.value))
  the_items_places a = rc_places (vec_of R) (vec_of S) (vec.mapped h) (vec.the_places heap.the_row ghosts R S h a)

  pub the_places : Alike R S h → Alike (C.the_row R) (C.the_row S) ((the_former this).map R.Denot S.Denot h)
  the_places a = view_places_where fields (the_former this) view (λ X Y k u. zip-map k u.names u.items.value.items)
      (λ X u. length u.items.value.items ≡ length u.names) (λ X Y k u e. sym (length-map u.items.value.items k) ∙ e)
      (λ X u e. zip-held X u.names u.items.value.items e)
      R.Denot S.Denot h (C.the_row R).coded (C.the_row S).coded
      (invariant R.Denot) (invariant S.Denot) (λ u. ℕ_set _ _) (λ u. ℕ_set _ _)
      (λ u e. length-map u.items.value.items h ∙ e) (λ u e. sym (length-map u.items.value.items h) ∙ e) (λ u e. e)
      (over (I.the_row R)) (over (I.the_row S))
      (struct_places (I.the_type R) (I.the_type S) (λ n. n, (λ r. with_value r (vec.mapped h r.value), tt)) _ (λ d. refl) refl
      ((refl, (λ n. refl, λ n. refl)), (laid _ _ _ (the_items_places a), tt)))

  pub the_codes_placed : Recodes R S h → Recodes (C.the_row R) (C.the_row S) ((the_former this).map R.Denot S.Denot h)
  the_codes_placed e d =
      sym (code_map (coded× (coded_list coded_ℕ) R.coded).code (coded× (coded_list coded_ℕ) S.coded).code (on_item h)
      (λ x i. gcons ((coded_list coded_ℕ).code x.0) (sym (e x.1) i)) d)
