-- From what is known of the parts of a node to what is known of its array, and of a table.
use Rattle.std.proofs.Common.{◌≡◌, ℕ, ◌<◌, ◌∙◌, Bool, true, false, List, [], ◌∷◌, length, refl, ap, sym, subst, arith}
use Rattle.std.specs.Prelude.{Some, Result, Ok, Err, ℤ, slice_index_or, IsUtf8}
use Rattle.std.proofs.lemmas.Bool.{eq-eqb}
use Rattle.std.proofs.lemmas.List.{length-map}
use Rattle.vx_base.specs.declared.ptypes.PType.{PType}
use Rattle.vx_base.specs.declared.ptypes.PType.TheVariants.{U8, U16, U32, U64, I8, I16, I32, I64}
use Rattle.vx_base.specs.Kinds.{booleans}
use Rattle.vx_base.specs.Rows.{null}
use Rattle.vx_base.specs.Integers.{numbers}
use Rattle.vx_views.specs.Sound.{AreSoundViews}
use Rattle.vx_tree.specs.Meaning.{tree_len, nullable}
use Rattle.vx_tree.specs.Tree.{Tree, constant, Valid}
use Rattle.vx_c.specs.declared.parts.Part.{Part}
use Rattle.vx_c.specs.declared.parts.Part.TheVariants.{Numbers, Rows}
use Rattle.vx_c.specs.declared.table.CodraskNode.{CodraskNode}
use Rattle.vx_c.specs.declared.table.NodeKind.{NodeKind}
use Rattle.vx_c.specs.declared.table.NodeKind.TheVariants.{Number, Utf8, Binary}
use Rattle.vx_c.specs.NodeKinds.{kind_numbered, kind_number}
use Rattle.vx_c.specs.Parts.{HasNumbers, Describes, AreDescribed, IsDescribed, IsValidOver, IsPartMade, Makes, AreValuesOver}
use Rattle.vx_c.specs.Spans.{between}
use Rattle.vx_c.specs.Tables.{NodeFault, put, layout_made, valid_of_number, valid_made, kind_made, node_made, view_bytes, views_in, buffers_in}
use Rattle.vx_c.specs.Told.{heap_in, IsViewOf, ShowsValues, ShowsNumbers}
use Rattle.vx_c.proofs.PartsMade.{plain_numbers, numbers_made, texts_made, values_made}

-- ---- one node

put_passed : (n : CodraskNode) (p : Part) (new : List Part) (r : Result (Tree × List Tree) NodeFault) → IsPartMade p new n.length r → IsDescribed (p ∷ new) (put n r)
put_passed n p new (Ok (t, ts)) (holds, long, rest) = rw (eq-eqb (tree_len t) n.length long) (holds, rest)
put_passed n p new (Err f) made = absurd made

valid_passed : (n : CodraskNode) (k : NodeKind) (may : Bool) (mid new : List Part) (p : Part) (r : Result (Valid × List Tree) NodeFault) → IsValidOver may n.length mid r
    → Makes k n may mid p new → IsDescribed (p ∷ new) (put n (valid_made k n r))
valid_passed n k may mid new p (Ok (v, ts)) (valid, is, rest) makes = put_passed n p new (layout_made k n v ts) (makes v ts valid is rest)
valid_passed n k may mid new p (Err f) valid makes = absurd valid

-- a node of a kind, whose validity and layout have no fault
pub node_passed : (n : CodraskNode) (k : NodeKind) (may : Bool) (mid new : List Part) (p : Part) (ts : List Tree) → kind_numbered n.kind ≡ Some k
    → IsValidOver may n.length mid (valid_of_number n.validity ts) → Makes k n may mid p new → IsDescribed (p ∷ new) (node_made n ts)
node_passed n k may mid new p ts is valid makes =
    subst (λ o. IsDescribed (p ∷ new) (put n (kind_made o n ts))) (sym is) (valid_passed n k may mid new p (valid_of_number n.validity ts) valid makes)

-- what holds of an array holds as well by less that is known of it
weaken : {E : Type 0} (p q : Part) (ps : List Part) (r : Result (List Tree) E) → ((t : Tree) → Describes p t → Describes q t) → IsDescribed (p ∷ ps) r → IsDescribed (q ∷ ps) r
weaken p q ps (Ok []) less described = absurd described
weaken p q ps (Ok (t ∷ ts)) less (holds, rest) = (less t holds, rest)
weaken p q ps (Err f) less described = absurd described

-- ---- nodes that offsets tell of

known-numbers : (t : PType) → kind_numbered (kind_number (Number t)) ≡ Some (Number t)
known-numbers U8 = refl
known-numbers U16 = refl
known-numbers U32 = refl
known-numbers U64 = refl
known-numbers I8 = refl
known-numbers I16 = refl
known-numbers I32 = refl
known-numbers I64 = refl

module _ (zs : List ℤ) (lent told : CodraskNode) (shows : ShowsNumbers zs lent told) (long : length zs ≡ lent.length) where
  pub told_numbers : (p : Part) → ((t : Tree) → HasNumbers zs t → Describes p t) → (ps : List Part) (ts : List Tree) → AreDescribed ps ts → IsDescribed (p ∷ ps) (node_made told ts)
  told_numbers p of_numbers ps ts described =
      let kind : kind_numbered told.kind ≡ Some (Number shows.type) = ap kind_numbered shows.kind_is ∙ known-numbers shows.type in
      let valid : IsValidOver false told.length ps (valid_of_number told.validity ts) =
      subst (λ k. IsValidOver false told.length ps (valid_of_number k ts)) (sym shows.validity) (refl, refl, described) in
      weaken (Numbers shows.type told.bytes false) p ps (node_made told ts)
      (λ t has. of_numbers t (subst (λ ns. HasNumbers ns t) shows.same (plain_numbers shows.type told.bytes.now t has)))
      (node_passed told (Number shows.type) false ps ps (Numbers shows.type told.bytes false) ts kind valid
      (numbers_made told shows.type false shows.whole (ap length shows.same ∙ long ∙ sym shows.len) ps))

-- rows of some array
abbrev some_rows : ℕ → Tree
some_rows n = constant (booleans false) null n

values_put : (told : CodraskNode) (k : NodeKind) (new : List Part) (r : Result (Valid × List Tree) NodeFault) → AreValuesOver told.length new r
    → ((may : Bool) (ps : List Part) → Makes k told may ps (Rows told.length) ps) → IsDescribed new (put told (valid_made k told r))
values_put told k [] (Ok (v, us)) (valid, holds) makes = absurd (holds (some_rows told.length) refl)
values_put told k (p ∷ ps) (Ok (v, us)) (valid, holds) makes =
    let rest = (holds (some_rows told.length) refl).1 in
    weaken (Rows told.length) p ps (put told (layout_made k told v us)) (λ t long. (holds t long).0)
    (put_passed told (Rows told.length) ps (layout_made k told v us) (makes (nullable v) ps v us valid refl rest))
values_put told k new (Err f) over makes = absurd over

module _ (t : PType) (k : NodeKind) (lent told : CodraskNode) (shows : ShowsValues k t lent told) where
  views_long : length told.views.now ≡ told.length
  views_long = shows.views ∙ sym shows.len

  at_row : (i : ℕ) → i < length (views_in told) → IsViewOf (buffers_in told) (slice_index_or (views_in told) i []) (between (numbers t lent.bytes.now) (heap_in lent) i)
  at_row i inside = shows.each i (omega (arith, inside, length-map told.views.now view_bytes, shows.views))

  pub shown_values : (mask : List Bool) → AreSoundViews (views_in told) mask (buffers_in told) false
  shown_values mask i inside valid = (at_row i inside).0

  pub shown_texts : ((i : ℕ) → i < lent.length → IsUtf8 (between (numbers t lent.bytes.now) (heap_in lent) i)) → (mask : List Bool) → AreSoundViews (views_in told) mask (buffers_in told) true
  shown_texts are mask i inside valid =
      let here = at_row i inside in
      record {
        resolves = here.0.resolves;
        begins = here.0.begins;
        utf8 = λ on. subst IsUtf8 (sym here.1) (are i (omega (arith, inside, length-map told.views.now view_bytes, shows.views)));
      }

  shown_over : (new : List Part) (ts : List Tree) → kind_numbered (kind_number k) ≡ Some k → AreValuesOver lent.length new (valid_of_number lent.validity ts)
      → ((may : Bool) (ps : List Part) → Makes k told may ps (Rows told.length) ps) → IsDescribed new (node_made told ts)
  shown_over new ts known over makes =
      let kind : kind_numbered told.kind ≡ Some k = ap kind_numbered shows.kind_is ∙ known in
      let there : AreValuesOver told.length new (valid_of_number told.validity ts) =
      subst (λ n. AreValuesOver n new (valid_of_number told.validity ts)) (sym shows.len)
      (subst (λ n. AreValuesOver lent.length new (valid_of_number n ts)) (sym shows.validity) over) in
      subst (λ o. IsDescribed new (put told (kind_made o told ts))) (sym kind) (values_put told k new (valid_of_number told.validity ts) there makes)

pub told_texts : (t : PType) (lent told : CodraskNode) → ShowsValues Utf8 t lent told → ((i : ℕ) → i < lent.length → IsUtf8 (between (numbers t lent.bytes.now) (heap_in lent) i))
    → (new : List Part) (ts : List Tree) → AreValuesOver lent.length new (valid_of_number lent.validity ts) → IsDescribed new (node_made told ts)
told_texts t lent told shows are new ts over =
    shown_over t Utf8 lent told shows new ts refl over (texts_made told (views_long t Utf8 lent told shows) (shown_texts t Utf8 lent told shows are))

pub told_values : (t : PType) (lent told : CodraskNode) → ShowsValues Binary t lent told
    → (new : List Part) (ts : List Tree) → AreValuesOver lent.length new (valid_of_number lent.validity ts) → IsDescribed new (node_made told ts)
told_values t lent told shows new ts over =
    shown_over t Binary lent told shows new ts refl over (values_made told (views_long t Binary lent told shows) (shown_values t Binary lent told shows))
