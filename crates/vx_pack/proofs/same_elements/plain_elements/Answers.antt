use Rattle.std.proofs.Common.{◌≡◌, ◌∙◌, Bool, true, ap, sym, subst, inl, inr}
use Rattle.vx_base.specs.DTypes.{dtype_meaning, is_nullable}
use Rattle.vx_base.specs.Kinds.{integers}
use Rattle.vx_base.specs.declared.ptypes.PType.{PType}
use Rattle.vx_pack.proofs.RowForms.{bytes_differ}
use Rattle.vx_pack.proofs.SameElements.{number_elements, text_elements}
use Rattle.vx_pack.specs.Packed.{has_bytes}
use Rattle.vx_pack.specs.Parts.{IsPartOf}
use Rattle.vx_pack.specs.StoredLists.{AreElementBytes}
use Rattle.vx_pack.proofs.same_elements.plain_elements.Goals as goal

one_type : (t u : PType) (n m : Bool) → integers t n ≡ integers u m → u ≡ t
one_type t u n m e = cc

pub returns-in_ok-second-in-Primitive : goal.returns-in_ok-second-in-Primitive
returns-in_ok-second-in-Primitive c =
    let t = c.in-Primitive.ptype in
    let kind = sym (ap dtype_meaning c.in-Primitive.is) in
    let first = c.in_ok-first-in-Primitive.ensures in
    let second = c.in_ok-second-in-Primitive.ensures in
    let n = is_nullable c.in-Primitive.field-1 in
    number_elements t c.args.a.now c.args.b.now _ (
      c.byte_width.ensures,
      subst (λ u. AreElementBytes u c.args.a.now c.in_ok-first-in-Primitive.first.now) (one_type t _ n _ (kind ∙ first.0.1)) first.1,
      subst (λ u. AreElementBytes u c.args.b.now c.in_ok-second-in-Primitive.second.now) (one_type t _ n _ (kind ∙ second.0.1)) second.1,
    )

pub returns-in_ok-second-in-Utf8 : goal.returns-in_ok-second-in-Utf8
returns-in_ok-second-in-Utf8 c =
    let k = dtype_meaning c.args.items.now in
    let values : has_bytes k ≡ true = elim c.in-Utf8.is [
      | inl text ↦ ap (λ d. has_bytes (dtype_meaning d)) text.1
      | inr list ↦ ap (λ d. has_bytes (dtype_meaning d)) list.1
    ] in
    text_elements k c.args.a.now c.args.b.now c.part_of.result c.part_of-in-Utf8.result c.in_ok-first-in-Utf8.first
    c.in_ok-second-in-Utf8.second (λ r s. bytes_differ k r s values) c.requires.first c.requires.second
    (subst (λ n. IsPartOf c.args.a.now 0 n c.part_of.result) c.len.ensures c.part_of.ensures)
    (subst (λ n. IsPartOf c.args.b.now 0 n c.part_of-in-Utf8.result) c.len-in-Utf8.ensures c.part_of-in-Utf8.ensures)
    c.in_ok-first-in-Utf8.ensures c.in_ok-second-in-Utf8.ensures
