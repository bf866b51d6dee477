use Rattle.std.proofs.Common.{◌≡◌, ◌∙◌, ap}
use Rattle.vx_base.specs.DTypes.{dtype_meaning, is_nullable}
use Rattle.vx_base.specs.Kinds.{integers}
use Rattle.vx_tree.specs.Meaning.{kind_of}
use Rattle.vx_pack.proofs.StoredLists.{element_bytes_of, part_type}
use Rattle.vx_pack.proofs.stored_lists.plain_numbers.Goals as goal

pub number_bytes-requires-clause-ptype : goal.number_bytes-requires-clause-ptype
number_bytes-requires-clause-ptype c =
    let t = c.in-Primitive.ptype in
    let n = is_nullable c.in-Primitive.field-1 in
    let kind : kind_of c.args.elements.now ≡ integers t n = c.requires ∙ ap dtype_meaning c.in-Primitive.is in
    part_type t n (kind_of c.args.elements.now) c.part_of.result kind c.part_of.ensures.part.kind

pub returns : goal.returns
returns c =
    let t = c.in-Primitive.ptype in
    let e = c.args.elements.now in (
      (is_nullable c.in-Primitive.field-1, ap dtype_meaning c.in-Primitive.is),
      element_bytes_of t e c.len.result c.part_of.result c.in_ok-bytes.bytes.now c.part_of.ensures c.len.ensures c.in_ok-bytes.ensures,
    )
