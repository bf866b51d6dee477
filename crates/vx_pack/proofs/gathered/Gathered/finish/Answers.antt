use Rattle.std.proofs.Common.{◌∙◌, subst}
use Rattle.vx_base.specs.DTypes.{dtype_meaning}
use Rattle.vx_tree.specs.Parts.{valid_of}
use Rattle.vx_pack.specs.Gathered.{AreValues}
use Rattle.vx_pack.proofs.PackedSteps.{numbers_formed}
use Rattle.vx_pack.proofs.gathered.Gathered.finish.Goals as goal

pub primitive-requires : goal.primitive-requires
primitive-requires c =
    let k = dtype_meaning c.args.dtype.now in
    let rs = c.requires.0 in
    let h = c.requires.1 in
    let values = subst (AreValues k rs) c.in-Numbers.is h.values in
    numbers_formed k c.in-Numbers.ptype rs c.in_ok-bytes-in-Numbers.bytes (valid_of c.in_ok-validity.validity)
    (c.in_ok-bytes-in-Numbers.ensures ∙ values.1)
    (c.in_ok-validity.ensures rs h.present)
