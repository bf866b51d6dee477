use Rattle.std.proofs.Common.{◌≡◌, ◌<◌, length, sym, ◌∙◌, ap, subst, arith}
use Rattle.vx_tree.specs.Formed.{IsCode}
use Rattle.vx_tree.specs.Meaning.{tree_len}
use Rattle.vx_tree.specs.Operations.{masked_numbers}
use Rattle.vx_tree.specs.Parts.{tree_of, valid_of}
use Rattle.vx_tree.specs.Tree.{primitive}
use Rattle.vx_tree.proofs.Positions.{AreSame, under_mask, mask_long}
use Rattle.vx_leaves.proofs.NamedValues.{AreNamed-same}
use Rattle.vx_leaves.proofs.code_scan.mark_rows.Goals as goal

pub mark_numbers-requires : goal.mark_numbers-requires
mark_numbers-requires c =
    let codes = c.args.codes.now in
    let t = c.in-Primitive.ptype in
    let bs = c.in-Primitive.bytes in
    let v = valid_of c.in-Primitive.validity in
    let mask = c.args.valid.now in
    let is : codes ≡ primitive t bs v = sym c.layout.ensures.parts ∙ ap tree_of c.in-Primitive.is in
    let same : AreSame codes (masked_numbers t bs mask) = under_mask codes t bs v mask is (c.requires.told t bs v is) in
    rw c.as_slice.ensures.value (record {
      same_len = mask_long v mask (tree_len codes) (c.requires.told t bs v is) ∙ same.len;
      within = λ i inside. let here : i < tree_len codes = omega (arith, mask_long v mask (tree_len codes) (c.requires.told t bs v is)) in subst (IsCode (length c.args.out.now)) (same.rows i here) (c.requires.within i here);
      order = c.requires.order;
      here = omega (arith, c.requires.here, mask_long v mask (tree_len codes) (c.requires.told t bs v is));
      before = AreNamed-same codes (masked_numbers t bs mask) c.args.rows.start (length c.args.out.now) c.args.referenced c.args.out.now (λ i before. same.rows i (omega (arith, c.requires.order, c.requires.here))) c.requires.before;
    })

pub returns-in-Primitive : goal.returns-in-Primitive
returns-in-Primitive c =
    let codes = c.args.codes.now in
    let t = c.in-Primitive.ptype in
    let bs = c.in-Primitive.bytes in
    let v = valid_of c.in-Primitive.validity in
    let mask = c.args.valid.now in
    let is : codes ≡ primitive t bs v = sym c.layout.ensures.parts ∙ ap tree_of c.in-Primitive.is in
    let same : AreSame codes (masked_numbers t bs mask) = under_mask codes t bs v mask is (c.requires.told t bs v is) in
    let marked = rw c.as_slice.ensures.value at c.mark_numbers.ensures in
    AreNamed-same (masked_numbers t bs mask) codes c.args.rows.end (length c.args.out.now) c.args.referenced c.mark_numbers.new.out (λ i before. sym (same.rows i (omega (arith, c.requires.here)))) marked
