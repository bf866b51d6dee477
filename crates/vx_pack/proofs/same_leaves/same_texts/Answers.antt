use Rattle.vx_pack.proofs.StoredTexts.{same_by_values}
use Rattle.vx_pack.proofs.same_leaves.same_texts.Goals as goal

pub returns : goal.returns
returns c =
    same_by_values c.args.a c.args.b c.in-Some.first c.in-Some-full_texts.second c.same_values.result c.in-Some.ensures
    c.in-Some-full_texts.ensures c.requires.same_len c.same_values.ensures
