use Rattle.std.proofs.Common.{sym, subst}
use Rattle.std.proofs.lemmas.Result.{MatchResult-weaker}
use Rattle.vx_base.specs.DTypes.{dtype_meaning}
use Rattle.vx_pack.specs.StoredTexts.{ArePushed, filled}
use Rattle.vx_pack.proofs.packed_texts.push_texts.Goals as goal

pub push_views-requires-clause-resolve : goal.push_views-requires-clause-resolve
push_views-requires-clause-resolve c = (c.in-Some.ensures (dtype_meaning c.args.dtype.now) c.requires.values c.requires.piece).resolve

pub push_views-requires-clause-short : goal.push_views-requires-clause-short
push_views-requires-clause-short c = (c.in-Some.ensures (dtype_meaning c.args.dtype.now) c.requires.values c.requires.piece).short

pub returns-in-Some : goal.returns-in-Some
returns-in-Some c =
    let read = c.in-Some.ensures (dtype_meaning c.args.dtype.now) c.requires.values c.requires.piece in
    MatchResult-weaker c.push_views.result c.push_views.ensures
    (λ u pushed. subst (λ vs. ArePushed (filled c.args.texts.now) vs (filled c.push_views.new.texts)) (sym read.values) pushed) (λ e m. m)
