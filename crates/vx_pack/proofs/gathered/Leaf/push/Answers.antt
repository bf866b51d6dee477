use Rattle.std.proofs.Common.{subst}
use Rattle.std.proofs.lemmas.Result.{MatchResult-weaker}
use Rattle.vx_base.specs.DTypes.{dtype_meaning}
use Rattle.vx_base.specs.Rows.{truth_of}
use Rattle.vx_pack.specs.Gathered.{AreValues}
use Rattle.vx_pack.specs.Pieces.{IsPiece, piece_len, piece_rows}
use Rattle.vx_pack.specs.StoredTexts.{filled}
use Rattle.vx_pack.proofs.GatheredRows.{numbers_under, texts_more, told_fits}
use Rattle.vx_pack.proofs.gathered.Leaf.push.Goals as goal

pub push_truths-requires-clause-fits : goal.push_truths-requires-clause-fits
push_truths-requires-clause-fits c =
    let rs = c.requires.rows.0 in
    let values = subst (AreValues (dtype_meaning c.args.dtype.now) rs) c.in-Truths.is c.requires.rows.1 in
    told_fits truth_of rs c.in-Truths.bits (piece_len c.args.piece) values.1 c.requires.rows.2

pub push_numbers-requires : goal.push_numbers-requires
push_numbers-requires c =
    let values = subst (AreValues (dtype_meaning c.args.dtype.now) c.requires.rows.0) c.in-Numbers.is c.requires.rows.1 in
    (values.0.0, subst (λ x. IsPiece x c.args.piece) values.0.1 c.requires.piece)

pub push_texts-requires-clause-values : goal.push_texts-requires-clause-values
push_texts-requires-clause-values c =
    (subst (AreValues (dtype_meaning c.args.dtype.now) c.requires.rows.0) c.in-Texts.is c.requires.rows.1).0

pub returns-in-Numbers : goal.returns-in-Numbers
returns-in-Numbers c =
    let k = dtype_meaning c.args.dtype.now in
    MatchResult-weaker c.push_numbers.result c.push_numbers.ensures
    (λ u told rs h.
    let values = subst (AreValues k rs) c.in-Numbers.is h in (
      values.0,
      numbers_under c.in-Numbers.ptype k values.0.0 rs c.args.piece c.in-Numbers.bytes.items c.push_numbers.new.bytes.items values.0.1 values.1
          c.requires.piece told,
    ))
    (λ e m. m)

pub returns-in-Texts : goal.returns-in-Texts
returns-in-Texts c =
    let k = dtype_meaning c.args.dtype.now in
    MatchResult-weaker c.push_texts.result c.push_texts.ensures
    (λ u told rs h.
    let values = subst (AreValues k rs) c.in-Texts.is h in
    (values.0, texts_more rs (piece_rows k c.args.piece) (filled c.in-Texts.texts) (filled c.push_texts.new.texts) values.1 told))
    (λ e m. m)
