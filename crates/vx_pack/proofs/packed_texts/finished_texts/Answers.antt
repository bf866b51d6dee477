use Rattle.std.proofs.lemmas.Result.{MatchResult-weaker, err_from_is_err_and}
use Rattle.vx_base.specs.DTypes.{dtype_meaning}
use Rattle.vx_tree.specs.Parts.{valid_of}
use Rattle.vx_pack.specs.StoredTexts.{filled}
use Rattle.vx_pack.proofs.FilledTexts.{texts_made, texts_refused}
use Rattle.vx_pack.proofs.packed_texts.finished_texts.Goals as goal

pub var_bin_view-requires : goal.var_bin_view-requires
var_bin_view-requires c =
    let h = c.requires.1 in
    (texts_made (dtype_meaning c.args.dtype.now) (dtype_meaning c.in_ok-dtype.dtype) c.requires.0 (filled c.args.texts) c.in_ok-buffers.views
    c.in_ok-buffers.buffers.items
    (valid_of c.args.validity) c.in_ok-dtype.ensures h.kind h.fits h.pushed c.in_ok-buffers.ensures.buffers
    c.in_ok-buffers.ensures.views c.in_ok-buffers.ensures.refuses h.valid).formed

pub returns-in_err-buffers-clause-err : goal.returns-in_err-buffers-clause-err
returns-in_err-buffers-clause-err c = λ rs h.
    let p = err_from_is_err_and c.from_residual.result c.from_residual.ensures.1 in
    rw (p.1, p.2) (texts_refused (dtype_meaning c.args.dtype.now) rs (filled c.args.texts) c.in_err-buffers.field-0.0 h.kind h.fits h.pushed
    c.in_err-buffers.ensures.refuses)

pub returns-clause-ok : goal.returns-clause-ok
returns-clause-ok c = λ rs h.
    let made = texts_made (dtype_meaning c.args.dtype.now) (dtype_meaning c.in_ok-dtype.dtype) rs (filled c.args.texts) c.in_ok-buffers.views
    c.in_ok-buffers.buffers.items (valid_of c.args.validity) c.in_ok-dtype.ensures h.kind h.fits h.pushed c.in_ok-buffers.ensures.buffers
    c.in_ok-buffers.ensures.views c.in_ok-buffers.ensures.refuses h.valid in
    MatchResult-weaker c.var_bin_view.result c.var_bin_view.ensures (λ a is. made.packed a is) (λ f m. tt)
