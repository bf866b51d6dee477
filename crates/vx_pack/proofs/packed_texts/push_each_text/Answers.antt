use Rattle.std.proofs.Common.{◌≡◌, ◌≤◌, ◌∙◌, length, sym, subst, ap, refl, rules}
use Rattle.vx_base.proofs.Defaults.{default_fits, dtype_even}
use Rattle.vx_base.specs.DTypes.{dtype_meaning}
use Rattle.vx_views.specs.declared.view.TheConstants.{MAX_BUFFER_LEN}
use Rattle.vx_text.specs.Items.{value_of}
use Rattle.vx_text.proofs.ItemFaults.{value_or}
use Rattle.vx_pack.specs.Pieces.{piece_row}
use Rattle.vx_pack.specs.StoredTexts.{bytes_or_empty, filled}
use Rattle.vx_pack.proofs.FilledTexts.{pushed_row}
use Rattle.vx_pack.proofs.FittingPieces.{row_fits_at}
use Rattle.vx_pack.proofs.StoredTexts.{bytes_short}
use Rattle.vx_pack.proofs.packed_texts.push_each_text.Goals as goal

pub push-requires : goal.push-requires
push-requires c =
    let k = dtype_meaning c.args.dtype.now in
    let r = piece_row k c.args.piece c.loop-i.i in
    let here : bytes_or_empty r ≡ c.unwrap_or.result.now =
    ap value_of (sym (c.bytes.ensures k c.requires.values (sym c.is_nullable-is_nullable.ensures)))
    ∙ value_or c.bytes.result _ c.unwrap_or.result c.unwrap_or.ensures refl in
    let fits = row_fits_at k c.args.piece c.loop-i.i (default_fits k (dtype_even c.args.dtype.now)) c.requires.piece (search rules) in
    subst (λ v. length v ≤ MAX_BUFFER_LEN) here (bytes_short k r c.requires.values fits)

pub loop-i-preserved : goal.loop-i-preserved
loop-i-preserved c =
    let k = dtype_meaning c.args.dtype.now in
    let r = piece_row k c.args.piece c.loop-i.i in
    let here : bytes_or_empty r ≡ c.unwrap_or.result.now =
    ap value_of (sym (c.bytes.ensures k c.requires.values (sym c.is_nullable-is_nullable.ensures)))
    ∙ value_or c.bytes.result _ c.unwrap_or.result c.unwrap_or.ensures refl in
    pushed_row k c.args.piece c.loop-i.i c.unwrap_or.result.now (filled c.args.texts.now) (filled c.loop-i.texts) (filled c.push.new.self) here
    c.loop-i.invariant c.in_ok-push.ensures.held c.in_ok-push.ensures.put
