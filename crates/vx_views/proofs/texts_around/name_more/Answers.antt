use Rattle.std.proofs.Common.{◌≡◌, ◌+◌, arith, ap, sym, ◌∙◌}
use Rattle.std.proofs.lemmas.Bool.{lt-ltb, le-ltb}
use Rattle.vx_base.specs.Bits.{bool_at}
use Rattle.vx_views.proofs.TextsAround.{sizes_valid, sizes_null, sizes_all, sizes_le}
use Rattle.vx_views.proofs.texts_around.name_more.Goals.{then-value+else-left-size, else-value}
use Rattle.vx_views.proofs.texts_around.name_more.Goals as goal

pub returns-then-left-size : goal.returns-then-left-size
returns-then-left-size c =
    let texts = c.args.texts.now in
    let mask = c.args.mask.now in
    let views = c.args.views.now in
    let row = c.loop-row.row in
    let told : c.value.result ≡ bool_at mask row = c.value.ensures.value ∙ ap (λ bs. bool_at bs row) c.loop-row.invariant.0 in
    let more = sizes_valid texts mask views row c.index-views-row.result (record { within = omega arith; same = c.index-views-row.is; valid = sym told ∙ c.if-value.true }) in
    sym (lt-ltb c.args.limit _ (omega (arith, more, sizes_le texts mask views (row + 1), c.open_size-size.ensures, c.loop-row.invariant.1)))

pub loop-row-preserved : goal.loop-row-preserved
loop-row-preserved c =
    let texts = c.args.texts.now in
    let mask = c.args.mask.now in
    let views = c.args.views.now in
    let row = c.loop-row.row in
    let told : c.value.result ≡ bool_at mask row = c.value.ensures.value ∙ ap (λ bs. bool_at bs row) c.loop-row.invariant.0 in (
      c.value.ensures.same ∙ c.loop-row.invariant.0,
      elim c.if-value.branch [
        | then-value+else-left-size w ↦
            let more = sizes_valid texts mask views row c.index-views-row.result (record { within = omega arith; same = c.index-views-row.is; valid = sym told ∙ w.if-value.true }) in
            omega (arith, more, w.open_size-size.ensures, w.left-is, c.loop-row.invariant.1)
        | else-value w ↦ omega (arith, sizes_null texts mask views row (omega arith) (sym told ∙ w.if-value.false), w.left-is, c.loop-row.invariant.1)
      ],
    )

pub returns : goal.returns
returns c =
    let all = sizes_all c.args.texts.now c.args.mask.now c.args.views.now c.loop-row.row (omega arith) in
    sym (le-ltb c.args.limit _ (omega (arith, all, c.loop-row.invariant.1)))
