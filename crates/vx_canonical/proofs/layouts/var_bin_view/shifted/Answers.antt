use Rattle.std.proofs.Common.{◌+◌, ◌*◌, ◌%◌, ◌^◌, ◌≡◌, inl, inr, slice_index, sym, ap, ◌∙◌, arith}
use Rattle.std.specs.Int.{w128, from_le_bytes, to_le_bytes}
use Rattle.std.proofs.lemmas.Bool.{cases_lt}
use Rattle.vx_views.specs.Views.{view_size}
use Rattle.vx_views.specs.declared.view.TheConstants.{MAX_INLINED_SIZE}
use Rattle.vx_canonical.proofs.JoinedViews.{shifted_long, shifted_short}
use Rattle.vx_canonical.proofs.ViewNumbers.{view_further, view_further_fits, view_as_it_is}
use Rattle.vx_canonical.proofs.layouts.var_bin_view.shifted.Goals as goal

pub overflow_add-as_u128 : goal.overflow_add-as_u128
overflow_add-as_u128 c =
    let view = c.args.view.now in
    let first = slice_index c.args.steps.now 0 in
    elim (cases_lt MAX_INLINED_SIZE (view_size view)) [
      | inl long ↦ omega (arith, c.step_of-further.ensures.refers long, c.as_u128.ensures.number, view_further_fits first view c.as_u128.ensures.formed (c.requires.few long))
      | inr short ↦ omega (arith, c.step_of-further.ensures.held short, c.requires.held, c.as_u128.type_inv)
    ]

pub returns : goal.returns
returns c =
    let view = c.args.view.now in
    let first = slice_index c.args.steps.now 0 in
    elim (cases_lt MAX_INLINED_SIZE (view_size view)) [
      | inl long ↦
          let number : c.as_u128.result + c.step_of-further.result * 18446744073709551616 % 340282366920938463463374607431768211456 ≡ from_le_bytes w128 view + first * 2 ^ 64 =
          omega (arith, c.step_of-further.ensures.refers long, c.as_u128.ensures.number, c.step_of-further.type_inv) in
          c.from.ensures ∙ ap (to_le_bytes w128) number ∙ view_further first view c.as_u128.ensures.formed (c.requires.few long) ∙ sym (shifted_long first view long)
      | inr short ↦
          let number : c.as_u128.result + c.step_of-further.result * 18446744073709551616 % 340282366920938463463374607431768211456 ≡ from_le_bytes w128 view + 0 * 2 ^ 64 =
          omega (arith, c.step_of-further.ensures.held short, c.requires.held, c.as_u128.ensures.number) in
          c.from.ensures ∙ ap (to_le_bytes w128) number ∙ view_as_it_is view c.as_u128.ensures.formed ∙ sym (shifted_short first view short)
    ]
