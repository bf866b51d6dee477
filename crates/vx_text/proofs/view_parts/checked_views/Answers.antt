use Rattle.std.proofs.Common.{◌≡◌, length, sym, ap, ◌∙◌, rules}
use Rattle.std.proofs.lemmas.List.{with_items_is, places}
use Rattle.vx_base.proofs.Refused.{Gives-IfOk}
use Rattle.vx_tree.specs.Meaning.{valid_mask}
use Rattle.vx_tree.specs.Parts.{valid_of}
use Rattle.vx_tree.proofs.Positions.{mask_long}
use Rattle.vx_tree.proofs.ViewArrays.{all_kept}
use Rattle.vx_text.specs.Texts.{emptied_views}
use Rattle.vx_text.proofs.view_parts.checked_views.Goals as goal

pub check_views-requires : goal.check_views-requires
check_views-requires c =
    let v = valid_of c.args.validity.now in
    mask_long v c.in_ok-mask.mask (length c.args.views) (c.in_ok-mask.ensures.mask ∙ ap (valid_mask v) c.len.ensures) ∙ sym (ap length c.as_slice.ensures)

pub returns-then-all_true-clause-views : goal.returns-then-all_true-clause-views
returns-then-all_true-clause-views c =
    let v = valid_of c.args.validity.now in
    let mask : c.in_ok-mask.mask ≡ valid_mask v (length c.args.views) = c.in_ok-mask.ensures.mask ∙ ap (valid_mask v) c.len.ensures in
    all_kept c.args.views c.in_ok-mask.mask (mask_long v c.in_ok-mask.mask (length c.args.views) mask) (c.all_true.ensures.0 c.if-all_true.true) ∙ ap (emptied_views c.args.views) mask

pub check_and_empty_views-requires : goal.check_and_empty_views-requires
check_and_empty_views-requires c =
    let v = valid_of c.args.validity.now in
    mask_long v c.in_ok-mask.mask (length c.args.views) (c.in_ok-mask.ensures.mask ∙ ap (valid_mask v) c.len.ensures) ∙ sym (ap length (c.as_mut_slice.ensures.value ∙ c.in_ok-own.ensures))

pub returns-clause-views : goal.returns-clause-views
returns-clause-views c =
    let v = valid_of c.args.validity.now in
    let made = emptied_views c.args.views (valid_mask v (length c.args.views)) in
    let mask : c.in_ok-mask.mask ≡ valid_mask v (length c.args.views) = c.in_ok-mask.ensures.mask ∙ ap (valid_mask v) c.len.ensures in
    let lent : c.as_mut_slice.result.now ≡ c.args.views = c.as_mut_slice.ensures.value ∙ c.in_ok-own.ensures in
    let emptied : c.check_and_empty_views.new.views ≡ made = c.in_ok-check_and_empty_views.ensures.views ∙ ap (λ vs. emptied_views vs c.in_ok-mask.mask) lent ∙ ap (emptied_views c.args.views) mask in
    Gives-IfOk c.from_vec.result _ (λ b. b ≡ made) (λ b e. e ∙ with_items_is c.in_ok-own.own c.check_and_empty_views.new.views (search (rules, places)) ∙ emptied) c.from_vec.ensures
