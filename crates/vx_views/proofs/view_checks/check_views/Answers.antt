use Rattle.std.proofs.lemmas.Result.{err_from_is_err_and}
use Rattle.vx_views.proofs.view_checks.check_views.Goals as goal

pub check_views_counted-requires : goal.check_views_counted-requires
check_views_counted-requires c = c.requires

pub returns-in_err-check_views_counted-clause-refuses :
    goal.returns-in_err-check_views_counted-clause-refuses
returns-in_err-check_views_counted-clause-refuses c =
    let p = err_from_is_err_and c.from_residual.result c.from_residual.ensures.1 in
    rw (p.1, p.2) c.in_err-check_views_counted.ensures.refuses

pub returns-clause-refuses : goal.returns-clause-refuses
returns-clause-refuses c = c.in_ok-check_views_counted.ensures.refuses

pub returns-clause-sound : goal.returns-clause-sound
returns-clause-sound c = c.in_ok-check_views_counted.ensures.sound
