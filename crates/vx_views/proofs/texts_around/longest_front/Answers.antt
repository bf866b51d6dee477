use Rattle.vx_views.proofs.TextsAround.{front_of_fault}
use Rattle.vx_views.proofs.texts_around.longest_front.Goals as goal

pub returns-in-Err : goal.returns-in-Err
returns-in-Err c = rw c.valid_up_to.ensures (front_of_fault c.args.bytes.now _ c.in-Err.ensures.cases.1)
