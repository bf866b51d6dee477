use Rattle.vx_base.specs.DTypes.{dtype_meaning}
use Rattle.vx_tree.specs.Parts.{valid_of}
use Rattle.vx_c.proofs.Names.{values_faultless}
use Rattle.vx_c.proofs.layouts.values.Goals as goal

pub returns-clause-refuses : goal.returns-clause-refuses
returns-clause-refuses c = values_faultless _ _ _ _ (dtype_meaning c.args.dtype) (valid_of c.args.validity) c.in_ok-views.ensures c.in_ok-buffers.ensures c.in_ok-try_new.ensures.refuses
