use Rattle.vx_lists.proofs.ListViews.RebuiltTwice.{rebuilt_twice}
use Rattle.vx_lists.proofs.laws.rebuilt_twice_is_rebuilt_once.Goals as goal

pub returns-clause-alike : goal.returns-clause-alike
returns-clause-alike c = λ mode t r q first second. (rebuilt_twice mode t r q first second).0

pub returns-clause-flag : goal.returns-clause-flag
returns-clause-flag c = λ mode t r q first second. (rebuilt_twice mode t r q first second).1
