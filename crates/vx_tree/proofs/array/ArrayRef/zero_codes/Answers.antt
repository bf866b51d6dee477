use Rattle.vx_tree.specs.Parts.{valid_of}
use Rattle.vx_base.proofs.Refused.{Gives-weaker}
use Rattle.vx_tree.proofs.Nulled.{zero_codes_made}
use Rattle.vx_tree.proofs.array.ArrayRef.zero_codes.Goals as goal

pub returns-in_ok-try_clone-in-Array : goal.returns-in_ok-try_clone-in-Array
returns-in_ok-try_clone-in-Array c =
    Gives-weaker c.primitive-in-Array.result _ _ (λ a e. zero_codes_made a c.in_ok-bytes-in-Array.bytes (valid_of c.args.nulls.now) c.args.len (rw c.in_ok-try_clone-in-Array.ensures at e) c.in_ok-bytes-in-Array.ensures.zeroes) c.primitive-in-Array.ensures
