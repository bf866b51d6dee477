use Rattle.std.proofs.lemmas.Slice.Eq.{bytes_eq-Decides}
use Rattle.vx_views.proofs.WordOrder.{same_from_values, values_from_same}
use Rattle.vx_views.proofs.view_laws.padded_views_are_equal_as_their_values.Goals as goal

pub returns : goal.returns
returns c = λ buffers others v w z y.
    (λ same. values_from_same buffers others v w z y ((bytes_eq-Decides v w).0 same), λ e. (bytes_eq-Decides v w).1 (same_from_values buffers others v w z y e))
