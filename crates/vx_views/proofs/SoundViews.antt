-- The length and the bytes of the value that a view reads.
use Rattle.std.proofs.Common.{◌≡◌, ℕ, ◌+◌, ◌-◌, ◌^◌, ◌<◌, ◌≤◌, List, [], length, get_or, drop, slice_range, length-take, length-drop, ⊎_elim, arith}
use Rattle.std.proofs.lemmas.Bool.{cases_lt}
use Rattle.vx_base.proofs.NumberBytes.{below_4}
use Rattle.vx_views.specs.Views.{AreBytes, IsView, Resolves, number_le, view_size, view_block, view_offset, view_value, buffer_at}
use Rattle.vx_views.specs.declared.view.TheConstants.{MAX_INLINED_SIZE}
use Rattle.vx_views.proofs.Padding.{bytes-take, bytes-drop}
use Rattle.vx_views.proofs.Places.{value_of_inlined, value_of_ref, bytes_of_held}

-- the size of a view
pub size-short : (view : List ℕ) → IsView view → view_size view < 2 ^ 32
unfolding number_le
size-short view formed = below_4 (slice_range view 0 4) (bytes-take 4 view formed.bytes)

part-le : (bytes : List ℕ) (from size : ℕ) → length (slice_range bytes from (from + size)) ≤ size
part-le bytes from size = omega (arith, length-take (from + size - from) (drop from bytes))

-- the value of a view is no longer than the view says
value-le : (buffers : List (List ℕ)) (view : List ℕ) → length (view_value buffers view) ≤ view_size view
value-le buffers view =
    ⊎_elim
    (λ (long : MAX_INLINED_SIZE < view_size view). rw (value_of_ref buffers view long) (part-le (buffer_at buffers (view_block view)) (view_offset view) (view_size view)))
    (λ (short : view_size view ≤ MAX_INLINED_SIZE). rw (value_of_inlined buffers view short) (part-le view 4 (view_size view)))
    (cases_lt MAX_INLINED_SIZE (view_size view))

pub value-short : (buffers : List (List ℕ)) (view : List ℕ) → IsView view → length (view_value buffers view) < 2 ^ 32
value-short buffers view formed = omega (arith, value-le buffers view, size-short view formed)

part-length : (bytes : List ℕ) (from size : ℕ) → from + size ≤ length bytes → length (slice_range bytes from (from + size)) ≡ size
part-length bytes from size h = omega (arith, length-take (from + size - from) (drop from bytes), length-drop from bytes)

-- the value of a view that resolves is as long as the view says
pub value-length : (buffers : List (List ℕ)) (view : List ℕ) → IsView view → Resolves buffers view → length (view_value buffers view) ≡ view_size view
value-length buffers view formed resolves =
    ⊎_elim
    (λ (long : MAX_INLINED_SIZE < view_size view). rw (value_of_ref buffers view long) (part-length (buffer_at buffers (view_block view)) (view_offset view) (view_size view) (resolves long).1))
    (λ (short : view_size view ≤ MAX_INLINED_SIZE). rw (value_of_inlined buffers view short) (part-length view 4 (view_size view) (omega (arith, formed.sixteen))))
    (cases_lt MAX_INLINED_SIZE (view_size view))

pub value-bytes : (buffers : List (List ℕ)) (view : List ℕ) → IsView view → ((block : ℕ) → AreBytes (get_or buffers block [])) → AreBytes (view_value buffers view)
value-bytes buffers view formed bytes =
    ⊎_elim
    (λ (long : MAX_INLINED_SIZE < view_size view). rw (value_of_ref buffers view long) (bytes-take (view_offset view + view_size view - view_offset view) (drop (view_offset view) (buffer_at buffers (view_block view)))
    (bytes-drop (view_offset view) (buffer_at buffers (view_block view)) (bytes (view_block view)))))
    (λ (short : view_size view ≤ MAX_INLINED_SIZE). rw (value_of_inlined buffers view short) (bytes_of_held view formed))
    (cases_lt MAX_INLINED_SIZE (view_size view))
