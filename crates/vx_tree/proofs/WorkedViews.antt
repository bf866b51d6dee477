-- The worked texts and byte lists are well formed.
use Rattle.std.proofs.Common.{ℕ, zero, suc, ◌<◌, ◌≡◌, true, false, List, [], ◌∷◌, refl, arith}
use Rattle.std.specs.Prelude.{codes, slice_index_or}
use Rattle.vx_base.specs.Bytes.{AreBytes}
use Rattle.vx_views.specs.Views.{number_le, IsView, buffer_at}
use Rattle.vx_views.specs.Sound.{IsSoundView}
use Rattle.vx_tree.specs.Meaning.{is_valid_at}
use Rattle.vx_tree.specs.Fitting.{AllFormed}
use Rattle.vx_tree.specs.Worked.{valid_where, view_of_abc, view_of_thirteen, null_view, two_buffers, some_texts, some_bytes}
use Rattle.vx_tree.proofs.Worked.{are_below, are_bytes, are_text}

abbrev three_views : List (List ℕ)
three_views = view_of_abc ∷ view_of_thirteen ∷ null_view ∷ []

abc_view : IsView view_of_abc
unfolding are_below
abc_view = record { sixteen = refl; bytes = are_bytes view_of_abc refl }

thirteen_view : IsView view_of_thirteen
unfolding are_below
thirteen_view = record { sixteen = refl; bytes = are_bytes view_of_thirteen refl }

zero_view : IsView null_view
unfolding are_below
zero_view = record { sixteen = refl; bytes = are_bytes null_view refl }

each_view : (i : ℕ) → i < 3 → IsView (slice_index_or three_views i [])
each_view zero l = abc_view
each_view (suc zero) l = thirteen_view
each_view (suc (suc zero)) l = zero_view
each_view (suc (suc (suc i))) l = absurd (omega arith)

each_buffer : (block : ℕ) → AreBytes (buffer_at two_buffers block)
unfolding are_below
each_buffer zero = are_bytes (codes "unread") refl
each_buffer (suc zero) = are_bytes (codes "..a longer text.") refl
each_buffer (suc (suc block)) = are_bytes [] refl

abc_sound : (buffers : List (List ℕ)) → IsSoundView buffers true view_of_abc
unfolding number_le are_below
abc_sound buffers = record {
  resolves = λ long. absurd (omega arith);
  begins = λ long. absurd (omega arith);
  utf8 = λ t. are_text (codes "abc") refl;
}

thirteen_sound : IsSoundView two_buffers true view_of_thirteen
unfolding number_le are_below
thirteen_sound = record {
  resolves = λ long. (omega arith, omega arith);
  begins = λ long. refl;
  utf8 = λ t. are_text (codes "a longer text") refl;
}

sound : (i : ℕ) → i < 3 → is_valid_at (valid_where (true ∷ true ∷ false ∷ [])) i ≡ true → IsSoundView two_buffers true (slice_index_or three_views i [])
sound zero l e = abc_sound two_buffers
sound (suc zero) l e = thirteen_sound
sound (suc (suc zero)) l e = absurd (cc)
sound (suc (suc (suc i))) l e = absurd (omega arith)

zeroes : (i : ℕ) → i < 3 → is_valid_at (valid_where (true ∷ true ∷ false ∷ [])) i ≡ false → slice_index_or three_views i [] ≡ null_view
zeroes zero l e = absurd (cc)
zeroes (suc zero) l e = absurd (cc)
zeroes (suc (suc zero)) l e = refl
zeroes (suc (suc (suc i))) l e = absurd (omega arith)

pub texts_formed : AllFormed some_texts
texts_formed = ((record { len = refl; kind = refl }, record { kind = refl; sound = sound; zeroes = zeroes }), record { each_view = each_view; each_buffer = each_buffer }, (tt, tt))

one_view : (i : ℕ) → i < 1 → IsView (slice_index_or (view_of_abc ∷ []) i [])
one_view zero l = abc_view
one_view (suc i) l = absurd (omega arith)

no_buffer : (block : ℕ) → AreBytes (buffer_at [] block)
unfolding are_below
no_buffer zero = are_bytes [] refl
no_buffer (suc block) = are_bytes [] refl

bytes_sound : (i : ℕ) → i < 1 → IsSoundView [] false (slice_index_or (view_of_abc ∷ []) i [])
bytes_sound zero l = record { resolves = (abc_sound []).resolves; begins = (abc_sound []).begins; utf8 = λ t. absurd (cc) }
bytes_sound (suc i) l = absurd (omega arith)

pub bytes_formed : AllFormed some_bytes
bytes_formed = ((tt, record { kind = refl; sound = λ i l e. bytes_sound i l; zeroes = λ i l e. absurd (cc) }), record { each_view = one_view; each_buffer = no_buffer }, tt)
