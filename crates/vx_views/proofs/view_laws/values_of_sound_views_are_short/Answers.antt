use Rattle.vx_views.proofs.SoundViews.{value-length, value-short, value-bytes}
use Rattle.vx_views.proofs.view_laws.values_of_sound_views_are_short.Goals as goal

pub returns-clause-length : goal.returns-clause-length
returns-clause-length c = λ buffers is_text view formed sound. value-length buffers view formed sound.resolves

pub returns-clause-short : goal.returns-clause-short
returns-clause-short c = λ buffers view formed. value-short buffers view formed

pub returns-clause-bytes : goal.returns-clause-bytes
returns-clause-bytes c = λ buffers view formed bytes. value-bytes buffers view formed bytes
