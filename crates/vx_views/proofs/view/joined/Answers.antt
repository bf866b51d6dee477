use Rattle.std.proofs.Common.{ℕ}
use Rattle.vx_views.proofs.FourBytes.{sixteen_bytes, sixteen_is}
use Rattle.vx_views.proofs.view.joined.Goals as goal

pub returns-clause-bytes : goal.returns-clause-bytes
returns-clause-bytes c =
    sixteen_bytes _ _ _ _
    (λ (i : ℕ). (c.type_inv.a i).fits)
    (λ (i : ℕ). (c.type_inv.b i).fits)
    (λ (i : ℕ). (c.type_inv.c i).fits)
    (λ (i : ℕ). (c.type_inv.d i).fits)

pub returns-clause-joined : goal.returns-clause-joined
returns-clause-joined c = sixteen_is _ _ _ _ c.requires.first c.requires.second c.requires.third c.requires.fourth
