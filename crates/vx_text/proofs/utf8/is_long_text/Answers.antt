use Rattle.std.proofs.Common.{◌≡◌, ◌-◌, length, take, drop, sym, subst, ◌∙◌, IsUtf8, arith, length-drop, take-append-drop}
use Rattle.std.proofs.lemmas.Bool.{false≢true}
use Rattle.std.proofs.lemmas.List.{take_all}
use Rattle.std.proofs.lemmas.Str.{IsUtf8-append, IsUtf8-drop, IsUtf8-take}
use Rattle.vx_text.proofs.utf8.is_long_text.Goals as goal

pub loop-rest-preserved : goal.loop-rest-preserved
loop-rest-preserved c =
    let rest = c.loop-rest.rest.now in
    let end = c.in-Some.end in
    let kept = c.loop-rest.invariant in
    let front = c.is_short_text.ensures.0 c.if-not-is_short_text.false in
    let behind : take (length rest - end) (drop end rest) ≡ drop end rest = take_all (length rest - end) (drop end rest) (omega (arith, length-drop end rest)) in (
      λ whole. subst IsUtf8 (sym behind) (IsUtf8-drop rest end (kept.0 whole) c.in-Some.ensures.2),
      λ back. kept.1 (subst IsUtf8 (take-append-drop end rest) (IsUtf8-append (take end rest) (drop end rest) front (subst IsUtf8 behind back))),
    )

pub returns-then-not-is_short_text : goal.returns-then-not-is_short_text
returns-then-not-is_short_text c =
    let told = c.is_short_text.ensures.1 in
    let whole = c.loop-rest.invariant.0 in (
      λ no. absurd (false≢true no),
      λ text. absurd (false≢true (sym c.if-not-is_short_text.true ∙ told (IsUtf8-take c.loop-rest.rest.now c.in-Some.end (whole text) c.in-Some.ensures.2))),
    )
