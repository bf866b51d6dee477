use Rattle.std.proofs.Common.{◌≡◌, ◌<◌, ◌≤◌, ℕ, List, Bool, length, sym, ap, ◌∙◌, arith}
use Rattle.vx_base.specs.Bits.{bool_at}
use Rattle.vx_base.specs.MaskRuns.{marked, IsStretch}
use Rattle.vx_base.proofs.MaskRuns.{length-marked, bool_at-marked}
use Rattle.vx_base.proofs.mask_rows.MaskRows.value.Goals as goal

-- a row of a stretch
told : (mask : List Bool) (len i : ℕ) (runs : List (ℕ × ℕ)) (run start end : ℕ) (is : Bool) → marked len runs ≡ mask → i < length mask → IsStretch runs run start end is → start ≤ i → i < end → is ≡ bool_at mask i
told mask len i runs run start end is view l stretch low high =
    sym (stretch.alike i low high) ∙ sym (bool_at-marked len runs i (omega (arith, ap length view, length-marked len runs))) ∙ ap (λ m. bool_at m i) view

pub returns-then-i-self-clause-value : goal.returns-then-i-self-clause-value
returns-then-i-self-clause-value c =
    let m = c.self.inside in
    told c.args.self.now m.len c.args.i m.runs.now m.stretch.run m.stretch.start m.stretch.end m.stretch.is_true c.self.view_is c.requires c.self.invariant.1 c.if-self-i.true c.if-i-self.true

pub stretch_at-self-inside-requires-clause-row : goal.stretch_at-self-inside-requires-clause-row
stretch_at-self-inside-requires-clause-row c =
    let m = c.self.inside in
    omega (arith, ap length c.self.view_is, length-marked m.len m.runs.now, c.requires)

pub returns-clause-value : goal.returns-clause-value
returns-clause-value c =
    let m = c.self.inside in
    let s = c.stretch_at-self-inside.result in
    told c.args.self.now m.len c.args.i m.runs.now s.run s.start s.end s.is_true c.self.view_is c.requires c.stretch_at-self-inside.ensures.stretch c.stretch_at-self-inside.ensures.row.0 c.stretch_at-self-inside.ensures.row.1
