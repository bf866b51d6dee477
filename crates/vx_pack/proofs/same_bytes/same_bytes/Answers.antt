use Rattle.std.proofs.Common.{◌≡◌, ◌∙◌, ◌+◌, ◌-◌, ◌≤◌, length, pos, sym, ap, arith}
use Rattle.std.proofs.lemmas.Bool.{eq-eqb, eqb-true}
use Rattle.vx_base.specs.Integers.{number_of}
use Rattle.vx_base.specs.declared.ptypes.PType.TheVariants.{U64}
use Rattle.vx_pack.proofs.SameBytes.{same_words, word}
use Rattle.vx_pack.proofs.same_bytes.same_bytes.Goals as goal

pub returns-then-word_at : goal.returns-then-word_at
returns-then-word_at c =
    let xs = c.args.a.now in
    let ys = c.args.b.now in
    let last = length xs - 8 in
    let y = c.word_at-then-word_at.result in
    let z = c.word_at-then-word_at-2.result in
    let long_x : length xs ≡ last + 8 = omega (arith, c.if-a-lt-WORD.false) in
    let long_y : length ys ≡ last + 8 = omega (arith, c.if-a-lt-WORD.false, c.requires) in
    let few : last ≤ 8 = omega (arith, c.if-a.false) in
    let first : number_of U64 (word xs 0) ≡ number_of U64 (word ys 0) =
    sym c.word_at.ensures.value ∙ ap pos c.if-word_at.true ∙ c.word_at-2.ensures.value in (
      (λ told. same_words xs ys last long_x long_y few c.word_at.ensures.bytes c.word_at-2.ensures.bytes
          c.word_at-then-word_at.ensures.bytes c.word_at-then-word_at-2.ensures.bytes first
          (sym c.word_at-then-word_at.ensures.value ∙ ap pos (eqb-true y z told) ∙ c.word_at-then-word_at-2.ensures.value)),
      (λ same.
          let read : pos y ≡ pos z =
          c.word_at-then-word_at.ensures.value ∙ ap (λ bs. number_of U64 (word bs last)) same
          ∙ sym c.word_at-then-word_at-2.ensures.value in
          let equal : y ≡ z = cc in
          eq-eqb y z equal),
    )
