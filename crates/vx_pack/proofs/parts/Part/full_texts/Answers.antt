use Rattle.vx_pack.proofs.parts.Part.full_texts.Goals as goal

pub returns-then-stored : goal.returns-then-stored
returns-then-stored c = record {
  count = c.in_ok-stored.ensures.count;
  resolve = c.in_ok-stored.ensures.resolve;
  rows = c.in_ok-stored.ensures.full c.if-stored.true;
}
