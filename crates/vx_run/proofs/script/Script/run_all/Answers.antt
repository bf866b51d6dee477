use Rattle.std.proofs.Common.{refl, ◌∙◌, arith}
use Rattle.vx_run.proofs.Streams.{grows-same, grows-then, consumes-none, blocks-within, blocks-kept, blocks-more, on_ok}
use Rattle.vx_run.proofs.script.Script.run_all.Goals as goal

pub loop-init : goal.loop-init
loop-init g c = (refl, consumes-none _ _, grows-same _, c.in_ok-block.ensures.len)

pub returns-in_err-count-clause-read : goal.returns-in_err-count-clause-read
returns-in_err-count-clause-read g c =
    blocks-kept c.loop.input.reads _ _ _ c.loop.invariant.1 c.loop.input.within c.in_err-count.ensures.bytes

pub returns-then-count-eq0-clause-ended : goal.returns-then-count-eq0-clause-ended
returns-then-count-eq0-clause-ended g c =
    on_ok c.run_line.result (c.in_ok-count.ensures.bytes.1 c.if-count-eq0.true
    (omega (arith, c.read.ensures.room, c.as_mut_slice.ensures.len, c.loop.invariant.3)))

pub returns-then-count-eq0-clause-read : goal.returns-then-count-eq0-clause-read
returns-then-count-eq0-clause-read g c =
    blocks-within c.read.new.self.reads _ _ (blocks-more c.loop.input.reads c.read.new.self.reads c.in_ok-count.count _ _ _ c.read.new.block c.loop.invariant.1
    c.in_ok-count.ensures.bytes.0 (omega (arith, c.read.ensures.room, c.as_mut_slice.ensures.len, c.loop.invariant.3)) c.in_ok-count.ensures.allowed c.read.ensures.counted)
    c.read.new.self.within

pub returns-then-count-eq0-clause-written : goal.returns-then-count-eq0-clause-written
returns-then-count-eq0-clause-written g c = grows-then _ _ _ c.loop.invariant.2 c.run_line.ensures

pub returns-in_err-run_block-clause-read : goal.returns-in_err-run_block-clause-read
returns-in_err-run_block-clause-read g c =
    blocks-within c.read.new.self.reads _ _ (blocks-more c.loop.input.reads c.read.new.self.reads c.in_ok-count.count _ _ _ c.read.new.block c.loop.invariant.1
    c.in_ok-count.ensures.bytes.0 (omega (arith, c.read.ensures.room, c.as_mut_slice.ensures.len, c.loop.invariant.3)) c.in_ok-count.ensures.allowed c.read.ensures.counted)
    c.read.new.self.within

pub returns-in_err-run_block-clause-written : goal.returns-in_err-run_block-clause-written
returns-in_err-run_block-clause-written g c = grows-then _ _ _ c.loop.invariant.2 c.run_block.ensures

pub loop-preserved : goal.loop-preserved
loop-preserved g c = (
  c.read.ensures.same_reference ∙ c.loop.invariant.0,
  blocks-more c.loop.input.reads c.read.new.self.reads c.in_ok-count.count _ _ _ c.read.new.block c.loop.invariant.1 c.in_ok-count.ensures.bytes.0
      (omega (arith, c.read.ensures.room, c.as_mut_slice.ensures.len, c.loop.invariant.3)) c.in_ok-count.ensures.allowed c.read.ensures.counted,
  grows-then _ _ _ c.loop.invariant.2 c.run_block.ensures,
  c.loop.invariant.3,
)
