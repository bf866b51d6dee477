use Rattle.std.proofs.Common.{arith}
use Rattle.std.specs.Int.{w64, trailing_zeros}
use Rattle.std.proofs.lemmas.Nat.Bits.{bit_at-trailing_zeros}
use Rattle.vx_base.proofs.Edges.{Remain-all, Remain-next, Remain-more, Remain-none}
use Rattle.vx_base.proofs.bit_buffer.BitBuffer.push_word.Goals as goal

pub loop-edges-init : goal.loop-edges-init
loop-edges-init c =
    Remain-all c.args.self.now.bits c.args.place c.args.end c.word_at.result c.edges_of-edges.result c.args.from.at c.args.from.is_true c.args.runs.now.items (omega arith)
    (λ i l. c.word_at.ensures i (omega arith) (omega arith)) c.edges_of-edges.ensures.edges c.edges_of-edges.ensures.none c.requires.edge c.requires.alike

pub overflow_add-at : goal.overflow_add-at
overflow_add-at c =
    let edges = c.loop-edges.edges in
    let first = bit_at-trailing_zeros w64 edges (omega arith) (omega arith) in
    omega (
      arith,
      (Remain-next c.args.self.now.bits c.args.place c.args.end edges c.args.from.at c.loop-edges.last.at (trailing_zeros w64 edges) c.args.from.is_true c.loop-edges.last.is_true
          c.args.runs.now.items c.loop-edges.runs.items first.1 first.2 c.loop-edges.invariant).within,
    )

pub end_run-requires : goal.end_run-requires
end_run-requires c =
    let edges = c.loop-edges.edges in
    let first = bit_at-trailing_zeros w64 edges (omega arith) (omega arith) in
    (Remain-next c.args.self.now.bits c.args.place c.args.end edges c.args.from.at c.loop-edges.last.at (trailing_zeros w64 edges) c.args.from.is_true c.loop-edges.last.is_true
    c.args.runs.now.items c.loop-edges.runs.items first.1 first.2 c.loop-edges.invariant).edge

pub loop-edges-preserved : goal.loop-edges-preserved
loop-edges-preserved c =
    let edges = c.loop-edges.edges in
    let first = bit_at-trailing_zeros w64 edges (omega arith) (omega arith) in
    Remain-more c.args.self.now.bits c.args.place c.args.end edges c.args.from.at c.loop-edges.last.at (trailing_zeros w64 edges) c.args.from.is_true c.loop-edges.last.is_true
    c.args.runs.now.items c.loop-edges.runs.items c.end_run.new.runs.items first.1 first.2 c.loop-edges.invariant c.in_ok-end_run.ensures.apart c.in_ok-end_run.ensures.rows

pub returns-clause-alike : goal.returns-clause-alike
returns-clause-alike c =
    (Remain-none c.args.self.now.bits c.args.place c.args.end c.loop-edges.edges c.args.from.at c.loop-edges.last.at c.args.from.is_true c.loop-edges.last.is_true
    c.args.runs.now.items c.loop-edges.runs.items (omega arith) (omega arith) c.loop-edges.invariant).alike
