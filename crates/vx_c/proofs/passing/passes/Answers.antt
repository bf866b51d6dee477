use Rattle.std.proofs.Common.{◌≡◌, ◌+◌, ◌-◌, ◌<◌, [], length, drop, reverse, ap, subst, arith}
use Rattle.vx_c.specs.declared.table.CodraskNode.{CodraskNode}
use Rattle.vx_c.specs.Parts.{IsDescribed}
use Rattle.vx_c.specs.Tables.{arrays_from}
use Rattle.vx_c.specs.Told.{HaveOrder}
use Rattle.vx_c.proofs.TablesPassed.{table_none, order_none, table_more, order_more, table_passed}
use Rattle.vx_c.proofs.passing.passes.Goals as goal

-- what a read past the end gives
abbrev no_node : CodraskNode
no_node = record {
  kind = 0;
  validity = 0;
  size = 0;
  length = 0;
  offset = 0;
  bytes = record { ref_ptr = (0, 0); now = [] };
  views = record { ref_ptr = (0, 0); now = [] };
  buffers = record { ref_ptr = (0, 0); now = [] };
}

pub loop-read-init : goal.loop-read-init
loop-read-init c =
    let nodes = c.args.nodes.now in
    record {
      told = λ told are. table_none nodes told (length nodes - 0) (reverse c.new-parts.result.items) (omega arith) are (ap reverse c.new-parts.ensures.items);
      in_order = order_none nodes (length nodes - 0) (omega arith);
    }

pub loop-read-preserved : goal.loop-read-preserved
loop-read-preserved c =
    let nodes = c.args.nodes.now in
    let read = c.loop-read.read in
    let i = length nodes - read - 1 in
    let within : read < length nodes = omega (arith, c.loop-read-test.true) in
    let next : length nodes - read ≡ i + 1 = omega (arith, within) in
    let inside : i < length nodes = omega (arith, within) in
    let back : i ≡ length nodes - (read + 1) = omega (arith, within) in
    let new = reverse c.push_node.new.parts.items in
    record {
      told = λ told are.
          subst (λ k. IsDescribed new (arrays_from k (drop k told))) back
          (table_more nodes told (length nodes - read) i no_node (reverse c.loop-read.parts.items) new next inside are
          (c.loop-read.invariant.told told are) (λ t ts by described. c.push_node.ensures.told c.if-not-push_node.false t ts by described));
      in_order =
          subst (λ k. HaveOrder (drop k nodes)) back
          (order_more nodes (length nodes - read) i no_node next inside (c.push_node.ensures.in_order c.if-not-push_node.false) c.loop-read.invariant.in_order);
    }

pub returns-clause-told : goal.returns-clause-told
returns-clause-told c = λ one told are.
    let nodes = c.args.nodes.now in
    let done : length nodes - c.loop-read.read ≡ 0 = omega (arith, c.loop-read-test.false) in
    let ps = reverse c.loop-read.parts.items in
    let all : IsDescribed ps (arrays_from 0 told) = subst (λ k. IsDescribed ps (arrays_from k (drop k told))) done (c.loop-read.invariant.told told are) in
    table_passed nodes told ps c.if-nodes-gt-MAX_NODES.false are (c.is_one.ensures one) all
