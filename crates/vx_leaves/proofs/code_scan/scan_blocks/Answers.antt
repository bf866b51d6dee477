use Rattle.std.proofs.Common.{◌≡◌, ◌≤◌, ◌+◌, length, sym, ◌∙◌, subst, arith}
use Rattle.std.proofs.lemmas.Bool.{false≢true}
use Rattle.vx_tree.specs.Meaning.{tree_len}
use Rattle.vx_leaves.specs.Dictionaries.{AreNamed}
use Rattle.vx_leaves.specs.Scan.{NameAllBefore}
use Rattle.vx_leaves.proofs.NamedValues.{AreNamed-all}
use Rattle.vx_leaves.proofs.ScanEnds.{NoneUpTo, none_found, found_here, still_marked, names_all, all_by_names}
use Rattle.vx_leaves.proofs.code_scan.scan_blocks.Goals as goal

pub all_marked-requires-clause-marked : goal.all_marked-requires-clause-marked
all_marked-requires-clause-marked c = λ j inside.
    let start = c.loop-start.start in
    let old = c.loop-start.out in
    still_marked c.args.codes.now start (length old) c.args.referenced old c.loop-start.invariant.named (start + 2048) c.mark_rows.new.out j (omega arith) c.mark_rows.ensures
    (omega (arith, c.loop-start.invariant.cursor_within)) (c.loop-start.invariant.marked j inside)

pub returns-then-all_marked : goal.returns-then-all_marked
returns-then-all_marked c =
    let start = c.loop-start.start in
    let old = c.loop-start.out in
    let new = c.mark_rows.new.out in
    let codes = c.args.codes.now in
    let count = length c.args.out.now in
    let marks : AreNamed codes (start + 2048) count c.args.referenced new = subst (λ k. AreNamed codes (start + 2048) k c.args.referenced new) c.loop-start.auto.out c.mark_rows.ensures in
    let none : NoneUpTo (tree_len codes) (NameAllBefore codes count) start = subst (λ k. NoneUpTo (tree_len codes) (NameAllBefore codes k) start) c.loop-start.auto.out c.loop-start.invariant.none in
    let all = c.all_marked.ensures.all.0 c.if-all_marked.true in
    record {
      marks = AreNamed-all codes (start + 2048) (tree_len codes) count c.args.referenced new (omega (arith, c.len-len.ensures)) all marks;
      end = found_here (tree_len codes) (NameAllBefore codes count) start c.loop-start.invariant.whole none (omega (arith, c.len-len.ensures)) (names_all codes (start + 2048) count c.args.referenced new marks all);
    }

pub loop-start-preserved : goal.loop-start-preserved
loop-start-preserved c =
    let start = c.loop-start.start in
    let old = c.loop-start.out in
    let new = c.mark_rows.new.out in
    let codes = c.args.codes.now in
    let long : length old ≡ length new = sym c.mark_rows.ensures.len in
    let next : start + 2048 ≤ c.len-len.result = omega arith in
    record {
      whole = omega (arith, c.loop-start.invariant.whole);
      inside = next;
      named = subst (λ k. AreNamed codes (start + 2048) k c.args.referenced new) long c.mark_rows.ensures;
      none = subst (λ k. NoneUpTo (tree_len codes) (NameAllBefore codes k) (start + 2048)) long
          (none_found (tree_len codes) (NameAllBefore codes (length old)) start c.loop-start.invariant.whole c.loop-start.invariant.none
          (λ names. false≢true (sym c.if-all_marked.false ∙ c.all_marked.ensures.all.1 (all_by_names codes (start + 2048) (length old) c.args.referenced new c.mark_rows.ensures names))));
      cursor_within = c.all_marked.ensures.within;
      marked = c.all_marked.ensures.marked;
    }
