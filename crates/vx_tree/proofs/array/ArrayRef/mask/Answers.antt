use Rattle.std.proofs.Common.{◌≡◌, None}
use Rattle.vx_base.proofs.Refused.{Gives-IfOk}
use Rattle.vx_tree.specs.Tree.{by_array}
use Rattle.vx_tree.specs.Faults.{validity_fault}
use Rattle.vx_tree.specs.Meaning.{tree_len}
use Rattle.vx_tree.specs.Formed.{IsMask}
use Rattle.vx_tree.proofs.Filtered.{rows_masked}
use Rattle.vx_tree.proofs.Refusing.{Gives-Refuses}
use Rattle.vx_tree.proofs.array.ArrayRef.mask.Goals as goal

pub returns-clause-rows : goal.returns-clause-rows
returns-clause-rows c =
    let t = c.args.self.now in
    let m = c.args.mask.now in
    let fits : IsMask m (tree_len t) = rw (c.in_ok-try_clone.ensures, c.len.ensures) at c.in_ok-check.ensures.fits in
    Gives-IfOk c.nulled-masked.result _ _ (λ a h. rows_masked t m a fits.len h) (rw c.in_ok-try_clone.ensures at c.nulled-masked.ensures.by_row)

pub returns-clause-kind : goal.returns-clause-kind
returns-clause-kind c = Gives-IfOk c.nulled-masked.result _ _ (λ a h. h.kind) (rw c.in_ok-try_clone.ensures at c.nulled-masked.ensures.by_row)

pub returns-clause-shape : goal.returns-clause-shape
returns-clause-shape c = Gives-IfOk c.nulled-masked.result _ _ (λ a h. h.shape) (rw c.in_ok-try_clone.ensures at c.nulled-masked.ensures.by_row)

pub returns-clause-by_row : goal.returns-clause-by_row
returns-clause-by_row c = Gives-IfOk c.nulled-masked.result _ _ (λ a h. h) (rw c.in_ok-try_clone.ensures at c.nulled-masked.ensures.by_row)

pub returns-clause-one_value : goal.returns-clause-one_value
returns-clause-one_value c = c.nulled-masked.ensures.one_value

pub returns-clause-refuses : goal.returns-clause-refuses
returns-clause-refuses c =
    let none : validity_fault (by_array c.args.mask.now) (tree_len c.args.self.now) ≡ None = rw (c.in_ok-try_clone.ensures, c.len.ensures) at c.in_ok-check.ensures.tests in
    Gives-Refuses c.nulled-masked.result _ _ none c.nulled-masked.ensures.by_row
