use Rattle.std.proofs.Common.{◌≡◌, ◌∙◌, ℕ, ap, refl}
use Rattle.vx_base.specs.Kinds.{booleans}
use Rattle.vx_tree.specs.Tree.{Valid, non_nullable, all_valid, all_invalid, by_array}
use Rattle.vx_tree.specs.Meaning.{tree_len, kind_of, valid_mask}
use Rattle.vx_tree.specs.Parts.{valid_of}
use Rattle.vx_tree.specs.Formed.{ValidFits}
use Rattle.vx_tree.specs.Validities.{array_of}
use Rattle.std.specs.Prelude.{false}
use Rattle.vx_tree.proofs.array.Validity.same_bits.Goals as goal

-- the array of a validity is one of plain booleans
plain_array : (v : Valid) (n : ℕ) → ValidFits v n → kind_of (array_of v n) ≡ booleans false
plain_array non_nullable n h = refl
plain_array all_valid n h = refl
plain_array all_invalid n h = refl
plain_array (by_array t) n h = h.kind

-- and its rows are those of the validity
same_mask : (v : Valid) (n : ℕ) → ValidFits v n → valid_mask (by_array (array_of v n)) (tree_len (array_of v n)) ≡ valid_mask v n
same_mask non_nullable n h = refl
same_mask all_valid n h = refl
same_mask all_invalid n h = refl
same_mask (by_array t) n h = ap (valid_mask (by_array t)) h.len

pub same_truths-same-requires-clause-mine : goal.same_truths-same-requires-clause-mine
same_truths-same-requires-clause-mine c = ap kind_of c.in_ok-mine.ensures ∙ plain_array (valid_of c.args.self.now) c.args.len c.requires.mine

pub same_truths-same-requires-clause-theirs : goal.same_truths-same-requires-clause-theirs
same_truths-same-requires-clause-theirs c = ap kind_of c.in-Ok.ensures ∙ plain_array (valid_of c.args.other.now) c.args.len c.requires.theirs

pub returns : goal.returns
returns c =
    let v = valid_of c.args.self.now in
    let u = valid_of c.args.other.now in
    let mine = ap (λ t. valid_mask (by_array t) (tree_len t)) c.in_ok-mine.ensures ∙ same_mask v c.args.len c.requires.mine in
    let theirs = ap (λ t. valid_mask (by_array t) (tree_len t)) c.in-Ok.ensures ∙ same_mask u c.args.len c.requires.theirs in
    rw (mine, theirs) at c.same_truths-same.ensures
