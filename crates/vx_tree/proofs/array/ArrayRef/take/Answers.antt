use Rattle.std.proofs.Common.{◌≡◌, ◌∙◌, ap, subst, true}
use Rattle.vx_base.specs.Kinds.{or_nullable, is_integers}
use Rattle.vx_base.specs.Refusals.{Refuses}
use Rattle.vx_tree.specs.Meaning.{kind_of}
use Rattle.vx_tree.specs.Parts.{valid_of}
use Rattle.vx_tree.specs.Shapes.{shape_of, taken_shape}
use Rattle.vx_tree.proofs.Refusing.{IfOk-weaker}
use Rattle.vx_tree.proofs.Taken.{rows_taken, taken_refuses}
use Rattle.vx_tree.proofs.array.ArrayRef.take.Goals as goal

pub returns-clause-rows : goal.returns-clause-rows
returns-clause-rows c =
    IfOk-weaker c.take_at-taken.result _ _
    (λ a h. rows_taken c.args.self.now a c.args.indices.now c.len.result c.in_ok-positions.positions (valid_of c.in-Ok.validity) c.len.ensures c.in_ok-positions.ensures.ok c.in-Ok.ensures h)
    c.take_at-taken.ensures.taken

pub returns-clause-kind : goal.returns-clause-kind
returns-clause-kind c =
    IfOk-weaker c.take_at-taken.result _ _ (λ a h. h.kind ∙ ap (λ b. or_nullable b (kind_of c.args.self.now)) c.in-Ok.ensures.kind) c.take_at-taken.ensures.taken

pub returns-clause-shape : goal.returns-clause-shape
returns-clause-shape c =
    IfOk-weaker c.take_at-taken.result _ _ (λ a h. h.shape ∙ ap (taken_shape (shape_of c.args.self.now)) c.in-Ok.ensures.state) c.take_at-taken.ensures.taken

pub returns-clause-one_value : goal.returns-clause-one_value
returns-clause-one_value c = c.take_at-taken.ensures.one_value

pub returns-clause-extent : goal.returns-clause-extent
returns-clause-extent c = IfOk-weaker c.take_at-taken.result _ _ (λ a h. h.extent) c.take_at-taken.ensures.taken

pub returns-clause-needs : goal.returns-clause-needs
returns-clause-needs c = IfOk-weaker c.take_at-taken.result _ _ (λ a h. h.needs) c.take_at-taken.ensures.taken

pub returns-clause-refuses : goal.returns-clause-refuses
returns-clause-refuses c =
    let ps = c.in_ok-positions.positions in
    let ints : is_integers (kind_of c.args.indices.now) ≡ true = cc in
    subst (Refuses c.take_at-taken.result)
    (taken_refuses c.args.self.now c.args.indices.now ps ints (rw c.len.ensures at c.in_ok-positions.ensures.refuses) c.in_ok-positions.ensures.ok.len)
    c.take_at-taken.ensures.refuses

pub returns-then-not-is_int-clause-rows : goal.returns-then-not-is_int-clause-rows
returns-then-not-is_int-clause-rows c = tt

pub returns-then-not-is_int-clause-kind : goal.returns-then-not-is_int-clause-kind
returns-then-not-is_int-clause-kind c = tt

pub returns-then-not-is_int-clause-shape : goal.returns-then-not-is_int-clause-shape
returns-then-not-is_int-clause-shape c = tt

pub returns-then-not-is_int-clause-extent : goal.returns-then-not-is_int-clause-extent
returns-then-not-is_int-clause-extent c = tt

pub returns-then-not-is_int-clause-needs : goal.returns-then-not-is_int-clause-needs
returns-then-not-is_int-clause-needs c = tt

pub returns-in-Err-clause-rows : goal.returns-in-Err-clause-rows
returns-in-Err-clause-rows c = tt

pub returns-in-Err-clause-kind : goal.returns-in-Err-clause-kind
returns-in-Err-clause-kind c = tt

pub returns-in-Err-clause-shape : goal.returns-in-Err-clause-shape
returns-in-Err-clause-shape c = tt

pub returns-in-Err-clause-extent : goal.returns-in-Err-clause-extent
returns-in-Err-clause-extent c = tt

pub returns-in-Err-clause-needs : goal.returns-in-Err-clause-needs
returns-in-Err-clause-needs c = tt

pub returns-then-not-is_int-clause-one_value : goal.returns-then-not-is_int-clause-one_value
returns-then-not-is_int-clause-one_value c = λ e. tt

pub returns-in-Err-clause-one_value : goal.returns-in-Err-clause-one_value
returns-in-Err-clause-one_value c = λ e. tt
