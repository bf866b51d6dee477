use Rattle.std.proofs.Common.{◌≡◌, ap}
use Rattle.vx_base.specs.DTypes.{is_nullable}
use Rattle.vx_base.specs.Kinds.{texts}
use Rattle.vx_tree.specs.Meaning.{nullable}
use Rattle.vx_tree.specs.Parts.{valid_of}
use Rattle.vx_uses.proofs.ReadTexts.{values_of_same, refuses_of_same, len_of_same, kind_of_same}
use Rattle.vx_uses.proofs.foreign_texts.shared_column.Goals as goal

pub returns : goal.returns
returns c =
    let r = c.try_new.result in
    let views = c.args.views.now in
    let buffers = c.args.buffers.now in
    let v = valid_of c.args.validity.now in
    let others = c.in_ok-views.views in
    let shared = c.in_ok-buffers.buffers.items in
    let w = valid_of c.in_ok-validity.validity in
    let k = texts (nullable v) in
    let l = texts (is_nullable c.nullability.result) in
    let kind : l ≡ k = ap texts c.nullability.ensures in
    record {
      rows = values_of_same r views buffers others shared k l v w c.in_ok-views.ensures c.in_ok-buffers.ensures kind c.in_ok-validity.ensures c.try_new.ensures.rows;
      len = len_of_same r views buffers others shared k l v w c.in_ok-views.ensures c.in_ok-buffers.ensures kind c.in_ok-validity.ensures c.try_new.ensures.parts;
      kind = kind_of_same r views buffers others shared k l v w c.in_ok-views.ensures c.in_ok-buffers.ensures kind c.in_ok-validity.ensures c.try_new.ensures.parts;
      refuses = refuses_of_same r views buffers others shared k l v w c.in_ok-views.ensures c.in_ok-buffers.ensures kind c.in_ok-validity.ensures c.try_new.ensures.refuses;
    }
