use Rattle.std.proofs.Common.{◌≡◌, subst, arith, map}
use Rattle.std.specs.List.{range_with_len}
use Rattle.vx_base.specs.DTypes.{field_kinds, field_names}
use Rattle.vx_base.specs.Kinds.{records}
use Rattle.vx_pack.proofs.FieldPieces.{ArePushedFields, ArePushedFields-more, ArePushedFields-nil}
use Rattle.vx_pack.specs.Pieces.{piece_len, piece_row}
use Rattle.vx_pack.specs.Records.{kind_at}
use Rattle.vx_pack.proofs.packed_fields.push_each_field.Goals as goal

pub loop-i-init : goal.loop-i-init
loop-i-init c = λ n whole. ArePushedFields-nil (kind_at c.args.place (field_kinds c.args.fields.now)) c.args.place c.args.column.now.items

pub loop-i-preserved : goal.loop-i-preserved
loop-i-preserved c = λ n whole.
    let names = field_names c.args.fields.now in
    let ks = field_kinds c.args.fields.now in
    ArePushedFields-more (kind_at c.args.place ks) (records names ks n) c.args.place c.loop-i.i c.args.piece c.field_or_blank.result
    c.args.column.now.items c.loop-i.column.items c.push.new.self.items
    (c.loop-i.invariant n whole) (c.field_or_blank.ensures n whole) c.in_ok-push.ensures.items

pub returns : goal.returns
returns c = λ n whole.
    let names = field_names c.args.fields.now in
    let ks = field_kinds c.args.fields.now in
    let all : c.loop-i.i ≡ piece_len c.args.piece = omega (arith, c.loop-i-test.false, c.loop-i.auto.i-end, c.len-i-end.ensures) in
    subst (λ m. ArePushedFields (kind_at c.args.place ks) c.args.place
    (map (piece_row (records names ks n) c.args.piece) (range_with_len 0 m)) c.args.column.now.items c.loop-i.column.items) all
    (c.loop-i.invariant n whole)
