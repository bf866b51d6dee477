use Rattle.std.specs.Result.{IfErr, IfOk}
use Rattle.std.proofs.lemmas.Result.{IfOk-weaker}
use Rattle.vx_base.specs.DTypes.{dtype_meaning}
use Rattle.vx_tree.specs.Meaning.{kind_of, rows}
use Rattle.vx_pack.specs.Packed.{IsPackRefused, IsPacked}
use Rattle.vx_pack.proofs.PackedLaws.{packed_keeps_rows}
use Rattle.vx_pack.proofs.WholeRows.{whole_fits, whole_pieces, whole_told}
use Rattle.vx_pack.proofs.pack.ArrayRefPack.pack.Goals as goal

pub pack_rows-requires : goal.pack_rows-requires
pack_rows-requires c =
    whole_pieces c.args.self.now (dtype_meaning c.dtype.result.now) c.len-len.result c.part_of.result c.dtype.ensures c.len-len.type_inv
    c.part_of.ensures

pub returns-clause-packed : goal.returns-clause-packed
returns-clause-packed c =
    whole_told (λ k rs. IfOk c.pack_rows.result (IsPacked k rs)) c.args.self.now (dtype_meaning c.dtype.result.now) c.len-len.result
    c.part_of.result
    c.dtype.ensures c.len-len.ensures c.part_of.ensures c.pack_rows.ensures.ok

pub returns-clause-rows : goal.returns-clause-rows
returns-clause-rows c =
    let t = c.args.self.now in
    let fit = whole_fits t c.len-len.result c.part_of.result c.len-len.ensures c.part_of.ensures in
    let packed = whole_told (λ k rs. IfOk c.pack_rows.result (IsPacked k rs)) t (dtype_meaning c.dtype.result.now) c.len-len.result
    c.part_of.result
    c.dtype.ensures c.len-len.ensures c.part_of.ensures c.pack_rows.ensures.ok in
    IfOk-weaker c.pack_rows.result _ _ (λ a is. (packed_keeps_rows (kind_of t) (rows t) a fit is).rows) packed

pub returns-clause-kind : goal.returns-clause-kind
returns-clause-kind c =
    let t = c.args.self.now in
    let fit = whole_fits t c.len-len.result c.part_of.result c.len-len.ensures c.part_of.ensures in
    let packed = whole_told (λ k rs. IfOk c.pack_rows.result (IsPacked k rs)) t (dtype_meaning c.dtype.result.now) c.len-len.result
    c.part_of.result
    c.dtype.ensures c.len-len.ensures c.part_of.ensures c.pack_rows.ensures.ok in
    IfOk-weaker c.pack_rows.result _ _ (λ a is. (packed_keeps_rows (kind_of t) (rows t) a fit is).kind) packed

pub returns-clause-refuses : goal.returns-clause-refuses
returns-clause-refuses c =
    whole_told (λ k rs. IfErr c.pack_rows.result (IsPackRefused k rs)) c.args.self.now (dtype_meaning c.dtype.result.now)
    c.len-len.result c.part_of.result
    c.dtype.ensures c.len-len.ensures c.part_of.ensures c.pack_rows.ensures.err
