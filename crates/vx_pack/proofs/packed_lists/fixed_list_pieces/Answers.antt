use Rattle.std.proofs.Common.{refl, sym, subst}
use Rattle.std.proofs.lemmas.Result.{MatchResult-weaker}
use Rattle.vx_base.specs.DTypes.{dtype_meaning}
use Rattle.vx_pack.proofs.JoinedPieces.{elements_of_joined}
use Rattle.vx_pack.proofs.ListPieces.{AreElements-none}
use Rattle.vx_pack.specs.Lists.{IsItemOf}
use Rattle.vx_pack.proofs.packed_lists.fixed_list_pieces.Goals as goal

pub returns-then-size-eq0 : goal.returns-then-size-eq0
returns-then-size-eq0 c = λ item n kind.
    AreElements-none (dtype_meaning c.args.dtype.now) item c.args.size n c.args.pieces.now c.new.result.items c.args.len
    c.if-size-eq0.true c.new.ensures.items kind c.requires.pieces

pub returns : goal.returns
returns c =
    MatchResult-weaker c.joined_pieces.result c.joined_pieces.ensures
    (λ found h item n kind.
    elements_of_joined (dtype_meaning c.args.dtype.now) item c.args.size n c.args.pieces.now found.items c.args.len kind
    c.requires.pieces (h item (subst (IsItemOf item) (sym kind) refl)))
    (λ e h. h)
