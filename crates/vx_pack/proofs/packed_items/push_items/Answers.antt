use Rattle.std.proofs.Common.{◌≡◌, ◌∙◌, ◌++◌, ◌/◌, ◌*◌, length, map, sum, refl, sym, ap, subst, arith}
use Rattle.std.specs.List.{All, flat_map}
use Rattle.std.proofs.lemmas.Result.{MatchResult-weaker}
use Rattle.vx_base.proofs.NumberLists.{whole as whole_numbers}
use Rattle.vx_base.specs.DTypes.{dtype_meaning}
use Rattle.vx_base.specs.Integers.{byte_width}
use Rattle.vx_base.specs.Kinds.{Fits, integers}
use Rattle.vx_pack.specs.Gathered.{AreGathered}
use Rattle.vx_pack.specs.ListItems.{list_items}
use Rattle.vx_pack.specs.Packed.{items_or_blank}
use Rattle.vx_pack.specs.Pieces.{piece_rows}
use Rattle.vx_pack.specs.StoredLists.{AreListBytes}
use Rattle.vx_pack.proofs.JoinedLists.{sum-list_sizes}
use Rattle.vx_pack.proofs.ListItems.{list_items-lists}
use Rattle.vx_pack.proofs.PackedSteps.{lists_items}
use Rattle.vx_pack.proofs.StoredLists.{all_bytes_are, all_items_there}
use Rattle.vx_pack.proofs.packed_items.push_items.Goals as goal

pub plain_numbers-requires : goal.plain_numbers-requires
plain_numbers-requires c =
    let k = dtype_meaning c.args.dtype.now in
    let item = dtype_meaning c.args.items.now in
    (c.in-Some.ensures.lists item k (lists_items k item c.requires.lists.0 c.requires.lists.1) c.requires.piece).kind

pub push_list_numbers-requires-clause-rows : goal.push_list_numbers-requires-clause-rows
push_list_numbers-requires-clause-rows c =
    let k = dtype_meaning c.args.dtype.now in
    let item = dtype_meaning c.args.items.now in
    let stored = c.in-Some.ensures.lists item k (lists_items k item c.requires.lists.0 c.requires.lists.1) c.requires.piece in
    let rows = piece_rows k c.args.piece in (
      c.requires.rows.0,
      c.requires.rows.1,
      omega (
        arith,
        c.requires.rows.2,
        ap sum stored.sizes,
        sum-list_sizes item rows,
        ap length
            (list_items-lists k item c.requires.lists.0 rows c.requires.lists.1),
      ),
    )

pub push_list_numbers-requires-clause-lists : goal.push_list_numbers-requires-clause-lists
push_list_numbers-requires-clause-lists c =
    let k = dtype_meaning c.args.dtype.now in
    let item = dtype_meaning c.args.items.now in
    let s = c.in-Some.lists in
    let t = c.in-Some-plain_numbers.ptype in
    let stored = c.in-Some.ensures.lists item k (lists_items k item c.requires.lists.0 c.requires.lists.1) c.requires.piece in
    let elements = c.in-Some-plain_numbers.ensures.1 in
    subst (AreListBytes s.offset_type s.offsets.now s.size_type s.sizes.now)
    (sym (ap (λ n. n / byte_width t) elements.len ∙ whole_numbers t _)) stored.lists

pub returns-in-Some-plain_numbers : goal.returns-in-Some-plain_numbers
returns-in-Some-plain_numbers c =
    let k = dtype_meaning c.args.dtype.now in
    let item = dtype_meaning c.args.items.now in
    let s = c.in-Some.lists in
    let t = c.in-Some-plain_numbers.ptype in
    let bs = c.in-Some-plain_numbers.elements.now in
    let stored = c.in-Some.ensures.lists item k (lists_items k item c.requires.lists.0 c.requires.lists.1) c.requires.piece in
    let elements = c.in-Some-plain_numbers.ensures.1 in
    let rows = piece_rows k c.args.piece in
    let items : list_items k rows ≡ flat_map (items_or_blank item 0) rows =
    list_items-lists k item c.requires.lists.0 rows c.requires.lists.1 in
    let new = c.push_list_numbers.new.self in
    MatchResult-weaker c.push_list_numbers.result c.push_list_numbers.ensures
    (λ u told rs h.
    subst (λ xs. AreGathered item (rs ++ xs) new) (sym items)
    (told rs (flat_map (items_or_blank item 0) rows) h (all_items_there t item item rows s bs stored elements refl)
    (all_bytes_are t item rows s bs stored elements)))
    (λ e m. m)
