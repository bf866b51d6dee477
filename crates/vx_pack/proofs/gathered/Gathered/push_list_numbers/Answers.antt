use Rattle.std.proofs.Common.{◌≡◌, ◌∙◌, ◌++◌, false, true, sym, ap, subst}
use Rattle.std.specs.List.{flat_map}
use Rattle.std.proofs.lemmas.List.Elements.{All-append}
use Rattle.vx_base.specs.DTypes.{dtype_meaning}
use Rattle.vx_base.specs.Integers.{byte_width}
use Rattle.vx_base.specs.Kinds.{Fits}
use Rattle.vx_base.specs.Rows.{is_present}
use Rattle.vx_base.specs.Selections.{bytes_of_position}
use Rattle.vx_pack.specs.Gathered.{AreValues}
use Rattle.vx_pack.specs.StoredLists.{all_positions, stored_sizes, stored_starts}
use Rattle.vx_pack.proofs.GatheredRows.{list_numbers_more, told_more, told_there}
use Rattle.vx_pack.proofs.gathered.Gathered.push_list_numbers.Goals as goal

pub returns-in_ok-push_same : goal.returns-in_ok-push_same
returns-in_ok-push_same c = λ rs more h there made.
    let k = dtype_meaning c.args.dtype.now in
    let s = c.args.lists in
    let t = c.in-Numbers.field-0 in
    let old = c.in-Numbers.bytes.items in
    let new = c.in_ok-bytes-in-Numbers.field-0.items in
    let places = flat_map (bytes_of_position (byte_width c.args.ptype) c.args.elements.now)
    (all_positions (stored_starts s) (stored_sizes s)) in
    let values = subst (AreValues k rs) c.in-Numbers.is h.values in
    record {
      values = (
        values.0,
        list_numbers_more c.args.ptype t k c.requires.kind.0 values.0.0 rs more old new places c.requires.kind.1 values.0.1 values.1
            (c.in_ok-bytes-in-Numbers.ensures ∙ ap (λ v. v.items ++ places) c.replace-before.ensures.value) made,
      );
      present = λ yes.
          told_more is_present rs more c.args.self.now.present c.push_same.new.bits (h.present yes)
          (c.in_ok-push_same.ensures ∙ ap (λ bs. c.args.self.now.present ++ bs)
          (told_there more c.sum_of_counts-count.result (there.count ∙ sym c.sum_of_counts-count.ensures) there.present));
      fits = All-append (Fits k) rs more h.fits there.fits;
    }

pub returns-else-is_nullable : goal.returns-else-is_nullable
returns-else-is_nullable c = λ rs more h there made.
    let k = dtype_meaning c.args.dtype.now in
    let s = c.args.lists in
    let t = c.in-Numbers.field-0 in
    let old = c.in-Numbers.bytes.items in
    let new = c.in_ok-bytes-in-Numbers.field-0.items in
    let places = flat_map (bytes_of_position (byte_width c.args.ptype) c.args.elements.now)
    (all_positions (stored_starts s) (stored_sizes s)) in
    let values = subst (AreValues k rs) c.in-Numbers.is h.values in
    record {
      values = (
        values.0,
        list_numbers_more c.args.ptype t k c.requires.kind.0 values.0.0 rs more old new places c.requires.kind.1 values.0.1 values.1
            (c.in_ok-bytes-in-Numbers.ensures ∙ ap (λ v. v.items ++ places) c.replace-before.ensures.value) made,
      );
      present = λ yes. let wrong : false ≡ true = sym c.if-is_nullable.false ∙ c.is_nullable.ensures ∙ yes in absurd (cc);
      fits = All-append (Fits k) rs more h.fits there.fits;
    }
