use Rattle.std.proofs.Common.{◌∙◌, sym, ap}
use Rattle.std.proofs.lemmas.Slice.Zip.{seconds-zip}
use Rattle.vx_base.specs.NamedItems.{items_in}
use Rattle.vx_base.proofs.named.Named.items.Goals as goal

pub returns : goal.returns
returns g c =
    c.as_slice.ensures.value ∙ ap (λ v. v.items) c.deref.ensures
    ∙ sym (seconds-zip c.self.inside.names c.self.inside.items.value.items c.self.invariant) ∙ ap items_in c.self.view_is
