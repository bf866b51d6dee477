use Rattle.std.proofs.Common.{◌∙◌, sym, ap}
use Rattle.std.proofs.lemmas.Slice.Zip.{firsts-zip}
use Rattle.vx_base.specs.NamedItems.{names_in}
use Rattle.vx_base.proofs.named.Named.names.Goals as goal

pub returns : goal.returns
returns g c = sym (firsts-zip c.self.inside.names c.self.inside.items.value.items c.self.invariant) ∙ ap names_in c.self.view_is
