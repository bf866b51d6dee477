use Rattle.std.proofs.Common.{◌∙◌, sym, ap}
use Rattle.std.proofs.lemmas.Slice.Zip.{firsts-zip, seconds-zip}
use Rattle.vx_base.specs.DTypes.{kinds_of}
use Rattle.vx_base.specs.NamedItems.{names_in, items_in}
use Rattle.vx_base.proofs.struct_fields.StructFields.new.Goals as goal

pub returns-clause-names : goal.returns-clause-names
returns-clause-names c = ap names_in c.new.ensures ∙ firsts-zip c.args.names c.args.dtypes.value.items (sym c.requires)

pub returns-clause-kinds : goal.returns-clause-kinds
returns-clause-kinds c = ap (λ ns. kinds_of (items_in ns)) c.new.ensures ∙ ap kinds_of (seconds-zip c.args.names c.args.dtypes.value.items (sym c.requires))
