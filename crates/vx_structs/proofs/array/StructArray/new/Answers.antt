use Rattle.vx_structs.proofs.array.StructArray.new.Goals as goal

pub structure-requires-clause-fits : goal.structure-requires-clause-fits
structure-requires-clause-fits g c = (c.requires.formed c.in_ok-all.all.items c.in_ok-all.ensures).0
