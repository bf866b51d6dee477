use Rattle.std.proofs.Common.{refl}
use Rattle.vx_base.specs.Bits.{unpacked}
use Rattle.vx_base.specs.Integers.{numbers}
use Rattle.vx_c.proofs.laws.worked_tables_are_their_arrays.Goals as goal

pub returns-clause-numbers : goal.returns-clause-numbers
unfolding numbers unpacked
returns-clause-numbers c = refl

pub returns-clause-nulls : goal.returns-clause-nulls
unfolding numbers unpacked
returns-clause-nulls c = refl

pub returns-clause-lists : goal.returns-clause-lists
unfolding numbers unpacked
returns-clause-lists c = refl

pub returns-clause-past_the_elements : goal.returns-clause-past_the_elements
unfolding numbers unpacked
returns-clause-past_the_elements c = refl

pub returns-clause-last_first : goal.returns-clause-last_first
unfolding numbers unpacked
returns-clause-last_first c = refl

pub returns-clause-no_parts : goal.returns-clause-no_parts
unfolding numbers unpacked
returns-clause-no_parts c = refl

pub returns-clause-two_columns : goal.returns-clause-two_columns
unfolding numbers unpacked
returns-clause-two_columns c = refl
