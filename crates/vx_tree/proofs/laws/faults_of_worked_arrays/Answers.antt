use Rattle.std.proofs.Common.{refl}
use Rattle.vx_base.specs.Integers.{numbers}
use Rattle.vx_views.specs.Views.{number_le}
use Rattle.vx_tree.proofs.laws.faults_of_worked_arrays.Goals as goal

pub returns-clause-taken : goal.returns-clause-taken
unfolding numbers number_le
returns-clause-taken c = refl

pub returns-clause-past_the_end : goal.returns-clause-past_the_end
unfolding numbers number_le
returns-clause-past_the_end c = refl

pub returns-clause-negative_index : goal.returns-clause-negative_index
unfolding numbers number_le
returns-clause-negative_index c = refl

pub returns-clause-null_index : goal.returns-clause-null_index
unfolding numbers number_le
returns-clause-null_index c = refl

pub returns-clause-no_integers : goal.returns-clause-no_integers
unfolding numbers number_le
returns-clause-no_integers c = refl
