use Rattle.std.proofs.Common.{refl}
use Rattle.vx_base.specs.Integers.{numbers}
use Rattle.vx_views.specs.Views.{number_le}
use Rattle.vx_tree.proofs.laws.rows_of_worked_arrays.Goals as goal

pub returns-clause-numbers : goal.returns-clause-numbers
unfolding numbers number_le
returns-clause-numbers c = refl

pub returns-clause-booleans : goal.returns-clause-booleans
unfolding numbers number_le
returns-clause-booleans c = refl

pub returns-clause-nulls : goal.returns-clause-nulls
unfolding numbers number_le
returns-clause-nulls c = refl

pub returns-clause-constant : goal.returns-clause-constant
unfolding numbers number_le
returns-clause-constant c = refl

pub returns-clause-dictionary : goal.returns-clause-dictionary
unfolding numbers number_le
returns-clause-dictionary c = refl

pub returns-clause-empty_lists : goal.returns-clause-empty_lists
unfolding numbers number_le
returns-clause-empty_lists c = refl

pub returns-clause-fixed_lists : goal.returns-clause-fixed_lists
unfolding numbers number_le
returns-clause-fixed_lists c = refl

pub returns-clause-list_view : goal.returns-clause-list_view
unfolding numbers number_le
returns-clause-list_view c = refl

pub returns-clause-records : goal.returns-clause-records
unfolding numbers number_le
returns-clause-records c = refl

pub returns-clause-texts : goal.returns-clause-texts
unfolding numbers number_le
returns-clause-texts c = refl

pub returns-clause-bytes : goal.returns-clause-bytes
unfolding numbers number_le
returns-clause-bytes c = refl
