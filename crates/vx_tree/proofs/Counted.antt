-- How many rows can be taken of an array, so that their elements can be counted.
use Rattle.std.proofs.Common.{ℕ, ◌*◌, ◌^◌, ◌<◌, ◌≤◌, ◌≡◌, None, refl, arith}
use Rattle.std.proofs.Math.Nat.{mul-le-mul_right}
use Rattle.std.proofs.lemmas.Bool.{lt-ltb}
use Rattle.vx_tree.specs.Tree.{bools, primitive, constant, dictionary, fixed_list, list_view, structure, view_array, Trees, no_trees, tree}
use Rattle.vx_tree.specs.Meaning.{tree_len}
use Rattle.vx_tree.specs.Formed.{AllLen}
use Rattle.vx_tree.specs.Faults.{columns_overflow}
use Rattle.vx_tree.specs.Fitting.{ColumnsFormed, FewerAreCountable}

mutual
  -- no more rows than an array has
  pub take_overflow-fewer : FewerAreCountable
  take_overflow-fewer (bools b bits v) h n l = refl
  take_overflow-fewer (primitive t bs v) h n l = refl
  take_overflow-fewer (constant k r m) h n l = refl
  take_overflow-fewer (dictionary c v f) h n l = refl
  take_overflow-fewer (fixed_list e k v m) h n l =
      let within : n * k ≤ tree_len e = rw h.0.1 (mul-le-mul_right k l) in
      let small : n * k < 2 ^ 64 = omega (arith, h.3) in
      rw (lt-ltb (n * k) (2 ^ 64) small) (take_overflow-fewer e h.1 (n * k) within)
  take_overflow-fewer (list_view e o s v f) h n l = refl
  take_overflow-fewer (structure ns ts v m) h n l = columns_overflow-fewer ts h.1 m h.0.1.lens n l
  take_overflow-fewer (view_array vs bs k v) h n l = refl

  columns_overflow-fewer : (ts : Trees) → ColumnsFormed ts → (m : ℕ) → AllLen m ts → (n : ℕ) → n ≤ m → columns_overflow ts n ≡ None
  columns_overflow-fewer no_trees h m lens n l = refl
  columns_overflow-fewer (tree t ts) h m lens n l = rw (take_overflow-fewer t h.0 n (rw lens.0 l)) (columns_overflow-fewer ts h.1 m lens.1 n l)
