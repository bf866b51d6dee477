-- Arrays that are joined only once they are counted.
use Rattle.std.specs.Prelude.{◌≡◌, ◌<◌, ◌^◌, ℕ, List, length, map, None, slice_index_or}
use Rattle.std.specs.List.{All}
use Rattle.vx_base.specs.Kinds.{Kind}
use Rattle.vx_tree.specs.Tree.{Tree}
use Rattle.vx_tree.specs.Meaning.{kind_of}
use Rattle.vx_tree.specs.Fitting.{AllFormed}
use Rattle.vx_tree.specs.Plain.{IsPlain}
use Rattle.vx_tree.specs.Extents.{extent_of}
use Rattle.vx_canonical.specs.Concatenated.{extents_fault}
use Rattle.vx_canonical.specs.Joined.{joined_len, column_of}

-- plain arrays of one kind, of which the rows, the elements and the buffers can be counted
pub record AreJoinable (k : Kind) (ts : List Tree) : Type 0 where
  pub plain : All IsPlain ts
  pub formed : All AllFormed ts
  pub alike : All (λ t. kind_of t ≡ k) ts
  pub short : joined_len ts < 2 ^ 64
  pub fits : extents_fault k (joined_len ts) (map extent_of ts) ≡ None

-- each column of the arrays is so, of the kind of one of these
abbrev pub AreColumnsJoinable : List Tree → List Tree → Type 0
AreColumnsJoinable ps ts = (c : ℕ) (d : Tree) → c < length ps → AreJoinable (kind_of (slice_index_or ps c d)) (map (column_of c) ts)
