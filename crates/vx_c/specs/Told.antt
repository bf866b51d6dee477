-- Tables in which offsets stand for numbers or for views: which nodes they tell of.
use Rattle.std.specs.Prelude.{◌≡◌, ◌<◌, ◌+◌, ◌-◌, ℕ, ℤ, false, List, [], ◌∷◌, length, nat_lt, if◌then◌else◌, Option, Some, None, slice_get, slice_index_or}
use Rattle.vx_base.specs.declared.ptypes.PType.{PType}
use Rattle.vx_base.specs.declared.ptypes.PType.TheVariants.{I32, I64}
use Rattle.vx_base.specs.Integers.{numbers}
use Rattle.vx_views.specs.BuildFaults.{differences}
use Rattle.vx_views.specs.Sound.{IsSoundView}
use Rattle.vx_views.specs.Views.{view_value}
use Rattle.vx_leaves.specs.Spread.{whole_fault}
use Rattle.vx_c.specs.declared.table.CodraskNode.{CodraskNode}
use Rattle.vx_c.specs.declared.table.NodeKind.{NodeKind}
use Rattle.vx_c.specs.declared.table.NodeKind.TheVariants.{Number, Utf8 as utf8_kind, Binary as binary_kind}
use Rattle.vx_c.specs.declared.table.OffsetKind.{OffsetKind}
use Rattle.vx_c.specs.declared.table.OffsetKind.TheVariants.{Utf8, Binary, Starts, Sizes}
use Rattle.vx_c.specs.NodeKinds.{kind_number}
use Rattle.vx_c.specs.Spans.{between, starts_of, AreSpans}
use Rattle.vx_c.specs.Tables.{buffers_in, views_in}

abbrev pub offset_kinds : List OffsetKind
offset_kinds = Utf8 I32 ∷ Utf8 I64 ∷ Binary I32 ∷ Binary I64 ∷ Starts I32 ∷ Starts I64 ∷ Sizes I32 ∷ Sizes I64 ∷ []

-- what offsets stand for by the number of a kind, from 15 on
abbrev pub offset_kind_numbered : ℕ → Option OffsetKind
offset_kind_numbered n = if nat_lt n 15 then None else slice_get offset_kinds (n - 15)

-- the bytes that offsets of values refer to
abbrev pub heap_in : CodraskNode → List ℕ
heap_in n = slice_index_or (buffers_in n) 0 []

-- a view that can be read, begins as it says, and has this value
abbrev pub IsViewOf : List (List ℕ) → List ℕ → List ℕ → Type 0
IsViewOf buffers view value = IsSoundView buffers false view × (view_value buffers view ≡ value)

-- a node has a view of each value between the offsets of another
pub record ShowsValues (kind : NodeKind) (t : PType) (lent told : CodraskNode) : Type 0 where
  pub kind_is : told.kind ≡ kind_number kind
  pub validity : told.validity ≡ lent.validity
  pub len : told.length ≡ lent.length
  pub views : length told.views.now ≡ lent.length
  pub each : (i : ℕ) → i < lent.length
      → IsViewOf (buffers_in told) (slice_index_or (views_in told) i []) (between (numbers t lent.bytes.now) (heap_in lent) i)

-- a node has these numbers, of whichever type, and none is null
pub record ShowsNumbers (zs : List ℤ) (lent told : CodraskNode) : Type 0 where
  pub type : PType
  pub kind_is : told.kind ≡ kind_number (Number type)
  pub validity : told.validity ≡ 0
  pub len : told.length ≡ lent.length
  pub whole : whole_fault type told.bytes.now ≡ None
  pub same : numbers type told.bytes.now ≡ zs

-- the node itself where it has no offsets, else one that they tell of
abbrev pub told_by : Option OffsetKind → CodraskNode → CodraskNode → Type 0
told_by None lent told = told ≡ lent
told_by (Some (Utf8 t)) lent told = ShowsValues utf8_kind t lent told
told_by (Some (Binary t)) lent told = ShowsValues binary_kind t lent told
told_by (Some (Starts t)) lent told = ShowsNumbers (starts_of (numbers t lent.bytes.now)) lent told
told_by (Some (Sizes t)) lent told = ShowsNumbers (differences (numbers t lent.bytes.now)) lent told

abbrev pub IsToldBy : CodraskNode → CodraskNode → Type 0
IsToldBy lent told = told_by (offset_kind_numbered lent.kind) lent told

-- node for node
abbrev pub AreToldBy : List CodraskNode → List CodraskNode → Type 0
AreToldBy [] [] = Unit {0}
AreToldBy (l ∷ ls) (t ∷ ts) = IsToldBy l t × AreToldBy ls ts
AreToldBy _ _ = ⊥

-- ---- the order of offsets

-- one offset more than there are rows; what lies between them lies in order, within the bytes that they refer to
abbrev pub AreValueOffsets : PType → CodraskNode → Type 0
AreValueOffsets t n = (length (numbers t n.bytes.now) ≡ n.length + 1) × AreSpans (numbers t n.bytes.now) (length (heap_in n))

abbrev pub has_order : Option OffsetKind → CodraskNode → Type 0
has_order (Some (Utf8 t)) n = AreValueOffsets t n
has_order (Some (Binary t)) n = AreValueOffsets t n
has_order _ n = Unit {0}

-- the offsets of values, where a node has such
abbrev pub HasOrder : CodraskNode → Type 0
HasOrder n = has_order (offset_kind_numbered n.kind) n

-- of each node
abbrev pub HaveOrder : List CodraskNode → Type 0
HaveOrder [] = Unit {0}
HaveOrder (n ∷ ns) = HasOrder n × HaveOrder ns
