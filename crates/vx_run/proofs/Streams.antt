-- Outputs that grow, and inputs that are read block by block.
use Rattle.std.proofs.Common.{◌≡◌, ℕ, ◌+◌, ◌*◌, ◌<◌, ◌≤◌, List, [], ◌++◌, length, take, arith, length-append, length-take}
use Rattle.std.specs.Prelude.{Option, Result, Ok, Err, OnOk, min}
use Rattle.std.specs.Io.KnownBytes.{Appends, Consumes, Keeps}
use Rattle.std.proofs.KnownBytes.{Appends-nil, Appends-trans, Consumes-nil, Consumes-trans, Consumes-kept}
use Rattle.vx_run.specs.declared.counted_reader.TheConstants.{MOST_READS}
use Rattle.vx_run.specs.declared.script.TheConstants.{BLOCK_BYTES}
use Rattle.vx_run.specs.Script.{ConsumesAtMost}
use Rattle.vx_run.specs.Shown.{Grows}

-- ---- outputs

pub grows-same : (a : Option (List ℕ)) → Grows a a
grows-same a = ([], Appends-nil a)

pub grows-then : (a b c : Option (List ℕ)) → Grows a b → Grows b c → Grows a c
grows-then a b c first second = (first.0 ++ second.0, Appends-trans a b c first.0 second.0 first.1 second.1)

-- ---- inputs

pub consumes-none : (most : ℕ) (a : Option (List ℕ)) → ConsumesAtMost most a a
consumes-none most a = ([], Consumes-nil a, omega arith)

pub consumes-fewer : (most limit : ℕ) (a b : Option (List ℕ)) → ConsumesAtMost most a b → most ≤ limit → ConsumesAtMost limit a b
consumes-fewer most limit a b h few = (h.0, h.1, omega (arith, h.2, few))

-- so many blocks at most were read
pub blocks-within : (reads : ℕ) (a b : Option (List ℕ)) → ConsumesAtMost (reads * BLOCK_BYTES) a b → reads ≤ MOST_READS → ConsumesAtMost (MOST_READS * BLOCK_BYTES) a b
blocks-within reads a b h few = consumes-fewer (reads * BLOCK_BYTES) (MOST_READS * BLOCK_BYTES) a b h (omega (arith, few))

-- a read that fails
pub blocks-kept : (reads : ℕ) (a b c : Option (List ℕ)) → ConsumesAtMost (reads * BLOCK_BYTES) a b → reads ≤ MOST_READS → Keeps b c → ConsumesAtMost (MOST_READS * BLOCK_BYTES) a c
blocks-kept reads a b c h few kept = blocks-within reads a c (h.0, Consumes-kept a b c h.0 h.1 kept, h.2) few

-- a read of one block more
pub blocks-more : (reads more n : ℕ) (a b c : Option (List ℕ)) (block : List ℕ) → ConsumesAtMost (reads * BLOCK_BYTES) a b → Consumes b c (take n block)
    → length block ≤ BLOCK_BYTES → reads < MOST_READS → more ≡ min (reads + 1) MOST_READS → ConsumesAtMost (more * BLOCK_BYTES) a c
blocks-more reads more n a b c block h given short allowed counted =
    let next : more ≡ reads + 1 = omega (arith, counted, allowed) in
    (h.0 ++ take n block, Consumes-trans a b c h.0 (take n block) h.1 given, omega (arith, length-append h.0 (take n block), length-take n block, h.2, short, next))

pub on_ok : {A E P : Type 0} (r : Result A E) → P → OnOk r P
on_ok (Ok x) p = p
on_ok (Err e) p = tt
