-- Booleans as bytes: as many as they need, and no other bit is set.
use Rattle.std.specs.Prelude.{◌+◌, ◌*◌, ◌/◌, ℕ, Bool, List, length, map, take, drop}
use Rattle.std.specs.List.{range_with_len}
use Rattle.vx_base.specs.Bits.{byte_of}

-- booleans, eight to a byte, the first of them its least significant bit
abbrev pub bits_bytes : List Bool → List ℕ
bits_bytes bits = map (λ j. byte_of (take 8 (drop (8 * j) bits))) (range_with_len 0 ((length bits + 7) / 8))
