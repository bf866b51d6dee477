use Rattle.std.proofs.Common.{ℕ, List, [], replicate, sym, ◌∙◌, ap}
use Rattle.vx_base.specs.Bits.{unpacked, bit_of}
use Rattle.vx_base.proofs.MaskRuns.{bits_of_marked, marked-none, or_false}
use Rattle.vx_base.proofs.bit_buffer_mut.BitBufferMut.new_unset.Goals as goal

pub returns : goal.returns
returns c =
    let n = c.div_ceil.result in
    let len = c.args.len in
    ap (λ (bs : List ℕ). unpacked bs 0 len) (c.in_ok-bytes.ensures.items_if_clones_equal (λ y h. h))
    ∙ bits_of_marked (replicate n 0) n len [] (λ k. sym (or_false (bit_of (replicate n 0) k))) ∙ marked-none len
