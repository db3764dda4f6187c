-- A shift, and the lowest bit of what is left.
use Prim.Native.Nat.{◌/◌, ◌%◌, ◌^◌}
use lib.Bits.{and_mask}
use lib.ListN.{get_or}
use Rattle.wgsl.specs.BitField.{bit_at}
use Rattle.layout_strays.specs.Strays.{mark_at}
use Rattle.layout_strays.proofs.marks.is_marked.Goals as goal

pub returns : goal.returns
unfolding mark_at bit_at
returns c = let a = c.args in rw (and_mask (get_or a.named.now (a.m / 64) 0 / 2 ^ (a.m % 64)) 1)
