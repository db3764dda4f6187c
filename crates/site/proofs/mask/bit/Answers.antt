-- A shift, and the lowest bit of what is left.
use lib.Bits.{and_mask}
use Prim.Native.Nat.{◌/◌, ◌^◌}
use Rattle.wgsl.specs.BitField.{bit_at}
use Rattle.site.proofs.mask.bit.Goals as goal

pub returns : goal.returns
unfolding bit_at
returns c = rw (and_mask (c.args.mask / 2 ^ c.args.k) 1)
