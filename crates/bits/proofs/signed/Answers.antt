-- A word from 2 ^ 31 on stands for -1 less its bits turned round (`Signs`).
use Prim.Native.Nat.{◌-◌}
use native.Mathlib.Omega.{arith}
use borrow.Author.Tests.{lt-ltb, le-ltb}
use mir.Syntax.{w32}
use mir.Val.{SFits}
use mir.Facts.{to_z-of_z}
use lib.IntN.{negsuc}
use Rattle.wgsl.specs.BitField.{signed_of}
use Rattle.bits.proofs.PatternOf.{flipped}
use Rattle.bits.proofs.signed.Goals as goal

turned : (c : goal.Else-p-lt2147483648) → SFits w32 (negsuc (4294967295 - c.args.p))
turned c = record { sfits = omega arith }

pub returns-then-p-lt2147483648 : goal.returns-then-p-lt2147483648
unfolding signed_of
returns-then-p-lt2147483648 c = rw (lt-ltb c.args.p 2147483648 c.if-p-lt2147483648.true)

pub returns : goal.returns
unfolding signed_of
returns c =
    rw (flipped _ (turned c).sfits, to_z-of_z (turned c), le-ltb c.args.p 2147483648 c.if-p-lt2147483648.false)
