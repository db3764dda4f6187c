-- The top bit is repeated by a sum and a difference (`Words`).
use Rattle.wgsl.proofs.FieldAt.{repeated_word}
use Rattle.bits.proofs.FieldAt.{repeated_sum}
use mathlib.Core.Path.{refl}
use Rattle.bits.proofs.repeated.Goals as goal

pub returns : goal.returns
returns c =
    rw (repeated_sum c.args.c c.args.v c.requires.0 c.requires.1).is
    (refl, repeated_word c.args.c c.args.v c.requires.0 c.requires.1)
