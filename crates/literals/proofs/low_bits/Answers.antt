-- By the bits that a kind has (`Parts`).
use mathlib.Core.Path.{refl, sym}
use native.Mathlib.Omega.{arith}
use native.Mathlib.Nat.{mod-eq_of_lt}
use Rattle.literals.proofs.Parts.{bits_1, bits_16, bits_32, bits_64}
use Rattle.literals.proofs.low_bits.Goals as goal

pub returns-then-kind-eq-BOOL : goal.returns-then-kind-eq-BOOL
returns-then-kind-eq-BOOL c s is = rw (bits_1 s (omega (arith, is))) refl

pub returns-then-kind-le-F32 : goal.returns-then-kind-le-F32
returns-then-kind-le-F32 c s is = rw (bits_32 s (omega (arith, is)) (omega (arith, is))) refl

pub returns-then-kind-eq-F16 : goal.returns-then-kind-eq-F16
returns-then-kind-eq-F16 c s is = rw (bits_16 s (omega (arith, is))) refl

pub returns : goal.returns
returns c s is = rw (bits_64 s (omega (arith, is))) (sym (mod-eq_of_lt (omega arith)))
