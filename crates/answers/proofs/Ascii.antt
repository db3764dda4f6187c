-- The front of an ASCII text is a text; zeros are ASCII.
use Prim.Native.Nat.{ℕ, suc, zero}
use mathlib.Core.List.{List}
use native.Mathlib.Omega.{arith}
use Rattle.std.specs.Prelude.{IsAscii, IsUtf8, replicate, take}
use Rattle.std.proofs.lemmas.Str.{IsAscii-take, IsUtf8-from_ascii}

pub front_utf8 : (bs : List ℕ) (n : ℕ) → IsAscii bs → IsUtf8 (take n bs)
front_utf8 bs n a = IsUtf8-from_ascii (take n bs) (IsAscii-take bs n a)

pub zeros_ascii : (n : ℕ) → IsAscii (replicate n 0)
zeros_ascii zero i = omega arith
zeros_ascii (suc n) zero = omega arith
zeros_ascii (suc n) (suc i) = zeros_ascii n i
