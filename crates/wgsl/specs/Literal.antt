-- Literals converted (02, E14; IEEE 754's binary16, binary32 and binary64).
--
-- In order: formats of floats; the whole number that a pattern stands for; the nearest; literals as whole numbers of 2^-1074; conversions;
-- the call.
-- Not here: what the laws say (`LiteralClaim`).
-- Definitions only. Assumes nothing.
use Rattle.std.specs.Prelude.{ℕ, suc, ◌+◌, ◌-◌, ◌*◌, ◌/◌, ◌%◌, ◌^◌, Bool, true, false, cond, not, ◌&&◌, eqb, leb, ltb}
use Rattle.std.proofs.Math.Option.{Option, none, some}
use Rattle.std.specs.Float.Ieee.{size}
use Rattle.wgsl.specs.Types.{Scalar, bool, i32, u32, f32, f16, abstract_int, abstract_float, i64, u64, f64, scalar_kind}
use Rattle.wgsl.specs.Said.{Said, ◌>>=◌, or_refuse}
use Rattle.wgsl.specs.Rule.{when, and_then, scalar_of_kind}

-- ---- formats of floats

-- so many bits, of which the lowest `digits` are the fraction and the highest is the sign
pub record Format : Type 0 where
  pub bits : ℕ
  pub digits : ℕ

abbrev pub half : Format
half = record { bits = 16; digits = 10 }

abbrev pub single : Format
single = record { bits = 32; digits = 23 }

abbrev pub double : Format
double = record { bits = 64; digits = 52 }

-- what the sign bit adds to a pattern
unfoldable pub sign_of : Format → ℕ
sign_of f = 2 ^ (f.bits - 1)

-- infinity: every bit of the exponent set; patterns without a sign from there on are no finite numbers
unfoldable pub infinity : Format → ℕ
infinity f = sign_of f - 2 ^ f.digits

-- the least positive number is 2 ^ -lowest: 24, 149 and 1074
unfoldable pub lowest : Format → ℕ
lowest f = 2 ^ (f.bits - f.digits - 2) + f.digits - 2

-- ---- the whole number that a pattern without its sign stands for, in units of the least, where the lowest d bits are the fraction

-- an exponent of 0: the fraction alone; else a 1 before the fraction, and a power of two for each exponent after the first. Infinity's
-- pattern stands for the power of two that comes next, as if there were no end of exponents.
unfoldable pub worth : ℕ → ℕ → ℕ
worth d m = cond (ltb m (2 ^ d)) m ((2 ^ d + m % 2 ^ d) * 2 ^ (m / 2 ^ d - 1))

-- ---- the nearest: "rounded to nearest, ties to even, defined over whole numbers"

-- q, or the next, by what is left of a divisor: less than half of it, more, or half, and then the even one
unfoldable pub stepped : ℕ → ℕ → ℕ → ℕ
stepped q rest by = cond (ltb (2 * rest) by) q (cond (ltb by (2 * rest)) (suc q) (q + q % 2))

-- k binary digits are dropped of n, a number of units of u, and d + 1 are kept
unfoldable pub rounded_by : ℕ → ℕ → ℕ → ℕ → ℕ
rounded_by d u n k = k * 2 ^ d + stepped (n / (u * 2 ^ k)) (n % (u * 2 ^ k)) (u * 2 ^ k)

-- "one statement over the width of the target": the pattern of n
unfoldable pub rounded : ℕ → ℕ → ℕ → ℕ
rounded d u n = rounded_by d u n (size (n / u) - suc d)

-- ---- literals: each is a whole number of 2^-1074, and has a sign

pub record Literal : Type 0 where
  pub negative : Bool
  pub worth : ℕ

-- "abstract int (i64)": two's complement
pub record Whole : Type 0 where
  pub negative : Bool
  pub number : ℕ

unfoldable pub whole_of : ℕ → Whole
whole_of b = cond (ltb b (2 ^ 63)) (record { negative = false; number = b }) (record { negative = true; number = 2 ^ 64 - b })

unfoldable pub literal_of : Whole → Literal
literal_of n = record { negative = n.negative; worth = n.number * 2 ^ 1074 }

-- "abstract float (f64)": "NaN and infinite abstract floats .. are refused"
unfoldable pub float_of : ℕ → Option Literal
float_of b =
    when (ltb (b % 2 ^ 63) (infinity double)) (some (record { negative = leb (2 ^ 63) b; worth = worth 52 (b % 2 ^ 63) }))

-- ---- conversions, of a pattern

-- a unit of the target, in units of 2^-1074
unfoldable pub unit_of : Format → ℕ
unit_of f = 2 ^ (1074 - lowest f)

-- "as is a result that would be infinite"; "Negative zero stays so."
unfoldable pub in_format : Format → Literal → Option ℕ
in_format f l =
    let m : ℕ = rounded f.digits (unit_of f) l.worth in
    when (ltb m (infinity f)) (some (cond l.negative (sign_of f + m) m))

-- "Integers out of range are refused."
unfoldable pub in_i32 : Whole → Option ℕ
in_i32 n =
    cond n.negative (when (leb n.number (2 ^ 31)) (some (2 ^ 32 - n.number))) (when (ltb n.number (2 ^ 31)) (some n.number))

unfoldable pub in_u32 : Whole → Option ℕ
in_u32 n = when (not n.negative && ltb n.number (2 ^ 32)) (some n.number)

-- "abstract int (i64) to abstract float (f64), i32, u32, f32, f16"
unfoldable pub from_int : Scalar → ℕ → Option ℕ
from_int bool b = none
from_int i32 b = in_i32 (whole_of b)
from_int u32 b = in_u32 (whole_of b)
from_int f32 b = in_format single (literal_of (whole_of b))
from_int f16 b = in_format half (literal_of (whole_of b))
from_int abstract_int b = some b
from_int abstract_float b = in_format double (literal_of (whole_of b))
from_int i64 b = none
from_int u64 b = none
from_int f64 b = none

-- "abstract float to f32, f16"
unfoldable pub from_float : Scalar → ℕ → Option ℕ
from_float bool b = none
from_float i32 b = none
from_float u32 b = none
from_float f32 b = and_then (float_of b) (in_format single)
from_float f16 b = and_then (float_of b) (in_format half)
from_float abstract_int b = none
from_float abstract_float b = some b
from_float i64 b = none
from_float u64 b = none
from_float f64 b = none

-- "the same type unchanged"
unfoldable pub if_same : Scalar → Scalar → ℕ → Option ℕ
if_same s t b = when (eqb (scalar_kind s) (scalar_kind t)) (some b)

unfoldable pub converted : Scalar → Scalar → ℕ → Option ℕ
converted bool t b = if_same bool t b
converted i32 t b = if_same i32 t b
converted u32 t b = if_same u32 t b
converted f32 t b = if_same f32 t b
converted f16 t b = if_same f16 t b
converted abstract_int t b = from_int t b
converted abstract_float t b = from_float t b
converted i64 t b = if_same i64 t b
converted u64 t b = if_same u64 t b
converted f64 t b = if_same f64 t b

-- ---- the call

-- the bits of a literal's pattern
unfoldable pub pattern_bits : Scalar → ℕ
pattern_bits bool = 1
pattern_bits i32 = 32
pattern_bits u32 = 32
pattern_bits f32 = 32
pattern_bits f16 = 16
pattern_bits abstract_int = 64
pattern_bits abstract_float = 64
pattern_bits i64 = 64
pattern_bits u64 = 64
pattern_bits f64 = 64

-- "25, no such conversion or no finite result": from one kind to another, a pattern in the lowest bits
unfoldable pub convert_call : ℕ → ℕ → ℕ → Said ℕ
convert_call from bits to = do
  s ← or_refuse 25 0 (scalar_of_kind from)
  t ← or_refuse 25 0 (scalar_of_kind to)
  or_refuse 25 0 (converted s t (bits % 2 ^ pattern_bits s))
