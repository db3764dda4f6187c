-- What the laws of conversions say (02, E14; specs/Literal).
--
-- In order: the nearest; a float that a literal is converted to; the literal of a pattern, and the format of a kind; an i32 as an i64.
-- Definitions only. Assumes nothing.
use Rattle.std.specs.Prelude.{ℕ, ◌+◌, ◌-◌, ◌*◌, ◌%◌, ◌^◌, ◌<◌, ◌≤◌, cond, ◌⊎◌, ◌≡◌, leb, ltb}
use Rattle.std.proofs.Math.Option.{Option, none, some}
use Rattle.wgsl.specs.Types.{Scalar, bool, i32, u32, f32, f16, abstract_int, abstract_float, i64, u64, f64}
use Rattle.wgsl.specs.Literal.{Format, half, single, double, sign_of, infinity, worth, Literal, whole_of, literal_of, float_of, unit_of}

-- ---- the nearest

unfoldable pub distance : ℕ → ℕ → ℕ
distance a b = (a - b) + (b - a)

-- "to nearest, ties to even": the pattern m, whose number is in units of u, is as near to n as any; and of two that are, it is the even one
pub record IsNearest (d u n m : ℕ) : Type 0 where
  pub nearest : (k : ℕ) → distance n (u * worth d m) ≤ distance n (u * worth d k)
  pub even : (k : ℕ) → distance n (u * worth d k) ≡ distance n (u * worth d m) → (k ≡ m) ⊎ (m % 2 ≡ 0)

-- ---- a float that a literal is converted to

pub record IsFloat (f : Format) (l : Literal) (p : ℕ) : Type 0 where
  -- its pattern without the sign
  pub pattern : ℕ
  pub nearest : IsNearest f.digits (unit_of f) l.worth pattern
  pub finite : pattern < infinity f
  -- the sign, of zero too
  pub low : p % sign_of f ≡ pattern
  pub sign : leb (sign_of f) p ≡ l.negative
  pub fits : p < sign_of f + sign_of f

-- ---- the literal of a pattern, and the format of a kind

-- an abstract int is a whole number, and an abstract float one of 2^-1074, if it is finite
unfoldable pub literal_in : Scalar → ℕ → Option Literal
literal_in bool b = none
literal_in i32 b = none
literal_in u32 b = none
literal_in f32 b = none
literal_in f16 b = none
literal_in abstract_int b = some (literal_of (whole_of b))
literal_in abstract_float b = float_of b
literal_in i64 b = none
literal_in u64 b = none
literal_in f64 b = none

unfoldable pub format_of : Scalar → Option Format
format_of bool = none
format_of i32 = none
format_of u32 = none
format_of f32 = some single
format_of f16 = some half
format_of abstract_int = none
format_of abstract_float = some double
format_of i64 = none
format_of u64 = none
format_of f64 = none

-- ---- an i32 as an i64: the same number, its sign bit repeated

unfoldable pub widened : ℕ → ℕ
widened p = cond (ltb p (2 ^ 31)) p (p + (2 ^ 64 - 2 ^ 32))
