-- What the numbers of a format say, and the parts of a conversion.
-- Definitions only. Assumes nothing.
use Rattle.std.specs.Prelude.{ℕ, ◌+◌, ◌-◌, ◌/◌, ◌%◌, ◌^◌, ◌<◌, ◌≤◌, cond, ◌≡◌, ltb}
use Rattle.std.proofs.Math.Option.{Option}
use Rattle.wgsl.specs.Types.{Scalar}
use Rattle.wgsl.specs.Said.{Said, or_refuse, ◌>>=◌}
use Rattle.wgsl.specs.Rule.{scalar_of_kind}
use Rattle.wgsl.specs.Literal as literal
use Rattle.literals.specs.declared.float.Format.{Format}

-- the numbers of a format are its own
pub record IsFormat (f : Format) (g : literal.Format) : Type 0 where
  pub digits : f.digits ≡ g.digits
  pub unit : 2 ^ f.unit ≡ literal.unit_of g
  pub infinity : f.infinity ≡ literal.infinity g
  pub sign : f.sign ≡ literal.sign_of g

-- and small enough to be worked with
pub record Fits (f : Format) : Type 0 where
  pub some_digits : 0 < f.digits
  pub few_digits : f.digits ≤ 52
  pub unit : f.unit ≤ 1074
  pub room : f.infinity + f.sign ≤ 18446744073709551616

-- a pattern of an abstract float, without its sign, as a number and a power of two
unfoldable pub number_in : ℕ → ℕ
number_in m = cond (ltb m (2 ^ 52)) m (2 ^ 52 + m % 2 ^ 52)

unfoldable pub power_in : ℕ → ℕ
power_in m = cond (ltb m (2 ^ 52)) 0 (m / 2 ^ 52 - 1)

-- a conversion to a kind by its number
unfoldable pub to_kind : (Scalar → ℕ → Option ℕ) → ℕ → ℕ → Said ℕ
to_kind from bits to = do
  t ← or_refuse 25 0 (scalar_of_kind to)
  or_refuse 25 0 (from t bits)
