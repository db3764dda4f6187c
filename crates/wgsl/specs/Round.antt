-- Rounding up, powers of two, and the limit (01, "Sizes and places"; WGSL, "Alignment and size").
--
-- In order: what rounding up means, and the number that has it; powers of two; the limit on every number.
-- Definitions only. Assumes nothing.
use Rattle.std.specs.Prelude.{ℕ, zero, suc, ◌+◌, ◌-◌, ◌*◌, ◌/◌, ◌%◌, ◌^◌, ◌≤◌, ◌≡◌, Bool, false, ◌||◌, eqb, leb}

-- "the least multiple of a not below n": r is that number
pub record IsUp (a n r : ℕ) : Type 0 where
  pub multiple : r % a ≡ 0
  pub not_below : n ≤ r
  pub least : (m : ℕ) → m % a ≡ 0 → n ≤ m → r ≤ m

-- "up(a, n)", for a above 0. That it is the number of `IsUp`, and that no other is, are laws.
unfoldable pub up : ℕ → ℕ → ℕ
up a n = (n + (a - 1)) / a * a

-- "a power of two"
pub record IsPower (a : ℕ) : Type 0 where
  pub exponent : ℕ
  pub is : a ≡ 2 ^ exponent

-- a is 2 ^ j for some j below k
unfoldable pub power_below : ℕ → ℕ → Bool
power_below zero a = false
power_below (suc j) a = eqb a (2 ^ j) || power_below j a

-- The test for a power of two of a number of 32 bits, as every field of a file is.
unfoldable pub is_power : ℕ → Bool
is_power a = power_below 32 a

-- "Every one of these numbers, offset and stride included, is at most 4,294,967,295"
abbrev pub limit : ℕ
limit = 4_294_967_295

unfoldable pub within_limit : ℕ → Bool
within_limit n = leb n limit
