-- How long a member entry is, by the file's form (specs/File).
--
-- In order: its least; entries one after the other.
-- Assumes nothing.
use Prim.Native.Nat.{ℕ, suc, ◌+◌, ◌*◌, ◌<◌, ◌≤◌}
use mathlib.Core.Bool.{Bool, true, false, cond}
use native.Mathlib.Nat.{mul-suc, mul-le-mul_left}
use native.Mathlib.Omega.{arith}
use lib.Dec.{eqb}
use Rattle.wgsl.specs.File.{member_entry_length}

-- ---- its least

-- The fields that are read lie in it.
pub length_least : (form : ℕ) → 12 ≤ member_entry_length form
unfolding member_entry_length
length_least form = go (eqb form 2)
  where
    go : (b : Bool) → 12 ≤ cond b 16 12
    go true = omega arith
    go false = omega arith

-- ---- entries one after the other

-- Entry i of n ends where the last does, or before.
pub entry_within : (long : ℕ) {i n : ℕ} → i < n → long * i + long ≤ long * n
entry_within long {i} {n} h =
    let next : suc i ≤ n = omega arith in
    omega (arith, mul-suc long i, mul-le-mul_left long next)
