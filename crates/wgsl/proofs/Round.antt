-- Laws of rounding up (specs/Round).
--
-- In order: the largest multiple of a that is at most x (`floor`); `up_multiple`, `up_not_below`, `up_least`; together `up_is_up`; no
-- other number is (`up_unique`).
-- Assumes nothing.
use Prim.Native.Nat.{ℕ, suc, ◌+◌, ◌*◌, ◌/◌, ◌%◌, ◌<◌, ◌≤◌}
use mathlib.Core.Path.{◌≡◌}
use native.Mathlib.Omega.{arith}
use native.Mathlib.Nat.{mul-mod_left, lt-div-mul-add, div-lt_iff_lt-mul, mul-le-mul_right, suc-mul, div-add-mod'}
use Rattle.wgsl.specs.Round.{IsUp, up}

floor_above : (x a n : ℕ) → 0 < a → n + a ≤ suc x → n ≤ x / a * a
floor_above x a n pos h = omega (arith, lt-div-mul-add {a = x} pos)

floor_least : (x a m : ℕ) → 0 < a → m % a ≡ 0 → x < m + a → x / a * a ≤ m
floor_least x a m pos z h =
    let e : m / a * a ≡ m = omega (arith, div-add-mod' m a) in
    let s : x < suc (m / a) * a = rw suc-mul (omega arith) in
    let d : x / a < suc (m / a) = (div-lt_iff_lt-mul pos).1 s in
    let l : x / a ≤ m / a = omega arith in
    rw e at (mul-le-mul_right a l)

-- Rounding up gives a multiple.
pub up_multiple : (a n : ℕ) → up a n % a ≡ 0
unfolding up
up_multiple a n = mul-mod_left _ a

-- Rounding up never goes down.
pub up_not_below : (a n : ℕ) → 0 < a → n ≤ up a n
unfolding up
up_not_below a n pos = floor_above _ a n pos (omega arith)

-- No smaller multiple is at least n.
pub up_least : (a n m : ℕ) → 0 < a → m % a ≡ 0 → n ≤ m → up a n ≤ m
unfolding up
up_least a n m pos z h = floor_least _ a m pos z (omega arith)

-- So `up` is the number that 01 names.
pub up_is_up : (a n : ℕ) → 0 < a → IsUp a n (up a n)
up_is_up a n pos =
    record { multiple = up_multiple a n; not_below = up_not_below a n pos; least = λ m z h. up_least a n m pos z h }

-- And nothing else is.
pub up_unique : {a n r s : ℕ} → IsUp a n r → IsUp a n s → r ≡ s
up_unique {a} {n} {r} {s} p q =
    omega (arith, p.least s q.multiple q.not_below, q.least r p.multiple p.not_below)
