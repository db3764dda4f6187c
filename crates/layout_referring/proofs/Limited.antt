-- What `limited` says of a number (crates/numbers, specs/Limit), read from its answer.
-- Assumes nothing.
use Rattle.std.specs.Prelude.{None, Some}
use Prim.Native.Nat.{ℕ, ◌<◌, ◌≤◌}
use mathlib.Core.Path.{◌≡◌, sym, ◌∙◌}
use mathlib.Core.Logic.{◌⊎◌, inl, inr, ⊎_elim}
use native.Mathlib.Omega.{arith}
use native.Mathlib.Nat.{lt_of_not-le}
use native.Mathlib.Decide.{dec_le}
use Rattle.numbers.specs.Limit.{limited}
use Rattle.numbers.proofs.Limited.{limited_within, limited_past}

within_or_past : (n : ℕ) → (n ≤ 4294967295) ⊎ (4294967295 < n)
within_or_past n = elim (dec_le n 4294967295) [ yes m ↦ inl m | no m ↦ inr (lt_of_not-le m) ]

-- A number that `limited` names is that number, and within the limit.
pub limited_is : (n m : ℕ) → limited n ≡ Some m → (n ≡ m) × (n ≤ 4294967295)
limited_is n m e =
    ⊎_elim (λ (h : n ≤ 4294967295). (let q : Some n ≡ Some m = sym (limited_within n h) ∙ e in cc, h))
    (λ (h : 4294967295 < n).
    let q : None ≡ Some m = sym (limited_past n h) ∙ e in
    let z : ◌≡◌ {A = ℕ} 0 1 = cc in absurd (omega arith))
    (within_or_past n)

-- A number that `limited` refuses is past the limit.
pub limited_large : (n : ℕ) → limited n ≡ None → 4294967295 < n
limited_large n e =
    ⊎_elim (λ (h : n ≤ 4294967295).
    let q : Some n ≡ None = sym (limited_within n h) ∙ e in
    let z : ◌≡◌ {A = ℕ} 0 1 = cc in absurd (omega arith))
    (λ (h : 4294967295 < n). h) (within_or_past n)
